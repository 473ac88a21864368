-- What the one test of a range says.
use Rattle.std.proofs.Common.{◌≡◌, ◌<◌, ◌≤◌, ◌+◌, ◌-◌, ◌*◌, ◌/◌, ℕ, sym, subst, arith}
use Rattle.std.proofs.Math.Nat.{div-lt_iff_lt-mul}
use Rattle.std.proofs.lemmas.Bool.Decides.{nat_tests}
use Rattle.dg_model.specs.Limits.{most_cycles}
use Rattle.hw_explore.specs.declared.range.Range.{Range}
use Rattle.hw_explore.specs.Range.{IsRange, choices_of, most_pairs, pairs_of}

pub few_pairs : (range : Range) → IsRange range → pairs_of range ≤ most_pairs
few_pairs range is = grind (arith, nat_tests)

ordered_cycles : (range : Range) → IsRange range → range.low_cycles ≤ range.high_cycles
ordered_cycles range is = grind (arith, nat_tests)

high_cycles_few : (range : Range) → IsRange range → range.high_cycles ≤ most_cycles
high_cycles_few range is = grind (arith, nat_tests)

-- the clocks of each number are few
pub few_cycles : (range : Range) (place choices : ℕ) → IsRange range → choices ≡ choices_of range → 0 < choices → place < pairs_of range → range.low_cycles + place / choices ≤ most_cycles
few_cycles range place choices is same some below =
    let within : place < (range.high_cycles - range.low_cycles + 1) * choices = subst (λ (n : ℕ). place < (range.high_cycles - range.low_cycles + 1) * n) (sym same) below in
    let quotient : place / choices < range.high_cycles - range.low_cycles + 1 = (div-lt_iff_lt-mul some).1 within in
    let ordered = ordered_cycles range is in
    let few = high_cycles_few range is in
    omega (arith, quotient, ordered, few)
