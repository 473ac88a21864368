use Rattle.std.proofs.Common.{◌≡◌, ◌-ℤ◌, ◌≤ℤ◌, nat_abs, to_z, of_z, arith}
use Rattle.std.specs.Int.{w16}
use Rattle.std.proofs.lemmas.Int.{ints}
use Rattle.fx_type.specs.declared.kind.FxType.{FxType}
use Rattle.fx_type.specs.declared.kind.FxType.TheVariants.{Num}
use Rattle.fx_type.specs.FxType.{frac_of}
use Rattle.fx_type.specs.Conversion.{Converts}
use Rattle.math_num.proofs.Integers.{gap_is, gap_none}
use Rattle.hw_lower.proofs.StepChains.{made-map}
use Rattle.hw_lower.proofs.Conversions.{converts-up, converts-down}
use Rattle.hw_lower.proofs.settling.convert.Goals as goal

pub returns-then-behind-frac : goal.returns-then-behind-frac
returns-then-behind-frac c =
    let to_type = rw c.in-Num.is at c.requires.to in
    let x = to_z w16 (of_z w16 (to_z w16 (of_z w16 c.in-Num.behind) -ℤ to_z w16 (of_z w16 c.args.frac))) in
    let difference : x ≡ c.in-Num.behind -ℤ c.args.frac = omega (arith, ints, to_type.1, to_type.2, c.requires.low, c.requires.high) in
    let order : c.args.frac ≤ℤ c.in-Num.behind = omega (arith, ints, to_type.1, to_type.2, c.requires.low, c.requires.high, c.if-behind-frac.true) in
    rw c.in-Num.is
    (made-map (λ numbers. (kind : FxType) → frac_of kind ≡ c.args.frac
    → Converts (numbers c.args.from.place) kind
    (Num c.in-Num.signed c.in-Num.width c.in-Num.behind) c.args.mode c.args.saturate
    (numbers c.settle.result.place)) c.settle.ensures
    (λ numbers has p kind e. converts-up (numbers c.args.from.place) kind c.in-Num.signed c.in-Num.width c.in-Num.behind c.args.mode c.args.saturate (numbers c.settle.result.place) (nat_abs x)
    (rw e (gap_is c.args.frac c.in-Num.behind x order difference)) (rw e (gap_none c.in-Num.behind c.args.frac order)) (p c.in-Num.behind)))

pub returns : goal.returns
returns c =
    let to_type = rw c.in-Num.is at c.requires.to in
    let x = to_z w16 (of_z w16 (to_z w16 (of_z w16 c.args.frac) -ℤ to_z w16 (of_z w16 c.in-Num.behind))) in
    let difference : x ≡ c.args.frac -ℤ c.in-Num.behind = omega (arith, ints, to_type.1, to_type.2, c.requires.low, c.requires.high) in
    let order : c.in-Num.behind ≤ℤ c.args.frac = omega (arith, ints, to_type.1, to_type.2, c.requires.low, c.requires.high, c.if-behind-frac.false) in
    rw c.in-Num.is
    (made-map (λ numbers. (kind : FxType) → frac_of kind ≡ c.args.frac
    → Converts (numbers c.args.from.place) kind
    (Num c.in-Num.signed c.in-Num.width c.in-Num.behind) c.args.mode c.args.saturate
    (numbers c.settle_quotient.result.place)) c.settle_quotient.ensures
    (λ numbers has p kind e. converts-down
    (numbers c.args.from.place) kind c.in-Num.signed c.in-Num.width c.in-Num.behind c.args.mode c.args.saturate
    (numbers c.settle_quotient.result.place) (nat_abs x)
    (rw e (gap_is c.in-Num.behind c.args.frac x order difference)) (rw e (gap_none c.args.frac c.in-Num.behind order)) (p c.in-Num.behind)))

pub settle-requires-clause-at : goal.settle-requires-clause-at
settle-requires-clause-at c = c.requires.at

pub settle-requires-clause-word : goal.settle-requires-clause-word
settle-requires-clause-word c = (rw c.in-Num.is at c.requires.to).0

pub settle_quotient-requires-clause-at : goal.settle_quotient-requires-clause-at
settle_quotient-requires-clause-at c = c.requires.at

pub settle_quotient-requires-clause-word : goal.settle_quotient-requires-clause-word
settle_quotient-requires-clause-word c = (rw c.in-Num.is at c.requires.to).0

pub overflow_sub-behind : goal.overflow_sub-behind
overflow_sub-behind c =
    let to_type = rw c.in-Num.is at c.requires.to in
    omega (arith, ints, to_type.1, to_type.2, c.requires.low, c.requires.high)

pub overflow_sub-frac : goal.overflow_sub-frac
overflow_sub-frac c =
    let to_type = rw c.in-Num.is at c.requires.to in
    omega (arith, ints, to_type.1, to_type.2, c.requires.low, c.requires.high)

pub overflow_cast-behind : goal.overflow_cast-behind
overflow_cast-behind c =
    let to_type = rw c.in-Num.is at c.requires.to in
    omega (arith, ints, to_type.1, to_type.2, c.requires.low, c.requires.high, c.if-behind-frac.true)

pub overflow_cast-frac : goal.overflow_cast-frac
overflow_cast-frac c =
    let to_type = rw c.in-Num.is at c.requires.to in
    omega (arith, ints, to_type.1, to_type.2, c.requires.low, c.requires.high, c.if-behind-frac.false)
