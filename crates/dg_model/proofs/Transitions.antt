-- Rate transitions: 1, 2, 3, 4 at period 1 gives 1, -, 3, - at period 2, and that gives 9, 9, 1, 1 at period 1 with the initial value 9.
use Rattle.std.proofs.Common.{ℕ, ◌<◌, List, [], ◌∷◌, Some, ℤ, pos, refl, arith}
use Rattle.std.proofs.Math.Dec.{lit<}
use Rattle.fx_type.specs.declared.decimal.Decimal.{Decimal}
use Rattle.dg_model.specs.declared.kind.Kind.{Kind}
use Rattle.dg_model.specs.declared.kind.Kind.TheVariants.{RateTransition}
use Rattle.dg_model.specs.Solves.{Solves}
use Rattle.dg_model.proofs.Chain.{chain, chain_attributes, chain_stimulus, chain_table, IsGiven, IsKept, always_hits, chain_solves}
use Rattle.dg_model.proofs.Examples.{decimal_of, stores_small}
use Rattle.math_list.proofs.ByRecursion.{below_of}

-- to a period, with an initial value
abbrev to : Decimal → Decimal → Kind
to period initial = RateTransition period (initial ∷ [])

abbrev to_slow : Kind
to_slow = to (decimal_of 2 (lit< tt)) (decimal_of 0 (lit< tt))

abbrev to_fast : Kind
to_fast = to (decimal_of 1 (lit< tt)) (decimal_of 9 (lit< tt))

abbrev fast : List ℤ
fast = pos 1 ∷ pos 2 ∷ pos 3 ∷ pos 4 ∷ []

abbrev slow : List ℤ
slow = pos 1 ∷ pos 1 ∷ pos 3 ∷ pos 3 ∷ []

abbrev late : List ℤ
late = pos 9 ∷ pos 9 ∷ pos 1 ∷ pos 1 ∷ []

slow_is_kept : (t : ℕ) → t < 4 → IsKept (Some 2) slow t
slow_is_kept = below_of (IsKept (Some 2) slow) 4 (λ miss. refl, (λ miss. refl, (λ miss. refl, (λ miss. refl, tt))))

-- the tables solve
pub fast_to_slow : Solves (chain to_slow) (chain_attributes (Some 1) (Some 2)) (chain_stimulus fast) 4 (chain_table fast slow)
fast_to_slow = chain_solves to_slow (Some 1) (Some 2) fast slow 4
    (λ port element. below_of (IsGiven to_slow (Some 1) (Some 2) fast slow port element) 4
    (λ hit. refl, (λ hit. absurd (omega (arith, hit)), (λ hit. refl, (λ hit. absurd (omega (arith, hit)), tt)))))
    (λ t below. always_hits fast t)
    slow_is_kept

pub slow_to_fast : Solves (chain to_fast) (chain_attributes (Some 2) (Some 1)) (chain_stimulus slow) 4 (chain_table slow late)
slow_to_fast = chain_solves to_fast (Some 2) (Some 1) slow late 4
    (λ port element. below_of (IsGiven to_fast (Some 2) (Some 1) slow late port element) 4
    (λ hit. stores_small 9 (lit< tt) (lit< tt), (λ hit. stores_small 9 (lit< tt) (lit< tt), (λ hit. refl, (λ hit. refl, tt)))))
    slow_is_kept
    (λ t below. always_hits late t)
