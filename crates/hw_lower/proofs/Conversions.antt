-- What the steps of a conversion give together.
use Rattle.std.proofs.Common.{◌≡◌, ℕ, ◌^◌, Bool, ℤ, pos, ◌*ℤ◌, sym, subst, arith}
use Rattle.std.specs.Int.{int_gap}
use Rattle.std.proofs.lemmas.Int.{ints}
use Rattle.fx_type.specs.declared.kind.FxType.{FxType}
use Rattle.fx_type.specs.declared.kind.FxType.TheVariants.{Num}
use Rattle.fx_type.specs.declared.rounding.Rounding.{Rounding}
use Rattle.fx_type.specs.FxType.{frac_of}
use Rattle.fx_type.specs.Conversion.{Rounds, Settles, StoresQuotient, Converts}
use Rattle.hw_lower.proofs.Modes.{rounds-whole}

times-one : (z : ℤ) → z *ℤ pos 1 ≡ z
times-one z = omega (arith, ints)

module _ (v : ℤ) (from : FxType) (s : Bool) (w : ℕ) (f : ℤ) (mode : Rounding) (saturate : Bool) (r : ℤ) (by : ℕ) where
  pub converts-up : by ≡ int_gap (frac_of from) f → int_gap f (frac_of from) ≡ 0 → Settles (Num s w f) saturate (v *ℤ pos (2 ^ by)) r → Converts v from (Num s w f) mode saturate r
  converts-up up none settled =
      subst (λ (a : ℕ). StoresQuotient (v *ℤ pos (2 ^ a)) (2 ^ int_gap f (frac_of from)) (Num s w f) mode saturate r) up
      (subst (λ (b : ℕ). StoresQuotient (v *ℤ pos (2 ^ by)) (2 ^ b) (Num s w f) mode saturate r) (sym none)
      (record { rounded = v *ℤ pos (2 ^ by); rounds = rounds-whole mode (v *ℤ pos (2 ^ by)); settles = settled }))

  pub converts-down : by ≡ int_gap f (frac_of from) → int_gap (frac_of from) f ≡ 0 → StoresQuotient v (2 ^ by) (Num s w f) mode saturate r → Converts v from (Num s w f) mode saturate r
  converts-down down none stores =
      subst (λ (a : ℕ). StoresQuotient (v *ℤ pos (2 ^ a)) (2 ^ int_gap f (frac_of from)) (Num s w f) mode saturate r) (sym none)
      (subst (λ (b : ℕ). StoresQuotient (v *ℤ pos (2 ^ 0)) (2 ^ b) (Num s w f) mode saturate r) down
      (subst (λ (z : ℤ). StoresQuotient z (2 ^ by) (Num s w f) mode saturate r) (sym (times-one v)) stores))

pub stores-whole : (v whole : ℤ) (d : ℕ) (s : Bool) (w : ℕ) (f : ℤ) (mode : Rounding) (saturate : Bool) (r : ℤ) → Rounds mode v d whole → Settles (Num s w f) saturate (whole *ℤ pos (2 ^ 0)) r
    → StoresQuotient v d (Num s w f) mode saturate r
stores-whole v whole d s w f mode saturate r rounds settled =
    record { rounded = whole; rounds = rounds; settles = subst (λ (z : ℤ). Settles (Num s w f) saturate z r) (times-one whole) settled }
