-- What the steps of a conversion give together.
use Rattle.std.proofs.Common.{◌≡◌, ℕ, ◌^◌, ◌<◌, Bool, ℤ, pos, ◌*ℤ◌, sym, refl, subst, subst₂, arith}
use Rattle.std.specs.Int.{int_gap}
use Rattle.std.proofs.lemmas.Int.{ints}
use Rattle.fx_type.specs.declared.kind.FxType.{FxType}
use Rattle.fx_type.specs.declared.kind.FxType.TheVariants.{Num}
use Rattle.fx_type.specs.declared.rounding.Rounding.{Rounding}
use Rattle.fx_type.specs.FxType.{frac_of}
use Rattle.fx_type.specs.Conversion.{Rounds, Settles, StoresQuotient, Converts}
use Rattle.fx_round.proofs.Modes.{whole_rounds}

-- a whole number is rounded to itself
pub exact : (mode : Rounding) (q : ℤ) (d : ℕ) → 0 < d → Rounds mode (q *ℤ pos d) d q
exact mode q d h = whole_rounds (q *ℤ pos d) d q 0 (omega (arith, ints)) h mode refl

times_one : (z : ℤ) → z *ℤ pos 1 ≡ z
times_one z = omega (arith, ints)

module _ (v : ℤ) (from : FxType) (s : Bool) (w : ℕ) (f : ℤ) (mode : Rounding) (saturate : Bool) (r : ℤ) (by : ℕ) where
  pub converts_up : by ≡ int_gap (frac_of from) f → int_gap f (frac_of from) ≡ 0 → Settles (Num s w f) saturate (v *ℤ pos (2 ^ by)) r → Converts v from (Num s w f) mode saturate r
  converts_up up none settled =
      subst₂ (λ (a b : ℕ). StoresQuotient (v *ℤ pos (2 ^ a)) (2 ^ b) (Num s w f) mode saturate r) up (sym none)
      (record {
        rounded = v *ℤ pos (2 ^ by);
        rounds = subst (λ (z : ℤ). Rounds mode z 1 (v *ℤ pos (2 ^ by))) (times_one (v *ℤ pos (2 ^ by))) (exact mode (v *ℤ pos (2 ^ by)) 1 (omega arith));
        settles = settled;
      })

  pub converts_down : by ≡ int_gap f (frac_of from) → int_gap (frac_of from) f ≡ 0 → StoresQuotient v (2 ^ by) (Num s w f) mode saturate r → Converts v from (Num s w f) mode saturate r
  converts_down down none stores =
      subst₂ (λ (a b : ℕ). StoresQuotient (v *ℤ pos (2 ^ a)) (2 ^ b) (Num s w f) mode saturate r) (sym none) down
      (subst (λ (z : ℤ). StoresQuotient z (2 ^ by) (Num s w f) mode saturate r) (sym (times_one v)) stores)
