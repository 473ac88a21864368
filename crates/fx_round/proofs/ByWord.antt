-- What is rounded of the number that a word has is rounded of the number.
use Rattle.std.proofs.Common.{ℕ, ◌^◌, ℤ, FitsSigned, to_z, of_z, sym, subst}
use Rattle.std.specs.Int.{w128}
use Rattle.std.specs.Int.Signed.{shr_z}
use Rattle.std.proofs.lemmas.Int.{to_z-of_z}
use Rattle.math_num.proofs.Shifts.{shr-fits}
use Rattle.fx_type.specs.declared.rounding.Rounding.{Rounding}
use Rattle.fx_type.specs.declared.rounding.Rounding.TheVariants.{Floor}
use Rattle.fx_type.specs.Conversion.{Rounds}
use Rattle.fx_round.proofs.Bias.{shift_floors}

module _ (v : ℤ) (fits : FitsSigned w128 v) where
  pub by_word : (mode : Rounding) (d : ℕ) (result : ℤ) → FitsSigned w128 result → Rounds mode (to_z w128 (of_z w128 v)) d result → Rounds mode v d (to_z w128 (of_z w128 result))
  by_word mode d result room given =
      subst (λ (n : ℤ). Rounds mode v d n) (sym (to_z-of_z w128 result room)) (subst (λ (n : ℤ). Rounds mode n d result) (to_z-of_z w128 v fits) given)

  -- a shift gives the whole number below
  pub shift_by_word : (by : ℕ) → Rounds Floor v (2 ^ by) (to_z w128 (of_z w128 (shr_z (to_z w128 (of_z w128 v)) (2 ^ by))))
  shift_by_word by = rw (to_z-of_z w128 v fits, to_z-of_z w128 (shr_z v (2 ^ by)) (shr-fits w128 v (2 ^ by) fits)) (shift_floors v by)
