-- How far a frac is above that of a type, in the numbers of the code.
use Rattle.std.proofs.Common.{◌≡◌, ℤ, pos, ◌-ℤ◌, ◌≤ℤ◌, nat_abs, to_z, of_z, FitsSigned, refl, arith}
use Rattle.std.specs.Int.{w16, int_gap}
use Rattle.std.proofs.lemmas.Int.{ints, to_z-of_z}
use Rattle.fx_type.specs.declared.kind.FxType.{FxType}
use Rattle.fx_type.specs.FxType.{IsType, frac_of}
use Rattle.fx_type.proofs.Ranges.{frac_bounds}
use Rattle.math_num.proofs.Integers.{gap_is}

module _ (kind : FxType) (frac own : ℤ) (valid : IsType kind) (fits : FitsSigned w16 frac)
    (own_fits : FitsSigned w16 own) (is : own ≡ frac_of kind) (above : frac_of kind ≤ℤ frac)
    (high : frac ≤ℤ pos 128) where
  pub difference_is : to_z w16 (of_z w16 frac) -ℤ to_z w16 (of_z w16 own) ≡ frac -ℤ frac_of kind
  difference_is = rw (to_z-of_z w16 frac fits, to_z-of_z w16 own own_fits, is) refl

  near_fits : FitsSigned w16 (frac -ℤ frac_of kind)
  near_fits = omega (arith, ints, (frac_bounds kind valid).0, above, high)

  pub difference_fits : FitsSigned w16 (to_z w16 (of_z w16 frac) -ℤ to_z w16 (of_z w16 own))
  difference_fits = rw difference_is near_fits

  pub gap_own : to_z w16 (of_z w16 (to_z w16 (of_z w16 frac) -ℤ to_z w16 (of_z w16 own))) ≡ frac -ℤ frac_of kind
  gap_own = rw difference_is (to_z-of_z w16 (frac -ℤ frac_of kind) near_fits)

  pub frac_gap : nat_abs (to_z w16 (of_z w16 (to_z w16 (of_z w16 frac) -ℤ to_z w16 (of_z w16 own)))) ≡ int_gap (frac_of kind) frac
  frac_gap = gap_is (frac_of kind) frac (to_z w16 (of_z w16 (to_z w16 (of_z w16 frac) -ℤ to_z w16 (of_z w16 own)))) above gap_own
