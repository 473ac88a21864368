-- Places that are repeated, conversions and terms of sums, each by itself.
use Rattle.std.proofs.Common.{◌≡◌, ℕ, zero, suc, ◌+◌, ◌<◌, ◌^◌, Bool, true, false, cond, ℤ, pos, ◌*ℤ◌, map, zip, Some, slice_get}
use Rattle.std.proofs.Common.{replicate, ◌==◌, ap, sym, ◌∙◌, subst, refl, arith}
use Rattle.std.specs.Int.{int_gap}
use Rattle.fx_type.specs.declared.kind.FxType.{FxType}
use Rattle.fx_type.specs.declared.kind.FxType.TheVariants.{Num, Logical}
use Rattle.fx_type.specs.declared.rounding.Rounding.{Rounding}
use Rattle.fx_type.specs.Conversion.{Converts, StoresQuotient}
use Rattle.fx_type.specs.FxType.{frac_of}
use Rattle.math_list.specs.Numbers.{numbers_from}
use Rattle.dg_model.specs.Wires.{repeated}

-- a place that is repeated
pub twice : (width element : ℕ) → repeated width (repeated width element) ≡ repeated width element
twice width element = go (width == 1)
  where
    go : (one : Bool) → cond one 0 (cond one 0 element) ≡ cond one 0 element
    go true = refl
    go false = refl

pub repeated_below : (width element : ℕ) → element < width → repeated width element < width
repeated_below width element below = go (width == 1)
  where
    go : (one : Bool) → cond one 0 element < width
    go true = omega (arith, below)
    go false = below

-- a conversion looks at no more of the type that it comes from than the bits behind the point
pub converts_from : (v : ℤ) (from like to : FxType) (mode : Rounding) (saturate : Bool) (r : ℤ) → frac_of like ≡ frac_of from → Converts v from to mode saturate r → Converts v like to mode saturate r
converts_from v from like Logical mode saturate r same is = is
converts_from v from like (Num signed width frac) mode saturate r same is =
    subst (λ (f : ℤ). StoresQuotient (v *ℤ pos (2 ^ int_gap f frac)) (2 ^ int_gap frac f) (Num signed width frac) mode saturate r) (sym same) is

-- a term of a sum without signs
pub term_at : (f : ℕ → FxType) (from count k : ℕ) → k < count → slice_get (zip (replicate count false) (map f (numbers_from from count))) k ≡ Some (false, f (from + k))
term_at f from zero k below = absurd (omega (arith, below))
term_at f from (suc count) zero below = let same : from ≡ from + 0 = omega arith in ap (λ (n : ℕ). Some (false, f n)) same
term_at f from (suc count) (suc k) below = let same : suc from + k ≡ from + suc k = omega arith in term_at f (suc from) count k (omega (arith, below)) ∙ ap (λ (n : ℕ). Some (false, f n)) same
