-- The stored integer of a decimal as a function (Fixed-Point Designer guide).
use Rattle.std.specs.Prelude.{ℕ, ◌*◌, ◌^◌, ◌==◌, Bool, cond, ◌&&◌, ℤ, pos, ◌+ℤ◌, int_le}
use Rattle.std.specs.Int.{int_gap, int_max, int_min, int_div_euclid}
use Rattle.fx_type.specs.declared.kind.FxType.{FxType}
use Rattle.fx_type.specs.declared.kind.FxType.TheVariants.{Num, Logical}
use Rattle.fx_type.specs.declared.decimal.Decimal.{Decimal}
use Rattle.fx_type.specs.FxType.{lowest_of, highest_of}
use Rattle.fx_type.specs.Conversion.{twice, signed_digits}

-- the whole number nearest to n / d, and the greater of two that are as near
abbrev pub nearest_of : ℤ → ℕ → ℤ
nearest_of n d = int_div_euclid (twice n +ℤ pos d) (pos (2 * d))

-- the decimal's number in units of 2 to the -frac, rounded to the nearest
abbrev pub rounded_of : Decimal → ℤ → ℤ
rounded_of d frac =
    nearest_of
    (signed_digits d.negative
    (d.digits * 10 ^ int_gap (pos 0) d.exponent * 2 ^ int_gap (pos 0) frac))
    (10 ^ int_gap d.exponent (pos 0) * 2 ^ int_gap frac (pos 0))

-- v is in the range of the type
abbrev pub is_in_range : FxType → ℤ → Bool
is_in_range type v = int_le (lowest_of type) v && int_le v (highest_of type)

-- the number of the type's range that is nearest to v
abbrev pub clamped : FxType → ℤ → ℤ
clamped type v = int_max (lowest_of type) (int_min (highest_of type) v)

-- the stored integer of the decimal
abbrev pub stored_of : Decimal → FxType → ℤ
stored_of d Logical = cond (d.digits == 0) (pos 0) (pos 1)
stored_of d (Num signed width frac) = clamped (Num signed width frac) (rounded_of d frac)
