-- Types of stored integers: which are valid, and the range of each (Fixed-Point Designer guide;
-- bounds own).
use Rattle.std.specs.Prelude.{◌≡◌, ℕ, ◌^◌, Bool, false, ℤ, pos, negsuc, ◌*ℤ◌, ◌≤ℤ◌}
use Rattle.std.specs.Int.{int_gap}
use Rattle.math_num.specs.Word.{IsWord, word_lowest, word_highest}
use Rattle.fx_type.specs.declared.kind.FxType.{FxType}
use Rattle.fx_type.specs.declared.kind.FxType.TheVariants.{Num, Logical}

-- valid: a word's width, and from -64 to 128 bits behind the binary point
abbrev pub IsType : FxType → Type 0
IsType (Num signed width frac) = IsWord width signed × (negsuc 63 ≤ℤ frac) × (frac ≤ℤ pos 128)
IsType Logical = Unit {0}

-- any type but Logical
abbrev pub IsNumber : FxType → Type 0
IsNumber (Num signed width frac) = Unit {0}
IsNumber Logical = ⊥

-- Logical is read as unsigned, of width 1 and with no bit behind the point
abbrev pub is_signed : FxType → Bool
is_signed (Num signed width frac) = signed
is_signed Logical = false

-- the bits of a type; `Logical` has 1
abbrev pub width_of : FxType → ℕ
width_of (Num signed width frac) = width
width_of Logical = 1

-- the bits behind the point; `Logical` has none
abbrev pub frac_of : FxType → ℤ
frac_of (Num signed width frac) = frac
frac_of Logical = pos 0

-- the ends of the range
abbrev pub lowest_of : FxType → ℤ
lowest_of (Num signed width frac) = word_lowest width signed
lowest_of Logical = pos 0

-- the upper end of the range
abbrev pub highest_of : FxType → ℤ
highest_of (Num signed width frac) = word_highest width signed
highest_of Logical = pos 1

-- v is a stored integer of the type
pub record InRange (type : FxType) (v : ℤ) : Type 0 where
  pub low : lowest_of type ≤ℤ v
  pub high : v ≤ℤ highest_of type

-- exactly one number is given, and it is in the type's range
pub record GivesOne (gives : ℤ → Type 0) (type : FxType) : Type 0 where
  pub number : ℤ
  pub given : gives number
  pub in_range : InRange type number
  pub only : (other : ℤ) → gives other → other ≡ number

-- the stored integer v of the type, written with `frac` bits behind the point, of which there are
-- no fewer
abbrev pub aligned : ℤ → FxType → ℤ → ℤ
aligned frac type v = v *ℤ pos (2 ^ int_gap (frac_of type) frac)
