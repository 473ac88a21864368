-- Rounding, conversion between types, and the stored integer of a decimal (Fixed-Point Designer
-- guide).
use Rattle.std.specs.Prelude.{◌≡◌, ◌≢◌, ℕ, ◌*◌, ◌^◌, Bool, true, false, ℤ, pos, neg_ℤ, ◌+ℤ◌, ◌*ℤ◌, ◌≤ℤ◌, ◌<ℤ◌}
use Rattle.std.specs.Int.{int_gap}
use Rattle.math_num.specs.Word.{IsWrapped}
use Rattle.fx_type.specs.declared.kind.FxType.{FxType}
use Rattle.fx_type.specs.declared.kind.FxType.TheVariants.{Num, Logical}
use Rattle.fx_type.specs.declared.rounding.Rounding.{Rounding}
use Rattle.fx_type.specs.declared.rounding.Rounding.TheVariants.{Floor, Ceiling, Zero, Nearest, Round, Convergent}
use Rattle.fx_type.specs.declared.decimal.Decimal.{Decimal}
use Rattle.fx_type.specs.FxType.{is_signed, width_of, frac_of, lowest_of, highest_of, InRange}

-- ---- rounding: x is the number n / d, and every inequality is multiplied by d

-- a number and itself
abbrev pub twice : ℤ → ℤ
twice z = z +ℤ z

-- twice some number
abbrev pub IsEven : ℤ → Type 0
IsEven z = (half : ℤ) × (z ≡ twice half)

-- r <= x < r + 1
pub record RoundsDown (n : ℤ) (d : ℕ) (r : ℤ) : Type 0 where
  pub at_most : (r *ℤ pos d) ≤ℤ n
  pub next_above : n <ℤ (r *ℤ pos d +ℤ pos d)

-- r - 1 < x <= r
pub record RoundsUp (n : ℤ) (d : ℕ) (r : ℤ) : Type 0 where
  pub at_least : n ≤ℤ (r *ℤ pos d)
  pub previous_below : (r *ℤ pos d) <ℤ (n +ℤ pos d)

-- 2 x - 1 < 2 r <= 2 x + 1
pub record RoundsTiesUp (n : ℤ) (d : ℕ) (r : ℤ) : Type 0 where
  pub above : twice n <ℤ (twice (r *ℤ pos d) +ℤ pos d)
  pub at_most : twice (r *ℤ pos d) ≤ℤ (twice n +ℤ pos d)

-- 2 x - 1 <= 2 r < 2 x + 1
pub record RoundsTiesDown (n : ℤ) (d : ℕ) (r : ℤ) : Type 0 where
  pub at_least : twice n ≤ℤ (twice (r *ℤ pos d) +ℤ pos d)
  pub below : twice (r *ℤ pos d) <ℤ (twice n +ℤ pos d)

-- 2 x - 1 <= 2 r <= 2 x + 1, and r is even where one of the two is an equality
pub record RoundsTiesEven (n : ℤ) (d : ℕ) (r : ℤ) : Type 0 where
  pub at_least : twice n ≤ℤ (twice (r *ℤ pos d) +ℤ pos d)
  pub at_most : twice (r *ℤ pos d) ≤ℤ (twice n +ℤ pos d)
  pub even_below : twice n ≡ twice (r *ℤ pos d) +ℤ pos d → IsEven r
  pub even_above : twice (r *ℤ pos d) ≡ twice n +ℤ pos d → IsEven r

-- one row where x is 0 or more, and else the other
pub record BySign (n : ℤ) (at_least_zero below_zero : Type 0) : Type 0 where
  pub not_negative : pos 0 ≤ℤ n → at_least_zero
  pub negative : n <ℤ pos 0 → below_zero

-- r is the whole number to which the mode rounds n / d
abbrev pub Rounds : Rounding → ℤ → ℕ → ℤ → Type 0
Rounds Floor n d r = RoundsDown n d r
Rounds Ceiling n d r = RoundsUp n d r
Rounds Zero n d r = BySign n (RoundsDown n d r) (RoundsUp n d r)
Rounds Nearest n d r = RoundsTiesUp n d r
Rounds Round n d r = BySign n (RoundsTiesUp n d r) (RoundsTiesDown n d r)
Rounds Convergent n d r = RoundsTiesEven n d r

-- ---- overflow

-- r itself, or the end of the range that is nearest to it
pub record Saturates (type : FxType) (r result : ℤ) : Type 0 where
  pub inside : InRange type r → result ≡ r
  pub below : r <ℤ lowest_of type → result ≡ lowest_of type
  pub above : highest_of type <ℤ r → result ≡ highest_of type

-- what the type stores for the whole number r: the nearest number of its range, or the congruent
-- one
abbrev pub Settles : FxType → Bool → ℤ → ℤ → Type 0
Settles type true r result = Saturates type r result
Settles type false r result = IsWrapped r (width_of type) (is_signed type) result

-- ---- conversion

-- 0 stays 0, and anything else is 1
pub record IsTruthOf (v result : ℤ) : Type 0 where
  pub zero : v ≡ pos 0 → result ≡ pos 0
  pub one : v ≢ pos 0 → result ≡ pos 1

-- n / d is rounded, and then settled in the type
pub record StoresQuotient (n : ℤ) (d : ℕ) (type : FxType) (mode : Rounding) (saturate : Bool)
    (result : ℤ) : Type 0 where
  pub rounded : ℤ
  pub rounds : Rounds mode n d rounded
  pub settles : Settles type saturate rounded result

-- the stored integer v of the type `from`, converted to the type `to`
abbrev pub Converts : ℤ → FxType → FxType → Rounding → Bool → ℤ → Type 0
Converts v from Logical mode saturate result = IsTruthOf v result
Converts v from (Num signed width frac) mode saturate result =
    StoresQuotient (v *ℤ pos (2 ^ int_gap (frac_of from) frac)) (2 ^ int_gap frac (frac_of from))
    (Num signed width frac) mode saturate result

-- the digits of the decimal, with its sign
abbrev pub signed_digits : Bool → ℕ → ℤ
signed_digits true digits = neg_ℤ (pos digits)
signed_digits false digits = pos digits

-- the decimal's digits, with its sign, times 10 to its exponent, stored in the type: to the
-- nearest, ties up, and saturated
abbrev pub Stores : Decimal → FxType → ℤ → Type 0
Stores d Logical result = IsTruthOf (pos d.digits) result
Stores d (Num signed width frac) result =
    StoresQuotient
    (signed_digits d.negative
    (d.digits * 10 ^ int_gap (pos 0) d.exponent * 2 ^ int_gap (pos 0) frac))
    (10 ^ int_gap d.exponent (pos 0) * 2 ^ int_gap frac (pos 0))
    (Num signed width frac) Nearest true result
