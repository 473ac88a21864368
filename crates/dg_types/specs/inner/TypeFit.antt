-- When a fraction, rounded to the nearest, is a number of so many bits, by whole numbers alone
-- (own).
use Rattle.std.specs.Prelude.{◌≡◌, ℕ, ◌+◌, ◌-◌, ◌*◌, ◌^◌, ◌<◌, nat_le, nat_lt, Bool, true, false, List}
use Rattle.std.specs.List.{find, list_all, range_with_len}
use Rattle.std.specs.Option.{option_map}
use Rattle.std.specs.Prelude.{ℤ, Option}
use Rattle.fx_type.specs.declared.kind.FxType.{FxType}
use Rattle.fx_type.specs.declared.kind.FxType.TheVariants.{Num}
use Rattle.fx_type.specs.declared.decimal.Decimal.{Decimal}
use Rattle.fx_type.specs.StoredOf.{rounded_of, is_in_range}
use Rattle.dg_model.specs.GainParam.{is_negative, frac_down, greatest_fit_of, internal_param_of, param_type_of}
use Rattle.fx_type.specs.declared.spec.TypeSpec.{TypeSpec}

-- over / under, or its negative, rounded to the nearest, is from -2^(bits - 1) to 2^(bits - 1) - 1
abbrev pub is_within : Bool → ℕ → ℕ → ℕ → Bool
is_within false bits over under = nat_lt (2 * over + under) (2 ^ bits * under)
is_within true bits over under = nat_le (2 * over) (2 ^ bits * under + under)

-- n is below a bound by a half, or, of a negative number, above it by no more than that
abbrev pub is_below : Bool → ℕ → ℕ → ℕ → Bool
is_below false n half bound = nat_lt n (bound - half)
is_below true n half bound = nat_le (n - half) bound

-- the bits of a word with one for the sign, which an unsigned word is given
abbrev pub bits_of : Bool → ℕ → ℕ
bits_of true width = width
bits_of false width = width + 1

-- the decimal, rounded to the nearest so many steps below the greatest frac, is in range
abbrev pub at_step : Decimal → Bool → ℕ → ℕ → Bool
at_step decimal signed width steps =
    is_in_range (Num signed width (frac_down steps)) (rounded_of decimal (frac_down steps))

-- where a decimal is below 0, the word has a sign
abbrev pub HasSign : Bool → Decimal → Type 0
HasSign signed decimal = is_negative decimal ≡ true → signed ≡ true

-- this is the least number of steps, of the 193, after which each of these fits
pub record IsLowered (value : List Decimal) (signed : Bool) (width steps : ℕ) : Type 0 where
  pub few : steps < 193
  pub fits : list_all (λ decimal. at_step decimal signed width steps) value ≡ true
  pub before : (k : ℕ) → k < steps
      → list_all (λ decimal. at_step decimal signed width k) value ≡ false

-- the greatest frac at which a list fits a word, and the internal rule's type, under names that
-- aren't worked out where they are cited
unfoldable pub greatest_fit : List Decimal → Bool → ℕ → Option ℤ
greatest_fit value signed width = greatest_fit_of value signed width

-- the internal rule's type
unfoldable pub internal_param : List Decimal → FxType → Option FxType
internal_param value input = internal_param_of value input

-- the type of a Gain's coefficients
unfoldable pub param_type : List Decimal → TypeSpec → FxType → Option FxType
param_type value spec input = param_type_of value spec input

-- the greatest fit among the first n steps
abbrev pub greatest_among : ℕ → List Decimal → Bool → ℕ → Option ℤ
greatest_among n value signed width =
    option_map frac_down
    (find (λ steps. list_all (λ decimal. at_step decimal signed width steps) value)
    (range_with_len 0 n))
