-- The type of a Gain's coefficients (Simulink reference, `ParamDataTypeStr`; what the internal rule
-- gives is own).
use Rattle.std.specs.Prelude.{◌≡◌, ◌↔◌, ℕ, ◌==◌, ◌&&◌, ◌||◌, ℤ, pos, negsuc, ◌-ℤ◌, ◌≤ℤ◌, ◌<ℤ◌, nat_lt, Bool, cond, MatchBool, Option, Some, None, List, All}
use Rattle.std.specs.List.{list_any, list_all, find, range_with_len}
use Rattle.std.specs.Option.{option_map}
use Rattle.fx_type.specs.declared.kind.FxType.{FxType}
use Rattle.fx_type.specs.declared.kind.FxType.TheVariants.{Num}
use Rattle.fx_type.specs.declared.spec.TypeSpec.{TypeSpec}
use Rattle.fx_type.specs.declared.spec.TypeSpec.TheVariants.{Fixed, Internal, SameFirst, Auto}
use Rattle.fx_type.specs.declared.decimal.Decimal.{Decimal}
use Rattle.fx_type.specs.FxType.{InRange, is_signed, width_of}
use Rattle.fx_type.specs.Conversion.{Stores}
use Rattle.fx_type.specs.StoredOf.{rounded_of, is_in_range}
use Rattle.dg_model.specs.Types.{IsSpecified}

-- the number of a decimal is below 0; -0 isn't
abbrev pub is_negative : Decimal → Bool
is_negative decimal = decimal.negative && nat_lt 0 decimal.digits

-- it is 0
abbrev pub is_zero : Decimal → Bool
is_zero decimal = decimal.digits == 0

-- the internal rule's sign: that of the input, or signed for an element below 0
abbrev pub is_param_signed : List Decimal → FxType → Bool
is_param_signed value input = is_signed input || list_any is_negative value

-- its width: that of the input, and 2 for a signed width of 1
abbrev pub param_width : List Decimal → FxType → ℕ
param_width value input =
    cond (is_param_signed value input && (width_of input == 1)) 2 (width_of input)

-- every element, rounded to the nearest, is in range at a frac
abbrev pub FitsAt : List Decimal → Bool → ℕ → ℤ → Type 0
FitsAt value signed width frac =
    let type =
    Num signed width frac in All
    (λ decimal. (r : ℤ) × (stored : Stores decimal type r) × InRange type stored.rounded) value

-- the greatest frac at which every element fits
pub record IsGreatestFit (value : List Decimal) (signed : Bool) (width : ℕ)
    (frac : ℤ) : Type 0 where
  pub low : negsuc 63 ≤ℤ frac
  pub high : frac ≤ℤ pos 128
  pub fits : FitsAt value signed width frac
  pub greatest : (other : ℤ) → frac <ℤ other → other ≤ℤ pos 128 → ¬ FitsAt value signed width other

-- the internal rule's type, with frac 0 where every element is 0
abbrev pub IsInternalParam : List Decimal → FxType → FxType → Type 0
IsInternalParam value input param =
    (frac : ℤ) × (param ≡ Num (is_param_signed value input) (param_width value input) frac)
    × MatchBool (list_all is_zero value) (frac ≡ pos 0)
    (IsGreatestFit value (is_param_signed value input) (param_width value input) frac)

-- the type of a Gain's coefficients, from its list, its specification and the type of its input
abbrev pub IsParamType : List Decimal → TypeSpec → FxType → FxType → Type 0
IsParamType value spec input param = IsSpecified spec input (IsInternalParam value input) param

-- ---- the same as functions, which give none where there is no such type

-- whether every element, rounded to the nearest, is in range at a frac
abbrev pub fits_at : List Decimal → Bool → ℕ → ℤ → Bool
fits_at value signed width frac =
    list_all (λ decimal. is_in_range (Num signed width frac) (rounded_of decimal frac)) value

-- the fracs from the greatest, 128, down
abbrev pub frac_down : ℕ → ℤ
frac_down steps = pos 128 -ℤ pos steps

-- the greatest of the 193 fracs at which every element fits
abbrev pub greatest_fit_of : List Decimal → Bool → ℕ → Option ℤ
greatest_fit_of value signed width =
    option_map frac_down
    (find (λ steps. fits_at value signed width (frac_down steps)) (range_with_len 0 193))

-- the internal rule's type
abbrev pub internal_param_of : List Decimal → FxType → Option FxType
internal_param_of value input =
    let signed = is_param_signed value input in
    let width =
    param_width value input in option_map (Num signed width)
    (cond (list_all is_zero value) (Some (pos 0)) (greatest_fit_of value signed width))

-- the type of a Gain's coefficients
abbrev pub param_type_of : List Decimal → TypeSpec → FxType → Option FxType
param_type_of value (Fixed type) input = Some type
param_type_of value Internal input = internal_param_of value input
param_type_of value SameFirst input = Some input
param_type_of value Auto input = None

-- the function gives the one type that the relation allows, or none
abbrev pub ParamTypeIsOne : Type 0
ParamTypeIsOne =
    (value : List Decimal) (spec : TypeSpec) (input param : FxType)
    → (IsParamType value spec input param ↔ (param_type_of value spec input ≡ Some param))
