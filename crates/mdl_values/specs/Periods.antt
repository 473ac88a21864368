-- Periods and declared widths (Simulink reference, `SampleTime` and `PortDimensions`; the spellings
-- are own).
use Rattle.std.specs.Prelude.{◌≡◌, ℕ, List, [], ◌∷◌, Some, MatchBool, ◌⊎◌, codes, bytes_eq}
use Rattle.fx_type.specs.declared.decimal.Decimal.{Decimal}
use Rattle.fx_round.specs.DecimalText.{IsDecimal}
use Rattle.dg_model.specs.KindRow.{IsPeriod}
use Rattle.dg_model.specs.Limits.{widest_signal}
use Rattle.dg_model.specs.declared.diagram.PeriodSpec.{PeriodSpec}
use Rattle.dg_model.specs.declared.diagram.PeriodSpec.TheVariants.{Inherit, Constant, Every}
use Rattle.mdl_values.specs.Numbers.{IsNumberText}
use Rattle.mdl_values.specs.Pieces.{opens, bracket_elements}

-- a decimal that is 0
pub record IsZeroText (text : List ℕ) : Type 0 where
  pub decimal : Decimal
  pub read : IsDecimal text decimal
  pub zero : decimal.digits ≡ 0

-- a decimal above 0
pub record IsAboveZero (text : List ℕ) (period : Decimal) : Type 0 where
  pub read : IsDecimal text period
  pub above : IsPeriod period

-- in brackets, a decimal above 0 and then a zero, which is the offset
pub record IsWithOffset (text : List ℕ) (period : Decimal) : Type 0 where
  pub first : List ℕ
  pub second : List ℕ
  pub elements : bracket_elements text ≡ Some (first ∷ second ∷ [])
  pub read : IsAboveZero first period
  pub offset : IsZeroText second

-- a period: with its offset in brackets, or alone
abbrev pub IsPeriodText : List ℕ → Decimal → Type 0
IsPeriodText text period =
    MatchBool (opens text) (IsWithOffset text period) (IsAboveZero text period)

-- -1, or a period
abbrev pub IsSampleTime : List ℕ → PeriodSpec → Type 0
IsSampleTime text Inherit = text ≡ codes "-1"
IsSampleTime text Constant = ⊥
IsSampleTime text (Every period) = IsPeriodText text period

-- `inf` or -1, or a period
abbrev pub IsConstantTime : List ℕ → PeriodSpec → Type 0
IsConstantTime text Inherit = ⊥
IsConstantTime text Constant = (text ≡ codes "inf") ⊎ (text ≡ codes "-1")
IsConstantTime text (Every period) = IsPeriodText text period

-- one number from 1 to 1024 in brackets
pub record IsBracketedNumber (text : List ℕ) (number : ℕ) : Type 0 where
  pub element : List ℕ
  pub elements : bracket_elements text ≡ Some (element ∷ [])
  pub read : IsNumberText 1 widest_signal element number

-- a number from 1 to 1024, which may stand in brackets
abbrev pub IsWidthNumber : List ℕ → ℕ → Type 0
IsWidthNumber text width = IsNumberText 1 widest_signal text width ⊎ IsBracketedNumber text width

-- a declared width: -1 for none, which is 0, or such a number
abbrev pub IsWidthText : List ℕ → ℕ → Type 0
IsWidthText text width =
    MatchBool (bytes_eq text (codes "-1")) (width ≡ 0) (IsWidthNumber text width)
