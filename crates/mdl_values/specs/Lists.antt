-- Lists of decimals and of sizes (Simulink reference, block parameters; the limits are own).
use Rattle.std.specs.Prelude.{◌≡◌, ℕ, List, length, Option, Some}
use Rattle.std.specs.List.{AllZip}
use Rattle.fx_type.specs.declared.decimal.Decimal.{Decimal}
use Rattle.fx_round.specs.DecimalText.{IsDecimal}
use Rattle.dg_model.specs.KindRow.{IsBetween}
use Rattle.dg_model.specs.Limits.{longest_list, widest_signal}
use Rattle.mdl_values.specs.Numbers.{IsNumberText}
use Rattle.mdl_values.specs.Pieces.{bracket_elements, list_elements}

-- 1 to 1024 values, one of each element
pub record IsListOf {A : Type 0} (elements : Option (List (List ℕ))) (IsValue : List ℕ → A → Type 0)
    (list : List A) : Type 0 where
  pub texts : List (List ℕ)
  pub are_elements : elements ≡ Some texts
  pub read : AllZip IsValue texts list
  pub size : IsBetween 1 longest_list (length list)

-- decimals, in brackets or one alone
abbrev pub IsListText : List ℕ → List Decimal → Type 0
IsListText text list = IsListOf (list_elements text) IsDecimal list

-- a size
abbrev pub IsSizeText : List ℕ → ℕ → Type 0
IsSizeText = IsNumberText 1 widest_signal

-- sizes in brackets
abbrev pub IsSizesText : List ℕ → List ℕ → Type 0
IsSizesText text sizes = IsListOf (bracket_elements text) IsSizeText sizes
