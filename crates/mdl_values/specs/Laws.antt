-- What the definitions of values say together (own).
use Rattle.std.specs.Prelude.{◌≡◌, ℕ, List}
use Rattle.mdl_values.specs.Lists.{IsListText, IsSizesText}
use Rattle.mdl_values.specs.Numbers.{IsNumberText}
use Rattle.mdl_values.specs.Periods.{IsPeriodText, IsSampleTime, IsConstantTime, IsWidthText}
use Rattle.mdl_values.specs.Signs.{IsSignsText}
use Rattle.mdl_values.specs.Types.{IsTypeText}

-- no two values are such
abbrev pub IsOne : {A : Type 0} → (A → Type 0) → Type 0
IsOne {A} IsSuch = (one other : A) → IsSuch one → IsSuch other → one ≡ other

-- a text has at most one value of each kind
pub record ValuesAreOne : Type 0 where
  pub numbers : (low high : ℕ) (text : List ℕ) → IsOne (IsNumberText low high text)
  pub lists : (text : List ℕ) → IsOne (IsListText text)
  pub sizes : (text : List ℕ) → IsOne (IsSizesText text)
  pub types : (text : List ℕ) → IsOne (IsTypeText text)
  pub periods : (text : List ℕ) → IsOne (IsPeriodText text)
  pub sample_times : (text : List ℕ) → IsOne (IsSampleTime text)
  pub constant_times : (text : List ℕ) → IsOne (IsConstantTime text)
  pub widths : (text : List ℕ) → IsOne (IsWidthText text)
  pub signs : (text : List ℕ) → IsOne (IsSignsText text)
  -- a number is no list of sizes
  pub apart : (low high : ℕ) (text : List ℕ) (number : ℕ) (sizes : List ℕ)
      → IsNumberText low high text number → IsSizesText text sizes → ⊥
