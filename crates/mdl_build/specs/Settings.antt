-- What the value of a parameter says, and what the parameters of a block say together (Simulink
-- reference, each block's page; the spellings are own).
use Rattle.std.specs.Prelude.{◌≡◌, ℕ, ◌+◌, ◌++◌, Bool, true, false, List, [], ◌∷◌, Some, ◌⊎◌, pos, length, MatchBool, bytes_eq, codes}
use Rattle.std.proofs.Math.Dec.{lit<}
use Rattle.dg_model.specs.KindRow.{IsBetween}
use Rattle.dg_model.specs.Limits.{longest_delay, longest_list, most_blocks}
use lib.Signed.{le_z_yes}
use Rattle.fx_type.specs.declared.decimal.Decimal.{Decimal}
use Rattle.fx_type.specs.declared.rounding.Rounding.{Rounding}
use Rattle.fx_type.specs.declared.kind.FxType.{FxType}
use Rattle.fx_type.specs.declared.spec.TypeSpec.{TypeSpec}
use Rattle.fx_type.specs.declared.spec.TypeSpec.TheVariants.{Fixed, Internal, SameFirst, Auto}
use Rattle.dg_model.specs.declared.diagram.PeriodSpec.{PeriodSpec}
use Rattle.dg_model.specs.declared.diagram.PeriodSpec.TheVariants.{Inherit, Every}
use Rattle.dg_model.specs.declared.kind.Criterion.{Criterion}
use Rattle.dg_model.specs.declared.kind.Gate.{Gate}
use Rattle.dg_model.specs.declared.kind.Relation.{Relation}
use Rattle.mdl_values.specs.Lists.{IsListText, IsSizesText}
use Rattle.mdl_values.specs.Numbers.{IsNumberText}
use Rattle.mdl_values.specs.Periods.{IsPeriodText, IsSampleTime, IsConstantTime, IsWidthText}
use Rattle.mdl_values.specs.Signs.{IsSignsText}
use Rattle.mdl_values.specs.Types.{IsTypeText}
use Rattle.mdl_values.specs.Words.{rounding_of, switch_of, reset_of, criterion_of, relation_of, gate_of}
use Rattle.mdl_build.specs.declared.library.Reader.{Reader}
use Rattle.mdl_build.specs.declared.settings.Said.{Said}
use Rattle.mdl_build.specs.declared.settings.Setting.{Setting}
use Rattle.mdl_build.specs.declared.settings.Settings.{Settings}

-- 0 as a decimal
abbrev pub zero_decimal : Decimal
zero_decimal =
    record {
      negative = false;
      digits = 0;
      exponent = pos 0;
      eighteen_digits = lit< tt;
      least_exponent = le_z_yes tt;
      greatest_exponent = le_z_yes tt;
    }

-- what is said of a block of which nothing is said
abbrev pub unsaid : Said
unsaid = record {
  number = 0;
  width = 0;
  result = Auto;
  coefficient = Auto;
  period = Inherit;
  rate = zero_decimal;
  rounding = Rounding.Floor;
  saturate = false;
  flag = false;
  criterion = Criterion.AtLeast;
  relation = Relation.Eq;
  gate = Gate.And;
}

-- the same, with no lists
abbrev pub unset : Settings
unset = record { said = unsaid; list = []; states = []; signs = []; sizes = [] }

-- one setting in its place
abbrev pub with_setting : Settings → Setting → Settings
with_setting settings Setting.Unsaid = settings
with_setting settings (Setting.Number number) = record settings { said = record settings.said { number = number } }
with_setting settings (Setting.Width width) = record settings { said = record settings.said { width = width } }
with_setting settings (Setting.Result spec) = record settings { said = record settings.said { result = spec } }
with_setting settings (Setting.Coefficient spec) = record settings { said = record settings.said { coefficient = spec } }
with_setting settings (Setting.Period spec) = record settings { said = record settings.said { period = spec } }
with_setting settings (Setting.Rate rate) = record settings { said = record settings.said { period = Every rate; rate = rate } }
with_setting settings (Setting.List list) = record settings { list = list }
with_setting settings (Setting.States states) = record settings { states = states }
with_setting settings (Setting.Signs count signs) =
    record settings { said = record settings.said { number = count }; signs = signs }
with_setting settings (Setting.Parts count sizes) =
    record settings { said = record settings.said { number = count }; sizes = sizes }
with_setting settings (Setting.Rounding rounding) = record settings { said = record settings.said { rounding = rounding } }
with_setting settings (Setting.Saturate flag) = record settings { said = record settings.said { saturate = flag } }
with_setting settings (Setting.Flag flag) = record settings { said = record settings.said { flag = flag } }
with_setting settings (Setting.Criterion criterion) = record settings { said = record settings.said { criterion = criterion } }
with_setting settings (Setting.Relation relation) = record settings { said = record settings.said { relation = relation } }
with_setting settings (Setting.Gate gate) = record settings { said = record settings.said { gate = gate } }

-- a type
abbrev pub IsGivenType : List ℕ → Setting → Type 0
IsGivenType text setting = (type : FxType) × IsTypeText text type × (setting ≡ Setting.Result (Fixed type))

-- a word that says how a type is chosen
pub record IsChoiceWord (word : List ℕ) (choice : TypeSpec) (text : List ℕ) (setting : Setting) : Type 0 where
  pub text_is : text ≡ word
  pub setting_is : setting ≡ Setting.Result choice

-- a type, or such a word
abbrev pub IsTypeOr : List ℕ → TypeSpec → List ℕ → Setting → Type 0
IsTypeOr word choice text setting = IsChoiceWord word choice text setting ⊎ IsGivenType text setting

-- a type, the internal rule, or the word for the type of the first input
abbrev pub IsTypeOrFirst : List ℕ → List ℕ → List ℕ → Setting → Type 0
IsTypeOrFirst default first text setting = IsChoiceWord first SameFirst text setting ⊎ IsTypeOr default Internal text setting

-- how the type of a coefficient or of an accumulator is chosen, where this word takes it of the
-- first input
abbrev pub IsCoefficient : List ℕ → List ℕ → List ℕ → TypeSpec → Type 0
IsCoefficient default same text (Fixed type) = IsTypeText text type
IsCoefficient default same text Internal = text ≡ default
IsCoefficient default same text SameFirst = text ≡ same
IsCoefficient default same text Auto = ⊥

-- the same as a setting
abbrev pub IsChosen : List ℕ → List ℕ → List ℕ → Setting → Type 0
IsChosen default same text setting =
    (spec : TypeSpec) × IsCoefficient default same text spec
    × (setting ≡ Setting.Coefficient spec)

-- a list, or `[]`, which is 0
abbrev pub IsListOrEmpty : List ℕ → List Decimal → Type 0
IsListOrEmpty text list = ((text ≡ codes "[]") × (list ≡ zero_decimal ∷ [])) ⊎ IsListText text list

-- a number of parts, or their sizes
abbrev pub IsPartsText : List ℕ → ℕ → List ℕ → Type 0
IsPartsText text count sizes =
    (IsNumberText 1 longest_list text count × (sizes ≡ [])) ⊎ (IsSizesText text sizes × (count ≡ length sizes))

-- a number of operands; a gate of one input, which has this word, doesn't look at it
abbrev pub IsOperands : List ℕ → List ℕ → ℕ → Type 0
IsOperands gate text number =
    MatchBool (bytes_eq gate (codes "NOT")) (number ≡ 1) (IsNumberText 2 32 text number)

-- the coefficients of a filter
pub record AreTaps (text : List ℕ) (taps : List Decimal) : Type 0 where
  pub list : IsListText text taps
  pub count : IsBetween 2 32 (length taps)

-- how many
abbrev pub IsTapCount : List ℕ → ℕ → Type 0
IsTapCount text count = (taps : List Decimal) × AreTaps text taps × (count ≡ length taps)

-- what the delays of a filter begin with: one value for all, or one for each of them
pub record AreStates (coefficients text : List ℕ) (states : List Decimal) : Type 0 where
  pub list : IsListText text states
  pub taps : List Decimal
  pub are_taps : AreTaps coefficients taps
  pub count : (length states ≡ 1) ⊎ (length states + 1 ≡ length taps)

-- a type for the coefficients of a filter, or the internal rule
abbrev pub IsTapType : List ℕ → List ℕ → Setting → Type 0
IsTapType default text setting =
    ((text ≡ default) × (setting ≡ Setting.Coefficient Internal))
    ⊎ ((type : FxType) × IsTypeText text type × (setting ≡ Setting.Coefficient (Fixed type)))

-- `boolean`, which is the default, or a text that begins so
abbrev pub IsTruth : List ℕ → List ℕ → Type 0
IsTruth default text = (text ≡ default) ⊎ ((more : List ℕ) × (text ≡ codes "Inherit: Logical" ++ more))

-- a reader, at its parameter's default, reads a text as a setting, where the first parameter of the
-- block has this text
abbrev pub ReadsAs : List ℕ → Reader → List ℕ → List ℕ → Setting → Type 0
ReadsAs first Reader.Default default text setting = (text ≡ default) × (setting ≡ Setting.Unsaid)
ReadsAs first Reader.Port default text setting =
    (number : ℕ) × IsNumberText 1 most_blocks text number × (setting ≡ Setting.Number number)
ReadsAs first Reader.Width default text setting = (width : ℕ) × IsWidthText text width × (setting ≡ Setting.Width width)
ReadsAs first Reader.Length default text setting =
    (number : ℕ) × IsNumberText 1 longest_delay text number × (setting ≡ Setting.Number number)
ReadsAs first Reader.Operands default text setting =
    (number : ℕ) × IsOperands first text number × (setting ≡ Setting.Number number)
ReadsAs first Reader.TypeOrAuto default text setting = IsTypeOr default Auto text setting
ReadsAs first Reader.TypeOrFirst default text setting = IsTypeOrFirst default (codes "Inherit: Same as first input") text setting
ReadsAs first Reader.TypeOrInput default text setting = IsTypeOrFirst default (codes "Inherit: Same as input") text setting
ReadsAs first Reader.TypeOrInternal default text setting = IsTypeOr default Internal text setting
ReadsAs first Reader.CoefficientType default text setting =
    IsChosen default (codes "Inherit: Same as input") text setting
ReadsAs first Reader.AccumulatorType default text setting =
    IsChosen default (codes "Inherit: Same as first input") text setting
ReadsAs first Reader.TapType default text setting = IsTapType default text setting
ReadsAs first Reader.Type default text setting = IsGivenType text setting
ReadsAs first Reader.Truth default text setting = IsTruth default text × (setting ≡ Setting.Unsaid)
ReadsAs first Reader.SampleTime default text setting =
    (spec : PeriodSpec) × IsSampleTime text spec × (setting ≡ Setting.Period spec)
ReadsAs first Reader.ConstantTime default text setting =
    (spec : PeriodSpec) × IsConstantTime text spec × (setting ≡ Setting.Period spec)
ReadsAs first Reader.Period default text setting =
    (period : Decimal) × IsPeriodText text period × (setting ≡ Setting.Rate period)
ReadsAs first Reader.List default text setting = (list : List Decimal) × IsListText text list × (setting ≡ Setting.List list)
ReadsAs first Reader.ListOrEmpty default text setting =
    (list : List Decimal) × IsListOrEmpty text list × (setting ≡ Setting.List list)
ReadsAs first Reader.Taps default text setting =
    (taps : List Decimal) × AreTaps text taps × (setting ≡ Setting.List taps)
ReadsAs first Reader.States default text setting =
    (states : List Decimal) × AreStates first text states × (setting ≡ Setting.States states)
ReadsAs first Reader.Signs default text setting =
    (signs : List Bool) × IsSignsText text signs × (setting ≡ Setting.Signs (length signs) signs)
ReadsAs first Reader.Factors default text setting = ((text ≡ codes "2") ⊎ (text ≡ codes "**")) × (setting ≡ Setting.Unsaid)
ReadsAs first Reader.Parts default text setting =
    (count : ℕ)
    × ((sizes : List ℕ) × IsPartsText text count sizes × (setting ≡ Setting.Parts count sizes))
ReadsAs first Reader.Rounding default text setting =
    (rounding : Rounding) × (rounding_of text ≡ Some rounding)
    × (setting ≡ Setting.Rounding rounding)
ReadsAs first Reader.Saturation default text setting =
    (flag : Bool) × (switch_of text ≡ Some flag) × (setting ≡ Setting.Saturate flag)
ReadsAs first Reader.Reset default text setting = (flag : Bool) × (reset_of text ≡ Some flag) × (setting ≡ Setting.Flag flag)
ReadsAs first Reader.Criterion default text setting =
    (criterion : Criterion) × (criterion_of text ≡ Some criterion)
    × (setting ≡ Setting.Criterion criterion)
ReadsAs first Reader.Relation default text setting =
    (relation : Relation) × (relation_of text ≡ Some relation)
    × (setting ≡ Setting.Relation relation)
ReadsAs first Reader.Gate default text setting = (gate : Gate) × (gate_of text ≡ Some gate) × (setting ≡ Setting.Gate gate)
ReadsAs first Reader.Conversion default text setting =
    ((text ≡ default) × (setting ≡ Setting.Flag false))
    ⊎ ((text ≡ codes "Stored Integer (SI)") × (setting ≡ Setting.Flag true))
