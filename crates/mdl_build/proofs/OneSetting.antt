-- A parameter's text says one thing, since no default can be read in another way.
use Rattle.std.proofs.Common.{◌≡◌, ◌≢◌, ℕ, inl, inr, Bool, true, false, List, [], ◌∷◌, length, Option, None, Some, refl, sym, ◌∙◌, ap, ap₂, subst}
use Rattle.std.specs.Prelude.{codes, bytes_eq, MatchBool, ⊤}
use Rattle.fx_type.specs.declared.decimal.Decimal.{Decimal}
use Rattle.fx_type.specs.declared.kind.FxType.{FxType}
use Rattle.fx_type.specs.declared.spec.TypeSpec.{TypeSpec}
use Rattle.fx_type.specs.declared.spec.TypeSpec.TheVariants.{Fixed, Internal, SameFirst, Auto}
use Rattle.mdl_text.specs.Bytes.{is_blank}
use Rattle.mdl_text.specs.declared.tree.Item.{Item}
use Rattle.mdl_values.specs.Laws.{ValuesAreOne}
use Rattle.mdl_values.specs.Lists.{IsListText}
use Rattle.mdl_values.specs.Numbers.{IsNumberText}
use Rattle.mdl_values.specs.Pieces.{pieces_at, two_of}
use Rattle.mdl_values.specs.Types.{IsTypeText, named_type}
use Rattle.mdl_build.specs.declared.library.BlockType.{BlockType}
use Rattle.mdl_build.specs.declared.library.BlockType.TheVariants.{Inport, Outport, Constant, Ground, Terminator, Sum, Gain, Product, UnitDelay, Delay, Switch, RelationalOperator, Logic}
use Rattle.mdl_build.specs.declared.library.BlockType.TheVariants.{DataTypeConversion, Mux, Demux, RateTransition, SubSystem, EnablePort, DiscreteFir}
use Rattle.mdl_build.specs.declared.library.Reader.{Reader}
use Rattle.mdl_build.specs.declared.settings.Setting.{Setting}
use Rattle.mdl_build.specs.declared.settings.Settings.{Settings}
use Rattle.mdl_build.specs.Blocks.{AreRead, HasSettings, first_text}
use Rattle.mdl_build.specs.Library.{ParameterRow, parameters_of}
use Rattle.mdl_build.specs.Lookup.{text_of}
use Rattle.mdl_build.specs.Settings.{ReadsAs, IsTypeOr, IsTypeOrFirst, IsGivenType, IsCoefficient, IsChosen, IsListOrEmpty, IsPartsText, IsOperands, IsTapType, unset, with_setting}
use Rattle.mdl_build.proofs.Readings.{differ}
use Rattle.std.proofs.lemmas.Option.{same_Some}

-- ---- words that are no types

abbrev IsNoType : List ℕ → Type 0
IsNoType word = (type : FxType) → IsTypeText word type → ⊥

no_type : (word : List ℕ) → named_type word ≡ None → two_of (pieces_at 40 word) ≡ None → IsNoType word
no_type word unnamed uncut type (inl named) = let bad : ◌≡◌ {A = Option FxType} None (Some type) = sym unnamed ∙ named in absurd (cc)
no_type word unnamed uncut type (inr fixdt) =
    let bad : ◌≡◌ {A = Option (List ℕ × List ℕ)} None (Some (codes "fixdt", fixdt.call.behind)) = sym uncut ∙ fixdt.call.opens in absurd (cc)

-- neither word is a type, and they differ
record AreWords (first default : List ℕ) : Type 0 where
  first_none : IsNoType first
  default_none : IsNoType default
  apart : default ≢ first

-- the default of a reader that also knows other texts is none of these
abbrev IsClear : Reader → List ℕ → Type 0
IsClear Reader.Default default = ⊤
IsClear Reader.Port default = ⊤
IsClear Reader.Width default = ⊤
IsClear Reader.Length default = ⊤
IsClear Reader.Operands default = ⊤
IsClear Reader.TypeOrAuto default = IsNoType default
IsClear Reader.TypeOrFirst default = AreWords (codes "Inherit: Same as first input") default
IsClear Reader.TypeOrInput default = AreWords (codes "Inherit: Same as input") default
IsClear Reader.TypeOrInternal default = IsNoType default
IsClear Reader.TapType default = IsNoType default
IsClear Reader.Taps default = ⊤
IsClear Reader.States default = ⊤
IsClear Reader.CoefficientType default = AreWords (codes "Inherit: Same as input") default
IsClear Reader.AccumulatorType default = AreWords (codes "Inherit: Same as first input") default
IsClear Reader.Type default = ⊤
IsClear Reader.Truth default = ⊤
IsClear Reader.SampleTime default = ⊤
IsClear Reader.ConstantTime default = ⊤
IsClear Reader.Period default = ⊤
IsClear Reader.List default = ⊤
IsClear Reader.ListOrEmpty default = ⊤
IsClear Reader.Signs default = ⊤
IsClear Reader.Factors default = ⊤
IsClear Reader.Parts default = ⊤
IsClear Reader.Rounding default = ⊤
IsClear Reader.Saturation default = ⊤
IsClear Reader.Reset default = ⊤
IsClear Reader.Criterion default = ⊤
IsClear Reader.Relation default = ⊤
IsClear Reader.Gate default = ⊤
IsClear Reader.Conversion default = default ≢ codes "Stored Integer (SI)"

abbrev AreClear : List ParameterRow → Type 0
AreClear [] = ⊤
AreClear (row ∷ rows) = IsClear row.reader row.default × AreClear rows

auto_none : IsNoType (codes "Inherit: auto")
auto_none = no_type (codes "Inherit: auto") refl refl

from_value_none : IsNoType (codes "Inherit: Inherit from 'Constant value'")
from_value_none = no_type (codes "Inherit: Inherit from 'Constant value'") refl refl

rule_none : IsNoType (codes "Inherit: Inherit via internal rule")
rule_none = no_type (codes "Inherit: Inherit via internal rule") refl refl

first_none : IsNoType (codes "Inherit: Same as first input")
first_none = no_type (codes "Inherit: Same as first input") refl refl

word_none : IsNoType (codes "Inherit: Same word length as input")
word_none = no_type (codes "Inherit: Same word length as input") refl refl

input_none : IsNoType (codes "Inherit: Same as input")
input_none = no_type (codes "Inherit: Same as input") refl refl

or_first : AreWords (codes "Inherit: Same as first input") (codes "Inherit: Inherit via internal rule")
or_first = record { first_none = first_none; default_none = rule_none; apart = differ (codes "Inherit: Inherit via internal rule") (codes "Inherit: Same as first input") refl }

or_input : AreWords (codes "Inherit: Same as input") (codes "Inherit: Inherit via internal rule")
or_input = record { first_none = input_none; default_none = rule_none; apart = differ (codes "Inherit: Inherit via internal rule") (codes "Inherit: Same as input") refl }

-- the table's defaults are clear
clear : (block_type : BlockType) → AreClear (parameters_of block_type)
clear Inport = (tt, (auto_none, (tt, (tt, tt))))
clear Outport = (tt, (auto_none, (tt, (tt, (tt, tt)))))
clear Constant = (tt, (from_value_none, (tt, tt)))
clear Ground = tt
clear Terminator = tt
clear Sum = (tt, (or_first, (or_first, (tt, (tt, (tt, tt))))))
clear Gain = (tt, (or_input, (tt, (or_input, (tt, (tt, (tt, tt)))))))
clear Product = (tt, (tt, (or_first, (tt, (tt, (tt, tt))))))
clear UnitDelay = (tt, (tt, tt))
clear Delay = (tt, (tt, (tt, (tt, (tt, (tt, (tt, tt)))))))
clear Switch = (tt, (tt, (or_first, (tt, (tt, (tt, tt))))))
clear RelationalOperator = (tt, (tt, (tt, tt)))
clear Logic = (tt, (tt, (tt, (tt, tt))))
clear DataTypeConversion = (tt, (differ (codes "Real World Value (RWV)") (codes "Stored Integer (SI)") refl, (tt, (tt, (tt, tt)))))
clear Mux = (tt, tt)
clear Demux = (tt, (tt, tt))
clear RateTransition = (tt, (tt, (tt, (tt, tt))))
clear SubSystem = (tt, tt)
clear EnablePort = (tt, (tt, tt))
clear DiscreteFir = (tt, (tt, (tt, (tt, (word_none, (tt, (tt, (rule_none, (tt, (tt, (tt, tt)))))))))))

-- ---- readings

empty_no_list : (list : List Decimal) → IsListText (codes "[]") list → ⊥
unfolding is_blank
empty_no_list list is = let bad : ◌≡◌ {A = Option (List (List ℕ))} None (Some is.texts) = is.are_elements in cc

module _ (values : ValuesAreOne) where
  one_number : (single : Bool) (text : List ℕ) (one other : ℕ) → MatchBool single (one ≡ 1) (IsNumberText 2 32 text one) → MatchBool single (other ≡ 1) (IsNumberText 2 32 text other) → one ≡ other
  one_number true text one other is too = is ∙ sym too
  one_number false text one other is too = values.numbers 2 32 text one other is too

  one_operands : (gate text : List ℕ) (one other : ℕ) → IsOperands gate text one → IsOperands gate text other → one ≡ other
  one_operands gate text one other is too = one_number (bytes_eq gate (codes "NOT")) text one other is too

  one_tap_type : (default text : List ℕ) → IsNoType default → (one other : Setting) → IsTapType default text one → IsTapType default text other → one ≡ other
  one_tap_type default text none one other (inl is) (inl too) = is.1 ∙ sym too.1
  one_tap_type default text none one other (inl is) (inr too) = absurd (none too.0 (subst (λ (t : List ℕ). IsTypeText t too.0) is.0 too.1))
  one_tap_type default text none one other (inr is) (inl too) = absurd (none is.0 (subst (λ (t : List ℕ). IsTypeText t is.0) too.0 is.1))
  one_tap_type default text none one other (inr is) (inr too) = is.2 ∙ ap (λ (type : FxType). Setting.Coefficient (Fixed type)) (values.types text is.0 too.0 is.1 too.1) ∙ sym too.2

  one_given : (text : List ℕ) (one other : Setting) → IsGivenType text one → IsGivenType text other → one ≡ other
  one_given text one other is too = is.2 ∙ ap (λ (type : FxType). Setting.Result (Fixed type)) (values.types text is.0 too.0 is.1 too.1) ∙ sym too.2

  one_type_or : (word : List ℕ) (choice : TypeSpec) (text : List ℕ) → IsNoType word → (one other : Setting) → IsTypeOr word choice text one → IsTypeOr word choice text other → one ≡ other
  one_type_or word choice text none one other (inl is) (inl too) = is.setting_is ∙ sym too.setting_is
  one_type_or word choice text none one other (inl is) (inr too) = absurd (none too.0 (subst (λ (t : List ℕ). IsTypeText t too.0) is.text_is too.1))
  one_type_or word choice text none one other (inr is) (inl too) = absurd (none is.0 (subst (λ (t : List ℕ). IsTypeText t is.0) too.text_is is.1))
  one_type_or word choice text none one other (inr is) (inr too) = one_given text one other is too

  not_first : (first default text : List ℕ) (setting : Setting) → AreWords first default → text ≡ first → IsTypeOr default Internal text setting → ⊥
  not_first first default text setting are is (inl word) = are.apart (sym word.text_is ∙ is)
  not_first first default text setting are is (inr given) = are.first_none given.0 (subst (λ (t : List ℕ). IsTypeText t given.0) is given.1)

  one_or_first : (first default text : List ℕ) → AreWords first default → (one other : Setting) → IsTypeOrFirst default first text one → IsTypeOrFirst default first text other → one ≡ other
  one_or_first first default text are one other (inl is) (inl too) = is.setting_is ∙ sym too.setting_is
  one_or_first first default text are one other (inl is) (inr too) = absurd (not_first first default text other are is.text_is too)
  one_or_first first default text are one other (inr is) (inl too) = absurd (not_first first default text one are too.text_is is)
  one_or_first first default text are one other (inr is) (inr too) = one_type_or default Internal text are.default_none one other is too

  one_coefficient : (default same text : List ℕ) → AreWords same default → (one other : TypeSpec) → IsCoefficient default same text one → IsCoefficient default same text other → one ≡ other
  one_coefficient default same text are (Fixed one) (Fixed other) is too = ap Fixed (values.types text one other is too)
  one_coefficient default same text are (Fixed one) Internal is too = absurd (are.default_none one (subst (λ (t : List ℕ). IsTypeText t one) too is))
  one_coefficient default same text are (Fixed one) SameFirst is too = absurd (are.first_none one (subst (λ (t : List ℕ). IsTypeText t one) too is))
  one_coefficient default same text are (Fixed one) Auto is too = absurd too
  one_coefficient default same text are Internal (Fixed other) is too = absurd (are.default_none other (subst (λ (t : List ℕ). IsTypeText t other) is too))
  one_coefficient default same text are Internal Internal is too = refl
  one_coefficient default same text are Internal SameFirst is too = absurd (are.apart (sym is ∙ too))
  one_coefficient default same text are Internal Auto is too = absurd too
  one_coefficient default same text are SameFirst (Fixed other) is too = absurd (are.first_none other (subst (λ (t : List ℕ). IsTypeText t other) is too))
  one_coefficient default same text are SameFirst Internal is too = absurd (are.apart (sym too ∙ is))
  one_coefficient default same text are SameFirst SameFirst is too = refl
  one_coefficient default same text are SameFirst Auto is too = absurd too
  one_coefficient default same text are Auto other is too = absurd is

  one_chosen : (default same text : List ℕ) → AreWords same default → (one other : Setting) → IsChosen default same text one → IsChosen default same text other → one ≡ other
  one_chosen default same text are one other is too = is.2 ∙ ap Setting.Coefficient (one_coefficient default same text are is.0 too.0 is.1 too.1) ∙ sym too.2

  one_or_empty : (text : List ℕ) (one other : List Decimal) → IsListOrEmpty text one → IsListOrEmpty text other → one ≡ other
  one_or_empty text one other (inl is) (inl too) = is.1 ∙ sym too.1
  one_or_empty text one other (inl is) (inr too) = absurd (empty_no_list other (subst (λ (t : List ℕ). IsListText t other) is.0 too))
  one_or_empty text one other (inr is) (inl too) = absurd (empty_no_list one (subst (λ (t : List ℕ). IsListText t one) too.0 is))
  one_or_empty text one other (inr is) (inr too) = values.lists text one other is too

  one_parts : (text : List ℕ) (count count' : ℕ) (sizes sizes' : List ℕ) → IsPartsText text count sizes → IsPartsText text count' sizes' → (count ≡ count') × (sizes ≡ sizes')
  one_parts text count count' sizes sizes' (inl is) (inl too) = (values.numbers 1 1024 text count count' is.0 too.0, is.1 ∙ sym too.1)
  one_parts text count count' sizes sizes' (inl is) (inr too) = absurd (values.apart 1 1024 text count sizes' is.0 too.0)
  one_parts text count count' sizes sizes' (inr is) (inl too) = absurd (values.apart 1 1024 text count' sizes too.0 is.0)
  one_parts text count count' sizes sizes' (inr is) (inr too) =
      let same = values.sizes text sizes sizes' is.0 too.0 in
      (is.1 ∙ ap (λ (l : List ℕ). length l) same ∙ sym too.1, same)

  one_conversion : (default text : List ℕ) → default ≢ codes "Stored Integer (SI)" → (one other : Setting)
      → ReadsAs [] Reader.Conversion default text one → ReadsAs [] Reader.Conversion default text other
      → one ≡ other
  one_conversion default text apart one other (inl is) (inl too) = is.1 ∙ sym too.1
  one_conversion default text apart one other (inl is) (inr too) = absurd (apart (sym is.0 ∙ too.0))
  one_conversion default text apart one other (inr is) (inl too) = absurd (apart (sym too.0 ∙ is.0))
  one_conversion default text apart one other (inr is) (inr too) = is.1 ∙ sym too.1

  reads_one : (gate : List ℕ) (reader : Reader) (default text : List ℕ) → IsClear reader default
      → (one other : Setting) → ReadsAs gate reader default text one → ReadsAs gate reader default text other
      → one ≡ other
  reads_one gate Reader.Default default text here one other is too = is.1 ∙ sym too.1
  reads_one gate Reader.Port default text here one other is too = is.2 ∙ ap Setting.Number (values.numbers 1 20000 text is.0 too.0 is.1 too.1) ∙ sym too.2
  reads_one gate Reader.Width default text here one other is too = is.2 ∙ ap Setting.Width (values.widths text is.0 too.0 is.1 too.1) ∙ sym too.2
  reads_one gate Reader.Length default text here one other is too = is.2 ∙ ap Setting.Number (values.numbers 1 1024 text is.0 too.0 is.1 too.1) ∙ sym too.2
  reads_one gate Reader.Operands default text here one other is too = is.2 ∙ ap Setting.Number (one_operands gate text is.0 too.0 is.1 too.1) ∙ sym too.2
  reads_one gate Reader.TypeOrAuto default text here one other is too = one_type_or default Auto text here one other is too
  reads_one gate Reader.TypeOrFirst default text here one other is too = one_or_first (codes "Inherit: Same as first input") default text here one other is too
  reads_one gate Reader.TypeOrInput default text here one other is too = one_or_first (codes "Inherit: Same as input") default text here one other is too
  reads_one gate Reader.TypeOrInternal default text here one other is too = one_type_or default Internal text here one other is too
  reads_one gate Reader.TapType default text here one other is too = one_tap_type default text here one other is too
  reads_one gate Reader.Taps default text here one other is too = is.2 ∙ ap Setting.List (values.lists text is.0 too.0 is.1.list too.1.list) ∙ sym too.2
  reads_one gate Reader.States default text here one other is too = is.2 ∙ ap Setting.States (values.lists text is.0 too.0 is.1.list too.1.list) ∙ sym too.2
  reads_one gate Reader.CoefficientType default text here one other is too = one_chosen default (codes "Inherit: Same as input") text here one other is too
  reads_one gate Reader.AccumulatorType default text here one other is too = one_chosen default (codes "Inherit: Same as first input") text here one other is too
  reads_one gate Reader.Type default text here one other is too = one_given text one other is too
  reads_one gate Reader.Truth default text here one other is too = is.1 ∙ sym too.1
  reads_one gate Reader.SampleTime default text here one other is too = is.2 ∙ ap Setting.Period (values.sample_times text is.0 too.0 is.1 too.1) ∙ sym too.2
  reads_one gate Reader.ConstantTime default text here one other is too = is.2 ∙ ap Setting.Period (values.constant_times text is.0 too.0 is.1 too.1) ∙ sym too.2
  reads_one gate Reader.Period default text here one other is too = is.2 ∙ ap Setting.Rate (values.periods text is.0 too.0 is.1 too.1) ∙ sym too.2
  reads_one gate Reader.List default text here one other is too = is.2 ∙ ap Setting.List (values.lists text is.0 too.0 is.1 too.1) ∙ sym too.2
  reads_one gate Reader.ListOrEmpty default text here one other is too = is.2 ∙ ap Setting.List (one_or_empty text is.0 too.0 is.1 too.1) ∙ sym too.2
  reads_one gate Reader.Signs default text here one other is too = is.2 ∙ ap (λ (signs : List Bool). Setting.Signs (length signs) signs) (values.signs text is.0 too.0 is.1 too.1) ∙ sym too.2
  reads_one gate Reader.Factors default text here one other is too = is.1 ∙ sym too.1
  reads_one gate Reader.Parts default text here one other is too =
      let same = one_parts text is.0 too.0 is.1.0 too.1.0 is.1.1 too.1.1 in
      is.1.2 ∙ ap₂ (λ (count : ℕ) (sizes : List ℕ). Setting.Parts count sizes) same.0 same.1 ∙ sym too.1.2
  reads_one gate Reader.Rounding default text here one other is too = is.2 ∙ ap Setting.Rounding (same_Some is.0 too.0 (sym is.1 ∙ too.1)) ∙ sym too.2
  reads_one gate Reader.Saturation default text here one other is too = is.2 ∙ ap Setting.Saturate (same_Some is.0 too.0 (sym is.1 ∙ too.1)) ∙ sym too.2
  reads_one gate Reader.Reset default text here one other is too = is.2 ∙ ap Setting.Flag (same_Some is.0 too.0 (sym is.1 ∙ too.1)) ∙ sym too.2
  reads_one gate Reader.Criterion default text here one other is too = is.2 ∙ ap Setting.Criterion (same_Some is.0 too.0 (sym is.1 ∙ too.1)) ∙ sym too.2
  reads_one gate Reader.Relation default text here one other is too = is.2 ∙ ap Setting.Relation (same_Some is.0 too.0 (sym is.1 ∙ too.1)) ∙ sym too.2
  reads_one gate Reader.Gate default text here one other is too = is.2 ∙ ap Setting.Gate (same_Some is.0 too.0 (sym is.1 ∙ too.1)) ∙ sym too.2
  reads_one gate Reader.Conversion default text here one other is too = one_conversion default text here one other is too

  -- ---- the settings of a block

  rows_one : (items : List Item) (block_type : BlockType) (place : ℕ) (rows : List ParameterRow) → AreClear rows
      → (before one other : Settings) → AreRead items block_type place rows before one
      → AreRead items block_type place rows before other → one ≡ other
  rows_one items block_type place [] here before one other is too = is ∙ sym too
  rows_one items block_type place (row ∷ rows) here before one other is too =
      let same = reads_one (first_text items block_type place (parameters_of block_type)) row.reader row.default (text_of items block_type place row) here.0 is.0 too.0 is.1 too.1 in
      rows_one items block_type place rows here.1 (with_setting before too.0) one other
      (subst (λ (setting : Setting). AreRead items block_type place rows (with_setting before setting) one) same is.2) too.2

  pub one_settings : (items : List Item) (block_type : BlockType) (place : ℕ) (one other : Settings) → HasSettings items block_type place one → HasSettings items block_type place other → one ≡ other
  one_settings items block_type place one other is too = rows_one items block_type place (parameters_of block_type) (clear block_type) unset one other is too
