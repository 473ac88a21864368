-- What is read is in range.
use Rattle.std.proofs.Common.{◌≡◌, ℕ, Bool, true, false, cond, List, [], length, Option, Some, None, subst, inl, inr, pos, arith}
use Rattle.std.proofs.lemmas.List.{length-replicate}
use Rattle.std.specs.Prelude.{MatchBool, codes, bytes_eq}
use Rattle.std.proofs.Math.Dec.{lit≤}
use lib.Signed.{le_z_yes}
use Rattle.fx_type.specs.FxType.{IsType}
use Rattle.fx_type.specs.declared.decimal.Decimal.{Decimal}
use Rattle.fx_type.specs.declared.kind.FxType.{FxType}
use Rattle.fx_type.specs.declared.kind.FxType.TheVariants.{Num, Logical}
use Rattle.fx_type.specs.declared.spec.TypeSpec.{TypeSpec}
use Rattle.fx_type.specs.declared.spec.TypeSpec.TheVariants.{Fixed, Internal, SameFirst, Auto}
use Rattle.dg_model.specs.KindRow.{IsBetween, IsList, IsPeriod, IsSpec, MayBeFixed, IsChoice, MayDeclare, IsConstantPeriod}
use Rattle.dg_model.specs.declared.diagram.PeriodSpec.{PeriodSpec}
use Rattle.dg_model.specs.declared.diagram.PeriodSpec.TheVariants.{Inherit, Constant, Every}
use Rattle.mdl_values.specs.Periods.{IsPeriodText, IsSampleTime, IsConstantTime, IsWidthText, IsWidthNumber, IsWithOffset, IsAboveZero}
use Rattle.mdl_values.specs.Signs.{IsSignsText}
use Rattle.mdl_values.specs.Types.{IsTypeText, named_type}
use Rattle.mdl_build.specs.declared.settings.Setting.{Setting}
use Rattle.mdl_build.specs.Settings.{IsTypeOr, IsTypeOrFirst, IsCoefficient, IsListOrEmpty, ReadsAs}
use Rattle.mdl_build.specs.declared.library.Reader.{Reader}
use Rattle.mdl_values.proofs.OneType.{some_type}

-- of two types the one that is chosen is valid, if both are
chosen : (b : Bool) (one : FxType) (other : Option FxType) → IsType one → ((type : FxType) → other ≡ Some type → IsType type) → (type : FxType) → cond b (Some one) other ≡ Some type → IsType type
chosen true one other valid rest type e = subst (λ (t : FxType). IsType t) (some_type one type e) valid
chosen false one other valid rest type e = rest type e

no_type : (type : FxType) → ◌≡◌ {A = Option FxType} None (Some type) → IsType type
no_type type e = absurd (cc)

named_valid : (text : List ℕ) (type : FxType) → named_type text ≡ Some type → IsType type
named_valid text =
    chosen (bytes_eq text (codes "int8")) (Num true 8 (pos 0)) _ ((lit≤ tt, lit≤ tt), le_z_yes tt, le_z_yes tt)
    (chosen (bytes_eq text (codes "int16")) (Num true 16 (pos 0)) _ ((lit≤ tt, lit≤ tt), le_z_yes tt, le_z_yes tt)
    (chosen (bytes_eq text (codes "int32")) (Num true 32 (pos 0)) _ ((lit≤ tt, lit≤ tt), le_z_yes tt, le_z_yes tt)
    (chosen (bytes_eq text (codes "uint8")) (Num false 8 (pos 0)) _ ((lit≤ tt, lit≤ tt), le_z_yes tt, le_z_yes tt)
    (chosen (bytes_eq text (codes "uint16")) (Num false 16 (pos 0)) _ ((lit≤ tt, lit≤ tt), le_z_yes tt, le_z_yes tt)
    (chosen (bytes_eq text (codes "uint32")) (Num false 32 (pos 0)) _ ((lit≤ tt, lit≤ tt), le_z_yes tt, le_z_yes tt)
    (chosen (bytes_eq text (codes "boolean")) Logical None tt no_type))))))

-- a type that is read is valid
pub type_valid : (text : List ℕ) (type : FxType) → IsTypeText text type → IsType type
type_valid text type read = elim read [ inl named ↦ named_valid text type named | inr call ↦ call.word.valid ]

pub auto_of : (word text : List ℕ) (setting : Setting) → IsTypeOr word Auto text setting → (spec : TypeSpec) × MayBeFixed spec × IsSpec spec × (setting ≡ Setting.Result spec)
auto_of word text setting read = elim read [ inl chosen ↦ (Auto, tt, tt, chosen.setting_is) | inr given ↦ (Fixed given.0, tt, type_valid text given.0 given.1, given.2) ]

pub choice_of : (default first text : List ℕ) (setting : Setting) → IsTypeOrFirst default first text setting → (spec : TypeSpec) × IsChoice spec × IsSpec spec × (setting ≡ Setting.Result spec)
choice_of default first text setting read = elim read [
  | inl same ↦ (SameFirst, tt, tt, same.setting_is)
  | inr other ↦ elim other [ inl internal ↦ (Internal, tt, tt, internal.setting_is) | inr given ↦ (Fixed given.0, tt, type_valid text given.0 given.1, given.2) ]
]

pub coefficient_of : (default same text : List ℕ) (spec : TypeSpec) → IsCoefficient default same text spec → IsChoice spec × IsSpec spec
coefficient_of default same text (Fixed type) read = (tt, type_valid text type read)
coefficient_of default same text Internal read = (tt, tt)
coefficient_of default same text SameFirst read = (tt, tt)
coefficient_of default same text Auto read = absurd read

-- periods
pub period_above : (text : List ℕ) (period : Decimal) → IsPeriodText text period → IsPeriod period
period_above text period read = by_bracket _ read
  where
    by_bracket : (b : Bool) → MatchBool b (IsWithOffset text period) (IsAboveZero text period) → IsPeriod period
    by_bracket true offset = offset.read.above
    by_bracket false alone = alone.above

pub may_declare : (text : List ℕ) (spec : PeriodSpec) → IsSampleTime text spec → MayDeclare spec
may_declare text Inherit read = tt
may_declare text Constant read = absurd read
may_declare text (Every period) read = period_above text period read

pub constant_period : (text : List ℕ) (spec : PeriodSpec) → IsConstantTime text spec → IsConstantPeriod spec
constant_period text Inherit read = absurd read
constant_period text Constant read = tt
constant_period text (Every period) read = period_above text period read

-- widths and lists
pub width_range : (text : List ℕ) (width : ℕ) → IsWidthText text width → IsBetween 0 1024 width
width_range text width read = by_word _ read
  where
    by_word : (b : Bool) → MatchBool b (width ≡ 0) (IsWidthNumber text width) → IsBetween 0 1024 width
    by_word true none = (omega arith, omega (arith, none))
    by_word false some = elim some [
      | inl alone ↦ let most = alone.in_range.1 in (omega arith, most)
      | inr inside ↦ let most = inside.read.in_range.1 in (omega arith, most)
    ]

pub list_size : (text : List ℕ) (list : List Decimal) → IsListOrEmpty text list → IsList list
list_size text list read = elim read [
  | inl empty ↦ let alone = empty.1 in rw alone (lit≤ tt, lit≤ tt)
  | inr some ↦ some.size
]

pub signs_size : (text : List ℕ) (signs : List Bool) → IsSignsText text signs → IsBetween 2 32 (length signs)
signs_size text signs read = elim read [
  | inl counted ↦ let all = counted.all_add in rw (all, length-replicate) counted.read.in_range
  | inr signed ↦ signed.size
]

-- a conversion says one of two
pub conversion_of : (default text : List ℕ) (setting : Setting) → ReadsAs [] Reader.Conversion default text setting → (flag : Bool) × (setting ≡ Setting.Flag flag)
conversion_of default text setting read = elim read [ inl value ↦ (false, value.1) | inr stored ↦ (true, stored.1) ]
