-- The names of the greatest fit and of the internal rule's type stand for what the rule says.
use Rattle.std.proofs.Common.{◌≡◌, ℕ, ◌-◌, ◌<◌, Bool, List, length, take, get_or, Some, None, ℤ, pos, cond, true, false, refl, subst, ap, sym, ◌∙◌, arith}
use Rattle.std.specs.Prelude.{◌==◌, ◌&&◌}
use Rattle.fx_type.specs.FxType.{width_of}
use Rattle.std.specs.List.{find, range_with_len, list_all}
use Rattle.std.specs.Option.{option_map}
use Rattle.fx_type.specs.declared.kind.FxType.{FxType}
use Rattle.fx_type.specs.declared.kind.FxType.TheVariants.{Num}
use Rattle.fx_type.specs.declared.decimal.Decimal.{Decimal}
use Rattle.fx_type.specs.declared.spec.TypeSpec.{TypeSpec}
use Rattle.fx_type.specs.declared.spec.TypeSpec.TheVariants.{Fixed, Internal, SameFirst, Auto}
use Rattle.dg_model.specs.GainParam.{is_zero, is_param_signed, param_width, frac_down, param_type_of}
use Rattle.dg_types.specs.inner.TypeFit.{at_step, IsLowered, greatest_fit, greatest_among, internal_param, param_type}
use Rattle.dg_types.proofs.FracSearch.{lowered_stops, lowered_whole}

greatest_is : (value : List Decimal) (signed : Bool) (w : ℕ) → greatest_fit value signed w ≡ greatest_among 193 value signed w
unfolding greatest_fit
greatest_is value signed w = refl

pub greatest_none : (value : List Decimal) (signed : Bool) (w i steps : ℕ) (d : Decimal) → i < length value → IsLowered (take i value) signed w steps
    → find (at_step (get_or value i d) signed w) (range_with_len steps (193 - steps)) ≡ None → greatest_fit value signed w ≡ None
greatest_none value signed w i steps d inside lowered e = greatest_is value signed w ∙ lowered_stops 193 value signed w i steps d inside (omega (arith, lowered.few)) lowered e

pub greatest_some : (value : List Decimal) (signed : Bool) (w steps : ℕ) → IsLowered value signed w steps → greatest_fit value signed w ≡ Some (frac_down steps)
greatest_some value signed w steps lowered = greatest_is value signed w ∙ lowered_whole 193 value signed w steps lowered.few lowered

-- the internal rule by its parts
pub internal_is : (value : List Decimal) (input : FxType) → internal_param value input
    ≡ option_map (Num (is_param_signed value input) (param_width value input))
    (cond (list_all is_zero value) (Some (pos 0))
    (greatest_fit value (is_param_signed value input) (param_width value input)))
unfolding internal_param greatest_fit
internal_is value input = refl

-- ---- by the specification

at_internal : (value : List Decimal) (input : FxType) → internal_param value input ≡ param_type value Internal input
unfolding internal_param param_type
at_internal value input = refl

pub by_internal : (value : List Decimal) (spec : TypeSpec) (input : FxType) → spec ≡ Internal → internal_param value input ≡ param_type value spec input
by_internal value spec input is = subst (λ (s : TypeSpec). internal_param value input ≡ param_type value s input) (sym is) (at_internal value input)

at_fixed : (value : List Decimal) (type input : FxType) → Some type ≡ param_type value (Fixed type) input
unfolding param_type
at_fixed value type input = refl

pub by_fixed : (value : List Decimal) (spec : TypeSpec) (type input : FxType) → spec ≡ Fixed type → Some type ≡ param_type value spec input
by_fixed value spec type input is = subst (λ (s : TypeSpec). Some type ≡ param_type value s input) (sym is) (at_fixed value type input)

at_same : (value : List Decimal) (input : FxType) → Some input ≡ param_type value SameFirst input
unfolding param_type
at_same value input = refl

pub by_same : (value : List Decimal) (spec : TypeSpec) (input : FxType) → spec ≡ SameFirst → Some input ≡ param_type value spec input
by_same value spec input is = subst (λ (s : TypeSpec). Some input ≡ param_type value s input) (sym is) (at_same value input)

at_auto : (value : List Decimal) (input : FxType) → None ≡ param_type value Auto input
unfolding param_type
at_auto value input = refl

pub by_auto : (value : List Decimal) (spec : TypeSpec) (input : FxType) → spec ≡ Auto → None ≡ param_type value spec input
by_auto value spec input is = subst (λ (s : TypeSpec). None ≡ param_type value s input) (sym is) (at_auto value input)

pub param_is : (value : List Decimal) (spec : TypeSpec) (input : FxType) → param_type value spec input ≡ param_type_of value spec input
unfolding param_type
param_is value spec input = refl

-- ---- the parts of the internal rule

module _ (value : List Decimal) (input : FxType) (signed : Bool) (width : ℕ) (s : signed ≡ is_param_signed value input) (w : width ≡ param_width value input) where
  same_fit : greatest_fit value signed width ≡ greatest_fit value (is_param_signed value input) (param_width value input)
  same_fit = ap (λ (b : Bool). greatest_fit value b width) s ∙ ap (λ (n : ℕ). greatest_fit value (is_param_signed value input) n) w

  pub internal_zero : list_all is_zero value ≡ true → Some (Num signed width (pos 0)) ≡ internal_param value input
  internal_zero z = rw (s, w) (sym (internal_is value input ∙ rw z refl))

  pub internal_none : list_all is_zero value ≡ false → None ≡ greatest_fit value signed width → None ≡ internal_param value input
  internal_none z e =
      let g : greatest_fit value (is_param_signed value input) (param_width value input) ≡ None = sym same_fit ∙ sym e in
      sym (internal_is value input ∙ rw (z, g) refl)

  pub internal_some : (frac : ℤ) → list_all is_zero value ≡ false → Some frac ≡ greatest_fit value signed width → Some (Num signed width frac) ≡ internal_param value input
  internal_some frac z e =
      let g : greatest_fit value (is_param_signed value input) (param_width value input) ≡ Some frac = sym same_fit ∙ sym e in
      rw (s, w) (sym (internal_is value input ∙ rw (z, g) refl))

pub width_is : (value : List Decimal) (input : FxType) (signed : Bool) (own width : ℕ)
    → signed ≡ is_param_signed value input → own ≡ width_of input → width ≡ cond (signed && (own == 1)) 2 own
    → width ≡ param_width value input
width_is value input signed own width s o w = w ∙ ap (λ (b : Bool). cond (b && (own == 1)) 2 own) s ∙ ap (λ (n : ℕ). cond (is_param_signed value input && (n == 1)) 2 n) o
