-- A filter is such as its text can be.
use Rattle.std.proofs.Common.{◌≡◌, ℕ, inl, inr, List, length, Some, subst}
use Rattle.std.specs.Prelude.{◌⊎◌, ◌+◌}
use Rattle.fx_type.specs.declared.decimal.Decimal.{Decimal}
use Rattle.fx_type.specs.declared.spec.TypeSpec.{TypeSpec}
use Rattle.fx_type.specs.declared.spec.TypeSpec.TheVariants.{Fixed, Internal}
use Rattle.dg_model.specs.KindRow.{IsChoice, IsSpec}
use Rattle.fir_block.specs.declared.filter.Fir.{Fir}
use Rattle.fir_block.specs.Laws.{IsReadableFir}
use Rattle.mdl_text.specs.declared.tree.Item.{Item}
use Rattle.mdl_values.specs.Laws.{ValuesAreOne}
use Rattle.mdl_build.specs.declared.library.BlockType.TheVariants.{DiscreteFir}
use Rattle.mdl_build.specs.declared.settings.Setting.{Setting}
use Rattle.mdl_build.specs.declared.settings.Settings.{Settings}
use Rattle.mdl_build.specs.Blocks.{HasSettings}
use Rattle.mdl_build.specs.Library.{taps}
use Rattle.mdl_build.specs.Lookup.{text_of}
use Rattle.mdl_build.specs.Parts.{filter_of}
use Rattle.mdl_build.specs.Settings.{IsTypeOr, IsTapType, AreTaps, AreStates}
use Rattle.mdl_build.proofs.SettingRanges.{type_valid, may_declare}
use Rattle.std.proofs.lemmas.Option.{same_Some}

internal_of : (word text : List ℕ) (setting : Setting) → IsTypeOr word Internal text setting → (spec : TypeSpec) × IsChoice spec × IsSpec spec × (setting ≡ Setting.Result spec)
internal_of word text setting read = elim read [ inl internal ↦ (Internal, tt, tt, internal.setting_is) | inr given ↦ (Fixed given.0, tt, type_valid text given.0 given.1, given.2) ]

tap_type_of : (default text : List ℕ) (setting : Setting) → IsTapType default text setting → (spec : TypeSpec) × IsChoice spec × IsSpec spec × (setting ≡ Setting.Coefficient spec)
tap_type_of default text setting read = elim read [ inl internal ↦ (Internal, tt, tt, internal.1) | inr given ↦ (Fixed given.0, tt, type_valid text given.0 given.1, given.2) ]

-- as many initial values as the delays of these coefficients ask for
states_fit : ValuesAreOne → (text other : List ℕ) (list states : List Decimal) → AreTaps text list → AreStates text other states → (length states ≡ 1) ⊎ (length states + 1 ≡ length list)
states_fit values text other list states are fit =
    subst (λ (l : List Decimal). (length states ≡ 1) ⊎ (length states + 1 ≡ length l)) (values.lists text fit.taps list fit.are_taps.list are.list) fit.count

module _ (items : List Item) (place : ℕ) (settings : Settings) (h : HasSettings items DiscreteFir place settings) where
  -- its coefficients are those that are read
  pub taps_are : AreTaps (text_of items DiscreteFir place taps) settings.list
  taps_are =
      let p0 = h.1 in
      let p3 = h.2.2.2.1 in
      let c4 = tap_type_of _ _ _ h.2.2.2.2.1 in
      let r7 = internal_of _ _ _ h.2.2.2.2.2.2.2.1 in
      let p10 = h.2.2.2.2.2.2.2.2.2.2.1 in
      rw (h.2.2.2.2.2.2.2.2.2.2.2, p0.2, h.2.1.1, h.2.2.1.1, p3.2, c4.3, h.2.2.2.2.2.1.1, h.2.2.2.2.2.2.1.1, r7.3, h.2.2.2.2.2.2.2.2.1.2, h.2.2.2.2.2.2.2.2.2.1.2, p10.2) p0.1

  pub readable_fir : ValuesAreOne → (name : List ℕ) (fir : Fir) → filter_of name DiscreteFir settings ≡ Some fir → IsReadableFir fir
  readable_fir values name fir is = subst IsReadableFir (same_Some (record {
    name = name;
    coefficients = settings.list;
    initial = settings.states;
    param = settings.said.coefficient;
    result = settings.said.result;
    rounding = settings.said.rounding;
    saturate = settings.said.saturate;
    period = settings.said.period;
  }) fir is) whole
    where
      whole : IsReadableFir (record {
        name = name;
        coefficients = settings.list;
        initial = settings.states;
        param = settings.said.coefficient;
        result = settings.said.result;
        rounding = settings.said.rounding;
        saturate = settings.said.saturate;
        period = settings.said.period;
      })
      whole =
          let p0 = h.1 in
          let p3 = h.2.2.2.1 in
          let c4 = tap_type_of _ _ _ h.2.2.2.2.1 in
          let r7 = internal_of _ _ _ h.2.2.2.2.2.2.2.1 in
          let p10 = h.2.2.2.2.2.2.2.2.2.2.1 in
          rw (h.2.2.2.2.2.2.2.2.2.2.2, p0.2, h.2.1.1, h.2.2.1.1, p3.2, c4.3, h.2.2.2.2.2.1.1, h.2.2.2.2.2.2.1.1, r7.3, h.2.2.2.2.2.2.2.2.1.2, h.2.2.2.2.2.2.2.2.2.1.2, p10.2)
          (record {
            is_fir = record { coefficients = p0.1.count; initial = states_fit values _ _ p0.0 p3.0 p0.1 p3.1 };
            param = (c4.1, c4.2);
            result = (r7.1, r7.2);
            period = may_declare _ p10.0 p10.1;
          })
