-- A list parameter has an entry for each element that is shown.
use Rattle.std.proofs.Common.{◌≡◌, ℕ, ◌<◌, ◌≤◌, ◌⊎◌, Bool, inl, inr, List, [], ◌∷◌, length, All, sym, subst, refl, arith}
use Rattle.std.proofs.lemmas.List.Elements.{All-head}
use Rattle.fx_type.specs.declared.spec.TypeSpec.{TypeSpec}
use Rattle.fx_type.specs.declared.decimal.Decimal.{Decimal}
use Rattle.dg_model.specs.declared.diagram.Diagram.{Diagram}
use Rattle.dg_model.specs.declared.diagram.Block.{Block}
use Rattle.dg_model.specs.declared.kind.Criterion.{Criterion}
use Rattle.dg_model.specs.declared.kind.Kind.{Kind}
use Rattle.dg_model.specs.declared.kind.Kind.TheVariants.{Constant, Gain, Switch, Delay, RateTransition, EnOut}
use Rattle.dg_model.specs.Attributes.{attributes_of}
use Rattle.dg_model.specs.Checked.{IsChecked}
use Rattle.dg_model.specs.Dimension.{IsRepeated}
use Rattle.dg_model.specs.Library.{row_of}
use Rattle.dg_model.specs.Readable.{HasPorts}
use Rattle.dg_model.specs.Solves.{IsShown, shown_ports, shown_width}
use Rattle.dg_tables.specs.Fit.{HasLists}
use Rattle.dg_sim.specs.inner.Turns.{HasEntry}
use Rattle.dg_sim.proofs.Entries.{ports_are}
use Rattle.dg_tables.proofs.Widths.{lists_fit}
use Rattle.dg_tables.proofs.Lists.{below_repeated}

module _ (diagram : Diagram) (is : IsChecked diagram) (block port element : ℕ) (b : Block) (shown : IsShown diagram (attributes_of diagram) block b port element) where
  abbrev width : ℕ
  width = (attributes_of diagram).width_at block 1

  list_entry : (kind : Kind) (list : List Decimal) → b.kind ≡ kind → (row_of kind).signal.lists ≡ list ∷ [] → shown_ports kind b.outputs ≡ 1
      → ((p : ℕ) → shown_width diagram (attributes_of diagram) kind block p ≡ (attributes_of diagram).width_at block p) → HasEntry list element
  list_entry kind list kind_is lists single widths =
      let to : port ≤ shown_ports kind b.outputs = subst (λ (kind : Kind). port ≤ shown_ports kind b.outputs) kind_is shown.port_to in
      let first : port ≡ 1 = omega (arith, to, single, shown.port_from) in
      let at_port : element < shown_width diagram (attributes_of diagram) kind block port =
      subst (λ (kind : Kind). element < shown_width diagram (attributes_of diagram) kind block port) kind_is
      shown.element_below in
      let below : element < width = subst (λ (p : ℕ). element < (attributes_of diagram).width_at block p) first (subst (λ (n : ℕ). element < n) (widths port) at_port) in
      let fit : All (λ (list : List Decimal). IsRepeated width (length list)) (list ∷ []) =
      subst (λ (lists : List (List Decimal)). All (λ (list : List Decimal). IsRepeated width (length list)) lists) lists
      (subst (λ (kind : Kind). HasLists kind width) kind_is (lists_fit diagram is.wired is.dimensions block b shown.block_is)) in
      below_repeated (length list) element (go below (All-head (λ (list : List Decimal). IsRepeated width (length list)) list [] fit))
    where
      go : element < width → (length list ≡ 1) ⊎ (length list ≡ width) → (length list ≡ 1) ⊎ (element < length list)
      go below (inl one) = inl one
      go below (inr same) = inr (subst (λ (n : ℕ). element < n) (sym same) below)

  ports_of : (kind : Kind) → b.kind ≡ kind → HasPorts kind b.inputs b.outputs
  ports_of kind e = ports_are diagram is.wired block b shown.block_is kind e

  pub constant_entry : (value : List Decimal) → b.kind ≡ Constant value → HasEntry value element
  constant_entry value e = list_entry (Constant value) value e refl (ports_of (Constant value) e).1 (λ p. refl)

  pub gain_entry : (value : List Decimal) (param : TypeSpec) → b.kind ≡ Gain value param → HasEntry value element
  gain_entry value param e = list_entry (Gain value param) value e refl (ports_of (Gain value param) e).1 (λ p. refl)

  pub switch_entry : (criterion : Criterion) (threshold : List Decimal) → b.kind ≡ Switch criterion threshold → HasEntry threshold element
  switch_entry criterion threshold e = list_entry (Switch criterion threshold) threshold e refl (ports_of (Switch criterion threshold) e).1 (λ p. refl)

  pub delay_entry : (delay : ℕ) (initial : List Decimal) (reset : Bool) → b.kind ≡ Delay delay initial reset → HasEntry initial element
  delay_entry delay initial reset e = list_entry (Delay delay initial reset) initial e refl (ports_of (Delay delay initial reset) e).1 (λ p. refl)

  pub rate_entry : (period : Decimal) (initial : List Decimal) → b.kind ≡ RateTransition period initial → HasEntry initial element
  rate_entry period initial e = list_entry (RateTransition period initial) initial e refl (ports_of (RateTransition period initial) e).1 (λ p. refl)

  pub output_entry_there : (reset : Bool) (initial : List Decimal) → b.kind ≡ EnOut reset initial → HasEntry initial element
  output_entry_there reset initial e = list_entry (EnOut reset initial) initial e refl (ports_of (EnOut reset initial) e).1 (λ p. refl)
