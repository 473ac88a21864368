-- What ports of shared blocks offer: words of their types, on levels below those of multipliers.
use Rattle.std.proofs.Common.{◌≡◌, ℕ, ◌+◌, ◌-◌, ◌*◌, ◌<◌, ◌≤◌, ◌⊎◌, inl, inr, true, length, Option, Some, None, ap, sym, ◌∙◌, subst, refl, arith}
use Rattle.std.specs.Prelude.{slice_get, min}
use Rattle.fx_type.specs.declared.kind.FxType.{FxType}
use Rattle.fx_type.specs.declared.kind.FxType.TheVariants.{Logical}
use Rattle.fx_type.specs.FxType.{is_signed, width_of}
use Rattle.dg_model.specs.declared.diagram.Diagram.{Diagram}
use Rattle.dg_model.specs.declared.diagram.Block.{Block}
use Rattle.dg_model.specs.declared.diagram.Edge.{Edge}
use Rattle.dg_model.specs.declared.nested.Target.TheVariants.{Port}
use Rattle.dg_model.specs.declared.resolved.Resolved.{Resolved}
use Rattle.dg_model.specs.Attributes.{attributes_of}
use Rattle.dg_model.specs.Checked.{IsChecked}
use Rattle.dg_model.specs.Laws.{WidthsAreOfEdges}
use Rattle.dg_model.specs.Readable.{HasPorts, IsReadable}
use Rattle.dg_model.specs.Solves.{shown_ports}
use Rattle.dg_model.specs.Wires.{at_source, driver_of, type_into, width_into}
use Rattle.hw_latency.specs.Shared.{is_shared}
use Rattle.hw_net.specs.Circuit.{Circuit}
use Rattle.hw_net.specs.Netlist.{HasWord}
use Rattle.hw_sched.proofs.Widths.{driver_there}
use Rattle.hw_shows.specs.Timed.{lag_into}
use Rattle.hw_build.specs.Places.{Places}
use Rattle.hw_build.specs.inner.Factors.{OffersWords}
use Rattle.hw_build.specs.inner.Facts.{count_by_lag, count_by, line_count, AreSpread}
use Rattle.hw_build.specs.inner.MultiplierStep.{ArePlacesBelow}
use Rattle.hw_build.specs.inner.UnderWay.{HaveOperands}
use Rattle.hw_build.proofs.Factors.{shared_multiplies}
use Rattle.hw_build.proofs.Multipliers.{multiplies_shape, multiplies_shown}
use Rattle.math_list.proofs.Places.{held}
use Rattle.hw_build.proofs.Widths.{repeated_into}

some_by_lag : (source own : ℕ) (lag : Option ℕ) → 0 < source → 0 < own → 0 < count_by_lag source own lag
some_by_lag source own None wide some = wide
some_by_lag source own (Some lag) wide some = some

some_count : (source own : ℕ) (lags : ℕ → Option ℕ) (period : Option ℕ) → 0 < source → 0 < own → 0 < count_by source own lags period
some_count source own lags None wide some = wide
some_count source own lags (Some period) wide some = some_by_lag source own (lags period) wide some

some_wide : (width own element : ℕ) → (width ≡ 1) ⊎ (width ≡ own) → element < own → 0 < width
some_wide width own element (inl one) below = omega (arith, one)
some_wide width own element (inr same) below = omega (arith, same, below)

module _ (widths : WidthsAreOfEdges) (diagram : Diagram) (checked : IsChecked diagram) (plan : Resolved) (block : ℕ)
    (b : Block) (port element : ℕ) (at : slice_get diagram.blocks block ≡ Some b)
    (shared : is_shared diagram (attributes_of diagram) plan block ≡ true) (from : 1 ≤ port)
    (to : port ≤ b.inputs) (below : element < (attributes_of diagram).width_at block 1)
  where
    wide : 0 < width_into diagram (attributes_of diagram) block port
    wide =
        let agree = repeated_into widths diagram checked block b port at (multiplies_shape b.kind (shared_multiplies diagram plan block b at shared)) from to in
        some_wide (width_into diagram (attributes_of diagram) block port) ((attributes_of diagram).width_at block 1) element agree below

    -- a line drives the port
    driven : (edge : Edge) × (driver_of diagram block port ≡ Some edge)
    driven = go (driver_of diagram block port) refl
      where
        go : (found : Option Edge) → driver_of diagram block port ≡ found → (edge : Edge) × (driver_of diagram block port ≡ Some edge)
        go None e =
            let none : width_into diagram (attributes_of diagram) block port ≡ 0 = ap (λ (o : Option Edge). at_source o 0 (attributes_of diagram).width_at) e in
            absurd (omega (arith, wide, none))
        go (Some edge) e = (edge, e)

    showing : 1 ≤ shown_ports b.kind b.outputs
    showing =
        let ports : HasPorts b.kind b.inputs b.outputs = (held IsReadable diagram.blocks block b checked.wired.blocks at).ports in
        multiplies_shown b.kind b.inputs b.outputs ports (shared_multiplies diagram plan block b at shared)

    -- with an element for each of the block
    abbrev place : ℕ
    place = min element (line_count diagram block b port driven.0 - 1)

    place_below : place < line_count diagram block b port driven.0
    place_below =
        let source : width_into diagram (attributes_of diagram) block port
        ≡ (attributes_of diagram).width_at driven.0.from driven.0.from_port =
        ap (λ (o : Option Edge). at_source o 0 (attributes_of diagram).width_at) driven.1 in
        let some = some_count ((attributes_of diagram).width_at driven.0.from driven.0.from_port)
        ((attributes_of diagram).width_at block 1)
        (lag_into diagram (attributes_of diagram) block b (Port port))
        ((attributes_of diagram).period_at driven.0.from) (omega (arith, source, wide))
        (omega (arith, below)) in
        omega (arith, some)

    type_is : type_into diagram (attributes_of diagram) block port ≡ (attributes_of diagram).type_at driven.0.from driven.0.from_port
    type_is = ap (λ (o : Option Edge). at_source o Logical (attributes_of diagram).type_at) driven.1

    module _ (places : Places) (place_of : ℕ → ℕ) (hubs : ℕ) (now : Circuit) (level : ℕ → ℕ) (spread : AreSpread diagram places) (operands : HaveOperands diagram places place_of hubs now level) where
      spread_at : places.offered block port element ≡ places.offered block port place
      spread_at = spread.offered block b port element driven.0 at driven.1

      pub offered_word : HasWord now.nets (places.offered block port element)
          (width_of (type_into diagram (attributes_of diagram) block port))
          (is_signed (type_into diagram (attributes_of diagram) block port))
      offered_word =
          let word = operands.there block b port place driven.0 at showing from to driven.1 place_below in
          let e : ◌≡◌ {A = FxType} (type_into diagram (attributes_of diagram) block port) ((attributes_of diagram).type_at driven.0.from driven.0.from_port) = type_is in
          record {
            net = word.net;
            is = ap (slice_get now.nets) spread_at ∙ word.is;
            wide = word.wide ∙ ap width_of (sym e);
            sign = word.sign ∙ ap is_signed (sym e);
          }

      pub offered_low : ArePlacesBelow diagram place_of → level (places.offered block port element) ≤ 3 * length diagram.blocks + 1
      offered_low below_all =
          let low = operands.levels block b port place driven.0 at showing from to driven.1 place_below in
          let source = below_all driven.0.from (driver_there diagram checked block port driven.0 (sym driven.1)) in
          let same : level (places.offered block port element) ≡ level (places.offered block port place) = ap level spread_at in
          omega (arith, low, source, same)

-- so what shared operations read has its words
pub operands_offer : WidthsAreOfEdges → (diagram : Diagram) → IsChecked diagram
    → (plan : Resolved) (offered : ℕ → ℕ → ℕ → ℕ) (places : Places) (place_of : ℕ → ℕ) (hubs : ℕ) (now : Circuit)
    (level : ℕ → ℕ) → ((block port element : ℕ)
    → places.offered block port element ≡ offered block port element) → AreSpread diagram places
    → HaveOperands diagram places place_of hubs now level → OffersWords diagram plan offered now
operands_offer widths diagram checked plan offered places place_of hubs now level same spread operands = record {
  each = λ block b port element at shared from to below.
      subst (λ (n : ℕ). HasWord now.nets n (width_of (type_into diagram (attributes_of diagram) block port))
      (is_signed (type_into diagram (attributes_of diagram) block port))) (same block port element)
      (offered_word widths diagram checked plan block b port element at shared from to below places place_of hubs now level spread operands);
}
