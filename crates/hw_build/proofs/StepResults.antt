-- What the steps of lines and of shared multipliers leave is all that elements ask for, and what these leave is all that ports do.
use Rattle.std.proofs.Common.{◌≡◌, ℕ, ◌+◌, ◌<◌, inl, inr, List, length, Some, ap, sym, ◌∙◌, refl, arith, length-append}
use Rattle.std.specs.Prelude.{slice_get}
use Rattle.std.proofs.lemmas.Bool.{cases_lt}
use Rattle.std.proofs.lemmas.Option.{none-some}
use Rattle.dg_model.specs.Attributes.{attributes_of}
use Rattle.dg_model.specs.Laws.{ColumnsComeBack}
use Rattle.dg_model.specs.Wired.{IsWired}
use Rattle.hw_net.specs.declared.netlist.Net.{Net}
use Rattle.hw_net.specs.declared.netlist.NetKind.{NetKind}
use Rattle.hw_net.specs.declared.netlist.NetPort.{NetPort}
use Rattle.hw_net.specs.Circuit.{Circuit}
use Rattle.hw_net.specs.Netlist.{reads}
use Rattle.hw_net.proofs.Growth.{still-there, stood-there}
use Rattle.math_list.proofs.Places.{held}
use Rattle.hw_build.specs.declared.blocks.Setting.{Setting}
use Rattle.hw_build.specs.Places.{Places}
use Rattle.hw_build.specs.inner.BuildSteps.{IsEmptyFor}
use Rattle.hw_build.specs.inner.DesignTimes.{times_for}
use Rattle.hw_build.specs.inner.ElementStep.{ArePlacedInOrder, IsReady}
use Rattle.hw_build.specs.inner.HubPlaces.{hub_at, hub_of, HasHubs}
use Rattle.hw_build.specs.inner.LinePlaces.{line_places}
use Rattle.hw_build.specs.inner.LineStep.{AreLinesPut}
use Rattle.hw_build.specs.inner.ElementLoop.{place_in, diagram_of, IsBegun}
use Rattle.hw_build.specs.inner.MultiplierStep.{AddsProducts}
use Rattle.hw_build.specs.inner.Operands.{offered_at, AreLinePlaces}
use Rattle.hw_build.specs.inner.Start.{IsReadied}
use Rattle.hw_build.specs.inner.ResultNets.{product_net}
use Rattle.hw_build.specs.inner.Tally.{ReadThere}
use Rattle.hw_build.proofs.HubsOnly.{fresh_other}
use Rattle.hw_build.proofs.StepsTogether.{plain_kind, few_inputs, ready, shared_readied}
use Rattle.hw_build.proofs.BlockOrder.{lines_are_placed}

module _ (setting : Setting) (start hubbed lined shared : Circuit)
    (order : ArePlacedInOrder (diagram_of setting) (place_in setting.design.checked.now.order))
    (empty : IsEmptyFor setting.design start)
    (hubs : HasHubs (diagram_of setting) start hubbed setting.firsts.now)
    (lines : AreLinesPut (diagram_of setting) setting.design.plan.now
    (times_for setting.design) hubbed lined setting.firsts.now setting.operands.now)
    (multiplied : AddsProducts (diagram_of setting) setting.design.plan.now (times_for setting.design)
    (offered_at (diagram_of setting) setting.operands.now) lined shared setting.products.now) where
  abbrev Ready : Places → Type 0
  Ready places = (level : ℕ → ℕ) × IsReady (diagram_of setting) setting.design.plan.now (times_for setting.design) places (place_in setting.design.checked.now.order) shared level

  ready_at : (places : Places) → AreLinePlaces (diagram_of setting) setting.firsts.now setting.operands.now places
      → ((block element : ℕ) → places.product block element ≡ product_net setting.products.now block element)
      → Ready places
  ready_at places placed product_is = (
    _,
    ready (diagram_of setting) setting.design.plan.now (times_for setting.design)
        (place_in setting.design.checked.now.order) order setting.firsts.now setting.operands.now
        setting.products.now start hubbed lined shared (ap (λ (c : Circuit). c.nets) empty)
        (ap (λ (c : Circuit). c.inputs) empty) (ap (λ (c : Circuit). c.outputs) empty)
        (ap (λ (c : Circuit). c.labels) empty) hubs lines multiplied places placed product_is,
  )

  -- the nets that readers name stay so far
  kept : (k : ℕ) (net : Net) → slice_get hubbed.nets k ≡ Some net → slice_get shared.nets k ≡ Some net
  kept k net at = still-there lined shared k net multiplied.extends (still-there hubbed lined k net lines.extends at)

  read_there : IsWired (diagram_of setting) → ColumnsComeBack → ReadThere shared.nets
  read_there wired back = record {
    each = λ k net i read at reads_it. elim (cases_lt k (length hubbed.nets)) [
      | inl less ↦
          let here = stood-there hubbed lined k net lines.extends less (stood-there lined shared k net multiplied.extends (inside_lined k less) at) in
          elim (plain_kind (diagram_of setting) start hubbed setting.firsts.now hubs k net here) [
            | inl input ↦ absurd (none-some read (ap (λ (kind : NetKind). slice_get (reads kind) i) (sym input.1) ∙ reads_it))
            | inr resize ↦ absurd (none-some read (ap (λ (kind : NetKind). slice_get (reads kind) i) (sym resize) ∙ reads_it))
          ]
      | inr past ↦
          let size = hubs.size in
          elim ((ready_at with_products placed (λ block element. refl)).1.way.sound.each k net at) [
            | inl waits ↦ let high = waits.1 in absurd (omega (arith, high, size, past))
            | inr is ↦ held (λ (r : ℕ). r < length shared.nets) (reads net.kind) i read is.there reads_it
          ]
    ];
  }
    where
      with_products : Places
      with_products = record (line_places (diagram_of setting) setting.firsts.now setting.operands.now) { product = product_net setting.products.now }

      placed : AreLinePlaces (diagram_of setting) setting.firsts.now setting.operands.now with_products
      placed = let own = lines_are_placed (diagram_of setting) setting.firsts.now setting.operands.now wired back in
          record {
            input = own.input;
            after = own.after;
            offered =
                own.offered;
            enable = own.enable;
            first = own.first;
          }

      inside_lined : (k : ℕ) → k < length hubbed.nets → k < length lined.nets
      inside_lined k low = let e : length lined.nets ≡ length hubbed.nets + length lines.extends.added =
          ap (λ (nets : List Net). length nets) lines.extends.nets
          ∙ length-append hubbed.nets lines.extends.added in omega (arith, e, low)

  readied : IsReadied (diagram_of setting) setting.design.plan.now (times_for setting.design) shared
  readied = shared_readied (diagram_of setting) setting.design.plan.now (times_for setting.design)
      (place_in setting.design.checked.now.order) order setting.firsts.now setting.operands.now setting.products.now
      start hubbed lined shared (ap (λ (c : Circuit). c.nets) empty) (ap (λ (c : Circuit). c.inputs) empty)
      (ap (λ (c : Circuit). c.outputs) empty) (ap (λ (c : Circuit). c.labels) empty) hubs lines multiplied

  pub begun : IsWired (diagram_of setting) → ColumnsComeBack → IsBegun setting shared
  begun wired back = record {
    cycles = multiplied.extends.cycles ∙ lines.extends.cycles ∙ hubs.extends.cycles ∙ ap (λ (c : Circuit). c.cycles) empty;
    few =
        let few = few_inputs (diagram_of setting) setting.design.plan.now (times_for setting.design)
        (place_in setting.design.checked.now.order) order setting.firsts.now setting.operands.now
        setting.products.now start hubbed lined shared (ap (λ (c : Circuit). c.nets) empty)
        (ap (λ (c : Circuit). c.inputs) empty) (ap (λ (c : Circuit). c.outputs) empty)
        (ap (λ (c : Circuit). c.labels) empty) hubs lines multiplied in
        let e : length shared.inputs ≡ length lined.inputs = ap (λ (ports : List NetPort). length ports) multiplied.extends.inputs in
        omega (arith, few, e);
    fresh = λ block b port element shown other. kept (hub_at setting.firsts.now block port element)
        (hub_of ((attributes_of (diagram_of setting)).type_at block 1))
        (fresh_other
        (diagram_of setting) start hubbed setting.firsts.now hubs block b port element shown other);
    there = read_there wired back;
    each = λ places fits.
        let is = ready_at places fits.lines fits.product_is in
        record {
          level = is.0;
          way = is.1.way;
          levels = is.1.same;
          late = is.1.late.each;
          products = is.1.products;
          low = is.1.low;
          units = is.1.units;
        };
    readied = readied;
    unnamed = readied.labels;
  }
