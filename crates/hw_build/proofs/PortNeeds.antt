-- When all elements stand, all is there that ports ask for.
use Rattle.std.proofs.Common.{◌≡◌, ℕ, ◌+◌, ◌≤◌, List, length, Contains, ap, sym, ◌∙◌, subst, refl, arith}
use Rattle.std.specs.Prelude.{slice_get}
use Rattle.dg_model.specs.declared.diagram.Diagram.{Diagram}
use Rattle.dg_model.specs.Attributes.{attributes_of}
use Rattle.dg_tables.specs.Laws.{IsOrdered}
use Rattle.hw_net.specs.declared.netlist.Net.{Net}
use Rattle.hw_net.specs.declared.netlist.NetLabel.{NetLabel}
use Rattle.hw_net.specs.Circuit.{Circuit}
use Rattle.hw_net.specs.Frames.{register_count}
use Rattle.hw_sched.specs.Chained.{chained, registers_of_lines, uses_in_all}
use Rattle.hw_sched.specs.Slots.{shared_operations, unit_of}
use Rattle.hw_sched.specs.Storage.{registers_in_all}
use Rattle.hw_build.specs.declared.blocks.Setting.{Setting}
use Rattle.hw_build.specs.Built.{counter_count}
use Rattle.hw_build.specs.Places.{Places}
use Rattle.hw_build.specs.Serving.{Factors}
use Rattle.hw_build.specs.inner.DesignTimes.{times_for}
use Rattle.hw_build.specs.inner.AllElements.{IsFilled}
use Rattle.hw_build.specs.inner.FrameCounts.{HasMoreRegisters}
use Rattle.hw_build.specs.inner.HubPlaces.{before, hubs_in_all}
use Rattle.hw_build.specs.inner.ElementLoop.{place_in, places_of, diagram_of, roots_of, IsSet, HasElements}
use Rattle.hw_build.specs.inner.MarkNames.{hub_of_mark}
use Rattle.hw_build.specs.inner.ResultNets.{product_net}
use Rattle.hw_build.specs.inner.Tally.{hub_products, hub_registers}
use Rattle.hw_build.specs.inner.Units.{HaveUnits}
use Rattle.hw_build.specs.inner.Spots.{Spots}
use Rattle.hw_build.proofs.LoopEnd.{pipelines_stand, multiplications_stand}
use Rattle.hw_build.proofs.FrameCounts.{frame_stands, more_goes, registers_then, few_registers}
use Rattle.hw_build.proofs.Growth.{later_on}
use Rattle.hw_build.proofs.LabelMarks.{apart_are}
use Rattle.hw_build.proofs.Totals.{total_registers, total_products}

module _ (setting : Setting) (set : IsSet setting) (now : Circuit) (spots : Spots)
    (has : HasElements setting now spots)
    (ordered : IsOrdered setting.design.checked.now.diagram setting.design.checked.now.order)
    (roots_below : roots_of setting ≤ hubs_in_all (diagram_of setting)) where
  abbrev drawn : Diagram
  drawn = setting.design.checked.now.diagram

  abbrev named : Places
  named = places_of drawn setting.firsts.now setting.operands.now (product_net setting.products.now) spots

  units : HaveUnits drawn setting.design.plan.now (times_for setting.design) named (hubs_in_all drawn) (hubs_in_all drawn) now
  units = record {
    each = λ number o b is at.
        let unit = (has.begun.each named has.fits).units.each number o b is at in
        record {
          factors = unit.factors;
          at = ap (λ (ms : List Factors). slice_get ms (unit_of drawn (attributes_of drawn) setting.design.plan.now (times_for setting.design) number o)) has.tally.shared ∙ unit.at;
          has = λ period moves. later_on (roots_of setting) (hubs_in_all drawn) (hubs_in_all drawn) has.start now _ roots_below has.since (unit.has period moves);
        };
  }

  more : HasMoreRegisters drawn setting.design.plan.now (times_for setting.design) has.start now (registers_in_all drawn (attributes_of drawn) setting.design.plan.now)
  more = more_goes drawn setting.design.plan.now (times_for setting.design) (roots_of setting)
      (hubs_in_all drawn) has.start now
      (registers_in_all drawn (attributes_of drawn) setting.design.plan.now) has.since
      (let few = has.tally.registers in
      let all = total_registers drawn setting.design.plan.now set.designed.scheduled.planned.allowed setting.design.checked.now.order ordered in
      let e : before (hub_registers drawn setting.design.plan.now) (length spots.entries)
      ≡ before (hub_registers drawn setting.design.plan.now) (hubs_in_all drawn) =
      ap (before (hub_registers drawn setting.design.plan.now)) has.size in
      omega (arith, few, all, e))
      (λ k net frame low at counts.
      let is = has.marks.frames k frame low (record { net = net; is = at; counts = counts }) in
      frame_stands drawn setting.design.plan.now (times_for setting.design) is.0 frame is.1)

  few : register_count now.nets + counter_count now.nets ≤ chained drawn (attributes_of drawn) setting.design.plan.now (times_for setting.design)
  few =
      let lines_count : ℕ = registers_of_lines (uses_in_all drawn (attributes_of drawn) setting.design.plan.now (times_for setting.design)) in
      let shared_count : ℕ = length (shared_operations drawn (attributes_of drawn) setting.design.plan.now) in
      let blocks_count : ℕ = registers_in_all drawn (attributes_of drawn) setting.design.plan.now in
      let none : length has.begun.readied.start.nets ≡ 0 = ap (λ (nets : List Net). length nets) has.begun.readied.none in
      let all = registers_then drawn setting.design.plan.now
      (times_for setting.design) has.begun.readied.start has.start now (lines_count + shared_count) blocks_count
      (omega (arith, none)) has.begun.readied.registers more in
      let sum : lines_count + shared_count + blocks_count ≡ lines_count + (blocks_count + shared_count) = omega arith in
      few_registers drawn setting.design.plan.now
      (times_for setting.design) has.begun.readied.start now has.begun.readied.none has.way.differ
      (subst (HasMoreRegisters drawn setting.design.plan.now
      (times_for setting.design) has.begun.readied.start now) sum all)

  pub filled : IsFilled drawn setting.design.plan.now (times_for setting.design) setting.firsts.now named (place_in setting.design.checked.now.order) now
  filled = record {
    no_inputs = has.marks.inputs ∙ has.begun.readied.inputs;
    no_outputs = has.marks.outputs ∙ has.begun.readied.outputs;
    hubs = record { input = has.fits.lines.input; after = has.fits.lines.after };
    level = has.level;
    way = has.way;
    units = units;
    shared = ap (λ (ms : List Factors). length ms) has.tally.shared ∙ has.begun.readied.shared;
    own =
        let own = has.tally.own in
        let bare = has.begun.readied.own in
        let all = total_products drawn setting.design.plan.now set.designed.scheduled.planned.allowed setting.design.checked.now.order ordered in
        let e : before (hub_products drawn setting.design.plan.now) (length spots.entries)
        ≡ before (hub_products drawn setting.design.plan.now) (hubs_in_all drawn) =
        ap (before (hub_products drawn setting.design.plan.now)) has.size in
        omega (arith, own, bare, all, e);
    multiplied = multiplications_stand setting set now spots has now refl (λ label is. is) ordered;
    pipes = record { each = λ later nets labels outputs. pipelines_stand setting set now spots has later nets (λ label is. subst (λ (ls : List NetLabel). Contains ls label) (sym labels) is) outputs };
    labels = apart_are (hub_of_mark setting.firsts.now) now.labels (length now.nets) (length now.nets) (length spots.entries) (has.marks.labels has.begun.readied.labels) (omega arith);
    few = few;
  }
