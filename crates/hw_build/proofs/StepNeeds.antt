-- What the steps of a building ask of each other, and what they leave, by what a netlist is built from.
use Rattle.std.proofs.Common.{◌≡◌, ℕ, List, length, map, ap, sym, ◌∙◌, subst, refl, arith}
use Rattle.std.proofs.lemmas.List.{length-map}
use Rattle.dg_model.specs.declared.diagram.Diagram.{Diagram}
use Rattle.dg_model.specs.declared.resolved.Resolved.{Resolved}
use Rattle.dg_model.specs.Attributes.{attributes_of}
use Rattle.dg_model.specs.Checked.{IsChecked}
use Rattle.dg_model.specs.Laws.{WidthsAreOfEdges, InputsAreListed, OutputsAreListed, ColumnsComeBack}
use Rattle.dg_model.specs.Loop.{IsOrder}
use Rattle.dg_model.specs.RootElements.{RootElement, root_inputs, root_outputs}
use Rattle.dg_model.specs.Wires.{width_into}
use Rattle.hw_net.specs.Circuit.{Circuit}
use Rattle.dg_tables.specs.Laws.{IsOrdered}
use Rattle.hw_sched.specs.Laws.{MovingHavePeriods, PeriodsAreAbove, PeriodsAreShort}
use Rattle.hw_sched.specs.Ready.{declared_latency}
use Rattle.hw_sched.specs.Slots.{Timing as Times}
use Rattle.hw_build.specs.declared.design.Design.{Design}
use Rattle.hw_build.specs.declared.blocks.Setting.{Setting}
use Rattle.hw_names.specs.declared.names.Names.{Names}
use Rattle.hw_build.specs.declared.operands.Operands.{Operands}
use Rattle.hw_names.specs.Names.{own_names}
use Rattle.hw_build.specs.inner.BuildSteps.{IsEmptyFor, AreInputBlocks, IsFilledFor, IsDoneFor}
use Rattle.hw_build.specs.inner.DesignTimes.{times_for, IsDesigned}
use Rattle.hw_build.specs.inner.Done.{IsDone}
use Rattle.hw_build.specs.inner.Factors.{OffersWords}
use Rattle.hw_build.specs.inner.HubPlaces.{hub_at, hubs_in_all, HasHubs}
use Rattle.hw_build.specs.inner.LinePlaces.{line_places}
use Rattle.hw_build.specs.inner.LineStep.{AreLinesPut}
use Rattle.hw_build.specs.inner.ElementLoop.{IsSet, IsBegun, HasElements}
use Rattle.hw_build.specs.inner.MultiplierStep.{AddsProducts}
use Rattle.hw_build.specs.inner.Operands.{offered_at}
use Rattle.hw_build.specs.inner.RootOutputs.{IsSmall, AreOutputBlocks, AddsOutputs}
use Rattle.hw_build.specs.inner.ResultNets.{AreProducts}
use Rattle.hw_build.specs.inner.PortSteps.{ArePortsFor, AddsInputPorts}
use Rattle.hw_build.specs.inner.Spots.{Spots}
use Rattle.hw_names.specs.Taken.{AreTaken}
use Rattle.hw_build.proofs.PortNeeds.{filled as stand_filled}
use Rattle.hw_build.proofs.StepResults.{begun}
use Rattle.hw_build.proofs.Delivery.{is_done}
use Rattle.hw_build.proofs.RootFirsts.{inputs_first, outputs_first}
use Rattle.hw_build.proofs.PortOffers.{operands_offer}
use Rattle.hw_build.proofs.BlockOrder.{in_order, lines_are_placed}
use Rattle.hw_build.proofs.WithPorts.{with_ports}

-- what lines offer to shared operations has their words
pub words_stand : (diagram : Diagram) (plan : Resolved) (times : Times) (hubbed lined : Circuit)
    (firsts : List (List ℕ)) (operands : Operands) → IsChecked diagram → WidthsAreOfEdges → ColumnsComeBack
    → AreLinesPut diagram plan times hubbed lined firsts operands
    → OffersWords diagram plan (offered_at diagram operands) lined
words_stand diagram plan times hubbed lined firsts operands checked widths back lines =
    let way = lines.way (line_places diagram firsts operands) (λ block. 0) (lines_are_placed diagram firsts operands checked.wired back) in
    operands_offer widths diagram checked plan (offered_at diagram operands) (line_places diagram firsts operands)
    (λ block. 0) (hubs_in_all diagram) lined way.level
    (λ block port element. refl) way.is.facts.spread way.is.operands

-- the netlist at which elements begin
pub steps_begin : (setting : Setting) (start hubbed lined shared : Circuit)
    → IsChecked setting.design.checked.now.diagram
    → IsOrder setting.design.checked.now.diagram
    (attributes_of setting.design.checked.now.diagram) setting.design.checked.now.order → ColumnsComeBack
    → IsEmptyFor setting.design start
    → HasHubs setting.design.checked.now.diagram start hubbed setting.firsts.now
    → AreLinesPut setting.design.checked.now.diagram setting.design.plan.now
    (times_for setting.design) hubbed lined setting.firsts.now setting.operands.now
    → AddsProducts setting.design.checked.now.diagram setting.design.plan.now (times_for setting.design)
    (offered_at setting.design.checked.now.diagram setting.operands.now) lined shared setting.products.now
    → IsBegun setting shared
steps_begin setting start hubbed lined shared checked ordered back empty hubs lines multiplied =
    begun setting start hubbed lined shared
    (in_order setting.design.checked.now.diagram setting.design.checked.now.order ordered) empty hubs lines
    multiplied checked.wired back

pub steps_set : (setting : Setting) (start hubbed : Circuit) → IsDesigned setting.design
    → HasHubs setting.design.checked.now.diagram start hubbed setting.firsts.now
    → AreProducts setting.design.checked.now.diagram setting.design.plan.now setting.products.now
    → IsSet setting
steps_set setting start hubbed designed hubs products = record { designed = designed; stood = record { earlier = start; later = hubbed; has = hubs }; products_are = products }

-- all steps up to the ports
pub steps_fill : (setting : Setting) (start hubbed now : Circuit) (spots : Spots) → IsSet setting
    → IsOrdered setting.design.checked.now.diagram setting.design.checked.now.order → InputsAreListed
    → OutputsAreListed → HasHubs setting.design.checked.now.diagram start hubbed setting.firsts.now
    → HasElements setting now spots
    → IsFilledFor setting.design now setting.firsts.now
steps_fill setting start hubbed now spots set ordered inputs outputs hubs has = record {
  places = _;
  place_of = _;
  filled = stand_filled setting set now spots has ordered (omega arith);
  inputs = inputs_first setting.design.checked.now.diagram start hubbed setting.firsts.now hubs ordered.checked inputs;
  outputs = outputs_first setting.design.checked.now.diagram start hubbed setting.firsts.now hubs ordered.checked outputs;
}

-- as many ports as elements
counted_blocks : (elements : List RootElement) (blocks : List ℕ) → blocks ≡ map (λ (e : RootElement). e.block) elements → length blocks ≡ length elements
counted_blocks elements blocks are = ap (λ (xs : List ℕ). length xs) are ∙ length-map elements (λ (e : RootElement). e.block)

-- and with the ports
pub ports_finish : (design : Design) (now middle later : Circuit) (firsts : List (List ℕ)) (inputs outputs : List ℕ)
    (old names new : Names) → IsDesigned design → InputsAreListed → OutputsAreListed → MovingHavePeriods
    → PeriodsAreAbove → PeriodsAreShort → IsSmall design → IsFilledFor design now firsts
    → AreInputBlocks design inputs → AreOutputBlocks design outputs
    → AreTaken old own_names → AddsInputPorts design.checked.now.diagram old names now middle (length inputs)
    → AddsOutputs design firsts names new middle later (length outputs) → IsDoneFor design later
ports_finish design now middle later firsts inputs outputs old names new designed inputs_listed outputs_listed moving above short small all are_inputs are_outputs taken ins outs =
    let diagram : Diagram = design.checked.now.diagram in
    let grown : later ≡ with_ports now middle.inputs later.outputs = outs.grown ∙ ap (λ (c : Circuit). record c { outputs = later.outputs }) ins.grown in
    let in_ports = subst (λ (n : ℕ). ArePortsFor diagram (root_inputs diagram (attributes_of diagram))
    (λ block. (attributes_of diagram).width_at block 1) (λ k e. k) (λ block. 0) old names middle.inputs n)
    (counted_blocks (root_inputs diagram (attributes_of diagram)) inputs are_inputs) ins.ports in
    let out_ports = subst (λ (n : ℕ). ArePortsFor diagram (root_outputs diagram (attributes_of diagram))
    (λ block. width_into diagram (attributes_of diagram) block 1) (λ k e. hub_at firsts e.block 1 e.element)
    (declared_latency diagram (attributes_of diagram) design.plan.now (times_for design)) names new
    later.outputs n)
    (counted_blocks (root_outputs diagram (attributes_of diagram)) outputs are_outputs) outs.ports
    in
    record {
      places = all.places;
      done = subst (λ (c : Circuit). IsDone diagram design.plan.now (times_for design) all.places (hubs_in_all diagram) c) (sym grown)
          (is_done diagram design.plan.now (times_for design) firsts all.places all.place_of now all.filled
          designed.scheduled.checked inputs_listed outputs_listed old names new middle.inputs later.outputs
          in_ports out_ports taken all.inputs designed.scheduled.planned moving above short small);
    }
