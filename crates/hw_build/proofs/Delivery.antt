-- The ports of a netlist are those that it owes, and it can be emitted.
use Rattle.std.proofs.Common.{◌≡◌, ℕ, zero, suc, ◌^◌, ◌<◌, List, [], ◌∷◌, ◌++◌, length, Contains, Some, ap, sym, ◌∙◌, subst, refl, arith}
use Rattle.std.specs.Prelude.{Option, slice_get, get_or, true}
use Rattle.std.proofs.lemmas.Option.{none-some, slice_get_within, slice_get-get_or}
use Rattle.fx_type.specs.declared.kind.FxType.{FxType}
use Rattle.fx_type.specs.FxType.{is_signed, width_of}
use Rattle.dg_model.specs.declared.diagram.Diagram.{Diagram}
use Rattle.dg_model.specs.declared.diagram.Block.{Block}
use Rattle.dg_model.specs.declared.kind.Kind.{Kind}
use Rattle.dg_model.specs.declared.kind.Kind.TheVariants.{Inport, Outport}
use Rattle.dg_model.specs.declared.resolved.Resolved.{Resolved}
use Rattle.dg_model.specs.Attributes.{attributes_of}
use Rattle.dg_model.specs.Checked.{IsChecked}
use Rattle.dg_model.specs.Library.{row_of}
use Rattle.dg_model.specs.Laws.{InputsAreListed, OutputsAreListed}
use Rattle.dg_model.specs.PlanOf.{IsPlanOf}
use Rattle.dg_model.specs.RootElements.{RootElement, root_element, root_inputs, root_outputs}
use Rattle.dg_model.specs.Wired.{root_input, root_output}
use Rattle.dg_model.specs.Wires.{width_into}
use Rattle.hw_latency.specs.Weight.{samples}
use Rattle.hw_net.specs.declared.netlist.NetPort.{NetPort}
use Rattle.hw_net.specs.Circuit.{Circuit}
use Rattle.hw_net.specs.Netlist.{HasWord}
use Rattle.hw_sched.specs.Laws.{is_moving, MovingHavePeriods, PeriodsAreAbove, PeriodsAreShort}
use Rattle.hw_sched.specs.Ready.{declared_latency}
use Rattle.hw_sched.specs.Slots.{Timing as Times}
use Rattle.hw_sched.specs.Storage.{KeepsSize}
use Rattle.hw_net.specs.Emittable.{IsPeriod, ArePorts, IsEmittable}
use Rattle.hw_names.specs.declared.names.Names.{Names}
use Rattle.hw_build.specs.Places.{Places}
use Rattle.hw_build.specs.Ports.{HasPorts}
use Rattle.hw_names.specs.Names.{own_names}
use Rattle.hw_build.specs.inner.Done.{IsDone}
use Rattle.hw_build.specs.inner.AllElements.{IsFilled}
use Rattle.hw_build.specs.inner.HubPlaces.{hub_at, hubs_in_all}
use Rattle.hw_build.specs.inner.PortSteps.{ArePortsFor, AreInputFirsts}
use Rattle.hw_names.specs.Taken.{AreTaken}
use Rattle.hw_build.proofs.DoneNetlist.{finished}
use Rattle.hw_build.proofs.PortNames.{named_both, port_names, port_names_differ, wants_are}
use Rattle.math_list.proofs.Sums.{greatest_at}
use Rattle.hw_build.proofs.WithPorts.{with_ports, way_ported, units_ported, multiplied_ported, output_shown}
use Rattle.hw_build.proofs.Runnable.{has_counters}

-- ---- periods

pub input_moves : (kind : Kind) (number : ℕ) → root_input (row_of kind).place.role ≡ Some number → is_moving (row_of kind).timing.inherits ≡ true
input_moves (Inport own width) number is = refl
input_moves _ number is = absurd (none-some number is)

output_moves : (kind : Kind) (number : ℕ) → root_output (row_of kind).place.role ≡ Some number → is_moving (row_of kind).timing.inherits ≡ true
output_moves (Outport own) number is = refl
output_moves _ number is = absurd (none-some number is)

module _ (diagram : Diagram) (checked : IsChecked diagram) (moving : MovingHavePeriods) (above : PeriodsAreAbove) (short : PeriodsAreShort) where
  period_is : (block : ℕ) (b : Block) → slice_get diagram.blocks block ≡ Some b → is_moving (row_of b.kind).timing.inherits ≡ true → IsPeriod (samples ((attributes_of diagram).period_at block))
  period_is block b at moves =
      let has = moving diagram block b checked at moves in
      let same : samples ((attributes_of diagram).period_at block) ≡ has.0 = ap samples has.1 in
      let low = above diagram block has.0 checked has.1 in
      let high = short diagram block has.0 checked has.1 in
      record { some = omega (arith, same, low); most = omega (arith, same, high) }

  input_period : InputsAreListed → (k : ℕ) (e : RootElement) → slice_get (root_inputs diagram (attributes_of diagram)) k ≡ Some e → IsPeriod (samples e.period)
  input_period listed k e at =
      let of = (listed diagram (attributes_of diagram) checked.wired).elements_of k e at in
      subst (λ (p : Option ℕ). IsPeriod (samples p)) (sym (ap (λ (x : RootElement). x.period) of.4)) (period_is e.block of.0 of.1 (input_moves of.0.kind e.number of.2))

  output_period : OutputsAreListed → (k : ℕ) (e : RootElement) → slice_get (root_outputs diagram (attributes_of diagram)) k ≡ Some e → IsPeriod (samples e.period)
  output_period listed k e at =
      let of = (listed diagram (attributes_of diagram) checked.wired).elements_of k e at in
      subst (λ (p : Option ℕ). IsPeriod (samples p)) (sym (ap (λ (x : RootElement). x.period) of.4)) (period_is e.block of.0 of.1 (output_moves of.0.kind e.number of.2))

-- a port of two lists is one of the first or of the second
both_ways : (inputs outputs : List NetPort) (P : NetPort → Type 0)
    → ((k : ℕ) (port : NetPort) → slice_get inputs k ≡ Some port → P port)
    → ((k : ℕ) (port : NetPort) → slice_get outputs k ≡ Some port → P port) → (port : NetPort)
    → Contains (inputs ++ outputs) port → P port
both_ways inputs outputs P one other port has = go inputs one has.0 (slice_get-get_or (inputs ++ outputs) has.0 port has.1 ∙ ap (λ (p : NetPort). Some p) has.2)
  where
    go : (inputs : List NetPort) → ((k : ℕ) (port : NetPort) → slice_get inputs k ≡ Some port → P port) → (k : ℕ) → slice_get (inputs ++ outputs) k ≡ Some port → P port
    go [] one k at = other k port at
    go (first ∷ inputs) one zero at = one 0 port at
    go (first ∷ inputs) one (suc k) at = go inputs (λ j p p_at. one (suc j) p p_at) k at

place_of_port : (ports : List NetPort) (port : NetPort) (has : Contains ports port) → slice_get ports has.0 ≡ Some port
place_of_port ports port has = slice_get-get_or ports has.0 port has.1 ∙ ap (λ (p : NetPort). Some p) has.2

module _ (diagram : Diagram) (plan : Resolved) (times : Times) (firsts : List (List ℕ)) (places : Places)
    (place_of : ℕ → ℕ) (now : Circuit) (filled : IsFilled diagram plan times firsts places place_of now)
    (checked : IsChecked diagram) (inputs_listed : InputsAreListed) (outputs_listed : OutputsAreListed)
    (old names new : Names) (inputs outputs : List NetPort)
    (ins : ArePortsFor diagram (root_inputs diagram (attributes_of diagram))
    (λ block. (attributes_of diagram).width_at block 1) (λ k e. k) (λ block. 0) old names inputs
    (length (root_inputs diagram (attributes_of diagram))))
    (outs : ArePortsFor diagram (root_outputs diagram (attributes_of diagram))
    (λ block. width_into diagram (attributes_of diagram) block 1) (λ k e. hub_at firsts e.block 1 e.element)
    (declared_latency diagram (attributes_of diagram) plan times) names new outputs
    (length (root_outputs diagram (attributes_of diagram))))
    (taken : AreTaken old own_names) where
  abbrev ported : Circuit
  ported = with_ports now inputs outputs

  -- the element of a port
  input_at : (k : ℕ) (port : NetPort) → slice_get inputs k ≡ Some port → (e : RootElement) × (slice_get (root_inputs diagram (attributes_of diagram)) k ≡ Some e)
  input_at k port at =
      let size = ins.size in
      let low = slice_get_within inputs k port at in (
        get_or (root_inputs diagram (attributes_of diagram)) k (root_element (attributes_of diagram) 0 0 0),
        slice_get-get_or (root_inputs diagram (attributes_of diagram)) k
            (root_element (attributes_of diagram) 0 0 0) (omega (arith, size, low)),
      )

  output_at : (k : ℕ) (port : NetPort) → slice_get outputs k ≡ Some port → (e : RootElement) × (slice_get (root_outputs diagram (attributes_of diagram)) k ≡ Some e)
  output_at k port at =
      let size = outs.size in
      let low = slice_get_within outputs k port at in (
        get_or (root_outputs diagram (attributes_of diagram)) k (root_element (attributes_of diagram) 0 0 0),
        slice_get-get_or (root_outputs diagram (attributes_of diagram)) k
            (root_element (attributes_of diagram) 0 0 0) (omega (arith, size, low)),
      )

  output_net : (k : ℕ) (e : RootElement) (port : NetPort)
      → slice_get (root_outputs diagram (attributes_of diagram)) k ≡ Some e → slice_get outputs k ≡ Some port
      → port.net ≡ places.after e.block 1 e.element
  output_net k e port e_at at =
      let shown = output_shown diagram checked.wired outputs_listed k e e_at in
      (outs.each k e port e_at at).net ∙ sym (filled.hubs.after e.block shown.b 1 e.element shown.shown)

  output_low : (port : NetPort) → Contains outputs port → port.net < hubs_in_all diagram
  output_low port has =
      let at = place_of_port outputs port has in
      let e = output_at has.0 port at in
      let shown = output_shown diagram checked.wired outputs_listed has.0 e.0 e.1 in
      let same = output_net has.0 e.0 port e.1 at in
      let low = filled.way.hubs_are.below e.0.block shown.b 1 e.0.element shown.shown in
      omega (arith, same, low)

  pub has_ports : HasPorts diagram plan times ported places
  has_ports = record {
    cycles = filled.way.facts.cycles;
    input_count = ins.size;
    inputs = λ k e port e_at at.
        let is = ins.each k e port e_at at in
        let net = filled.way.facts.inputs.each k e e_at in
        let here : places.input e.number e.element ≡ port.net = filled.hubs.input k e e_at ∙ sym is.net in
        record {
          net = sym here;
          word = subst (λ (n : ℕ). HasWord now.nets n (width_of e.type) (is_signed e.type)) here (record { net = net.net; is = net.is; wide = net.wide; sign = net.sign });
          period = is.period;
          latency_is = is.latency_is;
        };
    output_count = outs.size;
    outputs = λ k e port e_at at.
        let is = outs.each k e port e_at at in
        let shown = output_shown diagram checked.wired outputs_listed k e e_at in
        let here = output_net k e port e_at at in
        record {
          net = here;
          word = subst (λ (n : ℕ). HasWord now.nets n (width_of e.type) (is_signed e.type)) (sym here)
              (subst (λ (type : FxType). HasWord now.nets (places.after e.block 1 e.element) (width_of type)
              (is_signed type)) (sym shown.type_is)
              (filled.way.hubs_are.words e.block shown.b 1 e.element shown.shown));
          period = is.period;
          latency_is = is.latency_is;
        };
    names = record {
      given = named_both diagram (root_inputs diagram (attributes_of diagram)) (root_outputs diagram (attributes_of diagram)) _ _ _ _ _ _ old names new inputs outputs taken ins outs;
    };
  }

  module _ (first : AreInputFirsts diagram firsts) (planned : IsPlanOf diagram plan) (moving : MovingHavePeriods)
      (above : PeriodsAreAbove) (short : PeriodsAreShort) (small : KeepsSize diagram plan times) where
    number_small : (elements : List RootElement) (width_of : ℕ → ℕ) (number_of : ℕ → RootElement → ℕ)
        (latency_of : ℕ → ℕ) (one other : Names) (ports : List NetPort)
        → ArePortsFor diagram elements width_of number_of latency_of one other ports (length elements)
        → (k : ℕ) (e : RootElement) → slice_get elements k ≡ Some e → number_of k e < 2 ^ 32
    number_small elements width_of number_of latency_of one other ports are k e at =
        let size = are.size in
        let low = slice_get_within elements k e at in
        let port : NetPort = get_or ports k no_port in
        let is = are.each k e port at (slice_get-get_or ports k no_port (omega (arith, size, low))) in
        subst (λ (n : ℕ). n < 2 ^ 32) is.net is.small
      where
        no_port : NetPort
        no_port = record { name = []; net = 0; period = 0; latency = 0 }

    input_small : (k : ℕ) (e : RootElement) → slice_get (root_inputs diagram (attributes_of diagram)) k ≡ Some e → e.element < 2 ^ 64
    input_small k e at =
        let small = number_small _ _ _ _ _ _ _ ins k e at in
        let place = first.at k e at in
        omega (arith, small, place)

    output_small : (k : ℕ) (e : RootElement) → slice_get (root_outputs diagram (attributes_of diagram)) k ≡ Some e → e.element < 2 ^ 64
    output_small k e at = let small = number_small _ _ _ _ _ _ _ outs k e at in omega (arith, small)

    ports_are : ArePorts inputs outputs
    ports_are =
        let wants = wants_are diagram (root_inputs diagram (attributes_of diagram))
        (root_outputs diagram (attributes_of diagram)) (λ block. (attributes_of diagram).width_at block 1)
        (λ block. width_into diagram (attributes_of diagram) block 1) input_small output_small in
        record {
          names = port_names _ (inputs ++ outputs) wants has_ports.names.given;
          differ = port_names_differ _ (inputs ++ outputs) has_ports.names.given;
          periods = both_ways inputs outputs (λ (port : NetPort). IsPeriod port.period)
              (λ k port at. let e = input_at k port at in subst IsPeriod (sym (ins.each k e.0 port e.1 at).period) (input_period diagram checked moving above short inputs_listed k e.0 e.1))
              (λ k port at. let e = output_at k port at in subst IsPeriod (sym (outs.each k e.0 port e.1 at).period) (output_period diagram checked moving above short outputs_listed k e.0 e.1));
          latencies = λ port has.
              let at = place_of_port outputs port has in
              let e = output_at has.0 port at in
              let same = (outs.each has.0 e.0 port e.1 at).latency_is in
              let latest = greatest_at (λ (x : RootElement). declared_latency diagram (attributes_of diagram) plan times x.block) (root_outputs diagram (attributes_of diagram)) has.0 e.0 e.1 in
              let most = small.short in
              omega (arith, same, latest, most);
        }

    emittable : IsEmittable ported
    emittable = record {
      cycles = let same = filled.way.facts.cycles in let few = planned.few_clocks in omega (arith, same, few);
      counters = has_counters (hubs_in_all diagram) now (length (root_inputs diagram (attributes_of diagram))) filled.way.sound;
      ports = ports_are;
      labels = filled.labels;
    }

    pub is_done : IsDone diagram plan times places (hubs_in_all diagram) ported
    is_done = finished diagram plan times places place_of (hubs_in_all diagram) ported filled.level
        (let same = filled.way.facts.cycles in let some = planned.some_clocks in omega (arith, same, some))
        (way_ported now inputs outputs diagram plan times places place_of (hubs_in_all diagram) (hubs_in_all diagram) filled.level (length diagram.blocks) filled.way)
        (units_ported now inputs outputs diagram plan times places (hubs_in_all diagram) (hubs_in_all diagram) filled.units)
        filled.shared filled.own (multiplied_ported now inputs outputs diagram plan filled.multiplied) (filled.pipes.each ported refl refl output_low) has_ports emittable filled.few
