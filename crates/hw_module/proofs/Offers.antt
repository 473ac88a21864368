-- A netlist that is built for a diagram offers to its module what it needs.
use Rattle.std.proofs.Common.{◌≡◌, ℕ, zero, suc, ◌+◌, ◌*◌, ◌<◌, ◌≤◌, true, false, List, [], ◌∷◌, ◌++◌, map, length, drop, Option, Some, slice_get, ℤ, refl, ap, sym, ◌∙◌, subst, arith, append-nil}
use Rattle.std.proofs.Common.{length-append}
use Rattle.std.proofs.Math.Seq.{drop-append_seam}
use Rattle.std.proofs.lemmas.List.{map-append, length-map}
use Rattle.std.proofs.lemmas.Option.{get_or_from_slice_get, slice_get-get_or}
use Rattle.fx_type.specs.FxType.{is_signed, width_of}
use Rattle.dg_model.specs.declared.diagram.Diagram.{Diagram}
use Rattle.dg_model.specs.declared.diagram.Block.{Block}
use Rattle.dg_model.specs.declared.kind.Kind.{Kind}
use Rattle.dg_model.specs.declared.kind.Kind.TheVariants.{Inport, Outport, Constant, Ground, Sum, Gain, Product, Switch, Relational, Logic, Convert, Delay, Mux, Demux, RateTransition, Pass}
use Rattle.dg_model.specs.declared.kind.Kind.TheVariants.{EnableTest, EnOut, Terminator}
use Rattle.dg_model.specs.declared.resolved.Resolved.{Resolved}
use Rattle.dg_model.specs.Attributes.{attributes_of}
use Rattle.dg_model.specs.Hits.{Hits}
use Rattle.dg_model.specs.Laws.{OutputsAreListed}
use Rattle.dg_model.specs.Library.{row_of}
use Rattle.dg_model.specs.RootElements.{RootElement, root_inputs, root_outputs}
use Rattle.dg_model.specs.Signals.{Stimulus, Table}
use Rattle.dg_model.specs.Solves.{IsShown, shown_ports, shown_width}
use Rattle.dg_model.specs.Wired.{root_output}
use Rattle.dg_model.specs.Wires.{width_into}
use Rattle.hw_arcs.specs.Latencies.{latency_at}
use Rattle.hw_build.specs.Built.{IsBuilt}
use Rattle.hw_build.specs.Places.{IsRunOf}
use Rattle.hw_build.specs.Ports.{IsPort}
use Rattle.hw_build.specs.Serving.{Factors, AreOperands, clock_of}
use Rattle.dg_model.specs.PlanOf.{stages_at}
use Rattle.hw_build.specs.Times.{timing_by}
use Rattle.hw_latency.specs.Weight.{samples}
use Rattle.hw_net.specs.declared.netlist.Net.{Net}
use Rattle.hw_net.specs.declared.netlist.NetPort.{NetPort}
use Rattle.hw_net.specs.Circuit.{Circuit}
use Rattle.hw_net.specs.Netlist.{HasWord}
use Rattle.hw_net.specs.NetRows.{Inputs, Rows}
use Rattle.hw_net.specs.Registers.{Wave}
use Rattle.hw_sched.specs.Laws.{OperationsHavePeriods, MovingHavePeriods, is_moving}
use Rattle.hw_sched.specs.Ready.{declared_latency}
use Rattle.hw_sched.specs.Scheduled.{IsScheduled}
use Rattle.hw_sched.specs.Slots.{Timing}
use Rattle.hw_shows.specs.Shows.{Shows}
use Rattle.hw_shows.specs.Timing.{Timing as Times, latency_behind, ready_behind, ready_after}
use Rattle.vl_ast.specs.Header.{DataPort}
use Rattle.vl_emit.specs.Header.{data_port}
use Rattle.hw_net.specs.Products.{net_at}
use Rattle.hw_module.specs.Interface.{NamedElement, named, step_of, input_data, output_data}
use Rattle.hw_module.specs.inner.Offers.{Offers, HasPortsOf, OutputsShow}
use Rattle.hw_module.proofs.Carries.{InputsHavePeriods, named-get, step-by}
use Rattle.hw_module.proofs.NetCounts.{names-counted, product-at, products-counted}
use Rattle.hw_module.proofs.Lists.{get-below}

-- a root output moves on, has one port, is as wide as its input, and no registers stand behind it
record IsOutput (kind : Kind) : Type 0 where
  pub moves : is_moving (row_of kind).timing.inherits ≡ true
  pub plain : (row_of kind).hardware.pipelines ≡ false
  pub one : (outputs : ℕ) → shown_ports kind outputs ≡ 1
  pub wide : (diagram : Diagram) (block : ℕ) → shown_width diagram (attributes_of diagram) kind block 1 ≡ width_into diagram (attributes_of diagram) block 1

output-is : (kind : Kind) (number : ℕ) → root_output (row_of kind).place.role ≡ Some number → IsOutput kind
output-is (Outport own) number e = record { moves = refl; plain = refl; one = λ outputs. refl; wide = λ diagram block. refl }
output-is (Inport own width) number e = absurd (cc e)
output-is (Constant value) number e = absurd (cc e)
output-is Ground number e = absurd (cc e)
output-is (Sum negative accum) number e = absurd (cc e)
output-is (Gain value param) number e = absurd (cc e)
output-is Product number e = absurd (cc e)
output-is (Switch criterion threshold) number e = absurd (cc e)
output-is (Relational operator) number e = absurd (cc e)
output-is (Logic operator) number e = absurd (cc e)
output-is (Convert stored) number e = absurd (cc e)
output-is (Delay delay initial resets) number e = absurd (cc e)
output-is (Mux sizes) number e = absurd (cc e)
output-is (Demux sizes) number e = absurd (cc e)
output-is (RateTransition period initial) number e = absurd (cc e)
output-is (Pass width) number e = absurd (cc e)
output-is EnableTest number e = absurd (cc e)
output-is (EnOut resets initial) number e = absurd (cc e)
output-is Terminator number e = absurd (cc e)

-- a block without a pipeline shows its entries behind as before it
settled : (times : Times) (block clocks n p : ℕ) (period : Option ℕ) (entry : ℕ → ℤ) (wave : Wave) → period ≡ Some p → times.stages block ≡ 0
    → Shows clocks n times.cycles period (latency_behind times period block) (ready_after times block) entry wave
    → Shows clocks n times.cycles (Some p) (times.latency block) (times.ready block) entry wave
settled times block clocks n p period entry wave is none shows =
    let none_late : times.stages block * p ≡ 0 * p = ap (λ (s : ℕ). s * p) none in
    let late : latency_behind times period block ≡ times.latency block = ap (λ (o : Option ℕ). latency_behind times o block) is ∙ omega (arith, none_late) in
    let ready : ready_after times block ≡ times.ready block = ap (λ (s : ℕ). ready_behind s (times.ready block)) none in
    subst (λ (r : ℕ). Shows clocks n times.cycles (Some p) (times.latency block) r entry wave) ready
    (subst (λ (l : ℕ). Shows clocks n times.cycles (Some p) l (ready_after times block) entry wave) late
    (subst (λ (o : Option ℕ). Shows clocks n times.cycles o (latency_behind times period block) (ready_after times block) entry wave) is shows))

-- ports and named elements that agree place by place
zipped : (f : NetPort → DataPort) (g : NamedElement → DataPort) (ports : List NetPort) (more : List (List ℕ)) (roots : List RootElement) → length ports ≡ length roots
    → ((k : ℕ) (e : RootElement) (port : NetPort) → slice_get roots k ≡ Some e → slice_get ports k ≡ Some port → f port ≡ g (record { name = port.name; root = e }))
    → map f ports ≡ map g (named (map (λ (port : NetPort). port.name) ports ++ more) roots)
zipped f g [] [] [] same each = refl
zipped f g [] (name ∷ more) [] same each = refl
zipped f g [] more (root ∷ roots) same each = absurd (omega (arith, same))
zipped f g (port ∷ ports) more [] same each = absurd (omega (arith, same))
zipped f g (port ∷ ports) more (root ∷ roots) same each =
    let first = each 0 root port refl refl in
    let rest = zipped f g ports more roots (omega (arith, same)) (λ k e other at there. each (suc k) e other at there) in
    λ i. first i ∷ rest i

get-at : (nets : List Net) (k : ℕ) → k < length nets → slice_get nets k ≡ Some (net_at nets k)
get-at nets k below = slice_get-get_or nets k _ below

net-is : (nets : List Net) (k : ℕ) (net : Net) → slice_get nets k ≡ Some net → net_at nets k ≡ net
net-is nets k net is = get_or_from_slice_get nets k net _ is

-- a port stands as its element asks
port-is : (netlist : Circuit) (e : RootElement) (number latency : ℕ) (port : NetPort) (p : ℕ) → e.period ≡ Some p → IsPort netlist e number latency port
    → data_port netlist port ≡ record { name = port.name; width = width_of e.type; signed = is_signed e.type; period = step_of e; latency = latency }
port-is netlist e number latency port p is h =
    let same = net-is netlist.nets port.net h.word.net h.word.is in
    let wide : (net_at netlist.nets port.net).width ≡ width_of e.type = ap (λ (net : Net). net.width) same ∙ h.word.wide in
    let sign : (net_at netlist.nets port.net).signed ≡ is_signed e.type = ap (λ (net : Net). net.signed) same ∙ h.word.sign in
    let period : port.period ≡ step_of e = h.period ∙ ap samples is ∙ sym (step-by e p is) in
    let late = h.latency_is in
    λ i. record { name = port.name; width = wide i; signed = sign i; period = period i; latency = late i }

module _ (listed : OutputsAreListed) (moving : MovingHavePeriods) (have_periods : OperationsHavePeriods) {diagram : Diagram} {plan : Resolved} {timing : Timing} {netlist : Circuit}
    (scheduled : IsScheduled diagram plan timing) (periods : InputsHavePeriods diagram) (built : IsBuilt diagram plan timing netlist) where
  abbrev pub names : List (List ℕ)
  names = map (λ (port : NetPort). port.name) (netlist.inputs ++ netlist.outputs)

  abbrev ins : List RootElement
  ins = root_inputs diagram (attributes_of diagram)

  abbrev outs : List RootElement
  outs = root_outputs diagram (attributes_of diagram)

  -- a root output's block
  record IsOutputOf (e : RootElement) : Type 0 where
    pub b : Block
    pub shown : IsShown diagram (attributes_of diagram) e.block b 1 e.element
    pub period : ℕ
    pub at_period : (attributes_of diagram).period_at e.block ≡ Some period
    pub own_period : e.period ≡ Some period
    pub none : stages_at plan e.block ≡ 0

  no-stages : (block : ℕ) (b : Block) → slice_get diagram.blocks block ≡ Some b → (row_of b.kind).hardware.pipelines ≡ false → (count : ℕ) → stages_at plan block ≡ count → count ≡ 0
  no-stages block b at plain zero is = refl
  no-stages block b at plain (suc count) is = (let may = scheduled.planned.allowed.each block b at (omega (arith, is)) in absurd (cc (sym plain ∙ may.kind)))

  output-of : (place : ℕ) (e : RootElement) → slice_get outs place ≡ Some e → IsOutputOf e
  output-of place e is =
      let own = (listed diagram (attributes_of diagram) scheduled.checked.wired).elements_of place e is in
      let kind = output-is own.0.kind e.number own.2 in
      let p = moving diagram e.block own.0 scheduled.checked own.1 kind.moves in
      let one = kind.one own.0.outputs in
      let wide = kind.wide diagram e.block in
      let below = own.3 in
      record {
        b = own.0;
        shown = record { block_is = own.1; port_from = omega arith; port_to = omega (arith, one); element_below = subst (λ (w : ℕ). e.element < w) (sym wide) below };
        period = p.0;
        at_period = p.1;
        own_period = ap (λ (x : RootElement). x.period) own.4 ∙ p.1;
        none = no-stages e.block own.0 own.1 kind.plain (stages_at plan e.block) refl;
      }

  seam : drop (length ins) names ≡ map (λ (port : NetPort). port.name) netlist.outputs
  seam =
      let apart = map-append (λ (port : NetPort). port.name) netlist.inputs netlist.outputs in
      let size : length ins ≡ length (map (λ (port : NetPort). port.name) netlist.inputs) = sym built.ports.input_count ∙ sym (length-map netlist.inputs (λ (port : NetPort). port.name)) in
      ap (λ (n : ℕ). drop n names) size ∙ ap (drop (length (map (λ (port : NetPort). port.name) netlist.inputs))) apart
      ∙ drop-append_seam (map (λ (port : NetPort). port.name) netlist.inputs) (map (λ (port : NetPort). port.name) netlist.outputs)

  ports-are : HasPortsOf netlist names diagram plan timing
  ports-are = record {
    cycles = built.ports.cycles;
    enough = (let a = length-map (netlist.inputs ++ netlist.outputs) (λ (port : NetPort). port.name) in
        let b = length-append netlist.inputs netlist.outputs in
        let c = built.ports.input_count in
        omega (arith, a, b, c));
    inputs = zipped (data_port netlist) input_data netlist.inputs (map (λ (port : NetPort). port.name) netlist.outputs) ins built.ports.input_count
        (λ k e port at there. (let p = periods k e at in port-is netlist e (built.places.input e.number e.element) 0 port p.0 p.1 (built.ports.inputs k e port at there)))
        ∙ ap (λ (l : List (List ℕ)). map input_data (named l ins)) (sym (map-append (λ (port : NetPort). port.name) netlist.inputs netlist.outputs));
    outputs = zipped (data_port netlist) (output_data diagram plan timing) netlist.outputs [] outs built.ports.output_count
        (λ k e port at there. (let x = output-of k e at in
        port-is netlist e (built.places.after e.block 1 e.element)
        (declared_latency diagram (attributes_of diagram) plan timing e.block) port x.period x.own_period
        (built.ports.outputs k e port at there)))
        ∙ ap (λ (l : List (List ℕ)). map (output_data diagram plan timing) (named l outs)) (append-nil (map (λ (port : NetPort). port.name) netlist.outputs) ∙ sym seam);
  }

  outputs-show : OutputsShow netlist names diagram plan timing
  outputs-show stimulus n clocks inputs rows table run place port e there at =
      let root = named-get (drop (length ins) names) outs place e at in
      let x = output-of place e.root root in
      let h = built.ports.outputs place e.root port root there in
      let step : step_of e.root ≡ x.period = step-by e.root x.period x.own_period in
      let shown = (built.shows.elements stimulus n clocks inputs rows table run e.root.block x.b 1 e.root.element x.shown).after in
      let plain = settled (timing_by diagram plan timing) e.root.block clocks n x.period
      ((attributes_of diagram).period_at e.root.block) (table e.root.block 1 e.root.element)
      (rows (built.places.after e.root.block 1 e.root.element)) x.at_period x.none shown in
      let moved = subst (λ (k : ℕ). Shows clocks n plan.cycles (Some x.period)
      ((timing_by diagram plan timing).latency e.root.block)
      ((timing_by diagram plan timing).ready e.root.block) (table e.root.block 1 e.root.element) (rows k))
      (sym h.net) plain in
      subst (λ (p : ℕ). Shows clocks n plan.cycles (Some p) ((timing_by diagram plan timing).latency e.root.block)
      ((timing_by diagram plan timing).ready e.root.block) (table e.root.block 1 e.root.element)
      (rows port.net)) (sym step) moved

  word-of : (block element : ℕ) (b : Block) → IsShown diagram (attributes_of diagram) block b 1 element → (k : ℕ) → 1 ≤ k → k ≤ stages_at plan block
      → HasWord netlist.nets (built.places.stage block 1 element k) (width_of ((attributes_of diagram).type_at block 1)) (is_signed ((attributes_of diagram).type_at block 1))
  word-of block element b shown zero some most = absurd (omega (arith, some))
  word-of block element b shown (suc k) some most = built.pipelined.words block b element k shown (omega (arith, most))

  stage-shown : (block element period : ℕ) (b : Block) → IsShown diagram (attributes_of diagram) block b 1 element → (attributes_of diagram).period_at block ≡ Some period
      → (stimulus : Stimulus) (n clocks : ℕ) (inputs : Inputs) (rows : Rows) (table : Table) → IsRunOf diagram netlist stimulus n clocks inputs rows table → (k : ℕ) → 1 ≤ k → k ≤ stages_at plan block
      → Shows clocks n plan.cycles (Some period) (latency_at timing.lat block + k * period) 0 (table block 1 element) (rows (built.places.stage block 1 element k))
  stage-shown block element period b shown is stimulus n clocks inputs rows table run zero some most = absurd (omega (arith, some))
  stage-shown block element period b shown is stimulus n clocks inputs rows table run (suc k) some most =
      built.shows.stages stimulus n clocks inputs rows table run block b 1 element k period shown is
      (omega (arith, most))

  pub offers : Offers netlist names diagram plan timing
  offers = record {
    runs = built.runs;
    emittable = built.emittable;
    ports = ports-are;
    outputs = outputs-show;
    units = λ number o b is at.
        let s = built.serves.each number o b is at in
        let x = product-at netlist _ s.factors s.at in
        let p = have_periods diagram (attributes_of diagram) plan number o is in
        record {
          product = x.0;
          at = x.1;
          has = λ stimulus n clocks inputs rows table run t early hit below.
              subst (λ (f : Factors). AreOperands diagram table o.block b o.element t
              (rows f.left (clock_of diagram plan timing number o t))
              (rows f.right (clock_of diagram plan timing number o t))) (sym x.2)
              (s.serves stimulus n clocks inputs rows table run t p.0 p.1 (subst (λ (q : Option ℕ). Hits q t) p.1 hit) early below);
        };
    products = (let a = products-counted netlist in let b = built.serves.shared in let c = built.serves.own in a ∙ (λ i. b i + c i));
    pipelines = λ block element period b shown is some.
        let wire = built.pipelined.wires block b element shown some in
        record {
          stage = built.places.stage block 1 element;
          wire_there = get-below netlist.nets (built.places.stage block 1 element 0) wire.net wire.is;
          op = wire.op;
          args = wire.args;
          wire = ap (λ (net : Net). net.kind) (net-is netlist.nets (built.places.stage block 1 element 0) wire.net wire.is) ∙ wire.combines;
          stages = λ k below. (let r = built.pipelined.registers block b element k shown below in
              record {
                there = get-below netlist.nets (built.places.stage block 1 element (suc k)) r.net r.is;
                frame = r.frame;
                slot = r.slot;
                first = r.first;
                kind = ap (λ (net : Net). net.kind) (net-is netlist.nets (built.places.stage block 1 element (suc k)) r.net r.is) ∙ r.takes;
                label = r.named;
              });
          alone = λ k below. (let r = built.pipelined.registers block b element k shown below in
              record {
                alone = λ j within reads. r.alone j (built.places.stage block 1 element k) (net_at netlist.nets j) (get-at netlist.nets j within) reads refl;
                unshown = r.inner;
              });
          words = word-of block element b shown;
          shows = λ stimulus n clocks inputs rows table run. stage-shown block element period b shown is stimulus n clocks inputs rows table run;
        };
    registers = (let a = names-counted netlist in let b = built.few in omega (arith, a, b));
  }
