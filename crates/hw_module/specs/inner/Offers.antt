-- What a built netlist offers to its module, each part by itself (own).
use Rattle.std.specs.Prelude.{◌≡◌, ℕ, suc, ◌+◌, ◌*◌, ◌<◌, ◌≤◌, ℤ, List, map, length, flat_map, Contains, Some, slice_get}
use Rattle.fx_type.specs.FxType.{is_signed, width_of}
use Rattle.dg_model.specs.declared.diagram.Diagram.{Diagram}
use Rattle.dg_model.specs.declared.diagram.Block.{Block}
use Rattle.dg_model.specs.declared.resolved.Resolved.{Resolved}
use Rattle.dg_model.specs.Attributes.{attributes_of}
use Rattle.dg_model.specs.Hits.{Hits}
use Rattle.dg_model.specs.RootElements.{root_inputs}
use Rattle.dg_model.specs.Signals.{Stimulus, Table}
use Rattle.dg_model.specs.Solves.{IsShown}
use Rattle.hw_arcs.specs.Latencies.{latency_at}
use Rattle.hw_build.specs.Pipelined.{stage_name}
use Rattle.hw_build.specs.Places.{IsRunOf}
use Rattle.hw_build.specs.Serving.{AreOperands, clock_of}
use Rattle.dg_model.specs.PlanOf.{stages_at}
use Rattle.hw_net.specs.declared.netlist.Frame.{Frame}
use Rattle.hw_net.specs.declared.netlist.NetPort.{NetPort}
use Rattle.hw_net.specs.declared.netlist.NetOp.{NetOp}
use Rattle.hw_net.specs.declared.netlist.NetKind.TheVariants.{Comb, Reg}
use Rattle.hw_net.specs.Circuit.{Circuit}
use Rattle.hw_net.specs.Netlist.{IsNetlist, HasWord}
use Rattle.hw_net.specs.NetRows.{Inputs, Rows}
use Rattle.hw_sched.specs.Chained.{chained}
use Rattle.hw_sched.specs.Laws.{IsOperation}
use Rattle.hw_sched.specs.Ready.{ready_of, owed}
use Rattle.hw_sched.specs.Slots.{Timing, Operation, unit_of}
use Rattle.hw_shows.specs.Shows.{Shows}
use Rattle.hw_net.specs.Emittable.{IsEmittable}
use Rattle.vl_emit.specs.Header.{data_port}
use Rattle.hw_net.specs.Products.{net_at, places}
use Rattle.hw_net.specs.Products.{Product, products_of}
use Rattle.vl_emit.specs.Registers.{register_name}
pub use Rattle.hw_refine.specs.Refines.{IsReadBy}
use Rattle.hw_module.specs.Interface.{NamedElement, input_elements, output_elements, input_data, output_data, step_of}

-- the ports are those of the diagram
pub record HasPortsOf (netlist : Circuit) (names : List (List ℕ)) (diagram : Diagram)
    (plan : Resolved) (timing : Timing) : Type 0 where
  pub cycles : netlist.cycles ≡ plan.cycles
  pub enough : length (root_inputs diagram (attributes_of diagram)) ≤ length names
  pub inputs : map (data_port netlist) netlist.inputs
      ≡ map input_data (input_elements names diagram)
  pub outputs : map (data_port netlist) netlist.outputs
      ≡ map (output_data diagram plan timing) (output_elements names diagram)

-- in all rows under a stimulus the net of each output shows its entries, each in its time
abbrev pub OutputsShow : Circuit → List (List ℕ) → Diagram → Resolved → Timing → Type 0
OutputsShow netlist names diagram plan timing =
    (stimulus : Stimulus) (n clocks : ℕ) (inputs : Inputs) (rows : Rows) (table : Table)
    → IsRunOf diagram netlist stimulus n clocks inputs rows table
    → (place : ℕ) (port : NetPort) (e : NamedElement) → slice_get netlist.outputs place ≡ Some port
    → slice_get (output_elements names diagram) place ≡ Some e
    → Shows clocks n plan.cycles (Some (step_of e.root)) (latency_at timing.lat e.root.block)
    (ready_of diagram (attributes_of diagram) plan timing e.root.block)
    (table e.root.block 1 e.root.element) (rows port.net)

-- the multiplier of an operation has its operands in the clock of each hit
pub record HasUnit (netlist : Circuit) (diagram : Diagram) (plan : Resolved) (timing : Timing)
    (number : ℕ) (o : Operation) (b : Block) : Type 0 where
  pub product : Product
  pub at : slice_get (products_of netlist)
      (unit_of diagram (attributes_of diagram) plan timing number o) ≡ Some product
  pub has : (stimulus : Stimulus) (n clocks : ℕ) (inputs : Inputs) (rows : Rows) (table : Table)
      → IsRunOf diagram netlist stimulus n clocks inputs rows table
      → (t : ℕ) → t < n → Hits ((attributes_of diagram).period_at o.block) t
      → clock_of diagram plan timing number o t < clocks
      → AreOperands diagram table o.block b o.element t
      (rows product.left (clock_of diagram plan timing number o t))
      (rows product.right (clock_of diagram plan timing number o t))

-- a register in series: a Reg with this name that takes another net
pub record IsStage (netlist : Circuit) (number from : ℕ) (name : List ℕ) : Type 0 where
  pub there : number < length netlist.nets
  pub frame : Frame
  pub slot : ℕ
  pub first : ℤ
  pub kind : (net_at netlist.nets number).kind ≡ Reg frame slot first from
  pub label : Contains netlist.labels (record { net = number; name = name })

-- the pipeline of an element: 0 is the net that it begins with
pub record HasPipeline (netlist : Circuit) (diagram : Diagram) (plan : Resolved) (timing : Timing)
    (block element period : ℕ) : Type 0 where
  pub stage : ℕ → ℕ
  pub wire_there : stage 0 < length netlist.nets
  pub op : NetOp
  pub args : List ℕ
  pub wire : (net_at netlist.nets (stage 0)).kind ≡ Comb op args
  pub stages : (k : ℕ) → k < stages_at plan block
      → IsStage netlist (stage (suc k)) (stage k) (stage_name block element (suc k))
  pub alone : (k : ℕ) → k < stages_at plan block → IsReadBy netlist (stage k) (stage (suc k))
  pub words : (k : ℕ) → 1 ≤ k → k ≤ stages_at plan block
      → HasWord netlist.nets (stage k) (width_of ((attributes_of diagram).type_at block 1))
      (is_signed ((attributes_of diagram).type_at block 1))
  pub shows : (stimulus : Stimulus) (n clocks : ℕ) (inputs : Inputs) (rows : Rows) (table : Table)
      → IsRunOf diagram netlist stimulus n clocks inputs rows table
      → (k : ℕ) → 1 ≤ k → k ≤ stages_at plan block
      → Shows clocks n plan.cycles (Some period) (latency_at timing.lat block + k * period) 0
      (table block 1 element) (rows (stage k))

-- all of it, by the names of the ports
pub record Offers (netlist : Circuit) (names : List (List ℕ)) (diagram : Diagram) (plan : Resolved)
    (timing : Timing) : Type 0 where
  pub runs : IsNetlist netlist
  pub emittable : IsEmittable netlist
  pub ports : HasPortsOf netlist names diagram plan timing
  pub outputs : OutputsShow netlist names diagram plan timing
  pub units : (number : ℕ) (o : Operation) (b : Block)
      → IsOperation diagram (attributes_of diagram) plan number o
      → slice_get diagram.blocks o.block ≡ Some b → HasUnit netlist diagram plan timing number o b
  pub products : length (products_of netlist) ≡ owed diagram (attributes_of diagram) plan timing
  pub pipelines : (block element period : ℕ) (b : Block)
      → IsShown diagram (attributes_of diagram) block b 1 element
      → (attributes_of diagram).period_at block ≡ Some period → 1 ≤ stages_at plan block
      → HasPipeline netlist diagram plan timing block element period
  pub registers :
      length (flat_map (λ k. register_name netlist k (net_at netlist.nets k).kind)
      (places (length netlist.nets))) ≤ chained diagram (attributes_of diagram) plan timing
