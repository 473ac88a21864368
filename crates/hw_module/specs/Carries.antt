-- What the module of a diagram under a plan owes: its ports, and the bits that its outputs carry
-- (own).
use Rattle.std.specs.Prelude.{◌≡◌, ℕ, ◌+◌, ◌*◌, ◌<◌, List, map, codes}
use Rattle.dg_model.specs.declared.diagram.Diagram.{Diagram}
use Rattle.dg_model.specs.declared.resolved.Resolved.{Resolved}
use Rattle.dg_model.specs.Attributes.{attributes_of}
use Rattle.dg_model.specs.RootElements.{root_inputs, column_of_stimulus}
use Rattle.dg_model.specs.Signals.{Stimulus, Table}
use Rattle.dg_model.specs.Solves.{IsStimulus, Solves}
use Rattle.fx_type.specs.FxType.{width_of}
use Rattle.vl_ast.specs.declared.modules.Module.{Module}
use Rattle.vl_ast.specs.Conditions.{BreaksNone}
use Rattle.vl_ast.specs.Driven.{Driven, IsResetLast}
use Rattle.vl_ast.specs.Stalls.{AreThinned}
use Rattle.vl_ast.specs.Header.{input_port, output_port, HasHeader}
use Rattle.vl_ast.specs.Windows.{Shows, Window, AtHits, Each}
use Rattle.vl_ast.specs.Runs.{Row, Rows, Runs}
use Rattle.hw_arcs.specs.Latencies.{latency_at}
use Rattle.hw_names.specs.Names.{AreNames}
use Rattle.hw_module.specs.Interface.{NamedElement, step_of, input_elements, output_elements, input_data, output_data}
use Rattle.hw_sched.specs.Ready.{declared_latency}
use Rattle.hw_sched.specs.Slots.{Timing}

-- rows of the module from any start, reset and then driven by a stimulus, under which the table
-- solves the diagram
pub record IsDrivenRun (m : Module) (diagram : Diagram) (samples : ℕ) (window : Window)
    (stimulus : Stimulus) (table : Table) (rows : Rows) : Type 0 where
  pub start : Row
  pub inputs : Rows
  pub in_range : IsStimulus diagram (attributes_of diagram) stimulus samples
  pub solves : Solves diagram (attributes_of diagram) stimulus samples table
  pub driven : Driven m
      (column_of_stimulus (root_inputs diagram (attributes_of diagram)) stimulus) samples window
      inputs
  pub runs : Runs m window.rows start inputs rows

-- an output shows its entry of each hit t from clock t F + latency to the end of the frame
abbrev pub OutputShows : Module → Diagram → Resolved → Timing → ℕ → Window → Rows → Table → Rows
    → NamedElement → Type 0
OutputShows m diagram plan timing samples window inputs table rows e =
    AtHits (step_of e.root) samples (λ t.
    Shows m window inputs rows e.name (width_of e.root.type) (table e.root.block 1 e.root.element t)
    (t * plan.cycles + declared_latency diagram (attributes_of diagram) plan timing e.root.block)
    ((t + latency_at timing.lat e.root.block + step_of e.root) * plan.cycles))

-- the module has the ports of the diagram and breaks no condition. In every run `ce_out` shows
-- `clk_enable`, the counted rows are those of a run without stalls, and the outputs show the table
pub record Carries (m : Module) (diagram : Diagram) (plan : Resolved)
    (timing : Timing) : Type 0 where
  pub names : List (List ℕ)
  pub are_names : AreNames diagram names
  pub header : HasHeader m plan.cycles
      (map (λ e. input_port (input_data e)) (input_elements names diagram))
      (map (λ e. output_port (output_data diagram plan timing e)) (output_elements names diagram))
  pub sound : BreaksNone m
  pub enabled : (count : ℕ) (start : Row) (inputs rows : Rows) → Runs m count start inputs rows
      → (k : ℕ) → k < count → rows k (codes "ce_out") ≡ rows k (codes "clk_enable")
  pub thinned : (window : Window) (start : Row) (inputs rows : Rows) → IsResetLast window inputs
      → Runs m window.rows start inputs rows → AreThinned m window inputs rows
  pub bits : (samples : ℕ) (window : Window) (stimulus : Stimulus) (table : Table) (rows : Rows)
      (run : IsDrivenRun m diagram samples window stimulus table rows)
      → Each (output_elements names diagram)
      (λ place e. OutputShows m diagram plan timing samples window run.inputs table rows e)
