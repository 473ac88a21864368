-- How much storage is counted of a module, and the rule of size (own).
use Rattle.std.specs.Prelude.{◌≡◌, ℕ, ◌+◌, ◌-◌, ◌*◌, ◌/◌, ◌≤◌, ◌<◌, ◌⊎◌, Bool, true, false, if◌then◌else◌, [], length, map, Option, Some, None, slice_get}
use Rattle.std.specs.List.{sum}
use Rattle.math_list.specs.Numbers.{numbers_from, greatest}
use Rattle.dg_model.specs.declared.diagram.Diagram.{Diagram}
use Rattle.dg_model.specs.declared.diagram.Block.{Block}
use Rattle.dg_model.specs.declared.fault.RuleFault.{RuleFault}
use Rattle.dg_model.specs.declared.fault.Shown.TheVariants.{Size}
use Rattle.dg_model.specs.declared.resolved.Resolved.{Resolved}
use Rattle.dg_model.specs.declared.row.Role.{Role}
use Rattle.dg_model.specs.declared.rule.Rule.{Rule}
use Rattle.dg_model.specs.Attributes.{attributes_of}
use Rattle.dg_model.specs.Faults.{fault_of}
use Rattle.dg_model.specs.LatencyEdges.{LatencyEdge, latency_edges}
use Rattle.dg_model.specs.Library.{row_of}
use Rattle.dg_model.specs.RootElements.{root_outputs}
use Rattle.dg_model.specs.Signals.{Attributes}
use Rattle.dg_model.specs.Wires.{period_into}
use Rattle.hw_arcs.specs.Latencies.{latency_at}
use Rattle.hw_latency.specs.Weight.{samples, is_registered, arc_between}
use Rattle.dg_model.specs.PlanOf.{stages_at}
use Rattle.hw_sched.specs.Slots.{Timing, shared_operations}
use Rattle.hw_sched.specs.Ready.{declared_latency}

-- the shift of an edge: by how many base samples its line is later than its source's registers
abbrev pub shift_of : Diagram → Attributes → Resolved → Timing → LatencyEdge → ℕ
shift_of diagram attributes plan timing edge =
    (latency_at timing.lat edge.to
    + (arc_between diagram attributes plan timing.fed edge.from edge.to).slack)
    - (latency_at timing.lat edge.from + stages_at plan edge.from
    * samples (attributes.period_at edge.from))

-- the width of an edge's line: that of its end where it is registered, and else that of its
-- source's port
abbrev pub width_of_edge : Attributes → LatencyEdge → Option Block → ℕ
width_of_edge attributes edge None = 0
width_of_edge attributes edge (Some block) =
    if is_registered block (samples (attributes.period_at edge.to))
    (samples (attributes.period_at edge.from)) then attributes.width_at edge.to 1
    else attributes.width_at edge.from edge.from_port

-- the registers of an edge's line, none where the source's value never changes
abbrev pub line_of : Diagram → Attributes → Resolved → Timing → LatencyEdge → Option ℕ → ℕ
line_of diagram attributes plan timing edge None = 0
line_of diagram attributes plan timing edge (Some period) =
    width_of_edge attributes edge (slice_get diagram.blocks edge.to)
    * (shift_of diagram attributes plan timing edge / period + 1)

-- those of all lines
abbrev pub lines_in_all : Diagram → Attributes → Resolved → Timing → ℕ
lines_in_all diagram attributes plan timing =
    sum (map (λ edge. line_of diagram attributes plan timing edge (attributes.period_at edge.from))
    (latency_edges diagram))

-- whether a block keeps its own values: a Delay in an enabled subsystem, or outside with a driver
-- whose value never changes
abbrev pub keeps_own : Option ℕ → Option ℕ → Bool
keeps_own (Some control) driver = true
keeps_own None None = true
keeps_own None (Some period) = false

-- an output port of an enabled subsystem keeps one value of each element
abbrev pub kept_by_role : Role → ℕ
kept_by_role (Role.RootInput number) = 0
kept_by_role (Role.RootOutput number) = 0
kept_by_role (Role.InnerPort width) = 0
kept_by_role Role.EnabledOutput = 1
kept_by_role Role.Control = 0
kept_by_role Role.Plain = 0

-- the registers of a block beside lines, for each of its elements: its pipeline, and the values
-- that it keeps
abbrev pub registers_each : Diagram → Attributes → Resolved → ℕ → Block → ℕ
registers_each diagram attributes plan place block =
    stages_at plan place
    + ((if keeps_own block.enable (period_into diagram attributes place 1)
    then (row_of block.kind).timing.delay else 0)
    + kept_by_role (row_of block.kind).place.role)

abbrev pub registers_at : Diagram → Attributes → Resolved → ℕ → Option Block → ℕ
registers_at diagram attributes plan place None = 0
registers_at diagram attributes plan place (Some block) =
    attributes.width_at place 1 * registers_each diagram attributes plan place block

abbrev pub registers_in_all : Diagram → Attributes → Resolved → ℕ
registers_in_all diagram attributes plan =
    sum (map (λ place. registers_at diagram attributes plan place (slice_get diagram.blocks place))
    (numbers_from 0 (length diagram.blocks)))

-- the storage: lines, blocks, and one result a shared operation
abbrev pub storage : Diagram → Attributes → Resolved → Timing → ℕ
storage diagram attributes plan timing =
    lines_in_all diagram attributes plan timing
    + (registers_in_all diagram attributes plan
    + length (shared_operations diagram attributes plan))

-- the greatest declared latency, 0 without outputs
abbrev pub greatest_latency : Diagram → Attributes → Resolved → Timing → ℕ
greatest_latency diagram attributes plan timing =
    greatest (map (λ e. declared_latency diagram attributes plan timing e.block)
    (root_outputs diagram attributes))

-- the most storage that the rule leaves a module
abbrev pub most_storage : ℕ
most_storage = 400000

-- the greatest latency of a module, in clocks
abbrev pub most_latency : ℕ
most_latency = 16777216

-- the rule is kept
pub record KeepsSize (diagram : Diagram) (plan : Resolved) (timing : Timing) : Type 0 where
  pub few : storage diagram (attributes_of diagram) plan timing ≤ most_storage
  pub short : greatest_latency diagram (attributes_of diagram) plan timing ≤ most_latency

-- the rule is broken, with this fault
pub record BreaksSize (diagram : Diagram) (plan : Resolved) (timing : Timing)
    (fault : RuleFault) : Type 0 where
  pub broken : (most_storage < storage diagram (attributes_of diagram) plan timing)
      ⊎ (most_latency < greatest_latency diagram (attributes_of diagram) plan timing)
  pub fault_is : fault
      ≡ fault_of Rule.Size []
      (Size (storage diagram (attributes_of diagram) plan timing)
      (greatest_latency diagram (attributes_of diagram) plan timing))
