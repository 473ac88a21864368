-- What is counted of a module line by line and block by block (own).
use Rattle.std.specs.Prelude.{ℕ, ◌+◌, ◌-◌, ◌*◌, ◌^◌, ◌≤◌, ◌<◌, ◌&&◌, min, nat_lt, nat_le, is_some, Bool, false, if◌then◌else◌, List, [], length, map, Option, None, Some, slice_get, slice_index, slice_index_or}
use Rattle.std.specs.List.{sum}
use Rattle.dg_model.specs.declared.diagram.Diagram.{Diagram}
use Rattle.dg_model.specs.declared.diagram.Block.{Block}
use Rattle.dg_model.specs.declared.kind.Kind.{Kind}
use Rattle.dg_model.specs.declared.nested.Target.TheVariants.{Enable}
use Rattle.dg_model.specs.declared.resolved.Resolved.{Resolved}
use Rattle.dg_model.specs.LatencyEdges.{LatencyEdge, asks_ever, enable_edge}
use Rattle.dg_model.specs.Library.{row_of}
use Rattle.dg_model.specs.RootElements.{number_in}
use Rattle.dg_model.specs.Signals.{Attributes}
use Rattle.dg_model.specs.Widths.{widths_of}
use Rattle.dg_model.specs.Wired.{root_output}
use Rattle.dg_model.specs.Wires.{width_into}
use Rattle.hw_arcs.specs.Latencies.{latency_at}
use Rattle.dg_model.specs.PlanOf.{IsPlanOf}
use Rattle.hw_latency.specs.declared.latencies.Latencies.{Latencies}
use Rattle.hw_latency.specs.Latency.{AreLatencies}
use Rattle.hw_latency.specs.Shared.{is_shared}
use Rattle.hw_sched.specs.declared.edge_lines.Line.{Line}
use Rattle.hw_sched.specs.declared.sizing.Sizing.{Sizing}
use Rattle.hw_sched.specs.Slots.{Timing}
use Rattle.hw_sched.specs.Storage.{kept_by_role, line_of, most_latency, most_storage}

-- what counts lines begins with: a plan of the diagram, and its latencies by it
pub record HasLatencies (diagram : Diagram) (plan : Resolved) (latencies : Latencies) : Type 0 where
  pub planned : IsPlanOf diagram plan
  pub known : AreLatencies diagram plan latencies

-- a number of 128 bits, or the greatest of them where it is greater
abbrev pub capped : ℕ → ℕ
capped number = min number (2 ^ 128 - 1)

-- ---- lines

-- a line as an edge, whatever port it ends at
abbrev pub edge_of : Line → LatencyEdge
edge_of line =
    record { from = line.from; from_port = line.from_port; to = line.to; target = Enable }

-- a line joins an output port and a block that are there
pub record IsThere (diagram : Diagram) (line : Line) : Type 0 where
  pub from : line.from < length diagram.blocks
  pub to : line.to < length diagram.blocks
  pub port : 1 ≤ line.from_port
  pub width : line.from_port - 1 < length (slice_index_or (widths_of diagram) line.from [])

-- its registers are counted by a plan and its latencies
pub record CanCount (diagram : Diagram) (plan : Resolved) (latencies : Latencies)
    (line : Line) : Type 0 where
  pub timed : HasLatencies diagram plan latencies
  pub there : IsThere diagram line

-- the registers of an edge's line
abbrev pub line_at : Diagram → Attributes → Resolved → Timing → LatencyEdge → ℕ
line_at diagram attributes plan timing edge =
    line_of diagram attributes plan timing edge (attributes.period_at edge.from)

-- those of the lines of some edges
abbrev pub lines_of : Diagram → Attributes → Resolved → Timing → List LatencyEdge → ℕ
lines_of diagram attributes plan timing edges =
    sum (map (line_at diagram attributes plan timing) edges)

-- those of the line from the control of the block at a place, where it asks
abbrev pub controls_line : Diagram → Attributes → Resolved → Timing → ℕ → Option Block → ℕ
controls_line diagram attributes plan timing place None = 0
controls_line diagram attributes plan timing place (Some block) =
    lines_of diagram attributes plan timing
    (enable_edge place (asks_ever (row_of block.kind).timing.asks) block.enable)

-- ---- blocks

-- the values of each element that a block of a kind keeps beside lines and its pipeline, by whether
-- it keeps what a Delay does
abbrev pub values_kept : Kind → Bool → ℕ
values_kept kind keeps =
    (if keeps then (row_of kind).timing.delay else 0) + kept_by_role (row_of kind).place.role

-- the results of the shared operations of a block
abbrev pub results_at : Diagram → Attributes → Resolved → ℕ → ℕ
results_at diagram attributes plan place =
    if is_shared diagram attributes plan place then attributes.width_at place 1 else 0

-- ---- root outputs

-- a block is a root output
abbrev pub is_root_output : Option Block → Bool
is_root_output None = false
is_root_output (Some block) = is_some (number_in root_output block)

-- a block is a root output of some elements
abbrev pub is_output : Diagram → Attributes → ℕ → Bool
is_output diagram attributes place =
    is_root_output (slice_get diagram.blocks place)
    && nat_lt 0 (width_into diagram attributes place 1)

-- how late such a block is in clocks, and 0 at another, by the latencies and the clocks at which
-- outputs are ready
abbrev pub output_latency : Diagram → Attributes → Resolved → List ℕ → List ℕ → ℕ → ℕ
output_latency diagram attributes plan lat ready place =
    if is_output diagram attributes place
    then latency_at lat place * plan.cycles + slice_index ready place else 0

-- ---- the rule of size

-- a size is within its bounds
abbrev pub are_within : Sizing → Bool
are_within sizing = nat_le sizing.storage most_storage && nat_le sizing.latency most_latency
