-- By how much an edge makes its end later than its source (own; HDL Coder, delay balancing). A
-- block's output is late by its latency and its pipeline registers. An edge into a Delay outside
-- enabled subsystems, or into a rate transition from slow to fast, is registered: its end is behind
-- its source in any case, and makes up for so many base samples, but for a reserve. The reserve is
-- the period of the source where a shared operation stands in its instant cone, for it comes late
-- in its period, and else one base sample.
use Rattle.std.specs.Prelude.{ℕ, ◌+◌, ◌*◌, ◌&&◌, not, nat_lt, ℤ, pos, ◌-ℤ◌, Bool, true, false, if◌then◌else◌, List, map, Option, Some, None, slice_get}
use Rattle.dg_model.specs.declared.diagram.Diagram.{Diagram}
use Rattle.dg_model.specs.declared.diagram.Block.{Block}
use Rattle.dg_model.specs.declared.resolved.Resolved.{Resolved}
use Rattle.dg_model.specs.declared.row.Reading.{Reading}
use Rattle.dg_model.specs.Instant.{is_now}
use Rattle.dg_model.specs.PlanOf.{stages_at}
use Rattle.dg_model.specs.LatencyEdges.{LatencyEdge, latency_edges}
use Rattle.dg_model.specs.Library.{row_of}
use Rattle.dg_model.specs.Attributes.{attributes_of}
use Rattle.dg_model.specs.Signals.{Attributes}
use Rattle.hw_arcs.specs.declared.arc.Arc.{Arc}
use Rattle.hw_latency.specs.Cone.{is_marked}

-- a block stands in no enabled subsystem
abbrev pub is_free : Option ℕ → Bool
is_free None = true
is_free (Some control) = false

-- an edge into a block is registered, by the block's period and that of the source
abbrev pub is_registered : Block → ℕ → ℕ → Bool
is_registered block own driver =
    is_free block.enable && not (is_now (row_of block.kind).timing.reads (nat_lt own driver))

-- the base samples by which a block is behind what it reads: a Delay by its length in periods, and
-- a transition from slow to fast by one period of its source
abbrev pub behind : Reading → ℕ → ℕ → ℕ → ℕ
behind Reading.Now delay own driver = 0
behind Reading.Before delay own driver = delay * own
behind Reading.BeforeIfSlower delay own driver = if nat_lt own driver then driver else 0

-- the reserve of a registered edge
abbrev pub reserve : Bool → ℕ → ℕ
reserve fed period = if fed then period else 1

-- what an edge asks: its gain is the source's registers and the reserve, its slack what the end
-- makes up for. An edge from a block whose value never changes asks nothing
abbrev pub samples : Option ℕ → ℕ
samples None = 0
samples (Some period) = period

abbrev pub gain_into : Bool → Bool → ℕ → ℕ → ℕ
gain_into registered fed stages period =
    stages * period + (if registered then reserve fed period else 0)

abbrev pub slack_into : Bool → Block → ℕ → ℕ → ℕ
slack_into registered block own driver =
    if registered
    then behind (row_of block.kind).timing.reads (row_of block.kind).timing.delay own driver else 0

abbrev pub idle_arc : ℕ → ℕ → Arc
idle_arc from to = record { from = from; to = to; counts = false; gain = 0; slack = 0 }

abbrev pub arc_into : ℕ → ℕ → Bool → ℕ → ℕ → ℕ → Option Block → Arc
arc_into from to fed stages period own None = idle_arc from to
arc_into from to fed stages period own (Some block) = record {
  from = from;
  to = to;
  counts = true;
  gain = gain_into (is_registered block own period) fed stages period;
  slack = slack_into (is_registered block own period) block own period;
}

abbrev pub arc_from : Diagram → Attributes → Resolved → List Bool → ℕ → ℕ → Option ℕ → Arc
arc_from diagram attributes plan fed from to None = idle_arc from to
arc_from diagram attributes plan fed from to (Some period) =
    arc_into from to (is_marked fed from) (stages_at plan from) period
    (samples (attributes.period_at to)) (slice_get diagram.blocks to)

-- from a block to another
abbrev pub arc_between : Diagram → Attributes → Resolved → List Bool → ℕ → ℕ → Arc
arc_between diagram attributes plan fed from to =
    arc_from diagram attributes plan fed from to (attributes.period_at from)

-- of an edge
abbrev pub arc_of : Diagram → Attributes → Resolved → List Bool → LatencyEdge → Arc
arc_of diagram attributes plan fed edge = arc_between diagram attributes plan fed edge.from edge.to

-- the arcs of a diagram, one for each of its edges for latency, with that edge's number
abbrev pub arcs_with : Diagram → Attributes → Resolved → List Bool → List Arc
arcs_with diagram attributes plan fed =
    map (arc_of diagram attributes plan fed) (latency_edges diagram)

-- the same with the widths, types and periods by the rounds
abbrev pub latency_arcs : Diagram → Resolved → List Bool → List Arc
latency_arcs diagram plan fed = arcs_with diagram (attributes_of diagram) plan fed

-- by how many base samples the end of an arc comes after its source at the least
abbrev pub edge_weight : Arc → ℤ
edge_weight arc = pos arc.gain -ℤ pos arc.slack
