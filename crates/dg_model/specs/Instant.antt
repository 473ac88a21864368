-- What a block reads for its value at a base sample in that sample itself (Simulink reference,
-- direct feedthrough and algebraic loops; the edge of an enable is own).
use Rattle.std.specs.Prelude.{◌≡◌, ℕ, Bool, true, false, not, Option, Some, None, slice_get}
use Rattle.dg_model.specs.declared.diagram.Diagram.{Diagram}
use Rattle.dg_model.specs.declared.diagram.Block.{Block}
use Rattle.dg_model.specs.declared.kind.Kind.{Kind}
use Rattle.dg_model.specs.declared.nested.Target.{Target}
use Rattle.dg_model.specs.declared.nested.Target.TheVariants.{Port, Enable}
use Rattle.dg_model.specs.declared.row.Reading.{Reading}
use Rattle.dg_model.specs.declared.row.Asking.{Asking}
use Rattle.dg_model.specs.Library.{row_of}
use Rattle.dg_model.specs.Signals.{Attributes}
use Rattle.dg_model.specs.Hits.{is_slow_to_fast}
use Rattle.dg_model.specs.Wires.{period_into}
use Rattle.dg_model.specs.LatencyEdges.{LatencyEdge}

-- a reading is of the same sample, by whether the input is slower than the block
abbrev pub is_now : Reading → Bool → Bool
is_now Reading.Now slower = true
is_now Reading.Before slower = false
is_now Reading.BeforeIfSlower slower = not slower

-- a block of this kind reads its inputs in its own sample: all but a Delay and a transition from
-- slow to fast
abbrev pub reads_now : Diagram → Attributes → ℕ → Kind → Bool
reads_now diagram attributes block kind =
    is_now (row_of kind).timing.reads
    (is_slow_to_fast (period_into diagram attributes block 1) (attributes.period_at block))

-- an asking is of the same sample
abbrev pub is_asked_now : Asking → Bool
is_asked_now Asking.Never = false
is_asked_now Asking.Now = true
is_asked_now Asking.Before = false

-- a block of this kind asks in its own sample whether it is enabled: an output port of an enabled
-- subsystem, and no other
abbrev pub asks_now : Kind → Bool
asks_now kind = is_asked_now (row_of kind).timing.asks

-- what comes at this end of a block is looked at in the same sample
abbrev pub takes_now : Diagram → Attributes → ℕ → Kind → Target → Bool
takes_now diagram attributes block kind (Port port) = reads_now diagram attributes block kind
takes_now diagram attributes block kind Enable = asks_now kind

-- the same at the block that an edge ends at
abbrev pub takes_now_at : Diagram → Attributes → LatencyEdge → Option Block → Bool
takes_now_at diagram attributes edge None = false
takes_now_at diagram attributes edge (Some block) =
    takes_now diagram attributes edge.to block.kind edge.target

-- the value at the end of an edge is needed in the sample of the value at its source
abbrev pub is_instant : Diagram → Attributes → LatencyEdge → Bool
is_instant diagram attributes edge =
    takes_now_at diagram attributes edge (slice_get diagram.blocks edge.to)

-- the edge is instant
abbrev pub IsInstant : Diagram → Attributes → LatencyEdge → Type 0
IsInstant diagram attributes edge = is_instant diagram attributes edge ≡ true
