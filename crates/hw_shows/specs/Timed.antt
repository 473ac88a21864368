-- What the times of a diagram's blocks keep (own).
use Rattle.std.specs.Prelude.{◌≡◌, ℕ, ◌*◌, ◌<◌, ◌≤◌, Bool, true, false, Option, None, Some, slice_get}
use Rattle.dg_model.specs.declared.diagram.Diagram.{Diagram}
use Rattle.dg_model.specs.declared.diagram.Block.{Block}
use Rattle.dg_model.specs.declared.diagram.Edge.{Edge}
use Rattle.dg_model.specs.declared.nested.Target.{Target}
use Rattle.dg_model.specs.declared.nested.Target.TheVariants.{Port, Enable}
use Rattle.dg_model.specs.declared.row.Reading.{Reading}
use Rattle.dg_model.specs.declared.row.Inherited.{Inherited}
use Rattle.dg_model.specs.Library.{row_of}
use Rattle.dg_model.specs.Signals.{Attributes}
use Rattle.dg_model.specs.Hits.{is_slow_to_fast}
use Rattle.dg_model.specs.Wires.{driver_of, period_into}
use Rattle.dg_model.specs.Instant.{takes_now}
use Rattle.dg_model.specs.LatencyEdges.{asks_ever}
use Rattle.dg_model.specs.Rate.{joins_periods}
use Rattle.dg_model.specs.Solves.{shown_ports}
use Rattle.hw_shows.specs.Timing.{Timing, IsEdgeInTime}

-- by how many base samples a block that reads before adds to the latency at which it is shown, or
-- none where the edge has no registers of its own: a Delay outside enabled subsystems its length in
-- periods of its source, a transition from slow to fast one of these
abbrev pub lag_of : Reading → ℕ → Option ℕ → Bool → ℕ → Option ℕ
lag_of Reading.Now delay enable slower period = None
lag_of Reading.Before delay None slower period = Some (delay * period)
lag_of Reading.Before delay (Some control) slower period = None
lag_of Reading.BeforeIfSlower delay enable true period = Some period
lag_of Reading.BeforeIfSlower delay enable false period = None

-- the same of an end of a block, for a source of this period
abbrev pub lag_into : Diagram → Attributes → ℕ → Block → Target → ℕ → Option ℕ
lag_into diagram attributes block b (Port port) period =
    lag_of (row_of b.kind).timing.reads (row_of b.kind).timing.delay b.enable
    (is_slow_to_fast (period_into diagram attributes block 1) (attributes.period_at block))
    period
lag_into diagram attributes block b Enable period = None

-- the block `from` drives this end of a block, or enables it
abbrev pub Feeds : Diagram → ℕ → Block → Target → ℕ → Type 0
Feeds diagram block b (Port port) from =
    (edge : Edge) × (1 ≤ port) × (port ≤ b.inputs) × (driver_of diagram block port ≡ Some edge)
    × (edge.from ≡ from)
Feeds diagram block b Enable from =
    (b.enable ≡ Some from) × (asks_ever (row_of b.kind).timing.asks ≡ true)

-- an edge from a block whose values change into one that shows something
pub record IsInTime (diagram : Diagram) (attributes : Attributes) (timing : Timing) (block : ℕ)
    (b : Block) (target : Target) (from source : ℕ) : Type 0 where
  pub own : ℕ
  pub period : attributes.period_at block ≡ Some own
  -- only a rate transition joins two periods
  pub same : joins_periods (row_of b.kind).timing.reads ≡ false → own ≡ source
  pub edge : IsEdgeInTime timing from source block own
      (lag_into diagram attributes block b target source)
  -- what is read in the same sample is ready no later than the reader
  pub ready : takes_now diagram attributes block b.kind target ≡ true
      → timing.ready from ≤ timing.ready block
  -- and no later than a shared multiplier has it
  pub slot : (element slot : ℕ) → timing.slot block element ≡ Some slot → timing.ready from ≤ slot

-- what the latencies and slots of a diagram keep
pub record IsTimed (diagram : Diagram) (attributes : Attributes) (timing : Timing) : Type 0 where
  -- each block is ready within its frame
  pub ready : (block period : ℕ) → attributes.period_at block ≡ Some period
      → timing.ready block < period * timing.cycles
  pub edges : (block : ℕ) (b : Block) (target : Target) (from source : ℕ)
      → slice_get diagram.blocks block ≡ Some b → 1 ≤ shown_ports b.kind b.outputs
      → Feeds diagram block b target from
      → attributes.period_at from ≡ Some source
      → IsInTime diagram attributes timing block b target from source
  -- a Delay and an output port of an enabled subsystem have periods, and a root input shows its
  -- entries at once
  pub moving : (block : ℕ) (b : Block) → slice_get diagram.blocks block ≡ Some b
      → (row_of b.kind).timing.inherits ≡ Inherited.Moving → (period : ℕ)
      × (attributes.period_at block ≡ Some period)
  pub base : (block : ℕ) (b : Block) → slice_get diagram.blocks block ≡ Some b
      → (row_of b.kind).timing.inherits ≡ Inherited.Base → (timing.latency block ≡ 0)
      × (timing.ready block ≡ 0)
  -- a shared operation is served before its block is ready
  pub slots : (block element slot : ℕ) → timing.slot block element ≡ Some slot
      → slot < timing.ready block
  -- only a block whose values change has shared operations
  pub still : (block element : ℕ) → attributes.period_at block ≡ None
      → timing.slot block element ≡ None
