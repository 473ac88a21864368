-- What the definitions together say of the slots and multipliers of a diagram (own).
use Rattle.std.specs.Prelude.{◌≡◌, ◌≢◌, ℕ, suc, ◌+◌, ◌*◌, ◌%◌, ◌≤◌, ◌<◌, nat_lt, Bool, true, false, List, Some, slice_get}
use Rattle.dg_model.specs.declared.diagram.Diagram.{Diagram}
use Rattle.dg_model.specs.declared.diagram.Block.{Block}
use Rattle.dg_model.specs.declared.diagram.Edge.{Edge}
use Rattle.dg_model.specs.declared.nested.Target.TheVariants.{Port, Enable}
use Rattle.dg_model.specs.declared.resolved.Resolved.{Resolved}
use Rattle.dg_model.specs.Attributes.{attributes_of}
use Rattle.dg_model.specs.Checked.{IsChecked}
use Rattle.dg_model.specs.Instant.{is_now, reads_now, IsInstant}
use Rattle.dg_model.specs.declared.row.Inherited.{Inherited}
use Rattle.dg_model.specs.LatencyEdges.{LatencyEdge, latency_edges, asks_ever}
use Rattle.dg_model.specs.Library.{row_of}
use Rattle.dg_model.specs.Limits.{most_times}
use Rattle.dg_model.specs.Rate.{joins_periods}
use Rattle.dg_model.specs.Signals.{Attributes}
use Rattle.dg_model.specs.Wired.{IsWired}
use Rattle.dg_model.specs.Wires.{driver_of}
use Rattle.hw_arcs.specs.Latencies.{latency_at}
use Rattle.hw_latency.specs.Cone.{AreFed, is_marked}
use Rattle.hw_latency.specs.Weight.{is_registered, behind}
use Rattle.dg_model.specs.PlanOf.{stages_at}
use Rattle.hw_sched.specs.Level.{AreDepths, depth_at}
use Rattle.hw_sched.specs.Slots.{Timing, Operation, OperationKind, shared_operations, base_slot, level_of, slot_of, unit_of, kind_of}
use Rattle.hw_sched.specs.Ready.{ready_of, units_in_all}
use Rattle.hw_sched.specs.Scheduled.{IsTimingOf, IsScheduled}

-- ---- periods

-- every period is above 0
abbrev pub PeriodsAreAbove : Type 0
PeriodsAreAbove =
    (diagram : Diagram) (place period : ℕ) → IsChecked diagram
    → (attributes_of diagram).period_at place ≡ Some period → 0 < period

-- and at most 4096
abbrev pub PeriodsAreShort : Type 0
PeriodsAreShort =
    (diagram : Diagram) (place period : ℕ) → IsChecked diagram
    → (attributes_of diagram).period_at place ≡ Some period → period ≤ most_times

-- a block's values move on though its sources don't change
abbrev pub is_moving : Inherited → Bool
is_moving Inherited.OfSources = false
is_moving Inherited.Moving = true
is_moving Inherited.Base = true
is_moving Inherited.Unchanging = false

-- such a block has a period
abbrev pub MovingHavePeriods : Type 0
MovingHavePeriods =
    (diagram : Diagram) (place : ℕ) (b : Block) → IsChecked diagram
    → slice_get diagram.blocks place ≡ Some b
    → is_moving (row_of b.kind).timing.inherits ≡ true → (period : ℕ)
    × ((attributes_of diagram).period_at place ≡ Some period)

-- ---- depths

-- two lists of depths agree on every block
abbrev pub DepthsAreOne : Type 0
DepthsAreOne =
    (diagram : Diagram) (attributes : Attributes) (plan : Resolved) (depths other : List ℕ)
    (place : ℕ) → AreDepths diagram attributes plan depths
    → AreDepths diagram attributes plan other → depth_at depths place ≡ depth_at other place

-- ---- edges

-- the edge of a number
abbrev pub IsEdge : Diagram → ℕ → LatencyEdge → Type 0
IsEdge diagram number edge = slice_get (latency_edges diagram) number ≡ Some edge

-- a line is an edge, and drives the port that it ends at
abbrev pub LinesAreEdges : Type 0
LinesAreEdges =
    (diagram : Diagram) (block port : ℕ) (line : Edge) → driver_of diagram block port ≡ Some line
    → (number : ℕ)
    × IsEdge diagram number
    (record { from = line.from; from_port = line.from_port; to = block; target = Port port })

-- the control of an enabled subsystem has an edge to each block there that asks for it
abbrev pub ControlsAreEdges : Type 0
ControlsAreEdges =
    (diagram : Diagram) (block : ℕ) (b : Block) (control : ℕ)
    → slice_get diagram.blocks block ≡ Some b → b.enable ≡ Some control
    → asks_ever (row_of b.kind).timing.asks ≡ true
    → (number : ℕ)
    × IsEdge diagram number (record { from = control; from_port = 1; to = block; target = Enable })

-- an edge from a block of a period ends at a block of a period, which is the same but at a
-- transition, and else one divides the other: that of the source the other, unless the edge is
-- registered
pub record JoinsPeriods (diagram : Diagram) (edge : LatencyEdge) (b : Block)
    (source own : ℕ) : Type 0 where
  pub period : (attributes_of diagram).period_at edge.to ≡ Some own
  pub same : joins_periods (row_of b.kind).timing.reads ≡ false → own ≡ source
  pub plain : is_registered b own source ≡ false → own % source ≡ 0
  pub late : is_registered b own source ≡ true → source % own ≡ 0
  -- a block reads its input in its own sample, unless that is slower
  pub now : reads_now diagram (attributes_of diagram) edge.to b.kind
      ≡ is_now (row_of b.kind).timing.reads (nat_lt own source)

abbrev pub EdgesJoinPeriods : Type 0
EdgesJoinPeriods =
    (diagram : Diagram) (number : ℕ) (edge : LatencyEdge) (b : Block) (source : ℕ)
    → IsChecked diagram → IsEdge diagram number edge → slice_get diagram.blocks edge.to ≡ Some b
    → (attributes_of diagram).period_at edge.from ≡ Some source → (own : ℕ)
    × JoinsPeriods diagram edge b source own

-- ---- operations

-- the operation of a number
abbrev pub IsOperation : Diagram → Attributes → Resolved → ℕ → Operation → Type 0
IsOperation diagram attributes plan number o =
    slice_get (shared_operations diagram attributes plan) number ≡ Some o

-- an output behind no shared operation is ready at once
abbrev pub UnfedAreReady : Type 0
UnfedAreReady =
    (diagram : Diagram) (attributes : Attributes) (plan : Resolved) (timing : Timing) (place : ℕ)
    → is_marked timing.fed place ≡ false → ready_of diagram attributes plan timing place ≡ 0

-- an operation is served in the slots of its level, and its block is ready with the first slot
-- after them
pub record IsServed (diagram : Diagram) (attributes : Attributes) (plan : Resolved)
    (timing : Timing) (number : ℕ) (o : Operation) (period : ℕ) : Type 0 where
  pub level : base_slot diagram attributes plan timing period
      (level_of timing o) ≤ slot_of diagram attributes plan timing number o
  pub within : slot_of diagram attributes plan timing number o < base_slot diagram attributes plan
      timing period (suc (level_of timing o))
  pub ready : base_slot diagram attributes plan timing period (suc (level_of timing o))
      ≡ ready_of diagram attributes plan timing o.block

abbrev pub OperationsAreServed : Type 0
OperationsAreServed =
    (diagram : Diagram) (attributes : Attributes) (plan : Resolved) (timing : Timing) (number : ℕ)
    (o : Operation) (period : ℕ)
    → AreFed diagram attributes plan timing.fed → AreDepths diagram attributes plan timing.depths
    → IsOperation diagram attributes plan number o → attributes.period_at o.block ≡ Some period
    → IsServed diagram attributes plan timing number o period

-- a shared operation is of a block of a period
abbrev pub OperationsHavePeriods : Type 0
OperationsHavePeriods =
    (diagram : Diagram) (attributes : Attributes) (plan : Resolved) (number : ℕ) (o : Operation)
    → IsOperation diagram attributes plan number o
    → (period : ℕ) × (attributes.period_at o.block ≡ Some period)

-- two operations of one multiplier are of one kind, and have different slots
pub record AreApart (diagram : Diagram) (attributes : Attributes) (plan : Resolved)
    (timing : Timing) (number other : ℕ) (o q : Operation) : Type 0 where
  pub kind : ◌≡◌ {A = OperationKind} (kind_of diagram attributes timing o)
      (kind_of diagram attributes timing q)
  pub slots : slot_of diagram attributes plan timing number o ≢ slot_of diagram attributes plan
      timing other q

abbrev pub SlotsDiffer : Type 0
SlotsDiffer =
    (diagram : Diagram) (attributes : Attributes) (plan : Resolved) (timing : Timing)
    (number other : ℕ) (o q : Operation) → number ≢ other
    → IsOperation diagram attributes plan number o → IsOperation diagram attributes plan other q
    → unit_of diagram attributes plan timing number o
    ≡ unit_of diagram attributes plan timing other q
    → AreApart diagram attributes plan timing number other o q

-- an operation's multiplier is one of those that the kinds have
abbrev pub UnitsAreThere : Type 0
UnitsAreThere =
    (diagram : Diagram) (attributes : Attributes) (plan : Resolved) (timing : Timing) (number : ℕ)
    (o : Operation) → IsOperation diagram attributes plan number o
    → unit_of diagram attributes plan timing number o < units_in_all diagram attributes plan timing

-- and each of these serves an operation
abbrev pub UnitsAreUsed : Type 0
UnitsAreUsed =
    (diagram : Diagram) (attributes : Attributes) (plan : Resolved) (timing : Timing) (unit : ℕ)
    → unit < units_in_all diagram attributes plan timing
    → (number : ℕ) × (o : Operation) × IsOperation diagram attributes plan number o
    × (unit_of diagram attributes plan timing number o ≡ unit)

-- no edge ends at a root input
abbrev pub NoneIntoRoots : Type 0
NoneIntoRoots =
    (diagram : Diagram) (place : ℕ) (b : Block) (number : ℕ) (edge : LatencyEdge) → IsWired diagram
    → slice_get diagram.blocks place ≡ Some b
    → (row_of b.kind).timing.inherits ≡ Inherited.Base → IsEdge diagram number edge
    → edge.to ≢ place

-- and it is ready at once
abbrev pub RootsAreReady : Type 0
RootsAreReady =
    (diagram : Diagram) (plan : Resolved) (timing : Timing) (place : ℕ) (b : Block)
    → IsWired diagram → AreFed diagram (attributes_of diagram) plan timing.fed
    → slice_get diagram.blocks place ≡ Some b
    → (row_of b.kind).timing.inherits ≡ Inherited.Base
    → ready_of diagram (attributes_of diagram) plan timing place ≡ 0

-- ---- a diagram and a plan that keep the rules

-- an output is ready in its period
abbrev pub ReadyFits : Type 0
ReadyFits =
    (diagram : Diagram) (plan : Resolved) (timing : Timing) (place period : ℕ)
    → IsScheduled diagram plan timing → (attributes_of diagram).period_at place ≡ Some period
    → ready_of diagram (attributes_of diagram) plan timing place < period * plan.cycles

-- along an instant edge an output is ready no earlier than what it is made of
abbrev pub ReadyRises : Type 0
ReadyRises =
    (diagram : Diagram) (plan : Resolved) (timing : Timing) (number : ℕ) (edge : LatencyEdge)
    (source : ℕ) → IsScheduled diagram plan timing
    → IsEdge diagram number edge → IsInstant diagram (attributes_of diagram) edge
    → (attributes_of diagram).period_at edge.from ≡ Some source
    → ready_of diagram (attributes_of diagram) plan timing edge.from ≤ ready_of diagram
    (attributes_of diagram) plan timing edge.to

-- what a shared operation reads is ready with its slot
abbrev pub OperandsAreReady : Type 0
OperandsAreReady =
    (diagram : Diagram) (plan : Resolved) (timing : Timing) (number : ℕ) (edge : LatencyEdge)
    (source place : ℕ) (o : Operation) → IsScheduled diagram plan timing
    → IsEdge diagram number edge
    → (attributes_of diagram).period_at edge.from ≡ Some source
    → IsOperation diagram (attributes_of diagram) plan place o → o.block ≡ edge.to
    → ready_of diagram (attributes_of diagram) plan timing edge.from ≤ slot_of diagram
    (attributes_of diagram) plan timing place o

-- the base sample in which the first entry of a block of this period has come through its pipeline
abbrev pub latency_after : Resolved → Timing → ℕ → ℕ → ℕ
latency_after plan timing source place = latency_at timing.lat place + stages_at plan place * source

-- the end of an edge is late enough: where the edge is registered by a base sample for one register
-- at least, and by a period of the source where that isn't ready at once
pub record IsInTime (diagram : Diagram) (plan : Resolved) (timing : Timing) (edge : LatencyEdge)
    (b : Block) (source own : ℕ) : Type 0 where
  pub plain : is_registered b own source ≡ false
      → latency_after plan timing source edge.from ≤ latency_at timing.lat edge.to
  pub late : is_registered b own source ≡ true
      → latency_after plan timing source edge.from < latency_at timing.lat edge.to
      + behind (row_of b.kind).timing.reads (row_of b.kind).timing.delay own source
  pub whole : is_registered b own source ≡ true
      → 0 < ready_of diagram (attributes_of diagram) plan timing edge.from
      → latency_after plan timing source edge.from + source ≤ latency_at timing.lat edge.to
      + behind (row_of b.kind).timing.reads (row_of b.kind).timing.delay own source

abbrev pub EdgesAreInTime : Type 0
EdgesAreInTime =
    (diagram : Diagram) (plan : Resolved) (timing : Timing) (number : ℕ) (edge : LatencyEdge)
    (b : Block) (source own : ℕ) → IsChecked diagram
    → IsTimingOf diagram plan timing → IsEdge diagram number edge
    → slice_get diagram.blocks edge.to ≡ Some b
    → (attributes_of diagram).period_at edge.from ≡ Some source
    → (attributes_of diagram).period_at edge.to ≡ Some own
    → IsInTime diagram plan timing edge b source own
