-- What the elements of each end ask, and where their nets stand (own).
use Rattle.std.specs.Prelude.{◌≡◌, ℕ, ◌+◌, ◌-◌, ◌⊎◌, ◌<◌, ◌≤◌, ◌^◌, ◌++◌, ◌==◌, if◌then◌else◌, ℤ, pos, List, [], length, map, drop, Option, None, Some, slice_get, slice_index_or}
use Rattle.std.specs.List.{flat_map}
use Rattle.fx_round.specs.Laws.{StoringGivesOne}
use Rattle.fx_type.specs.Laws.{StoredIsOne}
use Rattle.dg_tables.specs.Laws.{IsOrdered, TypesAreValid, SignalsFit}
use Rattle.hw_latency.specs.Laws.{LatenciesAreSmall}
use Rattle.hw_sched.specs.Laws.{LinesAreEdges, EdgesJoinPeriods, PeriodsAreShort}
use Rattle.hw_sched.specs.Scheduled.{IsScheduled}
use Rattle.fx_type.specs.FxType.{is_signed, width_of}
use Rattle.dg_model.specs.declared.diagram.Diagram.{Diagram}
use Rattle.dg_model.specs.declared.diagram.Block.{Block}
use Rattle.dg_model.specs.declared.diagram.Edge.{Edge}
use Rattle.dg_model.specs.declared.nested.Target.{Target}
use Rattle.dg_model.specs.declared.nested.Target.TheVariants.{Port, Enable}
use Rattle.dg_model.specs.declared.resolved.Resolved.{Resolved}
use Rattle.dg_model.specs.Attributes.{attributes_of}
use Rattle.dg_model.specs.LatencyEdges.{LatencyEdge, signal_edge, enable_edges_from, latency_edges}
use Rattle.dg_model.specs.Solves.{IsShown, shown_ports}
use Rattle.dg_model.specs.Wires.{repeated}
use Rattle.hw_net.specs.Circuit.{Circuit}
use Rattle.hw_net.specs.Netlist.{HasWord}
use Rattle.hw_sched.specs.Chained.{Use, uses_from}
use Rattle.hw_sched.specs.Slots.{Timing as Times}
use Rattle.hw_shows.specs.Timed.{lag_into, Feeds, IsTimed}
use Rattle.hw_latency.specs.Control.{control_ever}
use Rattle.hw_build.specs.declared.asks.Ask.{Ask}
use Rattle.hw_build.specs.declared.asks.Asks.{Asks}
use Rattle.hw_build.specs.declared.operands.Span.{Span}
use Rattle.hw_build.specs.declared.wants.Want.{Want}
use Rattle.hw_build.specs.Times.{timing_by}
use Rattle.hw_build.specs.declared.gathering.Ends.{Ends}
use Rattle.hw_build.specs.inner.Asks.{IsEndWant}
use Rattle.hw_build.specs.inner.DesignTimes.{IsDesigned, times_for}
use Rattle.hw_build.specs.inner.Facts.{count_by, LateAreWide}
use Rattle.hw_build.specs.inner.HubPlaces.{hub_at}
use Rattle.hw_build.specs.inner.Lines.{frame_behind}
use Rattle.hw_build.specs.inner.Operands.{first_at}
use Rattle.hw_build.specs.inner.EndSearch.{AreNumbered, AsksGrow, IsAskOf}
use Rattle.hw_build.specs.inner.Wants.{AreWants}

-- the hubs of what blocks show have numbers of 32 bits
pub record AreHubPlaces (diagram : Diagram) (firsts : List (List ℕ)) : Type 0 where
  pub there : (block : ℕ) (b : Block) (port : ℕ) → slice_get diagram.blocks block ≡ Some b
      → 1 ≤ port → port ≤ shown_ports b.kind b.outputs
      → port - 1 < length (slice_index_or firsts block [])
  pub small : (block : ℕ) (b : Block) (port element : ℕ)
      → IsShown diagram (attributes_of diagram) block b port element
      → hub_at firsts block port element < 2 ^ 32

-- and the words of what they show
pub record HaveHubWords (diagram : Diagram) (firsts : List (List ℕ)) (now : Circuit) : Type 0 where
  pub each : (block : ℕ) (b : Block) (port element : ℕ)
      → IsShown diagram (attributes_of diagram) block b port element
      → HasWord now.nets (hub_at firsts block port element)
      (width_of ((attributes_of diagram).type_at block port))
      (is_signed ((attributes_of diagram).type_at block port))

-- a use as a want
abbrev pub want_for : Diagram → Resolved → Times → List (List ℕ) → Use → Want
want_for diagram plan times firsts one = record {
  feed =
      record {
        hub = hub_at firsts one.from one.port one.element;
        frame = frame_behind (timing_by diagram plan times) one.source one.from;
        first = one.first;
      };
  to = record { shift = one.shift; period = one.period };
}

module _ (diagram : Diagram) (plan : Resolved) (times : Times) (firsts : List (List ℕ)) where
  -- the hub that serves an element of an end
  abbrev pub hub_for : LatencyEdge → ℕ → ℕ
  hub_for edge element =
      hub_at firsts edge.from edge.from_port
      (repeated ((attributes_of diagram).width_at edge.from edge.from_port) element)

  -- what the registers of an end have first
  abbrev pub first_for : LatencyEdge → Target → ℕ → ℤ
  first_for edge (Port port) element = first_at diagram edge.to element
  first_for edge Enable element = pos 0

  -- how many elements an end has, of a block that shows something
  abbrev pub count_for : Block → LatencyEdge → Target → ℕ
  count_for b edge (Port port) =
      count_by ((attributes_of diagram).width_at edge.from edge.from_port)
      ((attributes_of diagram).width_at edge.to 1)
      (lag_into diagram (attributes_of diagram) edge.to b (Port port))
      ((attributes_of diagram).period_at edge.from)
  count_for b edge Enable = 1

  abbrev pub end_count : Block → LatencyEdge → ℕ
  end_count b edge = if shown_ports b.kind b.outputs == 0 then 0 else count_for b edge edge.target

  -- an element of an end asks for a hub that is shown later
  pub record IsLateAt (list : List Ask) (wants : List Want) (b : Block) (edge : LatencyEdge)
      (place element : ℕ) : Type 0 where
    pub p : ℕ
    pub moves : (attributes_of diagram).period_at edge.from ≡ Some p
    pub want : Want
    pub asked : IsAskOf list wants place (hub_for edge element) (Some want)
    pub is : IsEndWant diagram (timing_by diagram plan times) edge.to b edge.target edge.from p
        (first_for edge edge.target element) (hub_for edge element) want

  -- or for one that never changes
  abbrev pub IsAskAt : List Ask → List Want → Block → LatencyEdge → ℕ → ℕ → Type 0
  IsAskAt list wants b edge place element =
      (((attributes_of diagram).period_at edge.from ≡ None)
      × IsAskOf list wants place (hub_for edge element) None)
      ⊎ IsLateAt list wants b edge place element

  -- the wants of an edge
  abbrev pub edge_wants : LatencyEdge → List Want
  edge_wants edge =
      map (want_for diagram plan times firsts)
      (uses_from diagram (attributes_of diagram) plan times edge
      ((attributes_of diagram).period_at edge.from))

  -- an end was put behind the others
  pub record IsEndPut (old new : List Ask) (wants more : List Want) (b : Block)
      (edge : LatencyEdge) : Type 0 where
    pub grow : AsksGrow old new wants more
    pub size : length new ≡ length old + end_count b edge
    pub each : (element : ℕ) → element < end_count b edge
        → IsAskAt new more b edge (length old + element) element
    pub added : more ≡ wants ++ edge_wants edge
    pub allowed : (net : Circuit) → HaveHubWords diagram firsts net → AreWants net wants
        → AreWants net more

  -- an end has its asks at these places
  pub record IsEndAt (list : List Ask) (wants : List Want) (spans : List Span) (number : ℕ)
      (b : Block) (edge : LatencyEdge) : Type 0 where
    pub span : Span
    pub is : slice_get spans number ≡ Some span
    pub count : span.count ≡ end_count b edge
    pub each : (element : ℕ) → element < end_count b edge
        → IsAskAt list wants b edge (span.first + element) element

  -- the first lines and the first blocks have theirs, and these edges are left
  pub record AreEnds (list : List Ask) (wants : List Want) (lines controls : List Span)
      (lined controlled : ℕ) (left : List LatencyEdge) : Type 0 where
    pub line_count_is : length lines ≡ lined
    pub control_count_is : length controls ≡ controlled
    pub each_line : (number : ℕ) (edge : Edge) (b : Block) → number < lined
        → slice_get diagram.edges number ≡ Some edge
        → slice_get diagram.blocks edge.to ≡ Some b
        → IsEndAt list wants lines number b (signal_edge edge)
    pub each_control : (block : ℕ) (b : Block) (control : ℕ) → block < controlled
        → slice_get diagram.blocks block ≡ Some b
        → Feeds diagram block b Enable control
        → IsEndAt list wants controls block b
        (record { from = control; from_port = 1; to = block; target = Enable })
    pub numbered : AreNumbered list (length wants)
    pub whole : wants ++ flat_map edge_wants left ≡ flat_map edge_wants (latency_edges diagram)
    pub allowed : (net : Circuit) → HaveHubWords diagram firsts net → AreWants net wants

-- ---- what is known where ends ask

pub record IsLawful (diagram : Diagram) (order : List ℕ) (plan : Resolved) (times : Times)
    (firsts : List (List ℕ)) : Type 0 where
  pub scheduled : IsScheduled diagram plan times
  pub timed : IsTimed diagram (attributes_of diagram) (timing_by diagram plan times)
  pub lines : LinesAreEdges
  pub joins : EdgesJoinPeriods
  pub little : LatenciesAreSmall
  pub short : PeriodsAreShort
  pub wide : LateAreWide diagram
  pub valid : TypesAreValid
  pub fit : SignalsFit
  pub stored : StoredIsOne
  pub storing : StoringGivesOne
  pub ordered : IsOrdered diagram order
  pub hubs : AreHubPlaces diagram firsts

-- ---- as the code has them

-- a line of the diagram
abbrev pub IsLineThere : Diagram → Edge → Type 0
IsLineThere diagram edge = (number : ℕ) × (slice_get diagram.edges number ≡ Some edge)

-- the edge by which a control enables a block
abbrev pub control_edge : ℕ → ℕ → LatencyEdge
control_edge control block = record { from = control; from_port = 1; to = block; target = Enable }

-- the edges of the lines and controls that are left
abbrev pub controls_left : Diagram → ℕ → List LatencyEdge
controls_left diagram count = enable_edges_from count (drop count diagram.blocks)

abbrev pub lines_left : Diagram → ℕ → List LatencyEdge
lines_left diagram count = map signal_edge (drop count diagram.edges) ++ controls_left diagram 0

-- the numbers from one to another
abbrev pub IsSpan : ℕ → ℕ → Span → Type 0
IsSpan first end span = (span.first ≡ first) × (first + span.count ≡ end)

module _ (diagram : Diagram) (plan : Resolved) (times : Times) (firsts : List (List ℕ)) where
  -- a line's end was put behind the others
  pub record IsLinePut (old new : Asks) (edge : Edge) : Type 0 where
    pub end : (b : Block) → slice_get diagram.blocks edge.to ≡ Some b
        → IsEndPut diagram plan times firsts old.list.items new.list.items old.wants.items
        new.wants.items b (signal_edge edge)

  -- a control's, if there is one
  abbrev pub IsControlEnd : Asks → Asks → ℕ → Block → Option ℕ → Type 0
  IsControlEnd old new block b None =
      (new.list.items ≡ old.list.items) × (new.wants.items ≡ old.wants.items)
  IsControlEnd old new block b (Some control) =
      IsEndPut diagram plan times firsts old.list.items new.list.items old.wants.items
      new.wants.items b (control_edge control block)

  pub record IsControlPut (old new : Asks) (block : ℕ) : Type 0 where
    pub end : (b : Block) → slice_get diagram.blocks block ≡ Some b
        → IsControlEnd old new block b (control_ever b)

  abbrev pub AreEndsFor : Asks → List Span → List Span → ℕ → ℕ → List LatencyEdge → Type 0
  AreEndsFor asks lines controls lined controlled left =
      AreEnds diagram plan times firsts asks.list.items asks.wants.items lines controls lined
      controlled left

-- ---- of the ends of a design

pub record CanAsk (ends : Ends) : Type 0 where
  pub designed : IsDesigned ends.design
  pub hubs : AreHubPlaces ends.design.checked.now.diagram ends.hubs.now

abbrev pub AreLawful : Ends → Type 0
AreLawful ends =
    IsLawful ends.design.checked.now.diagram ends.design.checked.now.order ends.design.plan.now
    (times_for ends.design) ends.hubs.now

abbrev pub PutsLine : Ends → Asks → Asks → Edge → Type 0
PutsLine ends old new edge =
    IsLinePut ends.design.checked.now.diagram ends.design.plan.now
    (times_for ends.design) ends.hubs.now old new edge

abbrev pub PutsControl : Ends → Asks → Asks → ℕ → Type 0
PutsControl ends old new block =
    IsControlPut ends.design.checked.now.diagram ends.design.plan.now
    (times_for ends.design) ends.hubs.now old new block

-- lines and controls of these counts have asked, and these controls are left
abbrev pub HaveAsked : Ends → Asks → List Span → List Span → ℕ → ℕ → List LatencyEdge → Type 0
HaveAsked ends asks lines controls lined controlled left =
    AreEndsFor ends.design.checked.now.diagram ends.design.plan.now
    (times_for ends.design) ends.hubs.now asks lines controls lined controlled left
