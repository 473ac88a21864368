-- How many registers a module has at the most where the lines of one source share them (own).
use Rattle.std.specs.Prelude.{ℕ, ◌+◌, ◌*◌, ◌/◌, ◌%◌, ◌==◌, ◌&&◌, not, nat_le, ℤ, Bool, true, false, if◌then◌else◌, List, [], ◌∷◌, length, map, filter, Option, Some, None, slice_get}
use Rattle.std.specs.List.{sum, flat_map}
use Rattle.std.specs.Ordering.{int_eq}
use Rattle.fx_type.specs.declared.decimal.Decimal.{Decimal}
use Rattle.fx_type.specs.declared.kind.FxType.{FxType}
use Rattle.fx_type.specs.StoredOf.{stored_of}
use Rattle.math_list.specs.Numbers.{numbers_from, greatest}
use Rattle.dg_model.specs.declared.diagram.Diagram.{Diagram}
use Rattle.dg_model.specs.declared.diagram.Block.{Block}
use Rattle.dg_model.specs.declared.resolved.Resolved.{Resolved}
use Rattle.dg_model.specs.LatencyEdges.{LatencyEdge, latency_edges}
use Rattle.dg_model.specs.Library.{row_of}
use Rattle.dg_model.specs.Signals.{Attributes}
use Rattle.dg_model.specs.Solves.{shown_ports}
use Rattle.dg_model.specs.Wires.{repeated, entry_of}
use Rattle.hw_arcs.specs.Latencies.{latency_at}
use Rattle.hw_latency.specs.Weight.{samples, is_registered}
use Rattle.dg_model.specs.PlanOf.{stages_at}
use Rattle.hw_sched.specs.Slots.{Timing, shared_operations}
use Rattle.hw_sched.specs.Storage.{shift_of, registers_in_all}

-- a use of an element of a block's output by an edge: by how many base samples it is later, the
-- period of its reader, and the stored integer that it shows first, if that is one of its own
pub record Use : Type 0 where
  pub from : ℕ
  pub port : ℕ
  pub element : ℕ
  pub source : ℕ
  pub first : Option ℤ
  pub shift : ℕ
  pub period : ℕ

-- the initial values of a block
abbrev pub first_list : List (List Decimal) → List Decimal
first_list [] = []
first_list (list ∷ lists) = list

-- that of an element, stored in the block's type
abbrev pub stored_in : FxType → Option Decimal → Option ℤ
stored_in type None = None
stored_in type (Some decimal) = Some (stored_of decimal type)

abbrev pub initial_at : Attributes → ℕ → Block → ℕ → Option ℤ
initial_at attributes place block element =
    stored_in (attributes.type_at place 1)
    (entry_of (first_list (row_of block.kind).signal.lists) element)

-- a use by an edge from a block of this period
abbrev pub use_of : Diagram → Attributes → Resolved → Timing → LatencyEdge → ℕ → ℕ → Option ℤ → Use
use_of diagram attributes plan timing edge source element first = record {
  from = edge.from;
  port = edge.from_port;
  element = element;
  source = source;
  first = first;
  shift = shift_of diagram attributes plan timing edge;
  period = samples (attributes.period_at edge.to);
}

-- the uses by an edge: where it is registered one for each element of the reader, else one for each
-- element of its source's port; none by a block that shows nothing
abbrev pub uses_by : Diagram → Attributes → Resolved → Timing → LatencyEdge → ℕ → Block → Bool
    → List Use
uses_by diagram attributes plan timing edge source block true =
    map (λ element. use_of diagram attributes plan timing edge source
    (repeated (attributes.width_at edge.from edge.from_port) element)
    (initial_at attributes edge.to block element)) (numbers_from 0 (attributes.width_at edge.to 1))
uses_by diagram attributes plan timing edge source block false =
    map (λ element. use_of diagram attributes plan timing edge source element None)
    (numbers_from 0 (attributes.width_at edge.from edge.from_port))

abbrev pub uses_into : Diagram → Attributes → Resolved → Timing → LatencyEdge → ℕ → Option Block
    → List Use
uses_into diagram attributes plan timing edge source None = []
uses_into diagram attributes plan timing edge source (Some block) =
    if shown_ports block.kind block.outputs == 0 then []
    else uses_by diagram attributes plan timing edge source block
    (is_registered block (samples (attributes.period_at edge.to)) source)

abbrev pub uses_from : Diagram → Attributes → Resolved → Timing → LatencyEdge → Option ℕ → List Use
uses_from diagram attributes plan timing edge None = []
uses_from diagram attributes plan timing edge (Some source) =
    uses_into diagram attributes plan timing edge source (slice_get diagram.blocks edge.to)

-- those of all edges
abbrev pub uses_in_all : Diagram → Attributes → Resolved → Timing → List Use
uses_in_all diagram attributes plan timing =
    flat_map (λ edge. uses_from diagram attributes plan timing edge
    (attributes.period_at edge.from)) (latency_edges diagram)

-- the first of those of a list that are the same
abbrev pub distinct : {A : Type 0} → (A → A → Bool) → List A → List A
distinct same [] = []
distinct same (x ∷ xs) = x ∷ filter (λ y. not (same x y)) (distinct same xs)

-- two first values are the same
abbrev pub is_same_first : Option ℤ → Option ℤ → Bool
is_same_first None None = true
is_same_first None (Some other) = false
is_same_first (Some first) None = false
is_same_first (Some first) (Some other) = int_eq first other

-- two uses share registers: they are of one element, and show the same first
abbrev pub is_same_line : Use → Use → Bool
is_same_line reader other =
    ((reader.from == other.from) && (reader.port == other.port))
    && ((reader.element == other.element) && is_same_first reader.first other.first)

-- and are one, where they are as late, for readers of one period
abbrev pub is_same_use : Use → Use → Bool
is_same_use reader other = (reader.shift == other.shift) && (reader.period == other.period)

-- whether a use is later by whole periods of its source, for a reader of no longer period: the
-- registers of these periods show it
abbrev pub is_whole : Use → Bool
is_whole reader = (reader.shift % reader.source == 0) && nat_le reader.period reader.source

-- the registers of the uses that share some: one for each period of the source by which the latest
-- is later, and one for each use that isn't later by whole periods
abbrev pub registers_of : List Use → ℕ
registers_of uses =
    greatest (map (λ reader. reader.shift / reader.source) uses)
    + length (distinct is_same_use (filter (λ reader. not (is_whole reader)) uses))

abbrev pub registers_of_lines : List Use → ℕ
registers_of_lines uses =
    sum (map (λ reader. registers_of (filter (is_same_line reader) uses))
    (distinct is_same_line uses))

-- a frame: its period, and the latency from which on it is counted
pub record FramePair : Type 0 where
  pub period : ℕ
  pub latency : ℕ

abbrev pub is_same_frame : FramePair → FramePair → Bool
is_same_frame frame other = (frame.period == other.period) && (frame.latency == other.latency)

-- those of a block: before its pipeline, and behind
abbrev pub frames_of : Resolved → Timing → ℕ → Option ℕ → List FramePair
frames_of plan timing place None = []
frames_of plan timing place (Some period) =
    record { period = period; latency = latency_at timing.lat place }
    ∷ record {
      period = period;
      latency = latency_at timing.lat place + stages_at plan place
          * period;
    } ∷ []

-- those of all blocks, each once
abbrev pub frames_in_all : Diagram → Attributes → Resolved → Timing → List FramePair
frames_in_all diagram attributes plan timing =
    distinct is_same_frame
    (flat_map (λ place. frames_of plan timing place (attributes.period_at place))
    (numbers_from 0 (length diagram.blocks)))

-- the registers of a module at the most: of lines, blocks, results of shared operations, and
-- counters of frames
abbrev pub chained : Diagram → Attributes → Resolved → Timing → ℕ
chained diagram attributes plan timing =
    registers_of_lines (uses_in_all diagram attributes plan timing)
    + (registers_in_all diagram attributes plan
    + (length (shared_operations diagram attributes plan)
    + length (frames_in_all diagram attributes plan timing)))
