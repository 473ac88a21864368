-- What is known of the slots of periods on the way to them (own).
use Rattle.std.specs.Prelude.{◌≡◌, ℕ, ◌<◌, ◌≤◌, List, length, map, take, Some, slice_get, slice_index}
use Rattle.dg_model.specs.declared.diagram.Diagram.{Diagram}
use Rattle.dg_model.specs.declared.diagram.Edge.{Edge}
use Rattle.dg_model.specs.declared.resolved.Resolved.{Resolved}
use Rattle.dg_model.specs.Attributes.{attributes_of}
use Rattle.dg_model.specs.Limits.{most_times}
use Rattle.math_list.specs.Numbers.{greatest}
use Rattle.hw_latency.specs.Weight.{samples}
use Rattle.hw_slots.specs.declared.operation.Span.{Span}
use Rattle.hw_sched.specs.Slots.{shorter_into, start_of, have_of}

-- the periods of all blocks are below this number, which is not great
pub record AreCounted (diagram : Diagram) (count : ℕ) : Type 0 where
  pub all : (place : ℕ) → samples ((attributes_of diagram).period_at place) < count
  pub few : count ≤ 4097

-- the longest of the shorter periods from which lines lead into a period by transitions
abbrev pub longest_of : Diagram → List Edge → ℕ → ℕ
longest_of diagram edges period =
    greatest (map
    (λ edge. shorter_into (attributes_of diagram) period edge
    (slice_get diagram.blocks edge.to)) edges)

-- a list has these of the first lines
pub record AreLongestTo (diagram : Diagram) (count : ℕ) (longest : List ℕ) : Type 0 where
  pub counted : AreCounted diagram (length longest)
  pub are : (period : ℕ) → period < length longest
      → slice_index longest period ≡ longest_of diagram (take count diagram.edges) period

-- and of all
pub record AreLongest (diagram : Diagram) (longest : List ℕ) : Type 0 where
  pub counted : AreCounted diagram (length longest)
  pub are : (period : ℕ) → period < length longest
      → slice_index longest period ≡ longest_of diagram diagram.edges period
  pub short : (period : ℕ) → slice_index longest period ≤ most_times

-- the slots of a period
abbrev pub span_of : Diagram → Resolved → ℕ → Span
span_of diagram plan period =
    record {
      start = start_of diagram (attributes_of diagram) plan period;
      have = have_of plan period;
    }

-- a list has those of the first periods
pub record AreSpansTo (diagram : Diagram) (plan : Resolved) (count : ℕ)
    (spans : List Span) : Type 0 where
  pub size : length spans ≡ count
  pub are : (period : ℕ) → period < count
      → slice_get spans period ≡ Some (span_of diagram plan period)

-- and of all
pub record AreSpans (diagram : Diagram) (plan : Resolved) (spans : List Span) : Type 0 where
  pub counted : AreCounted diagram (length spans)
  pub are : (period : ℕ) → period < length spans
      → slice_get spans period ≡ Some (span_of diagram plan period)
