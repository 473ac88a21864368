-- What finds the lines and the entries of a block (own).
use Rattle.std.specs.Prelude.{◌≡◌, ℕ, ◌<◌, ◌+◌, ◌-◌, ◌^◌, true, List, length, Some, slice_get, slice_index_or}
use Rattle.dg_model.specs.declared.diagram.Diagram.{Diagram}
use Rattle.dg_model.specs.declared.diagram.Block.{Block}
use Rattle.dg_model.specs.declared.diagram.Edge.{Edge}
use Rattle.dg_model.specs.Attributes.{attributes_of}
use Rattle.dg_model.specs.Checked.{CheckedDiagram}
use Rattle.dg_model.specs.Instant.{reads_now}
use Rattle.dg_model.specs.Loop.{LeadsNow}
use Rattle.dg_model.specs.Signals.{Attributes}
use Rattle.dg_model.specs.Wires.{width_into, repeated}
use Rattle.dg_tables.specs.declared.entries.Place.{Place}
use Rattle.dg_tables.specs.declared.reading.Starts.{Starts}
use Rattle.dg_tables.specs.Entries.{IsEntry}

-- ---- lines

-- the lines into each block stand one behind another, by their ports, from a first one on
pub record AreLines (diagram : Diagram) (firsts : List ℕ) : Type 0 where
  pub each : (k : ℕ) (edge : Edge) → slice_get diagram.edges k ≡ Some edge
      → k ≡ slice_index_or firsts edge.to 0 + edge.to_port - 1

-- ---- entries

-- an entry stands behind the place where those of its port begin, as far as its element; the ports
-- of a block follow one another
pub record IsNumbered (ports entries : List ℕ) (places : List Place) (place : Place) : Type 0 where
  pub first : ℕ
  pub from : ℕ
  pub first_is : slice_get ports place.block ≡ Some first
  pub from_is : slice_get entries (first + (place.port - 1)) ≡ Some from
  pub stands : slice_get places (from + place.element) ≡ Some place

-- each line and each entry is found, and an entry stands before those of a block that reads it in
-- the same sample
pub record Finds (checked : CheckedDiagram) (starts : Starts) (places : List Place) : Type 0 where
  pub lines : AreLines checked.diagram starts.lines.items
  pub few : length places < 2 ^ 32
  pub entries : (place : Place) → IsEntry checked.diagram (attributes_of checked.diagram) place
      → IsNumbered starts.ports.items starts.entries.items places place
  pub ranked : (j k : ℕ) (source target : Place) → slice_get places j ≡ Some source
      → slice_get places k ≡ Some target
      → LeadsNow checked.diagram (attributes_of checked.diagram) source.block target.block → j < k

-- an input port offers an element that its driver has
abbrev pub IsRead : Diagram → Attributes → ℕ → ℕ → ℕ → Type 0
IsRead diagram attributes block port element =
    repeated (width_into diagram attributes block port) element < width_into diagram attributes
    block port

-- the entry at the source of a line that serves an element
abbrev pub source_of : Attributes → Edge → ℕ → Place
source_of attributes edge element =
    record {
      block = edge.from;
      port = edge.from_port;
      element = repeated (attributes.width_at edge.from edge.from_port) element;
    }

-- the entry at k is one of a block that reads its inputs in the same sample
abbrev pub ReadsNow : CheckedDiagram → List Place → ℕ → ℕ → Type 0
ReadsNow checked places k block =
    (place : Place) × (b : Block) × (slice_get places k ≡ Some place) × (place.block ≡ block)
    × (slice_get checked.diagram.blocks block ≡ Some b)
    × (reads_now checked.diagram (attributes_of checked.diagram) block b.kind ≡ true)

-- an entry stands before those of a block that reads it so
abbrev pub IsBeforeReader : CheckedDiagram → List Place → ℕ → ℕ → Type 0
IsBeforeReader checked places block number = (k : ℕ) → ReadsNow checked places k block → number < k
