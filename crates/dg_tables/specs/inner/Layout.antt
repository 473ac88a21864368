-- How the entries of blocks are laid out one behind another (own).
use Rattle.std.specs.Prelude.{◌≡◌, ℕ, ◌<◌, ◌≤◌, ◌+◌, ◌-◌, ◌==◌, if◌then◌else◌, List, length, Some, slice_get, slice_set, slice_index_or}
use Rattle.dg_model.specs.declared.diagram.Diagram.{Diagram}
use Rattle.dg_model.specs.declared.diagram.Block.{Block}
use Rattle.dg_model.specs.declared.diagram.Edge.{Edge}
use Rattle.dg_model.specs.Attributes.{attributes_of}
use Rattle.dg_model.specs.Checked.{CheckedDiagram}
use Rattle.dg_model.specs.Signals.{Attributes}
use Rattle.dg_model.specs.Solves.{shown_width}
use Rattle.dg_tables.specs.declared.entries.Place.{Place}
use Rattle.dg_tables.specs.declared.reading.Starts.{Starts}
use Rattle.dg_tables.specs.Entries.{IsEntry, place_at}
use Rattle.dg_tables.specs.Finding.{AreLines, IsNumbered}

-- of the first lines, those into a port 1 are written down
pub record AreLinesTo (diagram : Diagram) (count : ℕ) (firsts : List ℕ) : Type 0 where
  pub size : length firsts ≡ length diagram.blocks
  pub first : (k : ℕ) (edge : Edge) → k < count → slice_get diagram.edges k ≡ Some edge
      → edge.to_port ≡ 1 → slice_index_or firsts edge.to 0 ≡ k

-- the line at a place is written down where it is into a port 1
abbrev pub line_put : List ℕ → ℕ → Edge → List ℕ
line_put firsts place edge = if edge.to_port == 1 then slice_set firsts edge.to place else firsts

-- the first n ports of a block, and their entries, were put behind those of other blocks
pub record ArePut (diagram : Diagram) (attributes : Attributes) (block : ℕ) (b : Block) (n : ℕ)
    (before : List ℕ) (others : List Place) (entries : List ℕ) (places : List Place) : Type 0 where
  pub size : length entries ≡ length before + n
  pub longer : length others ≤ length places
  pub starts_stay : (i from : ℕ) → slice_get before i ≡ Some from → slice_get entries i ≡ Some from
  pub places_stay : (j : ℕ) (place : Place) → slice_get others j ≡ Some place
      → slice_get places j ≡ Some place
  pub stands : (port element : ℕ) → 1 ≤ port → port ≤ n
      → element < shown_width diagram attributes b.kind block port
      → (from : ℕ) × (slice_get entries (length before + (port - 1)) ≡ Some from)
      × (slice_get places (from + element) ≡ Some (place_at block port element))
  pub own : (j : ℕ) (place : Place) → slice_get places j ≡ Some place → length others ≤ j
      → IsEntry diagram attributes place × (place.block ≡ block)

-- the entries of the first blocks of the order are laid out
pub record AreLaid (checked : CheckedDiagram) (count : ℕ) (starts : Starts)
    (places : List Place) : Type 0 where
  pub lines : AreLines checked.diagram starts.lines.items
  pub size : length starts.ports.items ≡ length checked.diagram.blocks
  pub entries : (k : ℕ) (place : Place) → k < count → slice_get checked.order k ≡ Some place.block
      → IsEntry checked.diagram (attributes_of checked.diagram) place
      → IsNumbered starts.ports.items starts.entries.items places place
  pub known : (j : ℕ) (place : Place) → slice_get places j ≡ Some place
      → IsEntry checked.diagram (attributes_of checked.diagram) place × (k : ℕ) × (k < count)
      × (slice_get checked.order k ≡ Some place.block)
  pub ranked : (j k a b : ℕ) (source target : Place) → slice_get places j ≡ Some source
      → slice_get places k ≡ Some target
      → slice_get checked.order a ≡ Some source.block
      → slice_get checked.order b ≡ Some target.block → a < b → j < k
