-- The entries of a table at a sample, by their places, and which of them an input port offers
-- (own).
use Rattle.std.specs.Prelude.{◌≡◌, ℕ, ℤ, List, Some, slice_get}
use Rattle.dg_model.specs.declared.diagram.Diagram.{Diagram}
use Rattle.dg_model.specs.declared.diagram.Block.{Block}
use Rattle.dg_model.specs.Signals.{Attributes, Table}
use Rattle.dg_model.specs.Solves.{IsShown}
use Rattle.dg_model.specs.Wires.{value_into, type_into}
use Rattle.dg_tables.specs.declared.entries.Place.{Place}

-- the place of an element of a port of a block
abbrev pub place_at : ℕ → ℕ → ℕ → Place
place_at block port element = record { block = block; port = port; element = element }

-- the table's entry at a place
abbrev pub entry : Table → Place → ℕ → ℤ
entry table place t = table place.block place.port place.element t

-- the table shows an entry at the place
abbrev pub IsEntry : Diagram → Attributes → Place → Type 0
IsEntry diagram attributes place =
    (b : Block) × IsShown diagram attributes place.block b place.port place.element

-- all places are entries
abbrev pub AreEntries : Diagram → Attributes → List Place → Type 0
AreEntries diagram attributes places =
    (j : ℕ) (place : Place) → slice_get places j ≡ Some place → IsEntry diagram attributes place

-- what an input port offers to an element is the entry at this place
pub record IsSource (diagram : Diagram) (attributes : Attributes) (block port element : ℕ)
    (place : Place) : Type 0 where
  pub value : (table : Table) (t : ℕ)
      → value_into diagram attributes table block port element t ≡ entry table place t
  pub type : type_into diagram attributes block port ≡ attributes.type_at place.block place.port

-- it is the entry that stands at j in the list
pub record Reads (diagram : Diagram) (attributes : Attributes) (places : List Place)
    (block port element j : ℕ) : Type 0 where
  pub place : Place
  pub there : slice_get places j ≡ Some place
  pub is_source : IsSource diagram attributes block port element place
