-- How what the code holds of a block shows its widths (own).
use Rattle.std.specs.Prelude.{◌≡◌, ℕ, zero, suc, ◌-◌, ◌<◌, ◌≤◌, max, if◌then◌else◌, List, [], ◌∷◌, length, map, Option, Some, None, slice_get, slice_index_or, ⊤}
use Rattle.dg_model.specs.declared.diagram.Diagram.{Diagram}
use Rattle.dg_model.specs.declared.diagram.Block.{Block}
use Rattle.dg_model.specs.declared.diagram.Edge.{Edge}
use Rattle.math_list.specs.Numbers.{numbers_from}
use Rattle.dg_types.specs.declared.linked.Share.{Share}
use Rattle.dg_types.specs.declared.linked.Share.TheVariants.{Whole, Even, Fixed}
use Rattle.dg_types.specs.declared.linked.Source.{Source}
use Rattle.dg_types.specs.declared.linked.Form.{Form}
use Rattle.dg_types.specs.declared.linked.Form.TheVariants.{Elementwise, Joined, Divided, Single}
use Rattle.dg_model.specs.declared.kind.Kind.{Kind}
use Rattle.dg_model.specs.KindRow.{Shape}
use Rattle.dg_model.specs.Library.{row_of}
use Rattle.dg_model.specs.Widths.{Widths, are_open, share, list_length, most_width}
use Rattle.dg_model.specs.Wires.{edges_into}

-- how a block takes its widths, and the width that it declares
abbrev pub shape_of : Kind → Shape
shape_of kind = (row_of kind).signal.shape

abbrev pub declared_width : Kind → ℕ
declared_width kind = (row_of kind).signal.width

-- the widths at the output ports of a block that holds this
abbrev pub outputs_of : Shape → ℕ → List ℕ
outputs_of Shape.Elementwise held = held ∷ []
outputs_of (Shape.Joined sizes) held = held ∷ []
outputs_of (Shape.Parted sizes) zero = map (λ (size : ℕ). 1) sizes
outputs_of (Shape.Parted sizes) (suc width) =
    if are_open sizes then map (share width (length sizes)) (numbers_from 0 (length sizes))
    else sizes
outputs_of Shape.Single held = held ∷ []

abbrev pub shown : List Block → List ℕ → Widths
shown [] held = []
shown (block ∷ blocks) [] = []
shown (block ∷ blocks) (x ∷ held) = outputs_of (shape_of block.kind) x ∷ shown blocks held

-- what is held before the first round
abbrev pub first_held : Shape → ℕ → ℕ
first_held Shape.Elementwise width = max 1 width
first_held (Shape.Joined sizes) width = 1
first_held (Shape.Parted sizes) width = 0
first_held Shape.Single width = 1

abbrev pub all_first : List Block → List ℕ
all_first blocks =
    map (λ block. first_held (shape_of block.kind) (declared_width block.kind)) blocks

abbrev pub form_of : Shape → ℕ → Form
form_of Shape.Elementwise lists = Elementwise lists
form_of (Shape.Joined sizes) lists = Joined
form_of (Shape.Parted sizes) lists = Divided
form_of Shape.Single lists = Single

abbrev pub part_of : List ℕ → ℕ → Share
part_of sizes place =
    if are_open sizes then Even (length sizes) place else Fixed (slice_index_or sizes place 0)

abbrev pub share_at : Shape → ℕ → Share
share_at (Shape.Parted sizes) port = part_of sizes (port - 1)
share_at Shape.Elementwise port = Whole
share_at (Shape.Joined sizes) port = Whole
share_at Shape.Single port = Whole

abbrev pub source_share : Option Block → ℕ → Share
source_share None port = Whole
source_share (Some block) port = share_at (shape_of block.kind) port

abbrev pub source_of : List Block → Edge → Source
source_of blocks edge =
    record { block = edge.from; share = source_share (slice_get blocks edge.from) edge.from_port }

-- the port is there
abbrev pub IsPort : Shape → ℕ → Type 0
IsPort Shape.Elementwise port = port ≡ 1
IsPort (Shape.Joined sizes) port = port ≡ 1
IsPort (Shape.Parted sizes) port = (1 ≤ port) × (port ≤ length sizes)
IsPort Shape.Single port = port ≡ 1

-- there are parts, and none is too wide
abbrev pub HasParts : Shape → Type 0
HasParts Shape.Elementwise = ⊤
HasParts (Shape.Joined sizes) = ⊤
HasParts (Shape.Parted sizes) =
    (1 ≤ length sizes) × ((k : ℕ) → slice_index_or sizes k 0 ≤ most_width)
HasParts Shape.Single = ⊤

-- what these lemmas ask of a diagram; a wired one has it
pub record IsLaid (diagram : Diagram) : Type 0 where
  pub ports : (k : ℕ) (edge : Edge) → slice_get diagram.edges k ≡ Some edge → (block : Block)
      × (slice_get diagram.blocks edge.from ≡ Some block)
      × IsPort (shape_of block.kind) edge.from_port
  pub parts : (k : ℕ) (block : Block) → slice_get diagram.blocks k ≡ Some block
      → HasParts (shape_of block.kind)
  pub declared : (k : ℕ) (block : Block) → slice_get diagram.blocks k ≡ Some block
      → declared_width block.kind ≤ most_width

-- forms and sources are those of the diagram
pub record Mirrors (diagram : Diagram) (forms : List Form)
    (sources : List (List Source)) : Type 0 where
  pub form : (k : ℕ) (block : Block) → slice_get diagram.blocks k ≡ Some block
      → slice_index_or forms k Single ≡ form_of (shape_of block.kind) (list_length block.kind)
  pub source : (k : ℕ) → k < length diagram.blocks
      → slice_index_or sources k [] ≡ map (source_of diagram.blocks) (edges_into diagram k)
