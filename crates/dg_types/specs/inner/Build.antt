-- What building the rounds' data keeps (own).
use Rattle.std.specs.Prelude.{◌≡◌, ℕ, ◌⊎◌, ◌<◌, ◌≤◌, ◌^◌, ◌==◌, true, List, [], length, map, filter, All, Some, slice_get, slice_index_or, ⊤}
use Rattle.dg_model.specs.declared.diagram.Block.{Block}
use Rattle.dg_model.specs.declared.diagram.Edge.{Edge}
use Rattle.dg_types.specs.declared.linked.Form.{Form}
use Rattle.dg_types.specs.inner.Widths.{is_shared_out}
use Rattle.dg_model.specs.KindRow.{IsBetween, Only, Shape}
use Rattle.dg_model.specs.Limits.{widest_signal, longest_list}
use Rattle.dg_model.specs.Widths.{list_length}
use Rattle.dg_types.specs.inner.WidthShapes.{form_of, shape_of, source_of}
use Rattle.dg_waves.specs.inner.Waves.{is_in}

abbrev pub all_forms : List Block → List Form
all_forms blocks = map (λ block. form_of (shape_of block.kind) (list_length block.kind)) blocks

-- each size is fixed, or none
abbrev pub AreAlike : List ℕ → Type 0
AreAlike sizes = All (IsBetween 1 widest_signal) sizes ⊎ All (Only 0) sizes

-- a Demux has the port, and sizes that are alike
abbrev pub IsPortOf : Shape → ℕ → Type 0
IsPortOf Shape.Elementwise port = ⊤
IsPortOf (Shape.Joined sizes) port = ⊤
IsPortOf (Shape.Parted sizes) port =
    (port ≤ length sizes) × (length sizes < 2 ^ 32) × AreAlike sizes
IsPortOf Shape.Single port = ⊤

-- what building asks of a diagram; a wired one has it
pub record CanLink (blocks : List Block) (edges : List Edge) : Type 0 where
  pub lists : All (λ block. list_length block.kind ≤ longest_list) blocks
  pub ends : (k : ℕ) (edge : Edge) → slice_get edges k ≡ Some edge → (edge.from < length blocks)
      × (edge.to < length blocks)
  pub ports : (k : ℕ) (edge : Edge) → slice_get edges k ≡ Some edge → (block : Block)
      → slice_get blocks edge.from ≡ Some block → IsPortOf (shape_of block.kind) edge.from_port
  pub first_port : All (λ edge. 1 ≤ edge.from_port) edges
  pub shared_out : (k : ℕ) (edge : Edge) → slice_get edges k ≡ Some edge
      → is_shared_out (source_of blocks edge).share ≡ true

-- each block's row holds an entry of each of these edges that leads into it
pub record Gathered {A : Type 0} (count : ℕ) (entry_of : Edge → A) (done : List Edge)
    (rows : List (List A)) : Type 0 where
  pub size : length rows ≡ count
  pub row : (k : ℕ) → k < count
      → slice_index_or rows k [] ≡ map entry_of (filter (λ edge. edge.to == k) done)

-- so many blocks are readers of themselves, and the ends of these edges are readers
pub record Known (count selves : ℕ) (done : List Edge) (rows : List (List ℕ)) : Type 0 where
  pub size : length rows ≡ count
  pub own : (k : ℕ) → k < selves → is_in k (slice_index_or rows k []) ≡ true
  pub known : (j : ℕ) (edge : Edge) → slice_get done j ≡ Some edge
      → is_in edge.to (slice_index_or rows edge.from []) ≡ true
  pub there : (k : ℕ) → All (λ reader. reader < count) (slice_index_or rows k [])
