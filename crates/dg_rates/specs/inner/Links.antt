-- What each block reads, and which blocks read it, by rows of their numbers (own).
use Rattle.std.specs.Prelude.{◌≡◌, ℕ, ◌<◌, ◌++◌, ◌==◌, nat_lt, true, if◌then◌else◌, List, [], All, length, map, filter, Some, slice_get}
use Rattle.fx_io.specs.Rows.{row_at}
use Rattle.dg_waves.specs.inner.Waves.{is_in}
use Rattle.dg_model.specs.declared.diagram.Diagram.{Diagram}
use Rattle.dg_model.specs.declared.diagram.Block.{Block}
use Rattle.dg_model.specs.declared.diagram.Edge.{Edge}
use Rattle.dg_model.specs.Periods.{control_of, drivers_of, sources_of}

-- so many blocks read blocks that are there, and these know them as their readers; those before
-- `selves` are readers of themselves
pub record AreTied (count selves : ℕ) (sources readers : List (List ℕ)) : Type 0 where
  pub sources_size : length sources ≡ count
  pub readers_size : length readers ≡ count
  pub there : (block : ℕ) → All (λ source. source < count) (row_at sources block)
  pub readers_there : (block : ℕ) → All (λ reader. reader < count) (row_at readers block)
  pub own : (block : ℕ) → block < selves → is_in block (row_at readers block) ≡ true
  pub known : (block k source : ℕ) → slice_get (row_at sources block) k ≡ Some source
      → is_in block (row_at readers source) ≡ true

-- the rows have the drivers of these edges, in order
pub record AreDrivers (count : ℕ) (edges : List Edge) (rows : List (List ℕ)) : Type 0 where
  pub row : (block : ℕ) → block < count
      → row_at rows block ≡ map (λ edge. edge.from) (filter (λ edge. edge.to == block) edges)

-- the rows have the drivers of all blocks, and the controls of those before `done`
pub record AreControlled (diagram : Diagram) (done : ℕ) (rows : List (List ℕ)) : Type 0 where
  pub row : (place : ℕ) (block : Block) → slice_get diagram.blocks place ≡ Some block
      → row_at rows place ≡ drivers_of diagram place
      ++ (if nat_lt place done then control_of block else [])

-- the rows have the sources of all blocks
pub record AreSources (diagram : Diagram) (rows : List (List ℕ)) : Type 0 where
  pub row : (place : ℕ) (block : Block) → slice_get diagram.blocks place ≡ Some block
      → row_at rows place ≡ sources_of diagram place block
