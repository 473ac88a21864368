-- The blocks that each block reads in its own sample, by rows of their numbers (own).
use Rattle.std.specs.Prelude.{◌≡◌, ℕ, ◌<◌, List, length, slice_get, Some}
use Rattle.fx_io.specs.Rows.{row_at}
use Rattle.dg_model.specs.declared.diagram.Diagram.{Diagram}
use Rattle.dg_model.specs.Attributes.{attributes_of}
use Rattle.dg_model.specs.Loop.{LeadsNow}

-- the block reads this source
pub record Reads (rows : List (List ℕ)) (block source : ℕ) : Type 0 where
  pub place : ℕ
  pub at : slice_get (row_at rows block) place ≡ Some source

-- what is read is a block
pub record AreKnown (rows : List (List ℕ)) : Type 0 where
  pub there : (block source : ℕ) → Reads rows block source → source < length rows

-- the rows of a diagram: a block reads those from which an instant edge leads to it
pub record AreRows (diagram : Diagram) (rows : List (List ℕ)) : Type 0 where
  pub size : length rows ≡ length diagram.blocks
  pub known : AreKnown rows
  pub sound : (block source : ℕ) → Reads rows block source
      → LeadsNow diagram (attributes_of diagram) source block
  pub whole : (block source : ℕ) → LeadsNow diagram (attributes_of diagram) source block
      → Reads rows block source
