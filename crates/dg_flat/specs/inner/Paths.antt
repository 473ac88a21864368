-- The table of the subsystems' paths (own).
use Rattle.std.specs.Prelude.{◌≡◌, ℕ, ◌<◌, true, List, [], length, Some, slice_get, slice_index_or}
use Rattle.dg_model.specs.declared.nested.NestedBlock.{NestedBlock}
use Rattle.dg_flat.specs.Parts.{is_subsystem, nested_path}

-- the table has the path of each subsystem among the first blocks
pub record ArePaths (blocks : List NestedBlock) (count : ℕ) (paths : List (List ℕ)) : Type 0 where
  pub size : length paths ≡ count
  pub at : (place : ℕ) (block : NestedBlock) → place < count → slice_get blocks place ≡ Some block
      → is_subsystem block.part ≡ true → slice_index_or paths place [] ≡ nested_path blocks place
