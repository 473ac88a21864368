-- The groups of the first nested blocks, and of those of them that stand in the flat list (own).
use Rattle.std.specs.Prelude.{◌≡◌, ℕ, ◌<◌, false, List, length, Some, slice_get, slice_index_or}
use Rattle.dg_model.specs.declared.nested.NestedBlock.{NestedBlock}
use Rattle.dg_flat.specs.Flat.{flat_place}
use Rattle.dg_flat.specs.Groups.{group_of}
use Rattle.dg_flat.specs.Parts.{is_subsystem}

-- each of the first has its group
pub record AreNestedGroups (blocks : List NestedBlock) (count : ℕ) (groups : List ℕ) : Type 0 where
  pub size : length groups ≡ count
  pub at : (place : ℕ) → place < count → slice_index_or groups place 0 ≡ group_of blocks place

-- so has each of them that is no subsystem
pub record AreFlatGroups (blocks : List NestedBlock) (count : ℕ) (groups : List ℕ) : Type 0 where
  pub size : length groups ≡ flat_place blocks count
  pub at : (place : ℕ) (block : NestedBlock) → place < count → slice_get blocks place ≡ Some block
      → is_subsystem block.part ≡ false
      → slice_index_or groups (flat_place blocks place) 0 ≡ group_of blocks place
