-- The subsystem of the root in which each block of a flat diagram stands, at any depth (own).
use Rattle.std.specs.Prelude.{◌≡◌, ℕ, zero, suc, ◌+◌, ◌&&◌, not, Bool, false, if◌then◌else◌, List, length, take, count_by, Option, Some, None, slice_get, slice_index_or}
use Rattle.std.specs.Option.{is_some}
use Rattle.dg_model.specs.declared.nested.NestedBlock.{NestedBlock}
use Rattle.dg_model.specs.declared.nested.Part.{Part}
use Rattle.dg_flat.specs.Flat.{flat_place}
use Rattle.dg_flat.specs.Parts.{is_subsystem}

-- whether the block is a subsystem of the root
abbrev pub is_root_subsystem : NestedBlock → Bool
is_root_subsystem block = is_subsystem block.part && not (is_some block.parent)

-- how many of them stand before a place
abbrev pub root_subsystems : List NestedBlock → ℕ → ℕ
root_subsystems blocks place = count_by is_root_subsystem (take place blocks)

-- the group of a block of the root, behind so many subsystems of the root: the number of one, from 1
abbrev pub own_group : ℕ → Part → ℕ
own_group count part = if is_subsystem part then count + 1 else 0

-- a block that stands in a System is of the System's group
abbrev pub group_in : ℕ → (ℕ → ℕ) → Option ℕ → ℕ
group_in own group None = own
group_in own group (Some system) = group system

-- of any block, and 0 where there is none
abbrev pub group_by : ℕ → (ℕ → ℕ) → Option NestedBlock → ℕ
group_by count group None = 0
group_by count group (Some block) = group_in (own_group count block.part) group block.parent

-- the group of the block at a place, through at most so many Systems
abbrev pub group_within : List NestedBlock → ℕ → ℕ → ℕ
group_within blocks zero place = 0
group_within blocks (suc levels) place =
    group_by (root_subsystems blocks place) (group_within blocks levels) (slice_get blocks place)

-- the number, from 1 and in the order of the file, of the subsystem of the root in which the block at
-- a place stands, or which it is; 0 of other blocks of the root. Each System stands before the blocks
-- in it.
abbrev pub group_of : List NestedBlock → ℕ → ℕ
group_of blocks place = group_within blocks (suc place) place

-- the groups of the blocks of the flat list, each by the place that its nested block has in it
pub record AreGroups (blocks : List NestedBlock) (groups : List ℕ) : Type 0 where
  pub size : length groups ≡ flat_place blocks (length blocks)
  pub at : (place : ℕ) (block : NestedBlock) → slice_get blocks place ≡ Some block
      → is_subsystem block.part ≡ false
      → slice_index_or groups (flat_place blocks place) 0 ≡ group_of blocks place
