-- Where a System stands in a table (own).
use Rattle.std.specs.Prelude.{◌≡◌, ℕ, zero, suc, ◌≤◌, true, List, Option, Some, None, slice_get}
use Rattle.dg_model.specs.declared.nested.NestedBlock.{NestedBlock}
use Rattle.dg_flat.specs.Parts.{is_subsystem}

-- the root is the first, and the System of a subsystem stands one behind the place of its block
abbrev pub slot_of : Option ℕ → ℕ
slot_of None = 0
slot_of (Some block) = suc block

abbrev pub system_of : ℕ → Option ℕ
system_of zero = None
system_of (suc block) = Some block

-- what is noted where something may be noted already
abbrev pub first_of : Option ℕ → Option ℕ → Option ℕ
first_of (Some earlier) later = Some earlier
first_of None later = later

-- each System is that of a subsystem, which stands before the blocks in it
pub record HaveParents (blocks : List NestedBlock) : Type 0 where
  pub before : (place : ℕ) (block : NestedBlock) → slice_get blocks place ≡ Some block
      → slot_of block.parent ≤ place
  pub subsystem : (place system : ℕ) (block holder : NestedBlock)
      → slice_get blocks place ≡ Some block → block.parent ≡ Some system
      → slice_get blocks system ≡ Some holder → is_subsystem holder.part ≡ true
