-- What is known of the items of a tree (own).
use Rattle.std.specs.Prelude.{◌≡◌, ℕ, ◌<◌, ◌≤◌, ◌==◌, ◌&&◌, nat_le, Bool, true, false, List, length, slice_get, slice_index, slice_index_or, Option, Some, None}
use Rattle.std.specs.List.{list_any}
use Rattle.dg_model.specs.declared.fault.RuleFault.{RuleFault}
use Rattle.dg_model.specs.declared.fault.Shown.TheVariants.{Word}
use Rattle.dg_model.specs.declared.rule.Rule.{Rule}
use Rattle.dg_model.specs.Faults.{fault_of}
use Rattle.dg_model.specs.Limits.{most_blocks}
use Rattle.mdl_text.specs.declared.tree.Item.{Item}
use Rattle.mdl_build.specs.declared.known.Known.{Known}
use Rattle.mdl_build.specs.declared.library.BlockType.{BlockType}
use Rattle.mdl_build.specs.declared.library.BlockType.TheVariants.{EnablePort}
use Rattle.mdl_build.specs.Blocks.{at, is_of, number_at, path_of}
use Rattle.mdl_build.specs.Extents.{AreExtents, total}
use Rattle.mdl_build.specs.Library.{parameters_of}
use Rattle.mdl_build.specs.Roles.{role_of, roles_of, is_block, blocks_of}
use Rattle.mdl_build.specs.Rules.{has_root, are_shallow, IsFirstWrong}
use Rattle.mdl_build.specs.Sections.{holder_of}
use Rattle.mdl_build.specs.inner.Names.{AreBlocks}

-- the model has its root, is shallow, and has no more blocks than it may
abbrev pub keeps_sizes : List ℕ → List Item → Bool
keeps_sizes extents items =
    has_root (roles_of items) && are_shallow (roles_of items) && nat_le (total extents) most_blocks

-- the roles, the blocks and how many these stand for are those of the items
pub record IsKnown (known : Known) : Type 0 where
  pub roles : known.roles.items ≡ roles_of known.layout.items.now
  pub extents : AreExtents known.layout.items.now known.extents.items
  pub blocks : AreBlocks known.layout.items.now known.blocks
  pub few : total known.extents.items ≤ most_blocks

-- these are the items, and it tells whether they keep their sizes, and then is known
pub record IsFound (items : List Item) (kept : Bool) (known : Known) : Type 0 where
  pub items_are : known.layout.items.now ≡ items
  pub extents : AreExtents items known.extents.items
  pub kept_is : keeps_sizes known.extents.items items ≡ kept
  pub is_known : kept ≡ true → IsKnown known

-- items that don't keep their sizes
pub record AreLarge (items : List Item) : Type 0 where
  pub extents : List ℕ
  pub are_extents : AreExtents items extents
  pub not_kept : keeps_sizes extents items ≡ false

-- what is known of items that keep their sizes
abbrev pub IsKnownOf : List Item → Option Known → Type 0
IsKnownOf items None = AreLarge items
IsKnownOf items (Some known) = IsFound items true known

-- the block at a place is an EnablePort of the System at another
abbrev pub is_enable_in : List Item → ℕ → ℕ → Bool
is_enable_in items system place =
    at false (λ holder. holder == system) (holder_of items place) && is_of items EnablePort place

-- of each System whether it has an EnablePort among these blocks
pub record AreEnabled (items : List Item) (blocks : List ℕ) (enabled : List Bool) : Type 0 where
  pub long : length enabled ≡ length items
  pub each : (system : ℕ) → system < length items
      → slice_index_or enabled system false ≡ list_any (is_enable_in items system) blocks

-- of so many blocks the numbers by place
pub record AreNumbersTo (items : List Item) (count : ℕ) (numbers : List ℕ) : Type 0 where
  pub long : length numbers ≡ length items
  pub each : (k place : ℕ) → k < count → slice_get (blocks_of items) k ≡ Some place
      → slice_index numbers place ≡ k

-- of all blocks
pub record AreNumbers (items : List Item) (numbers : List ℕ) : Type 0 where
  pub long : length numbers ≡ length items
  pub each : (place : ℕ) → place < length items → is_block (role_of items place) ≡ true
      → slice_index numbers place ≡ number_at items place

-- the block at a place has a first parameter that isn't read, which is told
pub record IsWrongAt (items : List Item) (block_type : BlockType) (place : ℕ)
    (fault : RuleFault) : Type 0 where
  pub name : List ℕ
  pub wrong : IsFirstWrong items block_type place (parameters_of block_type) name
  pub fault_is : fault ≡ fault_of Rule.Parameter (path_of items place) (Word name)
