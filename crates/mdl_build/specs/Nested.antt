-- The blocks and lines of a tree that keeps the rules of structure, library and parameter (Simulink
-- reference, model files).
use Rattle.std.specs.Prelude.{◌≡◌, ℕ, List, Some, None, option_map, codes}
use Rattle.std.specs.List.{AllZip}
use Rattle.fx_type.specs.declared.decimal.Decimal.{Decimal}
use Rattle.dg_model.specs.declared.nested.Nested.{Nested}
use Rattle.dg_model.specs.declared.nested.NestedBlock.{NestedBlock}
use Rattle.mdl_text.specs.declared.tree.Item.{Item}
use Rattle.mdl_text.specs.declared.tree.Tree.{Tree}
use Rattle.mdl_build.specs.declared.expanding.DrawnBlock.{DrawnBlock}
use Rattle.mdl_build.specs.declared.library.BlockType.{BlockType}
use Rattle.mdl_build.specs.declared.settings.Settings.{Settings}
use Rattle.mdl_build.specs.Blocks.{number_at, parent_of, standing_of, HasSettings}
use Rattle.mdl_build.specs.Expanded.{expanded_blocks, expanded_lines}
use Rattle.mdl_build.specs.Extents.{AreExtents, starts}
use Rattle.mdl_build.specs.Lines.{lines_of}
use Rattle.mdl_build.specs.Parts.{part_of, filter_of}
use Rattle.mdl_build.specs.Roles.{blocks_of}
use Rattle.mdl_build.specs.Rules.{structure_fault, library_fault, type_at}
use Rattle.mdl_build.specs.Sections.{value_of}

-- the block that the section at a place becomes
pub record IsBlockAt (items : List Item) (place : ℕ) (block : NestedBlock) : Type 0 where
  pub name : value_of items place (codes "Name") ≡ Some block.name
  pub parent : block.parent ≡ option_map (number_at items) (parent_of items place)
  pub block_type : BlockType
  pub type_is : type_at items place ≡ Some block_type
  pub settings : Settings
  pub has : HasSettings items block_type place settings
  pub part : block.part ≡ part_of (standing_of items place) block_type settings

-- the block as it is drawn, with the filter that it stands for
pub record IsDrawnAt (items : List Item) (place : ℕ) (drawn : DrawnBlock) : Type 0 where
  pub block : IsBlockAt items place drawn.block
  pub filter : drawn.filter ≡ filter_of drawn.block.name block.block_type block.settings

-- the tree keeps the rules, and these are its blocks in file order and its lines, where each filter
-- is taken apart
pub record IsNestedOf (tree : Tree) (nested : Nested) : Type 0 where
  pub extents : List ℕ
  pub are_extents : AreExtents tree.items extents
  pub structured : structure_fault extents tree.items ≡ None
  pub known : library_fault tree.items ≡ None
  pub drawn : List DrawnBlock
  pub are_drawn : AllZip (IsDrawnAt tree.items) (blocks_of tree.items) drawn
  pub blocks : (other : Decimal)
      → nested.blocks ≡ expanded_blocks other (starts 0 extents) drawn
  pub lines : nested.lines ≡ expanded_lines (starts 0 extents) drawn (lines_of tree.items)
