-- Which nested block each block of a flat diagram comes from (own).
use Rattle.std.specs.Prelude.{◌≡◌, ℕ, false, List, Some, slice_get}
use Rattle.dg_model.specs.declared.diagram.Block.{Block}
use Rattle.dg_model.specs.declared.diagram.Diagram.{Diagram}
use Rattle.dg_model.specs.declared.nested.Nested.{Nested}
use Rattle.dg_model.specs.declared.nested.NestedBlock.{NestedBlock}
use Rattle.dg_flat.specs.Flat.{IsFlatOf, flat_block, flat_place}
use Rattle.dg_flat.specs.Parts.{control_of, is_subsystem}

-- the nested block, which is no subsystem, that becomes a block at a place of the flat list
pub record ComesFrom (blocks : List NestedBlock) (j : ℕ) (flat : Block) : Type 0 where
  pub place : ℕ
  pub block : NestedBlock
  pub there : slice_get blocks place ≡ Some block
  pub kept : is_subsystem block.part ≡ false
  pub flat_at : flat_place blocks place ≡ j
  pub gives : flat_block blocks place (control_of blocks block.parent) block.part ≡ Some flat

-- each block of a flat diagram comes from one
abbrev pub OriginsAre : Type 0
OriginsAre =
    (nested : Nested) (diagram : Diagram) → IsFlatOf nested diagram → (j : ℕ) (flat : Block)
    → slice_get diagram.blocks j ≡ Some flat → ComesFrom nested.blocks j flat

-- and no two come from one place
abbrev pub OriginsDiffer : Type 0
OriginsDiffer =
    (nested : Nested) (i j : ℕ) (one other : NestedBlock) → slice_get nested.blocks i ≡ Some one
    → slice_get nested.blocks j ≡ Some other → is_subsystem one.part ≡ false
    → is_subsystem other.part ≡ false → flat_place nested.blocks i ≡ flat_place nested.blocks j
    → i ≡ j
