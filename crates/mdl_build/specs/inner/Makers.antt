-- What the blocks of a tree are made by (own).
use Rattle.std.specs.Prelude.{◌≡◌, ℕ, ◌<◌, true, List, length, map, slice_get, Some, is_some, codes}
use Rattle.mdl_text.specs.declared.tree.Item.{Item}
use Rattle.mdl_build.specs.declared.expanding.DrawnBlock.{DrawnBlock}
use Rattle.mdl_build.specs.declared.library.BlockType.{BlockType}
use Rattle.mdl_build.specs.declared.making.Maker.{Maker}
use Rattle.mdl_build.specs.Library.{block_types}
use Rattle.mdl_build.specs.Nested.{IsDrawnAt}
use Rattle.mdl_build.specs.Roles.{role_of, is_block, blocks_of}
use Rattle.mdl_build.specs.Rules.{type_at}
use Rattle.mdl_build.specs.Sections.{value_of}
use Rattle.mdl_build.specs.inner.ItemFacts.{IsKnown, AreEnabled, AreNumbers}
use Rattle.mdl_build.specs.inner.Texts.{contents_of, fallbacks_of}

-- the items
abbrev pub items_of : Maker → List Item
items_of maker = maker.known.now.layout.items.now

-- how many blocks each of their blocks stands for
abbrev pub extents_of : Maker → List ℕ
extents_of maker = maker.known.now.extents.items

-- all that it holds is that of its items
pub record IsMaker (maker : Maker) : Type 0 where
  pub known : IsKnown maker.known.now
  pub enabled : AreEnabled (items_of maker) (blocks_of (items_of maker)) maker.enabled.items
  pub numbers : AreNumbers (items_of maker) maker.numbers.items
  pub defaults : map (λ texts. contents_of texts.items) maker.defaults.items
      ≡ map (fallbacks_of (items_of maker)) block_types

-- what stands at a place is a block with a name and of a known type
pub record IsNamedBlock (items : List Item) (place : ℕ) (block_type : BlockType) : Type 0 where
  pub within : place < length items
  pub counts : is_block (role_of items place) ≡ true
  pub named : is_some (value_of items place (codes "Name")) ≡ true
  pub typed : type_at items place ≡ Some block_type

-- so many blocks are made
pub record AreMade (items : List Item) (count : ℕ) (blocks : List DrawnBlock) : Type 0 where
  pub long : length blocks ≡ count
  pub each : (k place : ℕ) → k < count → slice_get (blocks_of items) k ≡ Some place
      → (block : DrawnBlock) × (slice_get blocks k ≡ Some block) × IsDrawnAt items place block
