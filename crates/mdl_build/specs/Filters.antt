-- Where the blocks and lines of a filter stand among those of a tree (own).
use Rattle.std.specs.Prelude.{◌≡◌, ℕ, suc, ◌+◌, length, slice_get, Some}
use Rattle.fx_type.specs.declared.decimal.Decimal.{Decimal}
use Rattle.dg_model.specs.declared.diagram.Edge.{Edge}
use Rattle.dg_model.specs.declared.nested.Nested.{Nested}
use Rattle.fir_block.specs.declared.filter.Fir.{Fir}
use Rattle.fir_block.specs.declared.filter.FirBlock.{FirBlock}
use Rattle.fir_block.specs.Expanded.{blocks_of, lines_of}
use Rattle.fir_block.specs.Laws.{IsReadableFir}
use Rattle.mdl_text.specs.declared.tree.Tree.{Tree}
use Rattle.mdl_build.specs.declared.expanding.DrawnBlock.{DrawnBlock}
use Rattle.mdl_build.specs.Expanded.{inner_block, inner_line}
use Rattle.mdl_build.specs.Extents.{starts}
use Rattle.mdl_build.specs.Nested.{IsNestedOf}

-- the subsystem of this number stands for a filter: its blocks follow it, and its lines are there;
-- what a list gives past its end is of no account
pub record HasFilter (other : Decimal) (nested : Nested) (place : ℕ) (fir : Fir) : Type 0 where
  pub readable : IsReadableFir fir
  pub blocks : (number : ℕ) (inner : FirBlock)
      → slice_get (blocks_of other fir) number ≡ Some inner
      → slice_get nested.blocks (suc (place + number))
      ≡ Some (inner_block place (length (blocks_of other fir)) number inner)
  pub lines : (number : ℕ) (edge : Edge)
      → slice_get (lines_of (place + 1) (length fir.coefficients)) number ≡ Some edge
      → (line : ℕ) × (slice_get nested.lines line ≡ Some (inner_line edge))

-- a filter of a tree has this number in its blocks
pub record IsFilterAt (tree : Tree) (nested : Nested) (is : IsNestedOf tree nested) (place : ℕ)
    (fir : Fir) : Type 0 where
  pub number : ℕ
  pub drawn : DrawnBlock
  pub there : slice_get is.drawn number ≡ Some drawn
  pub filter : drawn.filter ≡ Some fir
  pub place_is : slice_get (starts 0 is.extents) number ≡ Some place

-- each filter of a tree stands there
abbrev pub FiltersStand : Type 0
FiltersStand =
    (tree : Tree) (nested : Nested) (is : IsNestedOf tree nested) (place : ℕ) (fir : Fir)
    → IsFilterAt tree nested is place fir → (other : Decimal) → HasFilter other nested place fir
