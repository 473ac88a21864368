-- The blocks and lines of a model as they are drawn, and what their numbers are (own).
use Rattle.std.specs.Prelude.{◌≡◌, ℕ, ◌<◌, ◌≤◌, List, length, All, None}
use Rattle.std.specs.List.{AllZip}
use Rattle.std.specs.Option.{ForSome}
use Rattle.dg_model.specs.Limits.{most_blocks}
use Rattle.dg_model.specs.declared.nested.NestedLine.{NestedLine}
use Rattle.fir_block.specs.Expanded.{IsFir}
use Rattle.mdl_text.specs.declared.tree.Item.{Item}
use Rattle.mdl_build.specs.declared.expanding.DrawnBlock.{DrawnBlock}
use Rattle.mdl_build.specs.Lines.{lines_of}
use Rattle.mdl_build.specs.Nested.{IsDrawnAt}
use Rattle.mdl_build.specs.Roles.{blocks_of}
use Rattle.mdl_build.specs.Rules.{structure_fault, library_fault}

-- its subsystem has a number, and its filter may be taken apart
pub record IsPlaced (numbers : List ℕ) (drawn : DrawnBlock) : Type 0 where
  pub parent : ForSome drawn.block.parent (λ number. number < length numbers)
  pub filter : ForSome drawn.filter IsFir

-- these are numbers of the blocks, and of the ends of the lines
pub record AreNumbersOf (numbers : List ℕ) (drawn : List DrawnBlock)
    (drawn_lines : List NestedLine) : Type 0 where
  pub long : length numbers ≡ length drawn
  pub few : All (λ number. number ≤ most_blocks) numbers
  pub blocks : All (IsPlaced numbers) drawn
  pub lines : All (λ line. (line.from < length numbers) × (line.to < length numbers))
      drawn_lines

-- the blocks and lines of items that keep the rules, where the blocks stand for so many
pub record AreDrawn (items : List Item) (extents : List ℕ) (drawn : List DrawnBlock)
    (drawn_lines : List NestedLine) : Type 0 where
  pub structured : structure_fault extents items ≡ None
  pub known : library_fault items ≡ None
  pub blocks : AllZip (IsDrawnAt items) (blocks_of items) drawn
  pub lines : drawn_lines ≡ lines_of items
