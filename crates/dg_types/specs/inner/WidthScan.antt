-- What is looked at to tell whether the widths of a diagram keep the rule (own).
use Rattle.std.specs.Prelude.{◌≡◌, ℕ, ◌<◌, List, [], length, Some, slice_get, slice_index_or}
use Rattle.dg_model.specs.declared.diagram.Diagram.{Diagram}
use Rattle.dg_model.specs.declared.diagram.Block.{Block}
use Rattle.dg_model.specs.Dimension.{KeepsDimension}
use Rattle.dg_model.specs.Widths.{input_widths, next_widths, widths_of}
use Rattle.dg_model.specs.Wired.{IsWired}
use Rattle.dg_types.specs.declared.linked.Form.{Form}
use Rattle.dg_types.specs.declared.linked.Source.{Source}
use Rattle.dg_types.specs.declared.scanning.Scan.{Scan}
use Rattle.dg_types.specs.inner.WidthShapes.{Mirrors}

-- a wired diagram, how its blocks take their widths and from where, and a scan in which nothing
-- stands yet
pub record CanBeScanned (diagram : Diagram) (forms : List Form) (sources : List (List Source))
    (scan : Scan) : Type 0 where
  pub wired : IsWired diagram
  pub size : length sources ≡ length diagram.blocks
  pub mirrors : Mirrors diagram forms sources
  pub widths : scan.widths ≡ []
  pub again : scan.again ≡ []

-- the widths of a diagram, those of each block after one more round, and those of its inputs
pub record IsScan (diagram : Diagram) (scan : Scan) : Type 0 where
  pub widths : scan.widths ≡ widths_of diagram
  pub size : length scan.widths ≡ length diagram.blocks
  pub again_size : length scan.again ≡ length diagram.blocks
  pub inputs_size : length scan.inputs ≡ length diagram.blocks
  pub again : (place : ℕ) → place < length diagram.blocks
      → slice_index_or scan.again place [] ≡ next_widths diagram (widths_of diagram) place
  pub inputs : (place : ℕ) → place < length diagram.blocks
      → slice_index_or scan.inputs place [] ≡ input_widths diagram (widths_of diagram) place

-- each block before a place keeps the rule
abbrev pub KeepAllBelow : Diagram → ℕ → Type 0
KeepAllBelow diagram place =
    (other : ℕ) (block : Block) → other < place → slice_get diagram.blocks other ≡ Some block
    → KeepsDimension diagram (widths_of diagram) other block
