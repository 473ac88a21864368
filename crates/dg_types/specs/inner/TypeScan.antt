-- What the scans for a block that breaks the rule of types keep (own).
use Rattle.std.specs.Prelude.{◌≡◌, ℕ, ◌<◌, List, length, All, Some, slice_get, codes}
use Rattle.dg_model.specs.declared.diagram.Diagram.{Diagram}
use Rattle.dg_model.specs.declared.diagram.Block.{Block}
use Rattle.dg_model.specs.TypeRounds.{Types, types_of}
use Rattle.dg_model.specs.TypeRule.{IsNotWide, HasTypes, HasAgreeing}
use Rattle.dg_types.specs.declared.linked.Form.{Form}
use Rattle.dg_types.specs.declared.linked.Source.{Source}
use Rattle.dg_types.specs.declared.typed.Part.{Part}
use Rattle.dg_types.specs.declared.typed.Part.TheVariants.{Narrow, Known, Agree}
use Rattle.dg_types.specs.inner.WidthShapes.{Mirrors}
use Rattle.dg_types.specs.inner.TypeInputs.{IsKnownValid}

-- these are the blocks, the sources of their inputs and the types of a diagram
pub record IsTyped (diagram : Diagram) (blocks : List Block) (forms : List Form)
    (sources : List (List Source)) (types : Types) : Type 0 where
  pub blocks_are : blocks ≡ diagram.blocks
  pub size : length sources ≡ length diagram.blocks
  pub mirrors : Mirrors diagram forms sources
  pub types_are : types ≡ types_of diagram
  pub types_size : length types ≡ length diagram.blocks
  pub valid : All IsKnownValid types

-- a block keeps a part of the rule
abbrev pub keeps_part : Part → Diagram → Types → ℕ → Block → Type 0
keeps_part Narrow diagram types place block = IsNotWide diagram types place block
keeps_part Known diagram types place block = HasTypes diagram types place block
keeps_part Agree diagram types place block = HasAgreeing diagram types place block

abbrev pub KeepsPart : Part → Diagram → ℕ → Block → Type 0
KeepsPart part diagram = keeps_part part diagram (types_of diagram)

-- what is told of a part that is broken
abbrev pub word_of : Part → List ℕ
word_of Narrow = codes "wide"
word_of Known = codes "missing"
word_of Agree = codes "differs"

-- each block before a place keeps a part of the rule
abbrev pub KeepBelow : Part → Diagram → ℕ → Type 0
KeepBelow part diagram place =
    (other : ℕ) (block : Block) → other < place → slice_get diagram.blocks other ≡ Some block
    → KeepsPart part diagram other block
