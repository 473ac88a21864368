-- What is found of a rule, and its parts (own).
use Rattle.std.specs.Prelude.{◌≡◌, ℕ, ◌≤◌, ◌<◌, Option, Some, None, slice_get, All}
use Rattle.dg_model.specs.declared.nested.Nested.{Nested}
use Rattle.dg_model.specs.declared.nested.NestedBlock.{NestedBlock}
use Rattle.dg_flat.specs.declared.wiring.Known.{Known}
use Rattle.dg_flat.specs.Parts.{in_number, out_number, outputs_of}
use Rattle.dg_flat.specs.Rules.{IsDriven, IsNumbered, HasEnd, AllNestedKeep, KeepsWiring, KeepsEnable}
use Rattle.dg_flat.specs.inner.Slots.{HaveParents}
use Rattle.dg_flat.specs.inner.Systems.{AreSystems}
use Rattle.dg_flat.specs.inner.Tally.{IsTally}

-- the first block that doesn't keep a rule, or none
pub record IsFirstBroken (nested : Nested) (Keeps : Nested → ℕ → NestedBlock → Type 0) (place : ℕ) : Type 0 where
  pub block : NestedBlock
  pub there : slice_get nested.blocks place ≡ Some block
  pub broken : ¬ Keeps nested place block
  pub before : (other : ℕ) (b : NestedBlock) → other < place → slice_get nested.blocks other ≡ Some b → Keeps nested other b

abbrev pub IsFirst : Nested → (Nested → ℕ → NestedBlock → Type 0) → Option ℕ → Type 0
IsFirst nested Keeps None = AllNestedKeep nested Keeps
IsFirst nested Keeps (Some place) = IsFirstBroken nested Keeps place

-- all blocks keep both rules
pub record KeepsAll (nested : Nested) : Type 0 where
  pub wiring : AllNestedKeep nested KeepsWiring
  pub enables : AllNestedKeep nested KeepsEnable

-- a block, and the tables of what stands and what is driven beside it
pub record IsKnown (known : Known) (place : ℕ) (block : NestedBlock) : Type 0 where
  pub parents : HaveParents known.nested.now.blocks
  pub systems : AreSystems known.nested.now.blocks known.systems.now
  pub tally : IsTally known.nested.now.blocks known.nested.now.lines known.tally.now
  pub there : slice_get known.nested.now.blocks place ≡ Some block

-- the lines that meet the block at a place find its ports
pub record MeetsPorts (nested : Nested) (place : ℕ) (block : NestedBlock) : Type 0 where
  pub leaving : All (λ line. line.from ≡ place → (1 ≤ line.from_port) × (line.from_port ≤ outputs_of nested.blocks place block.part)) nested.lines
  pub ending : All (λ line. line.to ≡ place → HasEnd nested.blocks place block.part line.target) nested.lines

-- what the rule of wiring asks of an EnablePort, an Inport and an Outport
pub record KeepsPart (nested : Nested) (place : ℕ) (block : NestedBlock) : Type 0 where
  pub enabled : IsDriven nested.lines block.parent block.part
  pub in_number : (number : ℕ) → in_number block.part ≡ Some number → IsNumbered nested.blocks place block.parent in_number number
  pub out_number : (number : ℕ) → out_number block.part ≡ Some number → IsNumbered nested.blocks place block.parent out_number number
