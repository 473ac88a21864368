-- How a broken rule is told: by the first place that doesn't keep a part of it (own).
use Rattle.std.specs.Prelude.{◌≡◌, ℕ, ◌<◌, List, [], Option, Some, None, slice_get, ⊤}
use Rattle.dg_model.specs.declared.diagram.Diagram.{Diagram}
use Rattle.dg_model.specs.declared.diagram.Block.{Block}
use Rattle.dg_model.specs.declared.fault.CheckFault.{CheckFault}
use Rattle.dg_model.specs.declared.fault.CheckFault.TheVariants.{Broken, OutOfMemory}
use Rattle.dg_model.specs.declared.fault.RuleFault.{RuleFault}
use Rattle.dg_model.specs.declared.fault.Shown.{Shown}
use Rattle.dg_model.specs.declared.rule.Rule.{Rule}

-- the path of the block at a place
abbrev pub path_of : Diagram → ℕ → List ℕ
path_of diagram place = path_if (slice_get diagram.blocks place) where
  path_if : Option Block → List ℕ
  path_if None = []
  path_if (Some block) = block.path

-- a rule is broken there, and this is shown beside
abbrev pub fault_of : Rule → List ℕ → Shown → RuleFault
fault_of rule place shown = record { rule = rule; place = place; shown = shown }

-- each block keeps a part of a rule
abbrev pub AllKeep : Diagram → (ℕ → Block → Type 0) → Type 0
AllKeep diagram Keeps =
    (place : ℕ) (block : Block) → slice_get diagram.blocks place ≡ Some block → Keeps place block

-- this block is the first that doesn't
pub record IsFirstBroken (diagram : Diagram) (Keeps : ℕ → Block → Type 0) (place : ℕ)
    (block : Block) : Type 0 where
  pub there : slice_get diagram.blocks place ≡ Some block
  pub broken : ¬ Keeps place block
  pub before : (other : ℕ) (b : Block) → other < place → slice_get diagram.blocks other ≡ Some b
      → Keeps other b

-- the first block that breaks a part of a rule is told, and this is shown beside
pub record BreaksAt (diagram : Diagram) (rule : Rule) (Keeps : ℕ → Block → Type 0)
    (shown : ℕ → Block → Shown) (fault : RuleFault) : Type 0 where
  pub place : ℕ
  pub block : Block
  pub first : IsFirstBroken diagram Keeps place block
  pub fault_is : fault ≡ fault_of rule (path_of diagram place) (shown place block)

-- what a check that answers no has told: a fault of a rule that is broken so, or want of memory
abbrev pub IsRefusal : (RuleFault → Type 0) → CheckFault → Type 0
IsRefusal Breaks (Broken fault) = Breaks fault
IsRefusal Breaks OutOfMemory = ⊤
