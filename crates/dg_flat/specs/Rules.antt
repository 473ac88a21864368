-- When nested blocks and lines keep the rules of wiring and of enabled subsystems (Simulink
-- reference, signal lines and enabled subsystems; the places are own).
use Rattle.std.specs.Prelude.{◌≡◌, ℕ, ◌<◌, ◌≤◌, ◌≢◌, ◌==◌, ◌&&◌, Bool, true, false, List, All, count_by, Option, Some, None, IsSome, slice_get, ⊤, ◌⊎◌}
use Rattle.dg_model.specs.declared.fault.RuleFault.{RuleFault}
use Rattle.dg_model.specs.declared.fault.Shown.TheVariants.{Nothing}
use Rattle.dg_model.specs.declared.nested.Nested.{Nested}
use Rattle.std.specs.Option.{is_some}
use Rattle.dg_model.specs.declared.nested.NestedBlock.{NestedBlock}
use Rattle.dg_model.specs.declared.nested.NestedLine.{NestedLine}
use Rattle.dg_model.specs.declared.nested.Part.{Part}
use Rattle.dg_model.specs.declared.nested.Part.TheVariants.{Plain, In, Out, SubSystem, Enable}
use Rattle.dg_model.specs.declared.nested.Target.{Target}
use Rattle.dg_model.specs.declared.nested.Target.TheVariants.{Port, Enable as ToEnable}
use Rattle.dg_model.specs.declared.rule.Rule.{Rule}
use Rattle.dg_model.specs.Faults.{fault_of}
use Rattle.dg_model.specs.declared.row.Standing.{Standing}
use Rattle.dg_model.specs.Library.{row_of}
use Rattle.dg_flat.specs.Parts.{nested_path, in_number, out_number, count_in, outputs_of, inputs_of, enable_port, system_around, control_of}

-- ---- wiring

-- the block has the input that a line ends at
abbrev pub HasEnd : List NestedBlock → ℕ → Part → Target → Type 0
HasEnd blocks place part (Port port) = (1 ≤ port) × (port ≤ inputs_of blocks place part)
HasEnd blocks place part ToEnable = IsSome (enable_port blocks (Some place))

abbrev pub is_port : ℕ → Target → Bool
is_port port (Port own) = own == port
is_port port ToEnable = false

abbrev pub is_enable_end : Target → Bool
is_enable_end (Port own) = false
is_enable_end ToEnable = true

-- how many lines end at such an end of the block at a place
abbrev pub drivers : List NestedLine → ℕ → (Target → Bool) → ℕ
drivers lines place is_end = count_by (λ line. (line.to == place) && is_end line.target) lines

-- how many lines drive the EnablePort of a System: those to the enable of the subsystem that holds
-- it
abbrev pub enable_drivers : List NestedLine → Option ℕ → ℕ
enable_drivers lines None = 0
enable_drivers lines (Some system) = drivers lines system is_enable_end

-- the EnablePort of a System has one driver
abbrev pub IsDriven : List NestedLine → Option ℕ → Part → Type 0
IsDriven lines system (Plain block) = ⊤
IsDriven lines system (In block number) = ⊤
IsDriven lines system (Out block number) = ⊤
IsDriven lines system SubSystem = ⊤
IsDriven lines system (Enable reset) = enable_drivers lines system ≡ 1

-- the ports of one kind in a System are numbered from 1 to their count: none has a number above the
-- count, or that of an earlier one
pub record IsNumbered (blocks : List NestedBlock) (place : ℕ) (system : Option ℕ)
    (number_of : Part → Option ℕ) (number : ℕ) : Type 0 where
  pub above : 1 ≤ number
  pub within : number ≤ count_in blocks system (λ part. is_some (number_of part))
  pub first : (other : ℕ) (b : NestedBlock) → other < place → slice_get blocks other ≡ Some b
      → b.parent ≡ system → number_of b.part ≢ Some number

-- the block at a place keeps the rule of wiring
pub record KeepsWiring (nested : Nested) (place : ℕ) (block : NestedBlock) : Type 0 where
  pub leaving : All
      (λ line. line.from ≡ place → (1 ≤ line.from_port)
      × (line.from_port ≤ outputs_of nested.blocks place block.part)) nested.lines
  pub ending : All
      (λ line. line.to ≡ place → HasEnd nested.blocks place block.part line.target) nested.lines
  pub driven : (port : ℕ) → 1 ≤ port → port ≤ inputs_of nested.blocks place block.part
      → drivers nested.lines place (is_port port) ≡ 1
  pub enabled : IsDriven nested.lines block.parent block.part
  pub in_number : (number : ℕ) → in_number block.part ≡ Some number
      → IsNumbered nested.blocks place block.parent in_number number
  pub out_number : (number : ℕ) → out_number block.part ≡ Some number
      → IsNumbered nested.blocks place block.parent out_number number

-- ---- enabled subsystems

-- a block of this kind may stand under this control
abbrev pub MayStand : Standing → Option ℕ → Type 0
MayStand Standing.Anywhere control = ⊤
MayStand Standing.Outside control = control ≡ None
MayStand Standing.Inside control = IsSome control

-- a part keeps the rule: an EnablePort is the first of its System, and its subsystem isn't inside
-- another enabled one; a rate transition is outside
abbrev pub MayStandAt : List NestedBlock → ℕ → Option ℕ → Part → Type 0
MayStandAt blocks place system (Plain block) =
    MayStand (row_of block.kind).place.stands (control_of blocks system)
MayStandAt blocks place system (In block number) = ⊤
MayStandAt blocks place system (Out block number) = ⊤
MayStandAt blocks place system SubSystem = ⊤
MayStandAt blocks place system (Enable reset) =
    (enable_port blocks system ≡ Some place)
    × (control_of blocks (system_around blocks system) ≡ None)

abbrev pub KeepsEnable : Nested → ℕ → NestedBlock → Type 0
KeepsEnable nested place block = MayStandAt nested.blocks place block.parent block.part

-- ---- the first fault

-- each block keeps a rule
abbrev pub AllNestedKeep : Nested → (Nested → ℕ → NestedBlock → Type 0) → Type 0
AllNestedKeep nested Keeps =
    (place : ℕ) (block : NestedBlock) → slice_get nested.blocks place ≡ Some block
    → Keeps nested place block

-- a rule is broken, with this fault: at the first block that doesn't keep it
pub record BreaksNested (nested : Nested) (rule : Rule) (Keeps : Nested → ℕ → NestedBlock → Type 0)
    (fault : RuleFault) : Type 0 where
  pub place : ℕ
  pub block : NestedBlock
  pub there : slice_get nested.blocks place ≡ Some block
  pub broken : ¬ Keeps nested place block
  pub before : (other : ℕ) (b : NestedBlock) → other < place
      → slice_get nested.blocks other ≡ Some b → Keeps nested other b
  pub fault_is : fault ≡ fault_of rule (nested_path nested.blocks place) Nothing

abbrev pub BreaksWiring : Nested → RuleFault → Type 0
BreaksWiring nested fault = BreaksNested nested Rule.Wiring KeepsWiring fault

-- every line and port is right, and the rule of enabled subsystems is broken
pub record BreaksEnable (nested : Nested) (fault : RuleFault) : Type 0 where
  pub wired : AllNestedKeep nested KeepsWiring
  pub enables : BreaksNested nested Rule.Enable KeepsEnable fault

-- a rule of the two is broken, the first one at its first place
abbrev pub BreaksWiringOrEnable : Nested → RuleFault → Type 0
BreaksWiringOrEnable nested fault = BreaksWiring nested fault ⊎ BreaksEnable nested fault
