-- The blocks of Systems: their paths, their ports, and the enabled subsystem that holds each
-- (Simulink reference, subsystems; paths are own).
use Rattle.std.specs.Prelude.{ℕ, zero, suc, ◌==◌, ◌&&◌, Bool, true, false, List, [], ◌++◌, length, codes, count_by, Option, Some, None, slice_get}
use Rattle.std.specs.List.{position}
use Rattle.std.specs.Option.{is_some}
use Rattle.dg_model.specs.declared.nested.NestedBlock.{NestedBlock}
use Rattle.dg_model.specs.declared.nested.Part.{Part}
use Rattle.dg_model.specs.declared.nested.Part.TheVariants.{Plain, In, Out, SubSystem, Enable}
use Rattle.dg_model.specs.Naming.{escaped}

-- ---- paths

-- a name in a System, behind the path of the subsystem that holds it
abbrev pub below : (ℕ → List ℕ) → List ℕ → Option ℕ → List ℕ
below path name None = name
below path name (Some system) = path system ++ codes "/" ++ name

abbrev pub path_by : (ℕ → List ℕ) → Option NestedBlock → List ℕ
path_by path None = []
path_by path (Some block) = below path (escaped block.name) block.parent

-- the path of the block at a place, through at most so many Systems
abbrev pub path_within : List NestedBlock → ℕ → ℕ → List ℕ
path_within blocks zero place = []
path_within blocks (suc levels) place = path_by (path_within blocks levels) (slice_get blocks place)

-- the names from the root to the block, joined by `/`; each System stands before the blocks in it
abbrev pub nested_path : List NestedBlock → ℕ → List ℕ
nested_path blocks place = path_within blocks (suc place) place

-- ---- what stands in a System

abbrev pub same_system : Option ℕ → Option ℕ → Bool
same_system None None = true
same_system (Some system) (Some other) = system == other
same_system None (Some other) = false
same_system (Some system) None = false

abbrev pub is_subsystem : Part → Bool
is_subsystem SubSystem = true
is_subsystem _ = false

abbrev pub is_enable_port : Part → Bool
is_enable_port (Enable reset) = true
is_enable_port _ = false

-- the number of an Inport, and of an Outport
abbrev pub in_number : Part → Option ℕ
in_number (In block number) = Some number
in_number _ = None

abbrev pub out_number : Part → Option ℕ
out_number (Out block number) = Some number
out_number _ = None

abbrev pub is_number : ℕ → Option ℕ → Bool
is_number number None = false
is_number number (Some own) = own == number

-- how many blocks of a System are such
abbrev pub count_in : List NestedBlock → Option ℕ → (Part → Bool) → ℕ
count_in blocks system is_such =
    count_by (λ block. same_system block.parent system && is_such block.part) blocks

-- the first block of a System that is such
abbrev pub first_in : List NestedBlock → Option ℕ → (Part → Bool) → Option ℕ
first_in blocks system is_such =
    position (λ block. same_system block.parent system && is_such block.part) blocks

-- ---- ports

-- how many input and output ports the block at a place has: a subsystem has one for each Inport and
-- Outport in it
abbrev pub ports_of : List NestedBlock → ℕ → Part → ℕ × ℕ
ports_of blocks place (Plain block) = (block.inputs, block.outputs)
ports_of blocks place (In block number) = (0, 1)
ports_of blocks place (Out block number) = (1, 0)
ports_of blocks place SubSystem = (
  count_in blocks (Some place) (λ part. is_some (in_number part)),
  count_in blocks (Some place) (λ part. is_some (out_number part)),
)
ports_of blocks place (Enable reset) = (0, 0)

abbrev pub inputs_of : List NestedBlock → ℕ → Part → ℕ
inputs_of blocks place part = (ports_of blocks place part).0

abbrev pub outputs_of : List NestedBlock → ℕ → Part → ℕ
outputs_of blocks place part = (ports_of blocks place part).1

-- the EnablePort of a System
abbrev pub enable_port : List NestedBlock → Option ℕ → Option ℕ
enable_port blocks system = first_in blocks system is_enable_port

-- ---- enabled subsystems

-- the subsystem that holds that of a System
abbrev pub system_around : List NestedBlock → Option ℕ → Option ℕ
system_around blocks None = None
system_around blocks (Some system) = parent_of (slice_get blocks system) where
  parent_of : Option NestedBlock → Option ℕ
  parent_of None = None
  parent_of (Some block) = block.parent

-- the EnablePort of a System, or else of the nearest System around it that has one
abbrev pub control_else : Option ℕ → Option ℕ → (Option ℕ → Option ℕ) → List NestedBlock → Option ℕ
control_else (Some port) system around blocks = Some port
control_else None None around blocks = None
control_else None (Some system) around blocks = around (system_around blocks (Some system))

abbrev pub control_within : List NestedBlock → ℕ → Option ℕ → Option ℕ
control_within blocks zero system = None
control_within blocks (suc levels) system =
    control_else (enable_port blocks system) system (control_within blocks levels) blocks

-- there are no more levels of Systems than blocks and the root
abbrev pub control_of : List NestedBlock → Option ℕ → Option ℕ
control_of blocks system = control_within blocks (suc (length blocks)) system
