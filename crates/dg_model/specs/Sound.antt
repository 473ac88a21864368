-- Which nested blocks and lines are well formed (own).
use Rattle.std.specs.Prelude.{◌≡◌, ℕ, suc, ◌≤◌, ◌<◌, ◌≢◌, List, length, All, AllPairs, Any, slice_get, Option, Some, None, MatchOption, ⊤}
use Rattle.dg_model.specs.declared.nested.Nested.{Nested}
use Rattle.dg_model.specs.declared.nested.NestedBlock.{NestedBlock}
use Rattle.dg_model.specs.declared.nested.NestedLine.{NestedLine}
use Rattle.dg_model.specs.declared.nested.Part.{Part}
use Rattle.dg_model.specs.declared.nested.Part.TheVariants.{Plain, In, Out, SubSystem, Enable}
use Rattle.dg_model.specs.declared.nested.Target.{Target}
use Rattle.dg_model.specs.declared.nested.Target.TheVariants.{Port, Enable as EnableTarget}
use Rattle.dg_model.specs.declared.row.Role.{Role}
use Rattle.dg_model.specs.KindRow.{IsBetween}
use Rattle.dg_model.specs.Library.{row_of}
use Rattle.dg_model.specs.Readable.{IsReadable}
use Rattle.dg_model.specs.Limits.{most_blocks, most_levels}

-- the part is a subsystem
abbrev pub IsSubSystem : Part → Type 0
IsSubSystem SubSystem = ⊤
IsSubSystem (Plain block) = ⊥
IsSubSystem (In block number) = ⊥
IsSubSystem (Out block number) = ⊥
IsSubSystem (Enable reset) = ⊥

-- the part is an EnablePort
abbrev pub IsEnable : Part → Type 0
IsEnable (Enable reset) = ⊤
IsEnable (Plain block) = ⊥
IsEnable (In block number) = ⊥
IsEnable (Out block number) = ⊥
IsEnable SubSystem = ⊥

-- the block at a place is a subsystem that stands before it
abbrev pub HasParent : List NestedBlock → ℕ → Option ℕ → Type 0
HasParent blocks block parent =
    MatchOption parent ⊤
    (λ system. (system < block)
    × MatchOption (slice_get blocks system) ⊥ (λ other. IsSubSystem other.part))

-- how deep each System lies: the root is the first level, and the System of a subsystem lies one
-- below that which holds it
pub record AreLevels (blocks : List NestedBlock) (level : Option ℕ → ℕ) : Type 0 where
  pub root : level None ≡ 1
  pub inner : (block : ℕ) (b : NestedBlock) → slice_get blocks block ≡ Some b → IsSubSystem b.part
      → level (Some block) ≡ suc (level b.parent)
  pub deepest : (block : ℕ) (b : NestedBlock) → slice_get blocks block ≡ Some b → IsSubSystem b.part
      → level (Some block) ≤ most_levels

-- two blocks of one System have different names
abbrev pub HaveNames : NestedBlock → NestedBlock → Type 0
HaveNames block other = block.parent ≡ other.parent → block.name ≢ other.name

-- the end of a line is a port that can be
abbrev pub IsTarget : Target → Type 0
IsTarget (Port port) = IsBetween 1 most_blocks port
IsTarget EnableTarget = ⊤

-- the line joins blocks of one System
pub record JoinsWithin (blocks : List NestedBlock) (line : NestedLine) : Type 0 where
  pub system : MatchOption (slice_get blocks line.from) ⊥
      (λ source. MatchOption (slice_get blocks line.to) ⊥ (λ target. source.parent ≡ target.parent))
  pub from_port : IsBetween 1 most_blocks line.from_port
  pub target : IsTarget line.target

-- the System holds an EnablePort
abbrev pub HasEnablePort : List NestedBlock → Option ℕ → Type 0
HasEnablePort blocks system = Any (λ block. (block.parent ≡ system) × IsEnable block.part) blocks

-- the role of the block that an Inport becomes, by its System
abbrev pub IsInRole : Option ℕ → ℕ → Role → Type 0
IsInRole None number (Role.RootInput own) = own ≡ number
IsInRole (Some system) number (Role.RootInput own) = ⊥
IsInRole None number (Role.InnerPort width) = ⊥
IsInRole (Some system) number (Role.InnerPort width) = ⊤
IsInRole system number (Role.RootOutput own) = ⊥
IsInRole system number Role.EnabledOutput = ⊥
IsInRole system number Role.Control = ⊥
IsInRole system number Role.Plain = ⊥

-- the role of the block that an Outport becomes, by its System
abbrev pub IsOutRole : List NestedBlock → Option ℕ → ℕ → Role → Type 0
IsOutRole blocks None number (Role.RootOutput own) = own ≡ number
IsOutRole blocks (Some system) number (Role.RootOutput own) = ⊥
IsOutRole blocks None number Role.EnabledOutput = ⊥
IsOutRole blocks (Some system) number Role.EnabledOutput = HasEnablePort blocks (Some system)
IsOutRole blocks None number (Role.InnerPort width) = ⊥
IsOutRole blocks (Some system) number (Role.InnerPort width) =
    (width ≡ 0) × ¬ HasEnablePort blocks (Some system)
IsOutRole blocks system number (Role.RootInput own) = ⊥
IsOutRole blocks system number Role.Control = ⊥
IsOutRole blocks system number Role.Plain = ⊥

-- the block that a part becomes is such as its text can be
abbrev pub HasReadable : Part → Type 0
HasReadable (Plain block) = IsReadable block
HasReadable (In block number) = IsReadable block
HasReadable (Out block number) = IsReadable block
HasReadable SubSystem = ⊤
HasReadable (Enable reset) = ⊤

-- a block of an Inport has the role and the number that its System asks for
abbrev pub HasInRole : Option ℕ → Part → Type 0
HasInRole system (Plain block) = ⊤
HasInRole system (In block number) = IsInRole system number (row_of block.kind).place.role
HasInRole system (Out block number) = ⊤
HasInRole system SubSystem = ⊤
HasInRole system (Enable reset) = ⊤

-- and so has a block of an Outport
abbrev pub HasOutRole : List NestedBlock → Option ℕ → Part → Type 0
HasOutRole blocks system (Plain block) = ⊤
HasOutRole blocks system (In block number) = ⊤
HasOutRole blocks system (Out block number) =
    IsOutRole blocks system number (row_of block.kind).place.role
HasOutRole blocks system SubSystem = ⊤
HasOutRole blocks system (Enable reset) = ⊤

-- a plain block is no port
abbrev pub HasPlainRole : Part → Type 0
HasPlainRole (Plain block) = (row_of block.kind).place.role ≡ Role.Plain
HasPlainRole (In block number) = ⊤
HasPlainRole (Out block number) = ⊤
HasPlainRole SubSystem = ⊤
HasPlainRole (Enable reset) = ⊤

-- the blocks and lines are well formed
pub record IsSound (nested : Nested) : Type 0 where
  pub size : length nested.blocks ≤ most_blocks
  pub parents : (block : ℕ) (b : NestedBlock) → slice_get nested.blocks block ≡ Some b
      → HasParent nested.blocks block b.parent
  pub levels : (level : Option ℕ → ℕ) × AreLevels nested.blocks level
  pub names : AllPairs HaveNames nested.blocks
  pub lines : All (JoinsWithin nested.blocks) nested.lines
  pub blocks : All (λ block. HasReadable block.part) nested.blocks
  pub ins : All (λ block. HasInRole block.parent block.part) nested.blocks
  pub outs : All (λ block. HasOutRole nested.blocks block.parent block.part) nested.blocks
  pub plains : All (λ block. HasPlainRole block.part) nested.blocks
