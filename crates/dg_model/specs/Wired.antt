-- Which diagrams are well formed (own).
use Rattle.std.specs.Prelude.{◌≡◌, ℕ, ◌≤◌, ◌<◌, ◌≢◌, ◌⊎◌, List, length, All, AllPairs, count_by, filter_map, slice_get, Option, Some, None, IsSome, MatchOption, ⊤}
use Rattle.dg_model.specs.declared.diagram.Diagram.{Diagram}
use Rattle.dg_model.specs.declared.diagram.Block.{Block}
use Rattle.dg_model.specs.declared.diagram.Edge.{Edge}
use Rattle.dg_model.specs.Limits.{most_blocks}
use Rattle.dg_model.specs.Wires.{enters}
use Rattle.dg_model.specs.declared.row.Role.{Role}
use Rattle.dg_model.specs.declared.row.Standing.{Standing}
use Rattle.dg_model.specs.Library.{row_of}
use Rattle.dg_model.specs.Readable.{IsReadable}

-- the edge joins an output port and an input port that are there
pub record Joins (blocks : List Block) (edge : Edge) : Type 0 where
  pub source : MatchOption (slice_get blocks edge.from) ⊥
      (λ block. (1 ≤ edge.from_port) × (edge.from_port ≤ block.outputs))
  pub target : MatchOption (slice_get blocks edge.to) ⊥
      (λ block. (1 ≤ edge.to_port) × (edge.to_port ≤ block.inputs))

-- an edge stands no later than another: by destination block, then by destination port
abbrev pub StandsBefore : Edge → Edge → Type 0
StandsBefore edge later =
    (edge.to < later.to) ⊎ ((edge.to ≡ later.to) × (edge.to_port ≤ later.to_port))

-- the numbers are 1 to their count, each once
pub record AreNumbered (numbers : List ℕ) : Type 0 where
  pub within : All (λ number. (1 ≤ number) × (number ≤ length numbers)) numbers
  pub distinct : AllPairs (λ number other. number ≢ other) numbers

-- the number of a root input port
abbrev pub root_input : Role → Option ℕ
root_input (Role.RootInput number) = Some number
root_input (Role.RootOutput number) = None
root_input (Role.InnerPort width) = None
root_input Role.EnabledOutput = None
root_input Role.Control = None
root_input Role.Plain = None

-- the number of a root output port
abbrev pub root_output : Role → Option ℕ
root_output (Role.RootInput number) = None
root_output (Role.RootOutput number) = Some number
root_output (Role.InnerPort width) = None
root_output Role.EnabledOutput = None
root_output Role.Control = None
root_output Role.Plain = None

-- an enabled subsystem is named by its control
abbrev pub NamesControl : List Block → Option ℕ → Type 0
NamesControl blocks enable =
    MatchOption enable ⊤
    (λ control. MatchOption (slice_get blocks control) ⊥
    (λ block. (row_of block.kind).place.role ≡ Role.Control))

-- a block stands where its kind may: in an enabled subsystem, or in none
abbrev pub MayStand : Standing → Option ℕ → Type 0
MayStand Standing.Anywhere enable = ⊤
MayStand Standing.Outside enable = enable ≡ None
MayStand Standing.Inside enable = IsSome enable

-- the diagram is well formed
pub record IsWired (diagram : Diagram) : Type 0 where
  pub size : length diagram.blocks ≤ most_blocks
  pub edges : All (Joins diagram.blocks) diagram.edges
  pub driven : (block port : ℕ) (b : Block) → slice_get diagram.blocks block ≡ Some b → 1 ≤ port
      → port ≤ b.inputs → count_by (enters block port) diagram.edges ≡ 1
  pub ordered : AllPairs StandsBefore diagram.edges
  pub blocks : All IsReadable diagram.blocks
  pub controls : All (λ block. NamesControl diagram.blocks block.enable) diagram.blocks
  pub enables : All (λ block. MayStand (row_of block.kind).place.stands block.enable) diagram.blocks
  pub inports : AreNumbered
      (filter_map (λ block. root_input (row_of block.kind).place.role) diagram.blocks)
  pub outports : AreNumbered
      (filter_map (λ block. root_output (row_of block.kind).place.role) diagram.blocks)
