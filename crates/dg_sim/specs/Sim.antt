-- What it means that a program simulates a checked diagram, and that a simulator stands at a sample
-- of a table (own).
use Rattle.std.specs.Prelude.{◌≡◌, ℕ, suc, ◌<◌, ◌≤◌, ℤ, List, [], length, Option, Some, None, slice_get}
use Rattle.dg_model.specs.declared.diagram.Diagram.{Diagram}
use Rattle.dg_model.specs.declared.diagram.Block.{Block}
use Rattle.dg_model.specs.Signals.{Attributes, Stimulus, Table}
use Rattle.dg_model.specs.Attributes.{attributes_of}
use Rattle.dg_model.specs.Checked.{CheckedDiagram}
use Rattle.dg_model.specs.Hits.{Hits, is_hit}
use Rattle.dg_model.specs.Wires.{value_into}
use Rattle.dg_model.specs.Equation.{Equation}
use Rattle.dg_model.specs.Solves.{IsStimulus, IsShown, Solves}
use Rattle.dg_model.specs.RootElements.{RootElement, root_inputs, root_outputs}
use Rattle.dg_tables.specs.declared.entries.Place.{Place}
use Rattle.dg_sim.specs.declared.program.Cell.{Cell}
use Rattle.dg_sim.specs.declared.program.Memory.{Memory}
use Rattle.dg_sim.specs.declared.program.Program.{Program}
use Rattle.dg_tables.specs.Laws.{EntriesAreInRange}
use Rattle.dg_blocks.specs.declared.prepared.Prepared.{Prepared}
use Rattle.dg_sim.specs.Ready.{AreReady}
use Rattle.dg_sim.specs.Ring.{PastValues}
use Rattle.dg_tables.specs.State.{Move, moved, move_at, kept_count, kept_values}
use Rattle.dg_tables.specs.Entries.{entry}
use Rattle.dg_sim.specs.Program.{value_at, Gives, CanGive, IsWithin, is_on, move_of}

-- a simulator: its program, how many samples were made, the value of each cell in the last of them,
-- what each memory keeps, and what is prepared for each cell
pub record Simulation : Type 0 where
  pub program : Program
  pub samples : ℕ
  pub row : List ℤ
  pub pasts : List PastValues
  pub prepared : List Prepared

-- what a memory keeps
abbrev pub values_of : Option PastValues → List ℤ
values_of None = []
values_of (Some past) = past.values

abbrev pub kept_at : List PastValues → ℕ → List ℤ
kept_at pasts memory = values_of (slice_get pasts memory)

-- a past after a move
abbrev pub past_moved : Move → ℤ → PastValues → PastValues
past_moved move v past = record { room = past.room; values = moved move past.room v past.values }

module _ (diagram : Diagram) (attributes : Attributes) where
  -- the cells before one have the entries of a table at t
  abbrev pub Agrees : List Place → ℕ → (ℕ → ℤ) → Table → ℕ → Type 0
  Agrees places k look table t =
      (j : ℕ) (place : Place) → j < k → slice_get places j ≡ Some place
      → look j ≡ entry table place t

  -- memories keep what the table's equations ask for at t
  abbrev pub Keep : List Memory → (ℕ → List ℤ) → Table → ℕ → Type 0
  Keep memories kept table t =
      (m : ℕ) (memory : Memory) (b : Block) → slice_get memories m ≡ Some memory
      → slice_get diagram.blocks memory.place.block ≡ Some b
      → kept m ≡ kept_values diagram attributes table memory.place.block b.enable b.kind
      memory.place.element t

  -- the row has the numbers of the stimulus at t for the root input elements that hit
  abbrev pub IsRowOf : Stimulus → ℕ → List ℤ → Type 0
  IsRowOf stimulus t row =
      (place : ℕ) (e : RootElement) → slice_get (root_inputs diagram attributes) place ≡ Some e
      → Hits e.period t → value_at row place ≡ stimulus e.number e.element t

  -- what a cell's rule gives at a hit is the value of its block's equation
  abbrev pub Serves : Program → ℕ → Place → Cell → Type 0
  Serves program k place cell =
      (stimulus : Stimulus) (table : Table) (t : ℕ) (look : ℕ → ℤ) (kept : ℕ → List ℤ)
      (row : List ℤ) (v : ℤ)
      → Agrees program.places k look table t → Keep program.memories kept table t
      → IsRowOf stimulus t row → Hits cell.period t → Gives program look kept row t cell.rule v
      → Equation diagram attributes stimulus table place.block place.port place.element t v

  -- and it can be carried out, where the table's entries are in range
  abbrev pub CanServe : Program → ℕ → Cell → Type 0
  CanServe program k cell =
      (table : Table) (t : ℕ) (look : ℕ → ℤ) → Agrees program.places k look table t
      → EntriesAreInRange diagram attributes table (suc t) → CanGive program look cell.rule

  -- a cell of a program, which looks only at entries before its own
  pub record IsCell (program : Program) (k : ℕ) (place : Place) (cell : Cell) : Type 0 where
    pub block : Block
    pub shown : IsShown diagram attributes place.block block place.port place.element
    pub period : cell.period ≡ attributes.period_at place.block
    pub within : IsWithin program cell.rule
    pub serves : Serves program k place cell
    pub can : CanServe program k cell

  -- a memory moves as its block's equation asks for
  pub record IsMemory (program : Program) (memory : Memory) (block : Block) : Type 0 where
    pub block_is : slice_get diagram.blocks memory.place.block ≡ Some block
    pub room : memory.room ≡ kept_count block.kind
    pub some : 1 ≤ memory.room
    pub moves : (table : Table) (t : ℕ) (look : ℕ → ℤ)
        → Agrees program.places (length program.places) look table t
        → move_of (is_hit memory.period t) (is_on look memory.control) memory.reset
        ≡ move_at diagram attributes table memory.place.block block.enable block.kind t
    pub from : (table : Table) (t : ℕ) (look : ℕ → ℤ)
        → Agrees program.places (length program.places) look table t
        → look memory.from
        ≡ value_into diagram attributes table memory.place.block 1 memory.place.element t

  -- the program simulates the diagram, and has no more memories than cells
  pub record IsProgram (program : Program) : Type 0 where
    pub size : length program.cells ≡ length program.places
    pub cells : (k : ℕ) (place : Place) (cell : Cell) → slice_get program.places k ≡ Some place
        → slice_get program.cells k ≡ Some cell → IsCell program k place cell
    pub memories : (m : ℕ) (memory : Memory) → slice_get program.memories m ≡ Some memory
        → (b : Block) × IsMemory program memory b
    pub few : length program.memories ≤ length program.cells
    pub outputs : length program.outputs ≡ length (root_outputs diagram attributes)
    pub shows : (place : ℕ) (e : RootElement)
        → slice_get (root_outputs diagram attributes) place ≡ Some e
        → (k : ℕ) × (slice_get program.outputs place ≡ Some k)
        × (slice_get program.places k
        ≡ Some (record { block = e.block; port = 1; element = e.element }))

  -- the simulator stands at sample t of the table
  pub record Stands (sim : Simulation) (table : Table) (t : ℕ) : Type 0 where
    pub samples : sim.samples ≡ t
    pub row : (k : ℕ) (place : Place) (s : ℕ) → slice_get sim.program.places k ≡ Some place
        → t ≡ suc s → value_at sim.row k ≡ entry table place s
    pub kept : Keep sim.program.memories (kept_at sim.pasts) table t

-- each memory has its room
abbrev pub HasRooms : Diagram → List Memory → List PastValues → Type 0
HasRooms diagram memories pasts =
    (m : ℕ) (memory : Memory) (b : Block) → slice_get memories m ≡ Some memory
    → slice_get diagram.blocks memory.place.block ≡ Some b
    → (past : PastValues) × (slice_get pasts m ≡ Some past) × (past.room ≡ kept_count b.kind)

-- it simulates this checked diagram
pub record IsSimOf (checked : CheckedDiagram) (sim : Simulation) : Type 0 where
  pub program : IsProgram checked.diagram (attributes_of checked.diagram) sim.program
  pub row : length sim.row ≡ length sim.program.places
  pub pasts : length sim.pasts ≡ length sim.program.memories
  pub rooms : HasRooms checked.diagram sim.program.memories sim.pasts
  pub ready : AreReady sim.program sim.prepared (length sim.program.cells)

-- it stands at a sample below n of a table that solves, and the row has the numbers of the stimulus
-- at that sample
pub record IsAt (checked : CheckedDiagram) (sim : Simulation) (row : List ℤ) (stimulus : Stimulus)
    (n : ℕ) (table : Table) : Type 0 where
  pub below : sim.samples < n
  pub is_stimulus : IsStimulus checked.diagram (attributes_of checked.diagram) stimulus n
  pub solves : Solves checked.diagram (attributes_of checked.diagram) stimulus n table
  pub stands : Stands checked.diagram (attributes_of checked.diagram) sim table sim.samples
  pub row_is : IsRowOf checked.diagram (attributes_of checked.diagram) stimulus sim.samples row

-- the numbers written are the table's root outputs at t
abbrev pub Shows : CheckedDiagram → Table → ℕ → List ℤ → Type 0
Shows checked table t out =
    (place : ℕ) (e : RootElement)
    → slice_get (root_outputs checked.diagram (attributes_of checked.diagram)) place ≡ Some e
    → value_at out place ≡ table e.block 1 e.element t

-- one sample made, of whatever table it stood at: it stands at the next sample of that table, and
-- shows its root outputs
abbrev pub IsStepped : CheckedDiagram → Simulation → Simulation → List ℤ → List ℤ → Type 0
IsStepped checked sim later row out =
    (stimulus : Stimulus) (n : ℕ) (table : Table) → IsAt checked sim row stimulus n table
    → Stands checked.diagram (attributes_of checked.diagram) later table (suc sim.samples)
    × Shows checked table sim.samples out
