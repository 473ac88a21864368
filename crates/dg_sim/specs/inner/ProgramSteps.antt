-- What the steps that build a program keep (own).
use Rattle.std.specs.Prelude.{◌≡◌, ℕ, suc, ◌<◌, ◌≤◌, ◌++◌, ℤ, Bool, List, [], length, Option, Some, slice_get}
use Rattle.fx_type.specs.declared.kind.FxType.{FxType}
use Rattle.dg_model.specs.declared.diagram.Diagram.{Diagram}
use Rattle.dg_model.specs.declared.diagram.Block.{Block}
use Rattle.dg_model.specs.declared.kind.Kind.{Kind}
use Rattle.dg_model.specs.Library.{row_of}
use Rattle.dg_model.specs.Signals.{Attributes, Stimulus, Table}
use Rattle.dg_model.specs.Hits.{Hits, is_hit}
use Rattle.dg_model.specs.Wires.{value_into}
use Rattle.dg_model.specs.Equation.{Equation, ElementEquation, is_enabled}
use Rattle.dg_tables.specs.declared.entries.Place.{Place}
use Rattle.dg_tables.specs.Entries.{Reads, AreEntries}
use Rattle.dg_sim.specs.declared.program.Cell.{Cell}
use Rattle.dg_tables.specs.declared.roots.Root.{Root}
use Rattle.dg_sim.specs.declared.program.Rule.{Rule}
use Rattle.dg_sim.specs.declared.program.Memory.{Memory}
use Rattle.dg_sim.specs.declared.program.Program.{Program}
use Rattle.dg_tables.specs.Laws.{EntriesAreInRange}
use Rattle.dg_sim.specs.Ring.{PastValues}
use Rattle.dg_sim.specs.Program.{Gives, CanGive, IsWithin, is_on, move_of}
use Rattle.dg_tables.specs.State.{move_at}
use Rattle.dg_sim.specs.Sim.{Agrees, Keep, IsRowOf, IsMemory, IsCell}

-- a rule for the entry at a place, which stands at k in the program's list
pub record IsRule (diagram : Diagram) (attributes : Attributes) (program : Program) (k : ℕ)
    (place : Place) (rule : Rule) : Type 0 where
  pub within : IsWithin program rule
  pub serves : (stimulus : Stimulus) (table : Table) (t : ℕ) (look : ℕ → ℤ) (kept : ℕ → List ℤ)
      (row : List ℤ) (v : ℤ)
      → Agrees diagram attributes program.places k look table t
      → Keep diagram attributes program.memories kept table t
      → IsRowOf diagram attributes stimulus t row → Hits (attributes.period_at place.block) t
      → Gives program look kept row t rule v
      → Equation diagram attributes stimulus table place.block place.port place.element t v
  pub can : (table : Table) (t : ℕ) (look : ℕ → ℤ)
      → Agrees diagram attributes program.places k look table t
      → EntriesAreInRange diagram attributes table (suc t) → CanGive program look rule

-- the value of an input port is that of the block
abbrev pub HandsOn : Diagram → Attributes → Place → ℕ → ℕ → Type 0
HandsOn diagram attributes place port element = (stimulus : Stimulus) (table : Table) (t : ℕ)
    → Equation diagram attributes stimulus table place.block place.port place.element t
    (value_into diagram attributes table place.block port element t)

-- v is always the value of the block
abbrev pub IsAlways : Diagram → Attributes → Place → ℤ → Type 0
IsAlways diagram attributes place v =
    (stimulus : Stimulus) (table : Table) (t : ℕ)
    → Equation diagram attributes stimulus table place.block place.port place.element t v

-- a program with more parts behind the others, one memory at the most
pub record Grows (old new : Program) : Type 0 where
  pub places : new.places ≡ old.places
  pub cells : new.cells ≡ old.cells
  pub args : (more : List ℕ) × (new.args ≡ old.args ++ more)
  pub types : (more : List FxType) × (new.types ≡ old.types ++ more)
  pub paired : length old.types ≡ length old.args → length new.types ≡ length new.args
  pub signs : (more : List Bool) × (new.signs ≡ old.signs ++ more)
  pub memories : (more : List Memory) × (new.memories ≡ old.memories ++ more)
  pub few : length new.memories ≤ suc (length old.memories)

-- these entries, of which each stands before k, are what the input ports of a block offer to an
-- element
abbrev pub AreRead : Diagram → Attributes → List Place → ℕ → ℕ → ℕ → List ℕ → Type 0
AreRead diagram attributes places block element k numbers =
    (i j : ℕ) → slice_get numbers i ≡ Some j → (j < k)
    × Reads diagram attributes places block (suc i) element j

-- a block that works element by element
abbrev pub IsElementwise : Diagram → Attributes → Block → Place → Type 0
IsElementwise diagram attributes b place = (stimulus : Stimulus) (table : Table) (t : ℕ) (v : ℤ)
    → ElementEquation diagram attributes stimulus table b place.block place.element t v
    → Equation diagram attributes stimulus table place.block place.port place.element t v

-- all memories of a program keep what their blocks ask for
abbrev pub AreMemories : Diagram → Attributes → Program → Type 0
AreMemories diagram attributes program =
    (m : ℕ) (memory : Memory) → slice_get program.memories m ≡ Some memory → (b : Block)
    × IsMemory diagram attributes program memory b

-- a rule was made, and the program has grown for it
pub record IsMade (diagram : Diagram) (attributes : Attributes) (old new : Program) (k : ℕ)
    (place : Place) (rule : Rule) : Type 0 where
  pub grows : Grows old new
  pub memories : AreMemories diagram attributes old → AreMemories diagram attributes new
  pub made : IsRule diagram attributes new k place rule

-- the control of a block's subsystem is on where the subsystem is enabled
abbrev pub IsControl : Diagram → Attributes → List Place → Option ℕ → Option ℕ → Type 0
IsControl diagram attributes places enable control =
    (table : Table) (t : ℕ) (look : ℕ → ℤ)
    → Agrees diagram attributes places (length places) look table t
    → is_on look control ≡ is_enabled table enable t

-- a memory of this period and control moves as its block asks for
abbrev pub Moves : Diagram → Attributes → List Place → Place → Block → Option ℕ → Option ℕ → Bool
    → Type 0
Moves diagram attributes places place b period control reset =
    (table : Table) (t : ℕ) (look : ℕ → ℤ)
    → Agrees diagram attributes places (length places) look table t
    → move_of (is_hit period t) (is_on look control) reset
    ≡ move_at diagram attributes table place.block b.enable b.kind t

-- a memory for a place was put behind the others
pub record IsRemembered (diagram : Diagram) (attributes : Attributes) (old new : Program)
    (place : Place) (m : ℕ) : Type 0 where
  pub grows : Grows old new
  pub memories : AreMemories diagram attributes old → AreMemories diagram attributes new
  pub memory : Memory
  pub there : slice_get new.memories m ≡ Some memory
  pub place_is : memory.place ≡ place

-- the first k cells of a program are made
pub record IsFilled (diagram : Diagram) (attributes : Attributes) (program : Program)
    (k : ℕ) : Type 0 where
  pub entries : AreEntries diagram attributes program.places
  pub memories : AreMemories diagram attributes program
  pub few : length program.memories ≤ k
  pub paired : length program.types ≡ length program.args
  pub size : length program.cells ≡ k
  pub cells : (j : ℕ) (place : Place) (cell : Cell) → slice_get program.places j ≡ Some place
      → slice_get program.cells j ≡ Some cell → IsCell diagram attributes program j place cell

-- the first n of these numbers are the places at which a list of places has the entries of root
-- elements
pub record AreShown (places : List Place) (roots : List Root) (shown : List ℕ)
    (n : ℕ) : Type 0 where
  pub size : length shown ≡ n
  pub each : (i k : ℕ) (root : Root) → slice_get shown i ≡ Some k → slice_get roots i ≡ Some root
      → slice_get places k ≡ Some (record { block = root.block; port = 1; element = root.element })

-- the first n memories have their rooms, with nothing kept
pub record AreRooms (memories : List Memory) (pasts : List PastValues) (n : ℕ) : Type 0 where
  pub size : length pasts ≡ n
  pub each : (m : ℕ) (memory : Memory) (past : PastValues) → slice_get memories m ≡ Some memory
      → slice_get pasts m ≡ Some past → past ≡ record { room = memory.room; values = [] }

-- the cell stands for the control of the enabled subsystem
abbrev pub IsControlCell : List Place → Option ℕ → ℕ → Type 0
IsControlCell places enable cell =
    (control : ℕ) × (enable ≡ Some control)
    × (slice_get places cell ≡ Some (record { block = control; port = 1; element = 0 }))

-- these entries, of which each stands before k, are the elements that input port 1 of a block
-- offers
abbrev pub AreElements : Diagram → Attributes → List Place → ℕ → ℕ → List ℕ → Type 0
AreElements diagram attributes places block k numbers =
    (i j : ℕ) → slice_get numbers i ≡ Some j → (j < k) × Reads diagram attributes places block 1 i j

-- a kind whose rule is an operation: those behind which registers may stand
abbrev pub is_worked : Kind → Bool
is_worked kind = (row_of kind).hardware.pipelines
