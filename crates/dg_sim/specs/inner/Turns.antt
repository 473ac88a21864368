-- The entry whose rule is to be made (own).
use Rattle.std.specs.Prelude.{◌≡◌, ℕ, ◌<◌, List, length, Some, slice_get}
use Rattle.fx_type.specs.declared.decimal.Decimal.{Decimal}
use Rattle.dg_model.specs.declared.diagram.Block.{Block}
use Rattle.dg_model.specs.Attributes.{attributes_of}
use Rattle.dg_model.specs.Checked.{CheckedDiagram}
use Rattle.dg_model.specs.Solves.{IsShown}
use Rattle.dg_model.specs.Wires.{repeated}
use Rattle.dg_tables.specs.Finding.{Finds, ReadsNow}
use Rattle.dg_tables.specs.Laws.{IsOrdered}
use Rattle.dg_tables.specs.declared.entries.Place.{Place}
use Rattle.dg_tables.specs.declared.reading.Starts.{Starts}
use Rattle.dg_sim.specs.declared.program.Program.{Program}
use Rattle.dg_sim.specs.declared.program.Rule.{Rule}
use Rattle.dg_sim.specs.declared.turn.Turn.{Turn}
use Rattle.dg_sim.specs.inner.ProgramSteps.{IsMade}

-- a rule is to be made for the entry that stands at k
pub record IsTurn (checked : CheckedDiagram) (starts : Starts) (places : List Place) (k : ℕ)
    (place : Place) (b : Block) : Type 0 where
  pub rules : IsOrdered checked.diagram checked.order
  pub finds : Finds checked starts places
  pub at : slice_get places k ≡ Some place
  pub shown : IsShown checked.diagram
      (attributes_of checked.diagram) place.block b place.port place.element

-- a rule is to be made for the entry of a turn
abbrev pub IsTurnOf : Turn → List Place → Type 0
IsTurnOf turn places =
    IsTurn turn.checked.now turn.starts.now places turn.cell turn.place turn.block.now

-- what the turn's block reads is found among the places, before the turn's cell
pub record CanOffer (turn : Turn) (places : List Place) : Type 0 where
  pub finds : Finds turn.checked.now turn.starts.now places
  pub now : ReadsNow turn.checked.now places turn.cell turn.place.block

-- the rule of a turn was made, and the program has grown for it
abbrev pub IsMadeFor : Turn → Program → Program → Rule → Type 0
IsMadeFor turn old new rule =
    IsMade turn.checked.now.diagram
    (attributes_of turn.checked.now.diagram) old new turn.cell turn.place rule

-- a list parameter has an entry for an element
abbrev pub HasEntry : List Decimal → ℕ → Type 0
HasEntry list element = repeated (length list) element < length list
