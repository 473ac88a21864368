-- What a sample does to a state (own).
use Rattle.std.specs.Prelude.{◌≡◌, ℕ, suc, ◌<◌, ℤ, List, Option, Some, slice_get, MatchOption}
use Rattle.fx_type.specs.declared.decimal.Decimal.{Decimal}
use Rattle.dg_model.specs.declared.diagram.Diagram.{Diagram}
use Rattle.dg_model.specs.declared.kind.Kind.{Kind}
use Rattle.dg_model.specs.Signals.{Attributes, Stimulus, Table}
use Rattle.dg_model.specs.Wires.{value_into}
use Rattle.dg_model.specs.Equation.{StoresEntry, IsInputAt}
use Rattle.dg_model.specs.declared.diagram.Block.{Block}
use Rattle.dg_model.specs.Solves.{IsShown}
use Rattle.dg_tables.specs.State.{State, StandsAt, move_at, moved, kept_hits, kept_count, kept_values}

-- what is kept after a sample is what was kept, moved by the input of the sample
abbrev pub KeptMoves : Type 0
KeptMoves =
    (diagram : Diagram) (attributes : Attributes) (table : Table) (block : ℕ) (enable : Option ℕ)
    (kind : Kind) (element t : ℕ)
    → kept_values diagram attributes table block enable kind element (suc t)
    ≡ moved (move_at diagram attributes table block enable kind t) (kept_count kind)
    (value_into diagram attributes table block 1 element t)
    (kept_values diagram attributes table block enable kind element t)

-- what is read of it is what the equations ask for
abbrev pub KeptIsRead : Type 0
KeptIsRead =
    (diagram : Diagram) (attributes : Attributes) (stimulus : Stimulus) (table : Table) (block : ℕ)
    (enable : Option ℕ) (kind : Kind)
    (initial : List Decimal) (element t k : ℕ) (v : ℤ) → k < kept_count kind
    → MatchOption (slice_get (kept_values diagram attributes table block enable kind element t) k)
    (StoresEntry initial element (attributes.type_at block 1) v) (λ w. v ≡ w)
    → IsInputAt diagram attributes stimulus table block initial element
    (slice_get (kept_hits diagram attributes table block enable kind t) k) v

-- a later state has the row of sample t, and has moved what is kept by the inputs of the sample
pub record IsStep (diagram : Diagram) (attributes : Attributes) (table : Table)
    (state later : State) (t : ℕ) : Type 0 where
  pub row : (block : ℕ) (b : Block) (port element : ℕ)
      → IsShown diagram attributes block b port element
      → later.row block port element ≡ table block port element t
  pub kept : (block : ℕ) (b : Block) (element : ℕ) → slice_get diagram.blocks block ≡ Some b
      → element < attributes.width_at block 1
      → later.kept block element
      ≡ moved (move_at diagram attributes table block b.enable b.kind t) (kept_count b.kind)
      (value_into diagram attributes table block 1 element t) (state.kept block element)

-- such a step leads from standing at t to standing at t + 1
abbrev pub StepsStand : Type 0
StepsStand =
    (diagram : Diagram) (attributes : Attributes) (table : Table) (state later : State) (t : ℕ)
    → StandsAt diagram attributes table state t → IsStep diagram attributes table state later t
    → StandsAt diagram attributes table later (suc t)
