-- A run of a netlist shows its rows (own).
use Rattle.std.specs.Prelude.{◌≡◌, ℕ, ◌+◌, ◌-◌, ◌<◌, length}
use Rattle.hw_net.specs.Circuit.{Circuit}
use Rattle.hw_net.specs.Netlist.{IsNetlist}
use Rattle.hw_net.specs.NetRows.{Inputs, Rows, NetRows}
use Rattle.hw_run.specs.State.{State, row_of}
use Rattle.hw_net.specs.Step.{Row, Goes}

-- under these inputs the clocks that were made go as the netlist says, and the state has the last
-- of them
pub record IsAt (netlist : Circuit) (inputs : Inputs) (state : State) : Type 0 where
  pub rows : Rows
  pub goes : (c : ℕ) → c < state.clocks → Goes netlist c (λ number. inputs number c)
      (λ net. rows net (c - 1)) (λ net. rows net c)
  pub last : (net : ℕ) → 0 < state.clocks → rows net (state.clocks - 1) ≡ row_of state.values net

-- it begins so, and a clock that goes as the netlist says keeps it so
abbrev pub RunsGoOn : Type 0
RunsGoOn = (netlist : Circuit) (inputs : Inputs) (state new : State) (given : Row)
    → (state.clocks ≡ 0 → IsAt netlist inputs state)
    × (IsAt netlist inputs state → ((number : ℕ) → inputs number state.clocks ≡ given number)
    → Goes netlist state.clocks given (row_of state.values) (row_of new.values)
    → new.clocks ≡ state.clocks + 1 → IsAt netlist inputs new)

-- so its numbers are those of the netlist's rows at the last clock that was made
abbrev pub StateShowsRows : Type 0
StateShowsRows =
    (netlist : Circuit) (inputs : Inputs) (state : State) (rows : Rows) → IsNetlist netlist
    → IsAt netlist inputs state → 0 < state.clocks
    → NetRows netlist state.clocks inputs rows → (k : ℕ) → k < length netlist.nets
    → row_of state.values k ≡ rows k (state.clocks - 1)
