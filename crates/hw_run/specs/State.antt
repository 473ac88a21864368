-- A run of a netlist as it stands: how many clocks were made, and the numbers of the last (own).
use Rattle.std.specs.Prelude.{◌≡◌, ℕ, ℤ, pos, List, length, slice_index_or}
use Rattle.hw_net.specs.Circuit.{Circuit}
use Rattle.hw_order.specs.Order.{IsOrder}

-- a list of numbers as a row
abbrev pub row_of : List ℤ → ℕ → ℤ
row_of values net = slice_index_or values net (pos 0)

-- how many clocks were made, the numbers of the nets in the last of them, and the nets in an order
-- in which each stands after those that it reads in the same clock
pub record State : Type 0 where
  pub clocks : ℕ
  pub values : List ℤ
  pub order : List ℕ

-- the state is one of this netlist
pub record IsStateOf (netlist : Circuit) (state : State) : Type 0 where
  pub size : length state.values ≡ length netlist.nets
  pub order : IsOrder netlist.nets state.order
