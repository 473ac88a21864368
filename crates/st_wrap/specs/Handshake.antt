-- When a module with valid and ready is ready, and when what it shows is valid (own).
use Rattle.std.specs.Prelude.{◌≡◌, ℕ, ◌+◌, ◌-◌, ◌*◌, ◌%◌, ◌<◌, ◌==◌, nat_le, Bool, not, ◌&&◌, ◌||◌, codes}
use Rattle.vl_ast.specs.Runs.{Row, Rows}
use Rattle.vl_ast.specs.Value.{truth}
use Rattle.vl_ast.specs.Windows.{Window, counted, row_at}

-- how many clocks a sample takes, and how many whole samples the latest output comes late
pub record Pace : Type 0 where
  pub cycles : ℕ
  pub latest : ℕ

-- a sample begins after so many rows that moved
abbrev pub is_begin : Pace → ℕ → Bool
is_begin pace moved = moved % pace.cycles == 0

-- the outputs of a sample stand after so many rows that moved: it is a last clock, and the latest
-- output has come
abbrev pub is_due : Pace → ℕ → Bool
is_due pace moved =
    moved % pace.cycles == pace.cycles - 1 && nat_le ((pace.latest + 1) * pace.cycles - 1) moved

-- the row has what the clock needs of the inputs
abbrev pub is_fed : Pace → ℕ → Row → Bool
is_fed pace moved row = not (is_begin pace moved) || row (codes "in_valid") == 1

-- the row may give what it shows
abbrev pub is_open : Pace → ℕ → Row → Bool
is_open pace moved row = not (is_due pace moved) || row (codes "out_ready") == 1

-- the rows behind the last with `reset`, of which some move: a row is a clock of the core exactly
-- where it moves
pub record Handshakes (pace : Pace) (window : Window) (rows : Rows) : Type 0 where
  -- whether the row at a place moves
  pub moves : ℕ → Bool
  pub moves_where : (place : ℕ) → row_at window place < window.rows
      → moves place
      ≡ (is_fed pace (counted moves place) (rows (row_at window place))
      && is_open pace (counted moves place) (rows (row_at window place)))
  pub in_ready : (place : ℕ) → row_at window place < window.rows
      → rows (row_at window place) (codes "in_ready")
      ≡ truth (is_begin pace (counted moves place)
      && is_open pace (counted moves place) (rows (row_at window place)))
  pub out_valid : (place : ℕ) → row_at window place < window.rows
      → rows (row_at window place) (codes "out_valid")
      ≡ truth (is_due pace (counted moves place)
      && is_fed pace (counted moves place) (rows (row_at window place)))
