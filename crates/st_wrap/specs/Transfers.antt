-- The rows in which a sample is handed over: valid and ready are both 1 (own).
use Rattle.std.specs.Prelude.{◌≡◌, ℕ, ◌<◌, ◌==◌, Bool, true, ◌&&◌, List, codes}
use Rattle.vl_ast.specs.Runs.{Rows}
use Rattle.vl_ast.specs.Windows.{Window, counted, row_at}

-- valid and ready of one side
pub record Side : Type 0 where
  pub valid : List ℕ
  pub ready : List ℕ

-- that of the inputs
abbrev pub in_side : Side
in_side = record { valid = codes "in_valid"; ready = codes "in_ready" }

-- that of the outputs
abbrev pub out_side : Side
out_side = record { valid = codes "out_valid"; ready = codes "out_ready" }

-- the row at a place behind the last with `reset` hands over a sample on this side
abbrev pub transfers : Side → Window → Rows → ℕ → Bool
transfers side window rows place =
    rows (row_at window place) side.valid == 1 && rows (row_at window place) side.ready == 1

-- the row at this place is the transfer of this number, from 0
pub record IsTransfer (side : Side) (window : Window) (rows : Rows)
    (number place : ℕ) : Type 0 where
  pub within : row_at window place < window.rows
  pub hands_over : transfers side window rows place ≡ true
  pub earlier : counted (transfers side window rows) place ≡ number
