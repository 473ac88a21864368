-- What a name shows over the clocks of a run (own).
use Rattle.std.specs.Prelude.{◌≡◌, ℕ, zero, suc, ◌+◌, ◌-◌, ◌%◌, ◌<◌, ◌≤◌, ◌==◌, Bool, true, not, ◌||◌, if◌then◌else◌, List, slice_get, codes, Some, ℤ}
use Rattle.vl_ast.specs.declared.modules.Module.{Module}
use Rattle.vl_ast.specs.Control.{is_stallable}
use Rattle.vl_ast.specs.Runs.{Row, Rows}
use Rattle.vl_ast.specs.Value.{bits_of}

-- the number of a row that counts, behind the last with `reset`
abbrev pub Clock : Type 0
Clock = ℕ

-- the number of a base sample
abbrev pub Sample : Type 0
Sample = ℕ

-- the number of the port at each place in a list at each base sample
abbrev pub PortNumbers : Type 0
PortNumbers = ℕ → Sample → ℤ

-- how many rows there are, and which is the last with `reset`
pub record Window : Type 0 where
  pub rows : ℕ
  pub last_reset : ℕ

-- the row at a place behind the last with `reset`
abbrev pub row_at : Window → ℕ → ℕ
row_at window place = window.last_reset + 1 + place

-- a row over these inputs counts: of a stallable module where `clk_enable` is 1, else always
abbrev pub is_counted : Module → Row → Bool
is_counted m inputs = not (is_stallable m) || inputs (codes "clk_enable") == 1

-- how many of the first so many places pass a test
abbrev pub counted : (ℕ → Bool) → ℕ → ℕ
counted test zero = 0
counted test (suc many) = if test many then suc (counted test many) else counted test many

-- the row at a place behind the last row with `reset` counts
abbrev pub counts_at : Module → Window → Rows → ℕ → Bool
counts_at m window inputs place = is_counted m (inputs (row_at window place))

-- the row at this place behind the last row with `reset` is the counted row of this number
pub record IsClock (m : Module) (window : Window) (inputs : Rows) (clock : Clock)
    (place : ℕ) : Type 0 where
  pub within : row_at window place < window.rows
  pub counts : counts_at m window inputs place ≡ true
  pub number : counted (counts_at m window inputs) place ≡ clock

-- how many counted rows there are
abbrev pub clocks_in : Module → Window → Rows → ℕ
clocks_in m window inputs =
    counted (counts_at m window inputs) (window.rows - (window.last_reset + 1))

-- at each clock from one to before another that stands among the rows, the name has the bits of the
-- number in its width
abbrev pub Shows : Module → Window → Rows → Rows → List ℕ → ℕ → ℤ → Clock → Clock → Type 0
Shows m window inputs rows name width number from until =
    (clock : Clock) (place : ℕ) → from ≤ clock → clock < until → IsClock m window inputs clock place
    → rows (row_at window place) name ≡ bits_of width number

-- P holds of each hit of the period below `samples`
abbrev pub AtHits : ℕ → ℕ → (Sample → Type 0) → Type 0
AtHits period samples P = (t : Sample) → t < samples → t % period ≡ 0 → P t

-- P holds of each item and its place
abbrev pub Each : {A : Type 0} → List A → (ℕ → A → Type 0) → Type 0
Each {A} items P = (place : ℕ) (item : A) → slice_get items place ≡ Some item → P place item
