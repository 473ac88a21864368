-- Which bits the transfers out of a module with valid and ready show: those of a run of its core
-- without stalls over the samples of the transfers in (own).
use Rattle.std.specs.Prelude.{◌≡◌, ℕ, ◌+◌, ◌-◌, ◌*◌, ◌<◌, ◌≤◌, List, codes}
use Rattle.vl_ast.specs.declared.modules.Port.{Port}
use Rattle.vl_ast.specs.declared.modules.Module.{Module}
use Rattle.vl_ast.specs.Driven.{IsResetLast, output_ports}
use Rattle.vl_ast.specs.Runs.{Row, Rows, Runs}
use Rattle.vl_ast.specs.Windows.{Each, Window, counted, row_at}
use Rattle.vl_ast.specs.Attributes.{clocks_of}
use Rattle.st_wrap.specs.Handshake.{Handshakes, Pace}
use Rattle.st_wrap.specs.Header.{named_inputs, named_outputs}
use Rattle.st_wrap.specs.Pace.{latest_in, samples_late}
use Rattle.st_wrap.specs.Transfers.{IsTransfer, in_side, out_side, transfers}

-- the pace of a module
abbrev pub pace_of : Module → Pace
pace_of core = record { cycles = clocks_of core; latest = latest_in core }

-- a run of the core that is reset, and then has `clk_enable` 1 in every row
pub record IsSteadyRun (core : Module) (window : Window) (start : Row)
    (inputs rows : Rows) : Type 0 where
  pub runs : Runs core window.rows start inputs rows
  pub reset : IsResetLast window inputs
  pub enabled : (place : ℕ) → row_at window place < window.rows
      → inputs (row_at window place) (codes "clk_enable") ≡ 1

-- at the clocks of each sample the core's inputs are those of the transfer in of the sample's
-- number
pub record IsFed (core : Module) (names : List (List ℕ)) (window : Window) (rows : Rows)
    (core_window : Window) (core_inputs : Rows) : Type 0 where
  pub at : (number place clock : ℕ) → IsTransfer in_side window rows number place
      → number * clocks_of core ≤ clock → clock < (number + 1) * clocks_of core
      → row_at core_window clock < core_window.rows
      → Each (named_inputs core names)
      (λ column named. core_inputs (row_at core_window clock) named.0.name
      ≡ rows (row_at window place) named.1)

-- the last clock of the sample in which an output shows what a sample makes of it
abbrev pub shown_at : Module → ℕ → Port → ℕ
shown_at core number port = (number + samples_late (clocks_of core) port + 1) * clocks_of core - 1

-- at each transfer out each output has the bits that the core's has at that clock
pub record IsCarried (core : Module) (names : List (List ℕ)) (window : Window) (rows : Rows)
    (core_window : Window) (core_rows : Rows) : Type 0 where
  pub at : (number place : ℕ) → IsTransfer out_side window rows number place
      → Each (named_outputs core names)
      (λ column named. row_at core_window (shown_at core number named.0) < core_window.rows
      → rows (row_at window place) named.1
      ≡ core_rows (row_at core_window (shown_at core number named.0)) named.0.name)

-- in every run that is reset the four signals shake hands
pub record ShakesHands (core m : Module) : Type 0 where
  pub in_runs : (window : Window) (start : Row) (inputs rows : Rows) → IsResetLast window inputs
      → Runs m window.rows start inputs rows → Handshakes (pace_of core) window rows

-- in every run that is reset the transfers out carry what the core makes of the transfers in
pub record CarriesTransfers (core : Module) (names : List (List ℕ)) (m : Module) : Type 0 where
  pub in_runs : (window : Window) (start : Row) (inputs rows : Rows) → IsResetLast window inputs
      → Runs m window.rows start inputs rows
      → (core_window : Window) (core_start : Row) (core_inputs core_rows : Rows)
      → IsSteadyRun core core_window core_start core_inputs core_rows
      → IsFed core names window rows core_window core_inputs
      → IsCarried core names window rows core_window core_rows

-- how many samples were taken up to the row at a place, and in it
abbrev pub taken_by : Window → Rows → ℕ → ℕ
taken_by window rows place = counted (transfers in_side window rows) (place + 1)

-- a run of the core that is fed so, with the clocks that each transfer out shows; up to that so
-- many samples were taken as the latest output wants
pub record IsFollowed (core : Module) (names : List (List ℕ)) (window : Window)
    (rows : Rows) : Type 0 where
  pub core_window : Window
  pub core_start : Row
  pub core_inputs : Rows
  pub core_rows : Rows
  pub steady : IsSteadyRun core core_window core_start core_inputs core_rows
  pub fed : IsFed core names window rows core_window core_inputs
  pub reached : (number place : ℕ) → IsTransfer out_side window rows number place
      → Each (output_ports core)
      (λ index port. row_at core_window (shown_at core number port) < core_window.rows)
  pub taken : (number place : ℕ) → IsTransfer out_side window rows number place
      → taken_by window rows place ≡ number + latest_in core + 1

-- beside every run that is reset there is such a run of the core
pub record FollowsCore (core : Module) (names : List (List ℕ)) (m : Module) : Type 0 where
  pub in_runs : (window : Window) (start : Row) (inputs rows : Rows) → IsResetLast window inputs
      → Runs m window.rows start inputs rows → IsFollowed core names window rows
