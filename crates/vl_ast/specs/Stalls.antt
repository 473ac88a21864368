-- Stalls: a module stands still in the rows where `clk_enable` is 0, and the others are rows of a
-- run without such rows (own).
use Rattle.std.specs.Prelude.{◌≡◌, ℕ, suc, ◌<◌, List, Contains, codes, Option}
use Rattle.vl_ast.specs.declared.expressions.Sized.{Sized}
use Rattle.vl_ast.specs.declared.expressions.Expr.{Expr}
use Rattle.vl_ast.specs.declared.modules.ModItem.TheVariants.{Always}
use Rattle.vl_ast.specs.declared.modules.Module.{Module}
use Rattle.vl_ast.specs.Driven.{IsEnabled, IsResetLast}
use Rattle.vl_ast.specs.Gated.{gated}
use Rattle.vl_ast.specs.Runs.{Row, Rows, Runs, next_bits}
use Rattle.vl_ast.specs.Steps.{IsRow}
use Rattle.vl_ast.specs.Windows.{Clock, IsClock, Window, clocks_in, row_at}

-- every register keeps its bits in a row with `reset` 0 and `clk_enable` 0
pub record KeepsBits (m : Module) : Type 0 where
  pub at : (inputs row : Row) → IsRow m inputs row → row (codes "reset") ≡ 0
      → row (codes "clk_enable") ≡ 0
      → (name : List ℕ) (first : Sized) (condition : Option Expr) (value : Expr)
      → Contains m.items (Always name first condition value)
      → next_bits m row name first condition value ≡ row name

-- a first row with `reset`, and the counted rows
abbrev pub thin_window : Module → Window → Rows → Window
thin_window m window inputs = record { rows = suc (clocks_in m window inputs); last_reset = 0 }

-- the counted rows are the rows behind the first, which has `reset`, of a run of the module in
-- which `clk_enable` is 1 in every row
pub record AreThinned (m : Module) (window : Window) (inputs rows : Rows) : Type 0 where
  pub start : Row
  pub thin_inputs : Rows
  pub thin_rows : Rows
  pub runs : Runs m (suc (clocks_in m window inputs)) start thin_inputs thin_rows
  pub reset : IsResetLast (thin_window m window inputs) thin_inputs
  pub enabled : IsEnabled (thin_window m window inputs) thin_inputs
  -- each clock has its row, and these are its inputs and its bits
  pub found : (clock : Clock) → clock < clocks_in m window inputs → (place : ℕ)
      × IsClock m window inputs clock place
  pub inputs_are : (clock : Clock) (place : ℕ) → IsClock m window inputs clock place
      → thin_inputs (suc clock) ≡ inputs (row_at window place)
  pub rows_are : (clock : Clock) (place : ℕ) → IsClock m window inputs clock place
      → thin_rows (suc clock) ≡ rows (row_at window place)

-- the counted rows of a run of a gated module are rows of a run of the module itself without stalls
pub record AreUngated (m : Module) (window : Window) (inputs rows : Rows) : Type 0 where
  pub thinned : AreThinned (gated m) window inputs rows
  pub runs : Runs m
      (suc (clocks_in m window inputs)) thinned.start thinned.thin_inputs thinned.thin_rows

-- the counted rows of a run of a gated module `o` are rows of a run of `m` without stalls
pub record AreCounted (m o : Module) (window : Window) (inputs rows : Rows) : Type 0 where
  pub thinned : AreThinned (gated o) window inputs rows
  pub runs : Runs m
      (suc (clocks_in o window inputs)) thinned.start thinned.thin_inputs thinned.thin_rows
