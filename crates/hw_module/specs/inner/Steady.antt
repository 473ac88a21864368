-- A driven run in which `clk_enable` is 1 in every row.
use Rattle.std.specs.Prelude.{◌≡◌, ℕ, ◌<◌, ◌≤◌, List, ℤ}
use Rattle.dg_model.specs.declared.diagram.Diagram.{Diagram}
use Rattle.dg_model.specs.Signals.{Stimulus, Table}
use Rattle.hw_module.specs.Carries.{IsDrivenRun}
use Rattle.vl_ast.specs.declared.modules.Module.{Module}
use Rattle.vl_ast.specs.Runs.{Rows}
use Rattle.vl_ast.specs.Value.{bits_of}
use Rattle.vl_ast.specs.Driven.{IsEnabled}
use Rattle.vl_ast.specs.Windows.{Window, row_at}

pub record IsSteadyRun (m : Module) (diagram : Diagram) (samples : ℕ) (window : Window)
    (stimulus : Stimulus) (table : Table) (rows : Rows) : Type 0 where
  pub run : IsDrivenRun m diagram samples window stimulus table rows
  pub enabled : IsEnabled window run.inputs

-- in each row from one place to before another that stands among the rows, the name has the bits of
-- the number in its width
abbrev pub ShowsThroughout : Window → Rows → List ℕ → ℕ → ℤ → ℕ → ℕ → Type 0
ShowsThroughout window rows name width number from until =
    (place : ℕ) → from ≤ place → place < until → row_at window place < window.rows
    → rows (row_at window place) name ≡ bits_of width number
