-- The runs of modules of the whole model (own).
use Rattle.std.specs.Prelude.{ℕ, true, List, [], ◌∷◌, codes}
use Rattle.dg_model.specs.Attributes.{attributes_of}
use Rattle.dg_model.specs.RootElements.{column_of_stimulus, root_inputs}
use Rattle.vl_ast.specs.declared.modules.Module.{Module}
use Rattle.vl_ast.specs.declared.modules.Port.{Port}
use Rattle.vl_ast.specs.Conditions.{BreaksNone}
use Rattle.vl_ast.specs.Driven.{Driven, IsEnabled}
use Rattle.vl_ast.specs.Header.{HasHeader, input_port, output_port}
use Rattle.vl_ast.specs.Room.{StartFits}
use Rattle.vl_ast.specs.Runs.{Row, Rows, Runs}
use Rattle.vl_ast.specs.Windows.{PortNumbers, Window}
use Rattle.tests_premises.specs.Whole.{diagram, stimulus}

-- a row with `reset`, and twelve clocks, which are four base samples
abbrev pub window : Window
window = record { rows = 13; last_reset = 0 }

-- the numbers of the stimulus by port
abbrev pub column : PortNumbers
column = column_of_stimulus (root_inputs diagram (attributes_of diagram)) stimulus

-- the ports that carry numbers
abbrev pub input_of : List ℕ → Port
input_of name =
    input_port (record { name = name; width = 8; signed = true; period = 1; latency = 0 })

abbrev pub output_of : List ℕ → Port
output_of name =
    output_port (record { name = name; width = 16; signed = true; period = 1; latency = 5 })

abbrev pub input_ports : List Port
input_ports = input_of (codes "u_0") ∷ input_of (codes "u_1") ∷ []

abbrev pub output_ports : List Port
output_ports = output_of (codes "y_0") ∷ output_of (codes "y_1") ∷ []

-- a run from this start that is driven by the stimulus, and in which each row behind the one with
-- `reset` counts
pub record RunsWhole (m : Module) (start : Row) : Type 0 where
  pub inputs : Rows
  pub rows : Rows
  pub driven : Driven m column 3 window inputs
  pub enabled : IsEnabled window inputs
  pub runs : Runs m window.rows start inputs rows

-- each module with these ports that breaks no condition has such a run from each start that fits
abbrev pub WholeModulesRun : Type 0
WholeModulesRun =
    (m : Module) (start : Row) → HasHeader m 3 input_ports output_ports → BreaksNone m
    → StartFits m start → RunsWhole m start
