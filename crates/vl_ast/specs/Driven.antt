-- A module that is reset and then driven by a stimulus (own).
use Rattle.std.specs.Prelude.{◌≡◌, ℕ, ◌+◌, ◌*◌, ◌<◌, ◌==◌, ◌||◌, List, filter, codes, Some, ℤ}
use Rattle.vl_ast.specs.declared.modules.Port.{Port}
use Rattle.vl_ast.specs.declared.modules.Module.{Module}
use Rattle.vl_ast.specs.Attributes.{cycles_of, period_of}
use Rattle.vl_ast.specs.Control.{is_number_input, is_number_output, is_stallable}
use Rattle.vl_ast.specs.Value.{number_of}
use Rattle.vl_ast.specs.Runs.{Rows}
use Rattle.vl_ast.specs.Windows.{PortNumbers, Window, Shows, AtHits, Each}

-- the input ports that carry numbers, in order
abbrev pub stimulus_ports : Module → List Port
stimulus_ports m = filter (is_number_input (is_stallable m)) m.ports

-- the output ports that carry numbers, in order
abbrev pub output_ports : Module → List Port
output_ports m = filter (is_number_output (is_stallable m)) m.ports

-- the number that a port shows: by two's complement where the port is signed, or 128 bits wide
-- (own)
abbrev pub port_number : Port → ℕ → ℤ
port_number port bits =
    number_of (record {
      width = port.width;
      signed = port.signed || port.width == 128;
      bits = bits;
    })

-- the last row with `reset` stands among the rows
pub record IsResetLast (window : Window) (inputs : Rows) : Type 0 where
  pub within : window.last_reset < window.rows
  pub reset : inputs window.last_reset (codes "reset") ≡ 1
  pub released : (k : ℕ) → window.last_reset < k → k < window.rows → inputs k (codes "reset") ≡ 0

-- `clk_enable` is 1 in every row
pub record IsEnabled (window : Window) (inputs : Rows) : Type 0 where
  pub at : (k : ℕ) → k < window.rows → inputs k (codes "clk_enable") ≡ 1

-- the inputs of the rows: each input port of period p shows the number of each hit t below
-- `samples` from clock t F to t F + p F - 1. Port and hit have the number `stimulus place t`. Else
-- the inputs are any.
pub record Driven (m : Module) (stimulus : PortNumbers) (samples : ℕ) (window : Window)
    (inputs : Rows) : Type 0 where
  pub reset : IsResetLast window inputs
  pub shows : (cycles : ℕ) → cycles_of m ≡ Some cycles
      → Each (stimulus_ports m) (λ place port. (period : ℕ) → period_of port ≡ Some period
      → AtHits period samples (λ t.
      Shows m window inputs inputs port.name port.width (stimulus place t) (t * cycles)
      ((t + period) * cycles)))
