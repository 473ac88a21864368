-- What is sampled of a module that is driven by a stimulus (own): the run starts with every
-- register 0. In its row 0 every input is 0, in its row 1 `reset` is 1 and all else 0. Clock 0 is
-- the row after, and from it on `clk_enable` of a stallable module is 1.
use Rattle.std.specs.Prelude.{◌≡◌, ℕ, ◌+◌, ◌-◌, ◌*◌, ◌/◌, ◌%◌, ◌<◌, ◌≤◌, true, false, List, length, bytes_eq, codes, slice_get, slice_index_or, Contains, Some, ℤ, pos}
use Rattle.fx_tables.specs.declared.table.Rows.{Rows as Table}
use Rattle.vl_ast.specs.declared.modules.Port.{Port}
use Rattle.vl_ast.specs.declared.modules.Module.{Module}
use Rattle.vl_ast.specs.Attributes.{cycles_of, latency_of, period_of}
use Rattle.vl_ast.specs.Control.{is_stallable}
use Rattle.vl_ast.specs.Driven.{Driven, output_ports, port_number, stimulus_ports}
use Rattle.vl_ast.specs.Windows.{Clock, Each, PortNumbers, Sample, Window, row_at}
use Rattle.vl_ast.specs.Runs.{Rows, Runs}

-- the number of a column at a sample
abbrev pub numbers_of : Table → PortNumbers
numbers_of table place t = slice_index_or table.cells (t * table.columns + place) (pos 0)

-- the hit of a period at a sample, or the last before it
abbrev pub hit_at : ℕ → Sample → Sample
hit_at period t = t - t % period

-- so many rows, of which row 1 is the last with `reset`
abbrev pub window_of : ℕ → Window
window_of count = record { rows = count; last_reset = 1 }

-- the inputs of so many rows: as the stimulus drives them, and 0 where it doesn't
pub record AreReplayed (m : Module) (stimulus : PortNumbers) (samples count : ℕ)
    (inputs : Rows) : Type 0 where
  pub driven : Driven m stimulus samples (window_of count) inputs
  pub first : (port : Port) → Contains m.ports port → port.input ≡ true → inputs 0 port.name ≡ 0
  pub reset : (port : Port) → Contains m.ports port → port.input ≡ true
      → bytes_eq port.name (codes "reset") ≡ false → inputs 1 port.name ≡ 0
  -- an edge of `clk` stands between a row and the next
  pub clock : (k : ℕ) → k < count → inputs k (codes "clk") ≡ 0
  pub enabled : is_stallable m ≡ true → (k : ℕ) → 1 < k → k < count
      → inputs k (codes "clk_enable") ≡ 1
  pub idle : (cycles : ℕ) → cycles_of m ≡ Some cycles
      → Each (stimulus_ports m) (λ place port. (period : ℕ) → period_of port ≡ Some period
      → (clock : Clock) → row_at (window_of count) clock < count
      → samples ≤ hit_at period (clock / cycles)
      → inputs (row_at (window_of count) clock) port.name ≡ 0)

-- the lists of numbers by sample have each output's number at the clock of each hit, and between
-- hits the last
pub record Sampled (m : Module) (stimulus : PortNumbers) (samples : ℕ)
    (table : Sample → List ℤ) : Type 0 where
  pub count : ℕ
  pub inputs : Rows
  pub rows : Rows
  pub driven : AreReplayed m stimulus samples count inputs
  pub runs : Runs m count (λ name. 0) inputs rows
  pub long : (t : Sample) → t < samples → length (table t) ≡ length (output_ports m)
  pub shows : (cycles : ℕ) → cycles_of m ≡ Some cycles
      → Each (output_ports m)
      (λ place port. (period latency : ℕ) → period_of port ≡ Some period
      → latency_of port ≡ Some latency
      → (t : Sample) → t < samples
      → (row_at (window_of count) (hit_at period t * cycles + latency) < count)
      × (slice_get (table t) place
      ≡ Some (port_number port
      (rows (row_at (window_of count) (hit_at period t * cycles + latency)) port.name))))

-- some table is sampled of a module under a stimulus
pub record HasTable (m : Module) (stimulus : PortNumbers) (samples : ℕ) : Type 0 where
  pub table : Sample → List ℤ
  pub sampled : Sampled m stimulus samples table
