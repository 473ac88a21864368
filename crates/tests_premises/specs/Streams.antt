-- What modules with valid and ready owe of the whole model by its plan, worked out in names and
-- numbers, and modules that are one thing wrong (own).
use Rattle.std.specs.Prelude.{◌≡◌, ℕ, ◌≤◌, ◌<◌, List, [], ◌∷◌, length, true, false, codes}
use Rattle.dg_model.specs.declared.diagram.Diagram.{Diagram}
use Rattle.dg_model.specs.declared.resolved.Resolved.{Resolved}
use Rattle.cmd_generate.specs.Streamed.{IsStreamOf, IsTaken}
use Rattle.hw_sched.specs.Slots.{Timing}
use Rattle.st_wrap.specs.Carried.{taken_by}
use Rattle.st_wrap.specs.Transfers.{IsTransfer, out_side}
use Rattle.vl_ast.specs.declared.modules.Module.{Module}
use Rattle.vl_ast.specs.declared.modules.Port.{Port}
use Rattle.vl_ast.specs.Conditions.{BreaksNone}
use Rattle.vl_ast.specs.Driven.{IsResetLast}
use Rattle.vl_ast.specs.Header.{attribute_of, bit_input, input_port, output_port}
use Rattle.vl_ast.specs.Multiplications.{multiplications}
use Rattle.vl_ast.specs.Runs.{Row, Rows, Runs}
use Rattle.vl_ast.specs.Value.{bits_of}
use Rattle.vl_ast.specs.Windows.{Window, row_at}
use Rattle.tests_premises.specs.Running.{input_of}
use Rattle.tests_premises.specs.Whole.{diagram, fives, resolved, stimulus, timing, triples, whole_names}

-- the module is owed of no diagram by no plan
abbrev pub IsNoStream : Module → Type 0
IsNoStream m = (diagram : Diagram) (plan : Resolved) (timing : Timing)
    → ¬ IsStreamOf m diagram plan timing

-- none is that breaks a condition, none that isn't ready in the first row behind a reset though its
-- outputs may be taken, and none that hands over a sample that it hasn't taken
pub record AreNoStreams : Type 0 where
  pub broken : (m : Module) → ¬ BreaksNone m → IsNoStream m
  pub unready : (m : Module) (window : Window) (start : Row) (inputs rows : Rows)
      → IsResetLast window inputs → Runs m window.rows start inputs rows
      → row_at window 0 < window.rows → rows (row_at window 0) (codes "out_ready") ≡ 1
      → rows (row_at window 0) (codes "in_ready") ≡ 0 → IsNoStream m
  pub untaken : (m : Module) (window : Window) (start : Row) (inputs rows : Rows)
      → IsResetLast window inputs → Runs m window.rows start inputs rows
      → (number place : ℕ) → IsTransfer out_side window rows number place
      → taken_by window rows place ≤ number → IsNoStream m

-- ---- by the model's own plan
-- an input of one bit, with a number in every row
abbrev pub flag_in : List ℕ → Port
flag_in name =
    input_port (record { name = name; width = 1; signed = false; period = 1; latency = 0 })

-- an output of one bit
abbrev pub flag_out : List ℕ → Port
flag_out name =
    output_port (record { name = name; width = 1; signed = false; period = 1; latency = 0 })

-- an output, which shows the number of the row that hands it over
abbrev pub shown_of : List ℕ → Port
shown_of name =
    output_port (record { name = name; width = 16; signed = true; period = 1; latency = 0 })

-- all ports in order
abbrev pub stream_ports : List Port
stream_ports =
    bit_input (codes "clk") ∷ bit_input (codes "reset") ∷ flag_in (codes "in_valid")
    ∷ input_of (codes "u_0") ∷ input_of (codes "u_1") ∷ flag_in (codes "out_ready")
    ∷ flag_out (codes "in_ready") ∷ flag_out (codes "out_valid") ∷ shown_of (codes "y_0")
    ∷ shown_of (codes "y_1") ∷ []

-- in a run that is reset a sample takes three clocks: the module is ready in the first row and shows
-- nothing, is ready in the next where nothing was handed in, and else isn't
pub record ShakesWhole (window : Window) (rows : Rows) : Type 0 where
  pub ready : row_at window 0 < window.rows → rows (row_at window 0) (codes "in_ready") ≡ 1
  pub early : row_at window 0 < window.rows → rows (row_at window 0) (codes "out_valid") ≡ 0
  pub waits : row_at window 1 < window.rows → rows (row_at window 0) (codes "in_valid") ≡ 0
      → rows (row_at window 1) (codes "in_ready") ≡ 1
  pub works : row_at window 1 < window.rows → rows (row_at window 0) (codes "in_valid") ≡ 1
      → rows (row_at window 1) (codes "in_ready") ≡ 0

-- the row at a place hands over the sample of a number of those that are worked out
pub record HandsOver (rows : Rows) (row number : ℕ) : Type 0 where
  pub first : rows row (codes "y_0") ≡ bits_of 16 (triples number)
  pub second : rows row (codes "y_1") ≡ bits_of 16 (fives number)

-- one multiplication, these ports, a row for a sample, that pace, and the numbers of the table at
-- the transfers out, where the three samples were taken in
pub record StreamsWhole (m : Module) : Type 0 where
  pub one : length (multiplications m) ≡ 1
  pub name : m.name ≡ codes "fx_stream"
  pub row : m.attrs ≡ attribute_of (codes "fx_cycles") 1 ∷ []
  pub ports : m.ports ≡ stream_ports
  pub shakes : (window : Window) (start : Row) (inputs rows : Rows) → IsResetLast window inputs
      → Runs m window.rows start inputs rows → ShakesWhole window rows
  pub hands_over : (window : Window) (start : Row) (inputs rows : Rows)
      → IsResetLast window inputs → Runs m window.rows start inputs rows
      → (number place : ℕ) → IsTransfer out_side window rows number place → number < 3
      → taken_by window rows place ≡ 3 → IsTaken diagram whole_names window rows 3 stimulus
      → HandsOver rows (row_at window place) number

-- each module that is owed does so
abbrev pub StreamsOwe : Type 0
StreamsOwe = (m : Module) → IsStreamOf m diagram resolved timing → StreamsWhole m
