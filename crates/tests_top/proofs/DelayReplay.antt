-- A replay of the unit delay with initial value 3, worked out by hand: of 5, -1, 127 it writes 3, 5, -1, with status 0.
use Rattle.std.specs.Prelude.{⊤}
use Rattle.std.proofs.Common.{◌≡◌, ◌<◌, ◌≤◌, ◌+◌, ◌*◌, ◌/◌, if◌then◌else◌, ℕ, ℤ, zero, suc, pos, negsuc, List, [], ◌∷◌, true, false, None, Some, Contains, slice_get, length, map, inl, bytes_eq, codes}
use Rattle.std.proofs.Common.{refl, ap, sym, ◌∙◌, subst, arith}
use Rattle.std.specs.Fmt.{digits}
use Rattle.vl_ast.specs.declared.expressions.Expr.TheOpen.{Expr-F}
use Rattle.vl_ast.specs.declared.expressions.Expr.TheFolds.{fold-roll-Expr}
use Rattle.vl_ast.specs.declared.expressions.Expr.TheVariants.{Name, rolls-Name}
use Rattle.vl_ast.specs.declared.modules.Port.{Port}
use Rattle.vl_ast.specs.Attributes.{cycles_of, latency_of, period_of, step_of}
use Rattle.vl_ast.specs.Driven.{Driven, output_ports, port_number, stimulus_ports}
use Rattle.vl_ast.specs.Grammar.{Spells}
use Rattle.vl_ast.specs.Spelling.{expr_step, expr_text, spelling}
use Rattle.vl_ast.specs.Value.{bits_of}
use Rattle.vl_ast.specs.Windows.{Each, Sample, row_at}
use Rattle.vl_ast.proofs.ModuleLayouts.{tokens_spell}
use Rattle.vl_ast.proofs.FullCounts.{shows-clocks}
use Rattle.vl_ast.proofs.TokenForms.{number-writable, based-writable}
use Rattle.fx_tables.specs.declared.table.Rows.{Rows as Table}
use Rattle.fx_tables.specs.Response.{response}
use Rattle.vl_replay.specs.Sampled.{AreReplayed, Sampled, hit_at, numbers_of, window_of}
use Rattle.vl_ast.specs.Header.{output_port}
use Rattle.tests_top.proofs.DelayModule.{byte_port}
use Rattle.cmd_replay.specs.Replayed.{AreRowsFor, IsReplayOf, IsSoundText}
use Rattle.fx_top.specs.Call.{Files, file_limit}
use Rattle.fx_top.specs.Caused.{Ends}
use Rattle.fx_top.specs.Command.{Replay}
use Rattle.fx_top.specs.Outcome.{CanReplay, IsComplete}
use Rattle.fx_io.specs.Shelf.{Fetched}
use Rattle.tests_top.proofs.Header.{breaks-none}
use Rattle.tests_top.proofs.Names.{AreDifferent}
use Rattle.tests_top.proofs.Outcomes.{done, took}
use Rattle.tests_top.proofs.DelayText.{is-module-text, module_text, module-writable}
use Rattle.tests_top.proofs.UnitDelay.{all, delay, m, stimulus, inputs, rows, driven, shown-by, runs}

abbrev pub verilog_text : List ℕ
verilog_text =
    codes
    "(* fx_cycles = 1 *)\nmodule fx_model (\n  input wire clk,\n  input wire reset,\n  (* fx_period = 1 *)\n  input wire signed [7:0] u,\n  (* fx_period = 1, fx_latency = 0 *)\n  output wire signed [7:0] y\n);\nreg signed [7:0] fx_delay;\nalways @ (posedge clk) begin if (reset) fx_delay <= 8'sd3; else fx_delay <= u; end\nassign y = fx_delay;\nendmodule\n"

abbrev pub stimulus_text : List ℕ
stimulus_text = codes "5\n-1\n127\n"

abbrev pub numbers : Table
numbers = record { lines = 3; columns = 1; cells = pos 5 ∷ negsuc 0 ∷ pos 127 ∷ []; full = refl }

abbrev pub response_text : List ℕ
response_text = codes "3\n5\n-1\n"

abbrev table : Sample → List ℤ
table zero = pos 3 ∷ []
table (suc zero) = pos 5 ∷ []
table (suc (suc t)) = negsuc 0 ∷ []

-- ---- the text spells the module, which breaks no condition

pub different : AreDifferent (codes "u") (codes "y")
different = record {
  clk-u = (refl, refl);
  reset-u = (refl, refl);
  register-u = (refl, refl);
  clk-y =
      (refl, refl);
  reset-y = (refl, refl);
  register-y = (refl, refl);
  u-y = (refl, refl);
  u-u = refl;
  y-y = refl;
}

text-name : (name : List ℕ) → expr_text (Name name) ≡ name
text-name name = ap expr_text (sym (rolls-Name name)) ∙ fold-roll-Expr (List ℕ) expr_step (Expr-F.Name name)

pub spelling-is : spelling m ≡ verilog_text
unfolding digits
spelling-is = simp text-name

pub spells : Spells verilog_text m
spells = subst (λ (text : List ℕ). Spells text m) spelling-is
    (tokens_spell m (module_text delay) (is-module-text delay) (module-writable number-writable based-writable delay refl refl))

spelled : IsSoundText verilog_text m
spelled = record { spells = spells; few = omega arith; sound = breaks-none delay different }

-- ---- the stimulus stands for its numbers

rows-are : AreRowsFor m stimulus_text numbers
rows-are = record { no_fault = refl; line_count = refl; column_count = refl; numbers = refl }

same-numbers : (t : ℕ) → t < 3 → stimulus 0 t ≡ numbers_of numbers 0 t
same-numbers zero below = refl
same-numbers (suc zero) below = refl
same-numbers (suc (suc zero)) below = refl
same-numbers (suc (suc (suc t))) below = absurd (omega arith)

-- ---- the inputs are those of the stimulus, and else 0

shown-numbers : (place : ℕ) (port : Port) → slice_get (stimulus_ports m) place ≡ Some port → (period : ℕ) → period_of port ≡ Some period
    → (cycles : ℕ) → cycles_of m ≡ Some cycles → (t : ℕ) → t < 3
    → (clock : ℕ) → t * cycles ≤ clock → clock < (t + period) * cycles → inputs (2 + clock) port.name ≡ bits_of port.width (numbers_of numbers place t)
shown-numbers zero port is period has cycles each t below clock from until =
    shown-by zero port is period has cycles each t below clock from until ∙ ap (bits_of port.width) (same-numbers t below)
shown-numbers (suc place) port is period has cycles each t below clock from until = absurd (cc is)

driven-so : Driven m (numbers_of numbers) 3 (window_of 5) inputs
driven-so = record {
  reset = driven.reset;
  shows = λ cycles each place port is period has t below hit.
      shows-clocks m (window_of 5) inputs all inputs port.name port.width (numbers_of numbers place t) (t * cycles) ((t + period) * cycles)
      (λ clock from until there. shown-numbers place port is period has cycles each t below clock from until);
}

first-is : (port : Port) → Contains m.ports port → port.input ≡ true → inputs 0 port.name ≡ 0
first-is port (zero, below, is) input = subst (λ (p : Port). inputs 0 p.name ≡ 0) is refl
first-is port (suc zero, below, is) input = subst (λ (p : Port). inputs 0 p.name ≡ 0) is refl
first-is port (suc (suc zero), below, is) input = subst (λ (p : Port). inputs 0 p.name ≡ 0) is refl
first-is port (suc (suc (suc zero)), below, is) input = absurd (cc (is, input))
first-is port (suc (suc (suc (suc i))), below, is) input = absurd (omega arith)

reset-is : (port : Port) → Contains m.ports port → port.input ≡ true → bytes_eq port.name (codes "reset") ≡ false → inputs 1 port.name ≡ 0
reset-is port (zero, below, is) input other = subst (λ (p : Port). inputs 1 p.name ≡ 0) is refl
reset-is port (suc zero, below, is) input other =
    let same : true ≡ false = subst (λ (p : Port). bytes_eq p.name (codes "reset") ≡ false) (sym is) other in absurd (cc same)
reset-is port (suc (suc zero), below, is) input other = subst (λ (p : Port). inputs 1 p.name ≡ 0) is refl
reset-is port (suc (suc (suc zero)), below, is) input other = absurd (cc (is, input))
reset-is port (suc (suc (suc (suc i))), below, is) input other = absurd (omega arith)

-- no row comes after the last sample
too-early : (period clock : ℕ) → 2 + clock < 5 → 3 ≤ hit_at period (clock / 1) → ⊥
too-early period zero below late = omega (arith, late)
too-early period (suc zero) below late = omega (arith, late)
too-early period (suc (suc zero)) below late = omega (arith, late)
too-early period (suc (suc (suc clock))) below late = omega (arith, below)

replayed : AreReplayed m (numbers_of numbers) 3 5 inputs
replayed = record {
  driven = driven-so;
  first = first-is;
  reset = reset-is;
  clock = λ k below. refl;
  enabled = λ stalls. absurd (cc stalls);
  idle = λ cycles each place port is period has clock below late.
      let cycles_is : cycles ≡ 1 = cc each in
      absurd (too-early period clock below (subst (λ (c : ℕ). 3 ≤ hit_at period (clock / c)) cycles_is late));
}

-- ---- and the output shows 3, 5, -1

abbrev shown_port : Port
shown_port = output_port (byte_port (codes "y"))

abbrev IsShown : Port → ℕ → ℕ → ℕ → ℕ → Type 0
IsShown port cycles period latency t =
    (row_at (window_of 5) (hit_at period t * cycles + latency) < 5)
    × (slice_get (table t) 0 ≡ Some (port_number port (rows 0 (row_at (window_of 5) (hit_at period t * cycles + latency)) port.name)))

shown-at : (t : ℕ) → t < 3 → IsShown shown_port 1 1 0 t
shown-at zero below = (omega arith, refl)
shown-at (suc zero) below = (omega arith, refl)
shown-at (suc (suc zero)) below = (omega arith, refl)
shown-at (suc (suc (suc t))) below = absurd (omega arith)

shows : (cycles : ℕ) → cycles_of m ≡ Some cycles → Each (output_ports m) (λ place port. (period latency : ℕ) → period_of port ≡ Some period → latency_of port ≡ Some latency
    → (t : Sample) → t < 3
    → (row_at (window_of 5) (hit_at period t * cycles + latency) < 5)
    × (slice_get (table t) place ≡ Some (port_number port (rows 0 (row_at (window_of 5) (hit_at period t * cycles + latency)) port.name))))
shows cycles each zero port is period latency has late t below =
    let port_is : shown_port ≡ port = cc is in
    let cycles_is : 1 ≡ cycles = cc each in
    let period_is : 1 ≡ period = cc (has, port_is) in
    let latency_is : 0 ≡ latency = cc (late, port_is) in
    subst (λ (p : Port). IsShown p cycles period latency t) port_is
    (subst (λ (c : ℕ). IsShown shown_port c period latency t) cycles_is
    (subst (λ (p : ℕ). IsShown shown_port 1 p latency t) period_is
    (subst (λ (l : ℕ). IsShown shown_port 1 1 l t) latency_is (shown-at t below))))
shows cycles each (suc place) port is period latency has late t below = absurd (cc is)

long : (t : Sample) → t < 3 → length (table t) ≡ length (output_ports m)
long zero below = refl
long (suc zero) below = refl
long (suc (suc t)) below = refl

sampled : Sampled m (numbers_of numbers) 3 table
sampled = record { count = 5; inputs = inputs; rows = rows 0; driven = replayed; runs = runs 0 (omega arith); long = long; shows = shows }

text-is : response_text ≡ response (map step_of (output_ports m)) table 3
unfolding digits
text-is = refl

is-replay : IsReplayOf verilog_text stimulus_text response_text
is-replay = record { made = m; spelled = spelled; rows = numbers; rows_are = rows-are; table = table; sampled = sampled; text_is = text-is }

-- ---- a call over a shelf that holds both texts ends with status 0

-- a shelf that holds these bytes under one name, the stimulus under `s`, and no more
abbrev pub both : List ℕ → List ℕ → Files
both name bytes = record {
  held = λ file. if bytes_eq file name then Some (Some bytes) else if bytes_eq file (codes "s") then Some (Some stimulus_text) else Some None;
  steady = ⊤;
  failed = ⊥;
  met_overlong = ⊥;
}

pub fetched : (bytes : List ℕ) → length bytes ≤ 16777216 → Fetched (Some (Some bytes)) file_limit bytes
fetched bytes within = record { within = within; held = λ entry is. let same : Some bytes ≡ entry = cc is in sym same }

replayed-delay : Ends (codes "replay" ∷ codes "v" ∷ codes "s" ∷ []) (both (codes "v") verilog_text) (took response_text) (took []) 0
replayed-delay =
    done IsReplayOf (codes "replay" ∷ codes "v" ∷ codes "s" ∷ []) (both (codes "v") verilog_text)
    (Replay (codes "v") (codes "s")) (codes "v") (codes "s") verilog_text stimulus_text response_text refl refl
    (fetched verilog_text (omega arith)) (fetched stimulus_text (omega arith)) (λ output. output) is-replay

-- and it owes that status, but for want of memory
owes-replay : (status : ℕ) → IsComplete (both (codes "v") verilog_text) (took response_text) (Replay (codes "v") (codes "s")) status → Contains (0 ∷ 1 ∷ []) status
owes-replay status complete = complete can (inl (tt, refl)) (λ failed. failed) where
  can : CanReplay (both (codes "v") verilog_text) (codes "v") (codes "s")
  can = record {
    verilog_bytes = verilog_text;
    stimulus_bytes = stimulus_text;
    verilog_told = refl;
    stimulus_told = refl;
    can = record { made = m; spelled = spelled; good = rows-are.no_fault };
  }
