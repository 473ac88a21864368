-- The row with `reset`, and one clock more.
use Rattle.std.proofs.Common.{◌≡◌, ◌<◌, ◌+◌, ◌*◌, ◌/◌, ℕ, suc, List, length, map, ℤ, sym, ap, subst, ◌∙◌, arith}
use Rattle.vl_ast.specs.Control.{is_stallable}
use Rattle.vl_ast.specs.declared.modules.Module.{Module}
use Rattle.vl_ast.specs.Runs.{Row, Rows}
use Rattle.vl_ast.specs.Steps.{AreSteps, IsEdge, IsFirstRow}
use Rattle.vl_ast.specs.Attributes.{clocks_of}
use Rattle.vl_eval.specs.Given.{driven_ports, given}
use Rattle.vl_eval.specs.Machine.{IsReady, row_of, source_of}
use Rattle.vl_eval.specs.declared.machine.Machine.{Machine}
use Rattle.vl_replay.specs.declared.playing.Score.{Score}
use Rattle.vl_replay.specs.Sampled.{numbers_of}
use Rattle.vl_replay.specs.inner.Drivers.{AreBits, driver_bits, drivers_from, inputs_of, reset_bits}
use Rattle.vl_replay.specs.inner.Samplers.{ArePut, number_at}
use Rattle.vl_replay.specs.inner.Play.{HaveCells, IsPlayed, IsScoreOf}
use Rattle.vl_replay.proofs.Cells.{cells-more}
use Rattle.vl_replay.proofs.Rows.{at-place, before-place, steps-more, with_row, zeros}
use Rattle.vl_replay.proofs.Scores.{bits-of-score, samplers-many}
use Rattle.std.proofs.lemmas.Nat.{div-mul-add}

module _ (m : Module) (score : Score) (window : ℕ) (is : IsScoreOf m score) (first next : Row) (bits : List ℕ) (cells : List ℤ)
    (beginning : IsFirstRow m zeros zeros first) (are : AreBits reset_bits score.drivers.items (length score.drivers.items) bits)
    (edge : IsEdge m first (given (driven_ports m) bits) next) (room : length cells ≡ window * length score.samplers.items) where
  abbrev inputs : Rows
  inputs = inputs_of m (numbers_of score.stimulus) score.stimulus.lines

  edge-in : IsEdge m first (inputs (1 + 0)) next
  edge-in = subst (λ xs. IsEdge m first (given (driven_ports m) xs) next) (bits-of-score m score is reset_bits bits are) edge

  one-row : AreSteps m (1 + 0) zeros inputs (λ k. first)
  one-row = record { begins = λ some. beginning; edges = λ k below. absurd (omega (arith, below)) }

  pub begun-rows : Rows
  begun-rows = with_row (λ k. first) (1 + 0) next

  pub begun-steps : AreSteps m (2 + 0) zeros inputs begun-rows
  unfolding begun-rows
  begun-steps = steps-more m 0 inputs (λ k. first) next one-row edge-in

  pub begun-last : begun-rows (1 + 0) ≡ next
  unfolding begun-rows
  begun-last = at-place (λ k. first) (1 + 0) next

  pub begun-cells : (rows : Rows) → HaveCells m score.stimulus.lines window 0 rows cells
  begun-cells rows = record {
    long = room ∙ ap (λ n. window * n) (samplers-many m score is);
    at = λ place port there t below past. absurd (omega (arith, past));
  }

module _ (m : Module) (score : Score) (window : ℕ) (some-window : 0 < window) (is : IsScoreOf m score)
    (sample phase : ℕ) (phase-below : phase < score.cycles) (rows : Rows) (row next : Row) (bits : List ℕ)
    (before after : List ℤ)
    (steps : AreSteps m (2 + (sample * score.cycles + phase)) zeros (inputs_of m (numbers_of score.stimulus) score.stimulus.lines) rows)
    (last : rows (1 + (sample * score.cycles + phase)) ≡ row)
    (have : HaveCells m score.stimulus.lines window (sample * score.cycles + phase) rows before)
    (are : AreBits (driver_bits (numbers_of score.stimulus) score.stimulus.lines sample) score.drivers.items (length score.drivers.items) bits)
    (edge : IsEdge m row (given (driven_ports m) bits) next)
    (put : ArePut (number_at m next) score.samplers.items score.stimulus.lines window sample phase (length score.samplers.items) before after) where
  abbrev inputs' : Rows
  inputs' = inputs_of m (numbers_of score.stimulus) score.stimulus.lines

  abbrev clock : ℕ
  clock = sample * score.cycles + phase

  in-sample : clock / clocks_of m ≡ sample
  in-sample = ap (λ f. clock / f) (sym is.cycles) ∙ div-mul-add sample score.cycles phase phase-below

  two : 1 + (1 + clock) ≡ suc (suc clock)
  two = omega arith

  bits-in : given (driven_ports m) bits ≡ inputs' (1 + (1 + clock))
  bits-in =
      ap (given (driven_ports m)) (bits-of-score m score is (driver_bits (numbers_of score.stimulus) score.stimulus.lines sample) bits are)
      ∙ ap (λ s. given (driven_ports m) (map (driver_bits (numbers_of score.stimulus) score.stimulus.lines s) (drivers_from (is_stallable m) 0 (driven_ports m)))) (sym in-sample)
      ∙ ap inputs' (sym two)

  edge-next : IsEdge m (rows (1 + clock)) (inputs' (1 + (1 + clock))) next
  edge-next =
      subst (λ (r : Row). IsEdge m r (inputs' (1 + (1 + clock))) next) (sym last)
      (subst (λ (r : Row). IsEdge m row r next) bits-in edge)

  same-two : 2 + clock ≡ 1 + (1 + clock)
  same-two = omega arith

  pub more-rows : Rows
  more-rows = with_row rows (1 + (1 + clock)) next

  pub more-steps : AreSteps m (2 + (clock + 1)) zeros inputs' more-rows
  unfolding more-rows
  more-steps =
      let e : 2 + (1 + clock) ≡ 2 + (clock + 1) = omega arith in
      subst (λ n. AreSteps m n zeros inputs' (with_row rows (1 + (1 + clock)) next)) e
      (steps-more m (1 + clock) inputs' rows next (subst (λ n. AreSteps m n zeros inputs' rows) same-two steps) edge-next)

  pub more-last : more-rows (1 + (clock + 1)) ≡ next
  unfolding more-rows
  more-last =
      let e : 1 + (clock + 1) ≡ 1 + (1 + clock) = omega arith in
      ap (with_row rows (1 + (1 + clock)) next) e ∙ at-place rows (1 + (1 + clock)) next

  pub more-cells : HaveCells m score.stimulus.lines window (clock + 1) more-rows after
  unfolding more-rows
  more-cells = subst (λ f. HaveCells m score.stimulus.lines window (sample * f + phase + 1) (with_row rows (1 + (1 + clock)) next) after) (sym is.cycles) told
    where
      told : HaveCells m score.stimulus.lines window (sample * clocks_of m + phase + 1) (with_row rows (1 + (1 + clock)) next) after
      told = cells-more m score.stimulus.lines window sample phase rows (with_row rows (1 + (1 + clock)) next) next score.samplers.items before after
          (subst (λ f. phase < f) is.cycles phase-below) some-window is.samplers
          (subst (λ f. HaveCells m score.stimulus.lines window (sample * f + phase) rows before) is.cycles have)
          (λ k below. before-place rows (1 + (1 + clock)) next k (let e = ap (λ f. sample * f) is.cycles in omega (arith, below, e)))
          (let e : 2 + (sample * clocks_of m + phase) ≡ 1 + (1 + clock) =
          (let s = ap (λ f. sample * f) is.cycles in omega (arith, s)) in
          ap (with_row rows (1 + (1 + clock)) next) e ∙ at-place rows (1 + (1 + clock)) next)
          put

-- the machine after the row with `reset`
pub begun : (score : Score) (window : ℕ) (machine later : Machine) (bits : List ℕ) (cells : List ℤ) → 0 < window
    → IsScoreOf (source_of machine) score → source_of later ≡ source_of machine → IsReady later
    → IsFirstRow (source_of machine) zeros zeros (row_of machine) → AreBits reset_bits score.drivers.items (length score.drivers.items) bits
    → IsEdge (source_of machine) (row_of machine) (given (driven_ports (source_of machine)) bits) (row_of later) → length cells ≡ window * length score.samplers.items
    → IsPlayed score window 0 later cells
begun score window machine later bits cells some is same ready first are edge room =
    let m = source_of machine in
    let rows = begun-rows m score window is (row_of machine) (row_of later) bits cells first are edge room in
    record {
      ready = ready;
      score_is = subst (λ n. IsScoreOf n score) (sym same) is;
      some = some;
      rows = rows;
      steps = subst (λ n. AreSteps n (2 + 0) zeros
          (inputs_of n (numbers_of score.stimulus) score.stimulus.lines) rows) (sym same)
          (begun-steps m score window is (row_of machine) (row_of later) bits cells first are edge room);
      last = begun-last m score window is (row_of machine) (row_of later) bits cells first are edge room;
      have = subst (λ n. HaveCells n score.stimulus.lines window 0 rows cells) (sym same) (begun-cells m score window is (row_of machine) (row_of later) bits cells first are edge room rows);
    }

-- and after one clock more
pub played-more : (score : Score) (window : ℕ) (sample phase : ℕ) (machine later : Machine) (bits : List ℕ)
    (before after : List ℤ) → IsPlayed score window (sample * score.cycles + phase) machine before
    → phase < score.cycles
    → AreBits (driver_bits (numbers_of score.stimulus) score.stimulus.lines sample) score.drivers.items (length score.drivers.items) bits
    → source_of later ≡ source_of machine → IsReady later
    → IsEdge (source_of machine) (row_of machine) (given (driven_ports (source_of machine)) bits) (row_of later)
    → ArePut (number_at (source_of later) (row_of later)) score.samplers.items score.stimulus.lines window sample phase (length score.samplers.items) before after
    → IsPlayed score window (sample * score.cycles + phase + 1) later after
played-more score window sample phase machine later bits before after played below are same ready edge put =
    let m = source_of machine in
    let put' = subst (λ n. ArePut (number_at n (row_of later)) score.samplers.items score.stimulus.lines window sample phase (length score.samplers.items) before after) same put in
    let rows = more-rows m score window played.some played.score_is sample phase below played.rows (row_of machine)
    (row_of later) bits before after played.steps played.last played.have are edge put' in
    record {
      ready = ready;
      score_is = subst (λ n. IsScoreOf n score) (sym same) played.score_is;
      some = played.some;
      rows = rows;
      steps = subst (λ n. AreSteps n (2 + (sample * score.cycles + phase + 1)) zeros (inputs_of n (numbers_of score.stimulus) score.stimulus.lines) rows) (sym same)
          (more-steps m score window played.some played.score_is sample phase below played.rows (row_of machine) (row_of later) bits before after played.steps played.last played.have are edge put');
      last = more-last m score window played.some played.score_is sample phase below played.rows (row_of machine) (row_of later) bits before after played.steps played.last played.have are edge put';
      have = subst (λ n. HaveCells n score.stimulus.lines window (sample * score.cycles + phase + 1) rows after) (sym same)
          (more-cells m score window played.some played.score_is sample phase below played.rows (row_of machine) (row_of later) bits before after played.steps played.last played.have are edge put');
    }
