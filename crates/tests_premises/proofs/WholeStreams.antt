-- What modules with valid and ready owe of the whole model follows from what is owed of them.
use Rattle.std.proofs.Common.{◌≡◌, ℕ, ◌<◌, Bool, true, false, List, codes, refl, sym, ap, subst, ◌∙◌, cond, ◌&&◌, arith}
use Rattle.std.specs.Prelude.{◌==◌, not}
use Rattle.cmd_generate.specs.Streamed.{AnswersAt, IsStreamOf, IsTaken}
use Rattle.dg_model.specs.Attributes.{attributes_of}
use Rattle.dg_model.specs.Solves.{Solves}
use Rattle.st_wrap.specs.Carried.{pace_of, taken_by}
use Rattle.st_wrap.specs.Handshake.{Handshakes, Pace, is_begin, is_open}
use Rattle.st_wrap.specs.Header.{HasStreamHeader}
use Rattle.st_wrap.specs.Transfers.{IsTransfer, out_side}
use Rattle.vl_ast.specs.declared.modules.Module.{Module}
use Rattle.vl_ast.specs.declared.modules.ModItem.{ModItem}
use Rattle.vl_ast.specs.Driven.{IsResetLast}
use Rattle.vl_ast.specs.Runs.{Row, Rows, Runs}
use Rattle.vl_ast.specs.Value.{truth}
use Rattle.vl_ast.specs.Windows.{Window, row_at}
use Rattle.tests_premises.specs.Streams.{HandsOver, ShakesWhole, StreamsOwe, StreamsWhole, stream_ports}
use Rattle.tests_premises.specs.Whole.{diagram, resolved, stimulus, table, timing, whole_names}
use Rattle.tests_premises.proofs.WholeNames.{stream_names_are}
use Rattle.tests_premises.proofs.WholePlan.{shared}
use Rattle.tests_premises.proofs.WholeRuns.{by_header, whole}
use Rattle.tests_premises.proofs.WholeTable.{solves}
use Rattle.tests_premises.proofs.WholeWaves.{header_of, out_element}

-- ---- the pace
abbrev threes : Pace
threes = record { cycles = 3; latest = 1 }

pace_whole : (items : List ModItem) → pace_of (whole items) ≡ threes
pace_whole items = refl

-- ---- a module with valid and ready round one that is owed
module _ (m : Module) (stream : IsStreamOf m diagram resolved timing) where
  names_known : stream.names ≡ whole_names
  names_known = stream_names_are stream.names stream.are_names

  core_known : stream.core ≡ whole stream.core.items
  core_known = by_header stream.core (header_of stream.core stream.owed)

  header : HasStreamHeader (whole stream.core.items) whole_names m
  header =
      subst (λ (core : Module). HasStreamHeader core whole_names m) core_known
      (subst (λ (names : List (List ℕ)). HasStreamHeader stream.core names m) names_known stream.header)

  ports : m.ports ≡ stream_ports
  ports = header.ports

  pace_known : pace_of stream.core ≡ threes
  pace_known = ap pace_of core_known ∙ pace_whole stream.core.items

  module _ (window : Window) (start : Row) (inputs rows : Rows) (reset : IsResetLast window inputs) (runs : Runs m window.rows start inputs rows) where
    shakes : Handshakes threes window rows
    shakes = subst (λ (pace : Pace). Handshakes pace window rows) pace_known (stream.handshake.in_runs window start inputs rows reset runs)

    abbrev first : Row
    first = rows (row_at window 0)

    abbrev second : Row
    second = rows (row_at window 1)

    -- the first row moves where a sample is handed in
    moved : row_at window 0 < window.rows → (valid : ℕ) → first (codes "in_valid") ≡ valid → shakes.moves 0 ≡ (valid == 1) && true
    moved within valid is = shakes.moves_where 0 within ∙ ap (λ (v : ℕ). (v == 1) && true) is

    ready_second : row_at window 1 < window.rows → (moved : Bool) → shakes.moves 0 ≡ moved → second (codes "in_ready") ≡ truth (not moved)
    ready_second within true is = shakes.in_ready 1 within ∙ ap (λ (b : Bool). truth (is_begin threes (cond b 1 0) && is_open threes (cond b 1 0) second)) is
    ready_second within false is = shakes.in_ready 1 within ∙ ap (λ (b : Bool). truth (is_begin threes (cond b 1 0) && is_open threes (cond b 1 0) second)) is

    shakes_whole : ShakesWhole window rows
    shakes_whole = record {
      ready = λ within. shakes.in_ready 0 within;
      early = λ within. shakes.out_valid 0 within;
      waits = λ within none. ready_second within false (moved (omega (arith, within)) 0 none);
      works = λ within some. ready_second within true (moved (omega (arith, within)) 1 some);
    }

    hands_over : (number place : ℕ) → IsTransfer out_side window rows number place → number < 3 → taken_by window rows place ≡ 3
        → IsTaken diagram whole_names window rows 3 stimulus → HandsOver rows (row_at window place) number
    hands_over number place transfer below taken in_samples =
        let answers = subst (λ (names : List (List ℕ)). AnswersAt diagram names window rows number place) names_known (stream.answers window start inputs rows reset runs number place transfer) in
        let shown = answers.shown stimulus table
        (subst (λ (n : ℕ). IsTaken diagram whole_names window rows n stimulus) (sym taken) in_samples)
        (subst (λ (n : ℕ). Solves diagram (attributes_of diagram) stimulus n table) (sym taken) solves) in
        record {
          first = shown 0 (out_element (codes "y_0") 0) refl;
          second = shown 1 (out_element (codes "y_1") 1) refl;
        }

  streams : StreamsWhole m
  streams = record {
    one = stream.multiplies ∙ shared.multiplications;
    name = header.name;
    row = header.attrs;
    ports = ports;
    shakes = shakes_whole;
    hands_over = hands_over;
  }

pub streams-owe : StreamsOwe
streams-owe m stream = streams m stream
