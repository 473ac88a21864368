-- The transfers out of the wrapper carry what the core makes of the transfers in.
use Rattle.std.proofs.Common.{◌≡◌, ◌≢◌, ℕ, suc, ◌+◌, ◌-◌, ◌*◌, ◌/◌, ◌%◌, ◌<◌, ◌≤◌, ◌==◌, ◌⊎◌, inl, inr, ⊎_elim, Bool, true, false, not, ◌&&◌, ◌||◌, if◌then◌else◌, List, map, length, drop, Contains}
use Rattle.std.proofs.Common.{bytes_eq, codes, Some, None, refl, sym, ap, subst, ◌∙◌, arith}
use Rattle.std.proofs.lemmas.Bool.{and_parts, cases_Bool, cases_eq, cases_lt, not-false}
use Rattle.std.proofs.lemmas.Nat.{div-add-mod', div-mul-add, mod_below, mul-le}
use Rattle.std.proofs.lemmas.Slice.Eq.{bytes_eq-Decides}
use Rattle.vl_ast.specs.declared.modules.Port.{Port}
use Rattle.vl_ast.specs.declared.modules.Module.{Module}
use Rattle.vl_ast.specs.Conditions.{BreaksNone, IsAcyclic, no_reset}
use Rattle.vl_ast.specs.Control.{is_clock_or_reset, is_control_input, is_number_input, is_number_output, is_stallable}
use Rattle.vl_ast.specs.Driven.{IsResetLast, output_ports, stimulus_ports}
use Rattle.vl_ast.specs.Nets.{Declared, InputPort, OutputPort, declaration_of, port_declared}
use Rattle.vl_ast.specs.Runs.{Row, Rows, Runs}
use Rattle.vl_ast.specs.Stalls.{AreThinned, KeepsBits, thin_window}
use Rattle.vl_ast.specs.Value.{truth}
use Rattle.vl_ast.specs.Windows.{IsClock, Window, clocks_in, counted, counts_at, row_at}
use Rattle.vl_ast.proofs.Alone.{reset-port}
use Rattle.vl_ast.proofs.Facts.{in-port, is-declared}
use Rattle.math_list.proofs.Elements.{map-in}
use Rattle.vl_ast.proofs.Thin.{counted-above}
use Rattle.vl_ast.specs.Attributes.{clocks_of}
use Rattle.st_wrap.specs.declared.columns.Column.{Column}
use Rattle.st_wrap.specs.declared.pace.Counters.{Counters}
use Rattle.st_wrap.specs.Carried.{IsCarried, IsFed, IsFollowed, IsSteadyRun, shown_at, taken_by}
use Rattle.st_wrap.specs.Header.{named_inputs, named_outputs}
use Rattle.st_wrap.specs.Names.{AreColumnNames}
use Rattle.st_wrap.specs.Pace.{latest_in, samples_late}
use Rattle.st_wrap.specs.Transfers.{IsTransfer, in_side, transfers}
use Rattle.st_wrap.specs.inner.Columns.{input_column, output_column}
use Rattle.st_wrap.specs.inner.Control.{CountFor}
use Rattle.st_wrap.specs.inner.Names.{inner_name, is_shared}
use Rattle.st_wrap.specs.inner.Wrapper.{inputs_of, outputs_of, wrapped}
use Rattle.st_wrap.proofs.ColumnPorts.{fold-most, from-filter, got-in, has-input, has-output, number-input, number-output, paired, to-filter, zip-left}
use Rattle.st_wrap.proofs.ControlSignals.{enable-is, moves}
use Rattle.st_wrap.proofs.OneRun.{IsReset, OneRun, SameInputs, alike-at, clk-port}
use Rattle.st_wrap.proofs.CoreRows.{core-runs, inside}
use Rattle.st_wrap.proofs.CoreInputs.{HasInput, Shown, counted-same, input-shown}
use Rattle.st_wrap.proofs.Late.{output-shown}
use Rattle.st_wrap.proofs.Handovers.{IsOut, Setting, begins-is, in-transfer, ins-are, out-clock}
use Rattle.st_wrap.proofs.Handshakes.{some-cycles}
use Rattle.st_wrap.proofs.Signals.{truth-one}
use Rattle.st_wrap.proofs.Structure.{embeds, has-control, wire-of}

-- the law of a lower crate that the counted rows of a run are a run without stalls
abbrev pub CountedRun : Type 0
CountedRun = (m : Module) (window : Window) (start : List ℕ → ℕ) (inputs rows : ℕ → List ℕ → ℕ) →
    IsAcyclic m → no_reset m ≡ None → is_stallable m ≡ true → KeepsBits m → IsResetLast window inputs
    → Runs m window.rows start inputs rows → AreThinned m window inputs rows

module _ (one : OneRun) (thins : CountedRun) (core : Module) (sound : BreaksNone core) (stallable : is_stallable core ≡ true) (keeps : KeepsBits core)
    (names : List (List ℕ)) (named : AreColumnNames core names) (counters : Counters) (counts : CountFor core counters)
    (large : IsAcyclic (wrapped core names counters)) (clocked : no_reset (wrapped core names counters) ≡ None)
    (window : Window) (start : Row) (inputs rows : Rows) (last : IsResetLast window inputs) (runs : Runs (wrapped core names counters) window.rows start inputs rows) where
  abbrev m : Module
  m = wrapped core names counters

  abbrev F : ℕ
  F = clocks_of core

  abbrev ins : List Column
  ins = inputs_of core names

  abbrev outs : List Column
  outs = outputs_of core names

  setting : Setting core (wrapped core names counters) counters window start inputs rows
  setting = record { acyclic = large; clocked = clocked; has = has-control core counters ins outs stallable; counts = counts; last = last; runs = runs }

  abbrev test : ℕ → Bool
  test place = moves counters (rows (row_at window place))

  -- ---- the core's rows

  inner-runs : Runs core window.rows (inside rows 0) (inside rows) (inside rows)
  inner-runs = core-runs core (wrapped core names counters) sound.acyclic large (embeds core counters ins outs sound large) window.rows start inputs rows runs

  reset-is : (k : ℕ) → k < window.rows → rows k (codes "reset") ≡ inputs k (codes "reset")
  reset-is k below = let p = reset-port (wrapped core names counters) clocked in subst (λ n. rows k n ≡ inputs k n) p.2 (runs.driven k below p.0 p.1 p.3)

  inner-last : IsResetLast window (inside rows)
  inner-last = record {
    within = last.within;
    reset = reset-is window.last_reset last.within ∙ last.reset;
    released = λ k behind below. reset-is k below ∙ last.released k behind below;
  }

  thinned : AreThinned core window (inside rows) (inside rows)
  thinned = thins core window (inside rows 0) (inside rows) (inside rows) sound.acyclic sound.clocked stallable keeps inner-last inner-runs

  counts-is : (place : ℕ) → row_at window place < window.rows → counts_at core window (inside rows) place ≡ test place
  counts-is place below =
      (λ i. not (stallable i) || inside rows (row_at window place) (codes "clk_enable") == 1)
      ∙ ap (λ n. n == 1) (enable-is (wrapped core names counters) counters large setting.has window.rows start inputs rows runs (row_at window place) below)
      ∙ truth-one (moves counters (rows (row_at window place)))

  is-clock : (place clock : ℕ) → row_at window place < window.rows → test place ≡ true → counted test place ≡ clock → IsClock core window (inside rows) clock place
  is-clock place clock below on number = record {
    within = below;
    counts = counts-is place below ∙ on;
    number = counted-same (counts_at core window (inside rows)) test place (λ j less. counts-is j (omega (arith, less, below))) ∙ number;
  }

  clock-number : (place clock : ℕ) → IsClock core window (inside rows) clock place → counted test place ≡ clock
  clock-number place clock is =
      sym (counted-same (counts_at core window (inside rows)) test place (λ j less. counts-is j (let b = is.within in omega (arith, less, b)))) ∙ is.number

  clock-moves : (place clock : ℕ) → IsClock core window (inside rows) clock place → test place ≡ true
  clock-moves place clock is = sym (counts-is place is.within) ∙ is.counts

  clock-below : (place clock : ℕ) → IsClock core window (inside rows) clock place → clock < clocks_in core window (inside rows)
  clock-below place clock is =
      let w = is.within in
      let b : place < window.rows - (window.last_reset + 1) = omega (arith, w) in
      subst (λ n. n < clocks_in core window (inside rows)) is.number (counted-above (counts_at core window (inside rows)) (window.rows - (window.last_reset + 1)) place b is.counts)

  -- ---- columns

  input-not-shared : (port : Port) → Contains (stimulus_ports core) port → Contains core.ports port × (port.input ≡ true) × (is_shared port.name ≡ false)
  input-not-shared port c =
      let f = from-filter (is_number_input (is_stallable core)) core.ports port c in
      let n = number-input core port f.1 in
      (f.0, n.0, n.1)

  output-of : (port : Port) → Contains (output_ports core) port → Contains core.ports port × (port.input ≡ false)
  output-of port c =
      let f = from-filter (is_number_output (is_stallable core)) core.ports port c in
      (f.0, number-output core port f.1)

  some-same : {d e : Declared} → Some d ≡ Some e → d ≡ e
  some-same {d} {e} p = cc p

  differ-kinds : InputPort ≡ OutputPort → ⊥
  differ-kinds e = cc e

  -- an output is declared as no input is
  not-input : (port other : Port) → Contains core.ports port → Contains core.ports other → port.input ≡ false → other.input ≡ true → port.name ≢ other.name
  not-input port other c d off on e =
      let mine = is-declared core sound.acyclic.driven sound.acyclic.once (port_declared port) (in-port core sound.acyclic.driven sound.acyclic.once port c) in
      let its = is-declared core sound.acyclic.driven sound.acyclic.once (port_declared other) (in-port core sound.acyclic.driven sound.acyclic.once other d) in
      let same : port_declared port ≡ port_declared other = some-same (sym mine ∙ ap (declaration_of core) e ∙ its) in
      let kinds : (if port.input then InputPort else OutputPort) ≡ (if other.input then InputPort else OutputPort) = ap (λ (x : Declared). x.kind) same in
      differ-kinds (sym (ap (λ (b : Bool). if b then InputPort else OutputPort) on) ∙ sym kinds ∙ ap (λ (b : Bool). if b then InputPort else OutputPort) off)

  output-not-clk : (port : Port) → Contains core.ports port → port.input ≡ false → port.name ≢ codes "clk"
  output-not-clk port c off e = let p = clk-port core sound in not-input port p.0 c p.1 off p.3 (e ∙ sym p.2)

  output-not-reset : (port : Port) → Contains core.ports port → port.input ≡ false → port.name ≢ codes "reset"
  output-not-reset port c off e = let p = reset-port core sound.clocked in not-input port p.0 c p.1 off p.3 (e ∙ sym p.2)

  unequal : (a b : List ℕ) → a ≢ b → bytes_eq a b ≡ false
  unequal a b other = ⊎_elim (λ t. absurd (other ((bytes_eq-Decides a b).0 t))) (λ f. f) (cases_Bool (bytes_eq a b))

  output-not-shared : (port : Port) → Contains core.ports port → port.input ≡ false → is_shared port.name ≡ false
  output-not-shared port c off =
      let a = unequal port.name (codes "clk") (output-not-clk port c off) in
      let b = unequal port.name (codes "reset") (output-not-reset port c off) in
      (λ i. a i || b i)

  -- ---- the inputs

  has-in : (pair : Port × List ℕ) → Contains (named_inputs core names) pair → HasInput (wrapped core names counters) (input_column pair)
  has-in pair c =
      let p = input-not-shared pair.0 (zip-left (stimulus_ports core) names pair c) in
      has-input core counters (inputs_of core names) (outputs_of core names) (input_column pair) (map-in input_column (named_inputs core names) pair c)
      (wire-of core counters (inputs_of core names) (outputs_of core names) pair.0 p.0 p.2)

  -- what a column shows at a clock of the core
  fed-by : (place clock : ℕ) → IsClock core window (inside rows) clock place → (pair : Port × List ℕ) → (c : Contains (named_inputs core names) pair)
      → Shown setting (input_column pair) (has-in pair c) (clock / F) (rows (row_at window place) (inner_name pair.0.name))
  fed-by place clock is pair c =
      subst (λ n. Shown setting (input_column pair) (has-in pair c) (n / F) (rows (row_at window place) (inner_name pair.0.name))) (clock-number place clock is)
      (input-shown setting (input_column pair) (has-in pair c) place is.within (clock-moves place clock is))

  -- ---- the core's own run

  -- one row is the transfer of a number
  one-transfer : (number p q : ℕ) → IsTransfer in_side window rows number p → IsTransfer in_side window rows number q → p ≡ q
  one-transfer number p q a b = ⊎_elim
      (λ same. same)
      (λ other. ⊎_elim
      (λ less. let h = counted-above (transfers in_side window rows) q p less a.hands_over in let x = a.earlier in let y = b.earlier in absurd (omega (arith, h, x, y)))
      (λ more. let less : q < p = omega (arith, other, more) in let h =
      counted-above (transfers in_side window rows) p q less b.hands_over in let x =
      a.earlier in let y = b.earlier in absurd (omega (arith, h, x, y)))
      (cases_lt p q))
      (cases_eq p q)

  -- the sample of a clock
  sample-of : (number clock : ℕ) → number * clocks_of core ≤ clock → clock < (number + 1) * clocks_of core → clock / clocks_of core ≡ number
  sample-of number clock low high =
      let split : (number + 1) * F ≡ number * F + F = omega arith in
      let whole : clock ≡ number * F + (clock - number * F) = omega (arith, low) in
      ap (λ c. c / F) whole ∙ div-mul-add number F (clock - number * F) (omega (arith, low, high, split))

  core-fed : IsFed core names window rows (thin_window core window (inside rows)) thinned.thin_inputs
  core-fed = record {
    at = λ number place clock is low high there index pair e.
        let less : clock < clocks_in core window (inside rows) = omega (arith, there) in
        let f = thinned.found clock less in
        let c = got-in (named_inputs core names) index pair e in
        let sh = fed-by f.0 clock f.1 pair c in
        let same : sh.place ≡ place = one-transfer number sh.place place (subst (λ n. IsTransfer in_side window rows n sh.place) (sample-of number clock low high) sh.transfer) is in
        let after : row_at (thin_window core window (inside rows)) clock ≡ suc clock = omega arith in
        ap (λ k. thinned.thin_inputs k pair.0.name) after
        ∙ ap (λ (r : Row). r pair.0.name) (thinned.inputs_are clock f.0 f.1)
        ∙ sym sh.shows
        ∙ ap (λ k. rows (row_at window k) pair.1) same;
  }

  out-clock-is : (number place : ℕ) → IsOut setting number place → counted test place ≡ (number + latest_in core + 1) * clocks_of core - 1
  out-clock-is number place is =
      let whole = div-add-mod' (counted test place) F in
      let last-clock = is.last-clock in
      let some = some-cycles core in
      let sample : (counted test place / F) * F ≡ (number + latest_in core) * F = ap (λ n. n * F) is.sample in
      let split : (number + latest_in core + 1) * F ≡ (number + latest_in core) * F + F = omega arith in
      omega (arith, whole, last-clock, some, sample, split)

  taken-is : (number place : ℕ) → row_at window place < window.rows → IsOut setting number place → taken_by window rows place ≡ number + latest_in core + 1
  taken-is number place below is =
      let c : ℕ = counted test place in
      let one : place + 1 ≡ suc place = omega arith in
      let before = ins-are setting place below in
      let sample = is.sample in
      let here : transfers in_side window rows place ≡ (c % F == 0) = in-transfer setting place below ∙ (λ i. is.moves-now i && begins-is setting place below i) in
      ap (counted (transfers in_side window rows)) one
      ∙ (λ i. if here i then suc (before i) else before i)
      ∙ ⊎_elim
      (λ t. (λ i. if t i then suc (c / F + (if t i then 0 else 1)) else c / F + (if t i then 0 else 1)) ∙ omega (arith, sample))
      (λ f. (λ i. if f i then suc (c / F + (if f i then 0 else 1)) else c / F + (if f i then 0 else 1)) ∙ omega (arith, sample))
      (cases_Bool (c % F == 0))

  pub followed : IsFollowed core names window rows
  followed = record {
    core_window = thin_window core window (inside rows);
    core_start = thinned.start;
    core_inputs = thinned.thin_inputs;
    core_rows = thinned.thin_rows;
    steady = record { runs = thinned.runs; reset = thinned.reset; enabled = λ place below. thinned.enabled.at (row_at (thin_window core window (inside rows)) place) below };
    fed = core-fed;
    reached = λ number place is index port at.
        let out = out-clock setting number place is in
        let clock : ℕ = counted test place in
        let below = clock-below place clock (is-clock place clock is.within out.moves-now refl) in
        let e = out-clock-is number place out in
        let most = fold-most (map (samples_late F) (output_ports core)) 0 (samples_late F port) (map-in (samples_late F) (output_ports core) port (got-in (output_ports core) index port at)) in
        let early = mul-le (number + samples_late F port + 1) F (number + latest_in core + 1) F (omega (arith, most)) (omega arith) in
        omega (arith, below, e, early);
    taken = λ number place is. taken-is number place is.within (out-clock setting number place is);
  }

  module _ (cw : Window) (cstart : Row) (cinputs crows : Rows) (steady : IsSteadyRun core cw cstart cinputs crows) (fed : IsFed core names window rows cw cinputs) where
    abbrev clocks : ℕ
    clocks = clocks_in core window (inside rows)

    thin-reset : IsReset core sound (suc clocks) 0 thinned.start thinned.thin_inputs thinned.thin_rows
    thin-reset = record {
      runs = thinned.runs;
      within = omega arith;
      on = (let p = reset-port core sound.clocked in subst (λ n. thinned.thin_rows 0 n ≡ thinned.thin_inputs 0 n) p.2 (thinned.runs.driven 0 (omega arith) p.0 p.1 p.3) ∙ thinned.reset.reset);
    }

    steady-reset : IsReset core sound cw.rows cw.last_reset cstart cinputs crows
    steady-reset = record {
      runs = steady.runs;
      within = steady.reset.within;
      on = (let p = reset-port core sound.clocked in
          subst (λ n. crows cw.last_reset n ≡ cinputs cw.last_reset n) p.2 (steady.runs.driven cw.last_reset steady.reset.within p.0 p.1 p.3) ∙ steady.reset.reset);
    }

    -- an input at a clock in both
    module _ (clock place : ℕ) (is : IsClock core window (inside rows) clock place)
        (there : row_at cw clock < cw.rows) (port : Port) (c : Contains core.ports port) (on : port.input ≡ true)
        (other : port.name ≢ codes "clk") where
      abbrev Goal : Type 0
      Goal = rows (row_at window place) (inner_name port.name) ≡ cinputs (row_at cw clock) port.name

      of-column : is_number_input (is_stallable core) port ≡ true → rows (row_at window place) (inner_name port.name) ≡ cinputs (row_at cw clock) port.name
      of-column t =
          let enough : length (stimulus_ports core) ≤ length names = (let n = named.count in omega (arith, n)) in
          let pr = paired (stimulus_ports core) names port enough (to-filter (is_number_input (is_stallable core)) core.ports port c t) in
          let sh = fed-by place clock is (port, pr.partner) (got-in (named_inputs core names) pr.place (port, pr.partner) pr.at) in
          let whole = div-add-mod' clock F in
          let some = some-cycles core in
          let less = mod_below clock F (omega (arith, some)) in
          let split : (clock / F + 1) * F ≡ (clock / F) * F + F = omega arith in
          let low : (clock / F) * F ≤ clock = omega (arith, whole) in
          let high : clock < (clock / F + 1) * F = omega (arith, whole, less, split) in
          sym sh.shows ∙ sym (fed.at (clock / F) sh.place clock sh.transfer low high there pr.place (port, pr.partner) pr.at)

      of-enable : port.name ≡ codes "clk_enable" → rows (row_at window place) (inner_name port.name) ≡ cinputs (row_at cw clock) port.name
      of-enable e =
          ap (λ n. rows (row_at window place) (inner_name n)) e
          ∙ enable-is (wrapped core names counters) counters large setting.has window.rows start inputs rows runs (row_at window place) is.within
          ∙ ap truth (clock-moves place clock is)
          ∙ sym (ap (λ n. cinputs (row_at cw clock) n) e ∙ steady.enabled clock there)

      of-reset : port.name ≡ codes "reset" → rows (row_at window place) (inner_name port.name) ≡ cinputs (row_at cw clock) port.name
      of-reset e =
          ap (λ n. rows (row_at window place) (inner_name n)) e
          ∙ inner-last.released (row_at window place) (omega arith) is.within
          ∙ sym (ap (λ n. cinputs (row_at cw clock) n) e ∙ steady.reset.released (row_at cw clock) (omega arith) there)

      or-true : (a b : Bool) → (a || b) ≡ true → (a ≡ true) ⊎ (b ≡ true)
      or-true true b e = inl refl
      or-true false b e = inr e

      of-control : is_control_input (is_stallable core) port ≡ true → rows (row_at window place) (inner_name port.name) ≡ cinputs (row_at cw clock) port.name
      of-control t = ⊎_elim
          (λ enables. of-enable ((bytes_eq-Decides port.name (codes "clk_enable")).0 (and_parts (is_stallable core) (bytes_eq port.name (codes "clk_enable")) enables).1))
          (λ shared. ⊎_elim
          (λ k. absurd (other ((bytes_eq-Decides port.name (codes "clk")).0 k)))
          (λ r. of-reset ((bytes_eq-Decides port.name (codes "reset")).0 r))
          (or-true (bytes_eq port.name (codes "clk")) (bytes_eq port.name (codes "reset")) shared))
          (or-true (is_stallable core && bytes_eq port.name (codes "clk_enable")) (is_clock_or_reset port) t)

      control-of : is_number_input (is_stallable core) port ≡ false → is_control_input (is_stallable core) port ≡ true
      control-of f = not-false (is_control_input (is_stallable core) port) (sym (ap (λ b. b && not (is_control_input (is_stallable core) port)) on) ∙ f)

      input-same : rows (row_at window place) (inner_name port.name) ≡ cinputs (row_at cw clock) port.name
      input-same = ⊎_elim (λ t. of-column t) (λ f. of-control (control-of f)) (cases_Bool (is_number_input (is_stallable core) port))

    same-inputs : (until : ℕ) → until < clocks → row_at cw until < cw.rows
        → SameInputs core sound one (suc clocks) 0 thinned.start thinned.thin_inputs thinned.thin_rows thin-reset cw.rows cw.last_reset cstart cinputs crows steady-reset until
    same-inputs until below there = record {
      at = λ clock low port c on other.
          let f = thinned.found clock (omega (arith, low, below)) in
          let there' : row_at cw clock < cw.rows = omega (arith, low, there) in
          let e : 0 + 1 + clock ≡ suc clock = omega arith in
          ap (λ k. thinned.thin_rows k port.name) e
          ∙ ap (λ (r : Row). r port.name) (thinned.rows_are clock f.0 f.1)
          ∙ input-same clock f.0 f.1 there' port c on other
          ∙ sym (steady.runs.driven (row_at cw clock) there' port c on);
    }

    pub carried : IsCarried core names window rows cw crows
    carried = record {
      at = λ number place is index pair e there.
          let c = got-in (named_outputs core names) index pair e in
          let o = output-of pair.0 (zip-left (output_ports core) (drop (length (stimulus_ports core)) names) pair c) in
          let column : Column = output_column F (latest_in core) pair in
          let has-out = has-output core counters (inputs_of core names) (outputs_of core names) column
          (map-in (output_column F (latest_in core)) (named_outputs core names) pair c)
          (wire-of core counters (inputs_of core names) (outputs_of core names) pair.0 o.0 (output-not-shared pair.0 o.0 o.1)) in
          let late : ℕ = samples_late F pair.0 in
          let most : late ≤ latest_in core = fold-most (map (samples_late F) (output_ports core)) 0 late
          (map-in (samples_late F) (output_ports core) pair.0 (zip-left (output_ports core) (drop (length (stimulus_ports core)) names) pair c)) in
          let came = output-shown setting column has-out number place is (omega arith) in
          let n : ℕ = shown_at core number pair.0 in
          let back : latest_in core - (latest_in core - late) ≡ late = omega (arith, most) in
          let clock : (number + (latest_in core - column.late) + 1) * F - 1 ≡ n = ap (λ k. (number + k + 1) * F - 1) back in
          let ticks = is-clock came.place n came.within came.moves-now (came.clock-is ∙ clock) in
          let below = clock-below came.place n ticks in
          let alike = alike-at core sound one (suc clocks) 0 thinned.start thinned.thin_inputs thinned.thin_rows thin-reset cw.rows cw.last_reset cstart cinputs crows steady-reset
          n (same-inputs n below there) n (omega arith) (omega (arith, below)) there in
          let suc-n : suc n ≡ 0 + 1 + n = omega arith in
          sym came.shows
          ∙ sym (ap (λ (r : Row). r pair.0.name) (thinned.rows_are n came.place ticks))
          ∙ ap (λ k. thinned.thin_rows k pair.0.name) suc-n
          ∙ alike.at (port_declared pair.0) (in-port core sound.acyclic.driven sound.acyclic.once pair.0 o.0) (output-not-clk pair.0 o.0 o.1);
    }
