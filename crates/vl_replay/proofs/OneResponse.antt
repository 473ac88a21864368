-- Two tables that are sampled of a module under one stimulus have the same numbers.
use Rattle.std.proofs.Common.{◌≡◌, ◌<◌, ◌≤◌, ◌+◌, ◌*◌, ◌/◌, ◌%◌, ⊎_elim, inl, inr, ◌⊎◌, ℕ, zero, suc, Bool, true, false, not, ◌&&◌, ◌||◌, if◌then◌else◌, List, [], ◌∷◌, length, find, get_or, map}
use Rattle.std.proofs.Common.{flat_map, slice_get, Contains, bytes_eq, codes, Option, None, Some, is_none, unwrap_or, ℤ, pos, refl, sym, ap, subst, ◌∙◌, arith}
use Rattle.std.proofs.lemmas.Bool.{and_parts, cases_Bool, cases_lt, or_parts, not-true}
use Rattle.std.proofs.lemmas.List.{ext_get_or}
use Rattle.std.proofs.lemmas.List.Elements.{Contains-append_left}
use Rattle.std.proofs.lemmas.Nat.{div-add-mod', mod_below}
use Rattle.std.specs.Option.{option_map}
use Rattle.std.proofs.lemmas.Option.{get_or_from_slice_get}
use Rattle.std.proofs.lemmas.Slice.Eq.{bytes_eq-Decides}
use Rattle.vl_ast.specs.declared.modules.Port.{Port}
use Rattle.vl_ast.specs.declared.modules.Module.{Module}
use Rattle.vl_ast.specs.Attributes.{cycles_of, latency_of, period_of}
use Rattle.vl_ast.specs.Conditions.{BreaksNone, lacks_attribute}
use Rattle.vl_ast.specs.Control.{is_control_input, is_control_output, is_number_input, is_number_output, is_stallable}
use Rattle.vl_ast.specs.Driven.{output_ports, port_number, stimulus_ports}
use Rattle.vl_ast.specs.Windows.{Each, PortNumbers, Sample, row_at}
use Rattle.vl_ast.specs.Nets.{Declares, declarations, declared_by, item_mentions, mentions, port_declared}
use Rattle.vl_ast.specs.Room.{AreSame}
use Rattle.vl_ast.specs.Runs.{Rows, Runs}
use Rattle.vl_ast.proofs.FullCounts.{place-clock}
use Rattle.math_list.proofs.Elements.{cons-cases, flat-in, head-in, map-in, none-in}
use Rattle.vl_eval.proofs.EdgeBits.{filter-has}
use Rattle.vl_replay.specs.Sampled.{AreReplayed, Sampled, hit_at, window_of}
use Rattle.vl_replay.proofs.Cells.{port-at}
use Rattle.vl_ast.proofs.Ranges.{clocks-some, step-some}
use Rattle.vl_ast.proofs.PortLists.{filter-in, slice-in}
use Rattle.vl_replay.proofs.Rows.{zeros}
use Rattle.vl_replay.proofs.StimulusRuns.{all-count}
use Rattle.vl_replay.proofs.Times.{hit-below, last-is-hit}

pub place-of : (xs : List Port) (x : Port) → Contains xs x → (place : ℕ) × (slice_get xs place ≡ Some x)
place-of [] x c = absurd (none-in x c)
place-of (y ∷ xs) x c = ⊎_elim (λ same. (0, ap Some same)) (λ later. let p = place-of xs x later in (suc p.0, p.1)) (cons-cases y x xs c)

-- a hit's frame holds its samples' clocks
frame : (cycles period clock : ℕ) → 1 ≤ cycles → 1 ≤ period → (hit_at period (clock / cycles) * cycles ≤ clock) × (clock < (hit_at period (clock / cycles) + period) * cycles)
frame cycles period clock some more =
    let whole = div-add-mod' clock cycles in
    let rest : clock % cycles < cycles = mod_below clock cycles (omega (arith, some)) in
    let h = hit-below period (clock / cycles) in
    let in-frame : clock / cycles % period < period = mod_below (clock / cycles) period (omega (arith, more)) in
    let low : hit_at period (clock / cycles) * cycles ≤ clock / cycles * cycles = times h in
    let e : (clock / cycles + 1) * cycles ≡ clock / cycles * cycles + cycles = next (clock / cycles) cycles in
    let high : (clock / cycles + 1) * cycles ≤ (hit_at period (clock / cycles) + period) * cycles = times (omega (arith, in-frame)) in
    (omega (arith, low, whole), omega (arith, high, e, whole, rest))
  where
    times : {a b : ℕ} → a ≤ b → a * cycles ≤ b * cycles
    times le = grind (arith, le)

    next : (a b : ℕ) → (a + 1) * b ≡ a * b + b
    next a b = grind arith

not-lacking : (stalls : Bool) (ports : List Port) → find (lacks_attribute stalls) ports ≡ None → (port : Port) → Contains ports port → lacks_attribute stalls port ≡ false
not-lacking stalls [] e port c = absurd (none-in port c)
not-lacking stalls (first ∷ ports) e port c = by (not-lacking stalls ports) (lacks_attribute stalls first) refl e (cons-cases first port ports c) where
  by : (find (lacks_attribute stalls) ports ≡ None → (port : Port) → Contains ports port → lacks_attribute stalls port ≡ false) → (t : Bool) → lacks_attribute stalls first ≡ t
      → (if t then Some first else find (lacks_attribute stalls) ports) ≡ None → (first ≡ port) ⊎ Contains ports port → lacks_attribute stalls port ≡ false
  by rest true s f where-it = absurd (cc f)
  by rest false s f (inl same) = subst (λ (p : Port). lacks_attribute stalls p ≡ false) same s
  by rest false s f (inr later) = rest f port later

there-is : (o : Option ℕ) → is_none o ≡ false → (n : ℕ) × (o ≡ Some n)
there-is None e = absurd (cc e)
there-is (Some n) e = (n, refl)

attributed : (o : Option ℕ) (f : Option Port) (name : List ℕ) → (if is_none o then Some name else option_map (λ (port : Port). port.name) f) ≡ None → (is_none o ≡ false) × (f ≡ None)
attributed None f name e = absurd (cc e)
attributed (Some n) None name e = (refl, refl)
attributed (Some n) (Some port) name e = absurd (cc e)

-- the numbers at a sample are those of the run's rows at the clocks of its hits
abbrev pub ShowRow : Module → ℕ → Rows → Sample → List ℤ → Type 0
ShowRow m count rows t numbers = (cycles : ℕ) → cycles_of m ≡ Some cycles → Each (output_ports m) (λ place port. (period latency : ℕ) → period_of port ≡ Some period → latency_of port ≡ Some latency
    → (row_at (window_of count) (hit_at period t * cycles + latency) < count)
    × (slice_get numbers place ≡ Some (port_number port (rows (row_at (window_of count) (hit_at period t * cycles + latency)) port.name))))

module _ (one_run : (m : Module) (count : ℕ) (start : List ℕ → ℕ) (inputs rows other : ℕ → List ℕ → ℕ)
    → BreaksNone m → Runs m count start inputs rows → Runs m count start inputs other → AreSame m count rows other)
    (m : Module) (sound : BreaksNone m) (stimulus : PortNumbers) (samples : ℕ) where
  both-attributes : (is_none (cycles_of m) ≡ false) × (find (lacks_attribute (is_stallable m)) m.ports ≡ None)
  both-attributes = attributed (cycles_of m) (find (lacks_attribute (is_stallable m)) m.ports) m.name sound.attributed

  cycles : (n : ℕ) × (cycles_of m ≡ Some n)
  cycles = there-is (cycles_of m) both-attributes.0

  some-cycles : 1 ≤ cycles.0
  some-cycles = let c = (clocks-some m).0 in let e = ap (λ o. unwrap_or o 1) cycles.1 in omega (arith, c, e)

  abbrev stalls : Bool
  stalls = is_stallable m

  input-period : (port : Port) → Contains m.ports port → port.input ≡ true → is_control_input (is_stallable m) port ≡ false → (n : ℕ) × (period_of port ≡ Some n)
  input-period port c input other =
      there-is (period_of port) (by port.input (is_control_input stalls port) (is_control_output stalls port) (not-lacking stalls m.ports both-attributes.1 port c) input other)
    where
      by : (i r o : Bool) → (if i then not r && is_none (period_of port) else not o
          && (is_none (period_of port) || is_none (latency_of port))) ≡ false → i ≡ true → r ≡ false
          → is_none (period_of port) ≡ false
      by true false o e i r = e
      by true true o e i r = absurd (cc r)
      by false r o e i n = absurd (cc i)

  output-has : (port : Port) → Contains m.ports port → port.input ≡ false
      → is_control_output (is_stallable m) port ≡ false
      → ((n : ℕ) × (period_of port ≡ Some n)) × ((n : ℕ) × (latency_of port ≡ Some n))
  output-has port c output other =
      let neither = by port.input (is_control_input stalls port) (is_control_output stalls port) (not-lacking stalls m.ports both-attributes.1 port c) output other in
      let parts = or_parts (is_none (period_of port)) (is_none (latency_of port)) neither in
      (there-is (period_of port) parts.0, there-is (latency_of port) parts.1)
    where
      by : (i r o : Bool) → (if i then not r && is_none (period_of port) else not o && (is_none (period_of port) || is_none (latency_of port))) ≡ false → i ≡ false → o ≡ false
          → is_none (period_of port) || is_none (latency_of port) ≡ false
      by true r o e i f = absurd (cc i)
      by false r true e i f = absurd (cc f)
      by false r false e i f = e

  module _ (count other-count : ℕ) (inputs other : Rows) (a : AreReplayed m stimulus samples count inputs) (b : AreReplayed m stimulus samples other-count other) where
    at-clock : (clock : ℕ) → suc (suc clock) < count → suc (suc clock) < other-count → (port : Port)
        → Contains m.ports port → port.input ≡ true → is_control_input (is_stallable m) port ≡ false
        → inputs (suc (suc clock)) port.name ≡ other (suc (suc clock)) port.name
    at-clock clock low low' port c input neither =
        let period = input-period port c input neither in
        let more : 1 ≤ period.0 = (let s = (step-some port).0 in let e = ap (λ o. unwrap_or o 1) period.1 in omega (arith, s, e)) in
        let found = place-of (stimulus_ports m) port (filter-has (is_number_input (is_stallable m)) m.ports port c (rw (input, neither) refl)) in
        let row : 1 + 1 + clock ≡ suc (suc clock) = omega arith in
        let hit = hit_at period.0 (clock / cycles.0) in
        let within = frame cycles.0 period.0 clock some-cycles more in
        let is-hit = last-is-hit period.0 (clock / cycles.0) more in
        let at : inputs (1 + 1 + clock) port.name ≡ other (1 + 1 + clock) port.name = ⊎_elim
        (λ below. a.driven.shows cycles.0 cycles.1 found.0 port found.1 period.0 period.1 hit below is-hit clock
        clock within.0 within.1 (place-clock m (window_of count) inputs
        (all-count m count inputs a.enabled) clock (omega (arith, low)))
        ∙ sym (b.driven.shows cycles.0 cycles.1 found.0 port found.1 period.0 period.1 hit below is-hit clock clock
        within.0 within.1 (place-clock m (window_of other-count) other
        (all-count m other-count other b.enabled) clock (omega (arith, low')))))
        (λ past. a.idle cycles.0 cycles.1 found.0 port found.1 period.0 period.1 clock (omega (arith, low)) past
        ∙ sym (b.idle cycles.0 cycles.1 found.0 port found.1 period.0 period.1 clock (omega (arith, low')) past))
        (cases_lt hit samples) in
        subst (λ k. inputs k port.name ≡ other k port.name) row at

    inputs-agree : (k : ℕ) → k < count → k < other-count → (port : Port) → Contains m.ports port → port.input ≡ true → inputs k port.name ≡ other k port.name
    inputs-agree zero low low' port c input = a.first port c input ∙ sym (b.first port c input)
    inputs-agree (suc zero) low low' port c input = ⊎_elim
        (λ is. let name = (bytes_eq-Decides port.name (codes "reset")).0 is in
        ap (inputs 1) name ∙ a.driven.reset.reset ∙ sym b.driven.reset.reset ∙ ap (other 1) (sym name))
        (λ isnt. a.reset port c input isnt ∙ sym (b.reset port c input isnt))
        (cases_Bool (bytes_eq port.name (codes "reset")))
    inputs-agree (suc (suc clock)) low low' port c input =
        by (is_stallable m && bytes_eq port.name (codes "clk_enable")) (bytes_eq port.name (codes "clk"))
        (bytes_eq port.name (codes "reset")) refl refl refl where
          by : (enable clk reset : Bool) → (is_stallable m && bytes_eq port.name (codes "clk_enable")) ≡ enable → bytes_eq port.name (codes "clk") ≡ clk → bytes_eq port.name (codes "reset") ≡ reset
              → inputs (suc (suc clock)) port.name ≡ other (suc (suc clock)) port.name
          by true clk reset ee ec er =
              let parts = and_parts (is_stallable m) (bytes_eq port.name (codes "clk_enable")) ee in
              let name = (bytes_eq-Decides port.name (codes "clk_enable")).0 parts.1 in
              ap (inputs (suc (suc clock))) name ∙ a.enabled parts.0 (suc (suc clock)) (omega arith) low
              ∙ sym (b.enabled parts.0 (suc (suc clock)) (omega arith) low')
              ∙ ap (other (suc (suc clock))) (sym name)
          by false clk true ee ec er = let name = (bytes_eq-Decides port.name (codes "reset")).0 er in
              ap (inputs (suc (suc clock))) name ∙ a.driven.reset.released (suc (suc clock)) (omega arith) low
              ∙ sym (b.driven.reset.released (suc (suc clock)) (omega arith) low')
              ∙ ap (other (suc (suc clock))) (sym name)
          by false true false ee ec er = let name = (bytes_eq-Decides port.name (codes "clk")).0 ec in
              ap (inputs (suc (suc clock))) name ∙ a.clock (suc (suc clock)) low ∙ sym (b.clock (suc (suc clock)) low') ∙ ap (other (suc (suc clock))) (sym name)
          by false false false ee ec er = at-clock clock low low' port c input (rw (ee, ec, er) refl)

    rows-agree : (rows later : Rows) → Runs m count zeros inputs rows → Runs m other-count zeros other later
        → (k : ℕ) → k < count → k < other-count → (port : Port) → Contains m.ports port
        → rows k port.name ≡ later k port.name
    rows-agree rows later runs runs' k low low' port c =
        one_run m (suc k) zeros inputs rows later sound
        (record {
          fits = λ j l. runs.fits j (omega (arith, l, low));
          starts = λ some. runs.starts (omega (arith, low));
          driven = λ j l. runs.driven j (omega (arith, l, low));
          assigns = λ j l. runs.assigns j (omega (arith, l, low));
          steps = λ j l. runs.steps j (omega (arith, l, low));
        })
        (record {
          fits = λ j l. runs'.fits j (omega (arith, l, low'));
          starts = λ some. runs'.starts (omega (arith, low'));
          driven = λ j l p pc input. runs'.driven j (omega (arith, l, low')) p pc input ∙ sym (inputs-agree j (omega (arith, l, low)) (omega (arith, l, low')) p pc input);
          assigns = λ j l. runs'.assigns j (omega (arith, l, low'));
          steps = λ j l. runs'.steps j (omega (arith, l, low'));
        })
        k (omega arith) (port_declared port) declared
      where
        declared : Contains (declarations m) (port_declared port)
        declared = flat-in declared_by (mentions m) (Declares (port_declared port)) (port_declared port)
            (Contains-append_left (map (λ (p : Port). Declares (port_declared p)) m.ports)
            (flat_map item_mentions m.items) (Declares (port_declared port))
            (map-in (λ (p : Port). Declares (port_declared p)) m.ports port c))
            (head-in (port_declared port) [])

  -- two lists of numbers that show two runs at one sample are the same
  pub one-row : (count other-count : ℕ) (inputs other rows later : Rows) → AreReplayed m stimulus samples count inputs → AreReplayed m stimulus samples other-count other
      → Runs m count zeros inputs rows → Runs m other-count zeros other later → (one two : List ℤ) (t : Sample)
      → length one ≡ length (output_ports m) → length two ≡ length (output_ports m) → ShowRow m count rows t one → ShowRow m other-count later t two → one ≡ two
  one-row count other-count inputs other rows later a b runs runs' one two t long long' shows shows' = ext_get_or (pos 0) one two (long ∙ sym long') same where
    same : (i : ℕ) → i < length one → get_or one i (pos 0) ≡ get_or two i (pos 0)
    same i low =
        let port = port-at (output_ports m) i (omega (arith, low, long)) in
        let kept = filter-in (is_number_output (is_stallable m)) m.ports port.0 (slice-in (output_ports m) i port.0 port.1) in
        let neither = or_parts (is_control_output (is_stallable m) port.0) port.0.input (not-true (is_control_output (is_stallable m) port.0 || port.0.input) kept.1) in
        let has = output-has port.0 kept.0 neither.1 neither.0 in
        let mine = shows cycles.0 cycles.1 i port.0 port.1 has.0.0 has.1.0 has.0.1 has.1.1 in
        let yours = shows' cycles.0 cycles.1 i port.0 port.1 has.0.0 has.1.0 has.0.1 has.1.1 in
        let row = hit_at has.0.0 t * cycles.0 + has.1.0 in
        let agree = rows-agree count other-count inputs other a b rows later runs runs' (row_at (window_of count) row) mine.0 yours.0 port.0 kept.0 in
        get_or_from_slice_get one i _ (pos 0) mine.1
        ∙ ap (port_number port.0) agree
        ∙ sym (get_or_from_slice_get two i _ (pos 0) yours.1)

  pub one-table : (one other : Sample → List ℤ) → Sampled m stimulus samples one → Sampled m stimulus samples other → (t : Sample) → t < samples → one t ≡ other t
  one-table one other a b t below = one-row a.count b.count a.inputs b.inputs a.rows b.rows a.driven b.driven a.runs b.runs (one t) (other t) t (a.long t below) (b.long t below)
      (λ cycles ec place port there period latency ep el. a.shows cycles ec place port there period latency ep el t below)
      (λ cycles ec place port there period latency ep el. b.shows cycles ec place port there period latency ep el t below)
