-- The counted rows of a run are rows of a run without stalls.
use Rattle.std.proofs.Common.{◌≡◌, ◌<◌, ◌+◌, ◌-◌, ◌^◌, ⊎_elim, ℕ, zero, suc, Bool, true, false, not, ◌&&◌, ◌||◌, if◌then◌else◌, ◌==◌, List, Contains, bytes_eq, codes, Option, None, refl, sym, ap}
use Rattle.std.proofs.Common.{subst, ◌∙◌, arith}
use Rattle.std.specs.List.{list_any}
use Rattle.std.proofs.lemmas.List.Folds.{Any-from_list_any}
use Rattle.std.proofs.lemmas.Bool.{and_parts, or_parts, cond-true, cond-false, cases_Bool, not-true, eq-eqb, eqb-true, eqb-false}
use Rattle.std.proofs.lemmas.Slice.Eq.{bytes_eq-Decides}
use Rattle.vl_ast.specs.declared.expressions.Sized.{Sized}
use Rattle.vl_ast.specs.declared.expressions.Expr.{Expr}
use Rattle.vl_ast.specs.declared.modules.Port.{Port}
use Rattle.vl_ast.specs.declared.modules.ModItem.TheVariants.{Reg, Always}
use Rattle.vl_ast.specs.declared.modules.Module.{Module}
use Rattle.vl_ast.specs.Context.{Net}
use Rattle.vl_ast.specs.Nets.{port_declared, nets_of}
use Rattle.vl_ast.specs.Value.{assigned_number}
use Rattle.vl_ast.specs.Runs.{Row, Rows, Runs, next_bits}
use Rattle.vl_ast.specs.Conditions.{IsAcyclic, no_reset}
use Rattle.vl_ast.specs.Control.{is_bit_input, is_stallable}
use Rattle.vl_ast.specs.Driven.{IsResetLast}
use Rattle.vl_ast.specs.Stalls.{KeepsBits, AreThinned}
use Rattle.vl_ast.specs.Windows.{Window, row_at, counted, counts_at, clocks_in, IsClock}
use Rattle.vl_ast.specs.Room.{HasRows}
use Rattle.vl_ast.specs.Steps.{IsRow, AreSteps}
use Rattle.vl_ast.proofs.Agree.{ByLayer}
use Rattle.vl_ast.proofs.Alone.{reset-port}
use Rattle.vl_ast.proofs.Facts.{in-port, mention-listed, reg-declared}
use Rattle.vl_ast.proofs.OneRun.{net-is, rows-run}
use Rattle.vl_ast.proofs.Steps.{steps-run}
use Rattle.vl_ast.proofs.Thin.{At, found, thin, newest, thin-kept, thin-newest, thin-placed}

-- the port of an input of one bit
pub bit-port : (name : List ℕ) (ports : List Port) → list_any (is_bit_input name) ports ≡ true
    → (port : Port) × Contains ports port × (port.name ≡ name) × (port.input ≡ true) × (port.width ≡ 1) × (port.signed ≡ false)
bit-port name ports any =
    let a = Any-from_list_any (is_bit_input name) ports any in
    let p = and_parts (bytes_eq a.1.name name && a.1.input && not a.1.signed) (a.1.width == 1) a.4 in
    let q = and_parts (bytes_eq a.1.name name && a.1.input) (not a.1.signed) p.0 in
    let r = and_parts (bytes_eq a.1.name name) a.1.input q.0 in
    (a.1, (a.0, a.2, a.3), (bytes_eq-Decides a.1.name name).0 r.0, r.1, eqb-true a.1.width 1 p.1, not-true a.1.signed q.1)

next-reset : (m : Module) (row : Row) (name : List ℕ) (first : Sized) (condition : Option Expr) (value : Expr) → row (codes "reset") ≡ 1
    → next_bits m row name first condition value ≡ assigned_number (nets_of m name).width first
next-reset m row name first condition value e = cond-true (row (codes "reset") == 1) _ _ (eq-eqb (row (codes "reset")) 1 e)

module _ (by_layer : ByLayer) (m : Module) (acyclic : IsAcyclic m) (clocked : no_reset m ≡ None) (stallable : is_stallable m ≡ true) (keeps : KeepsBits m)
    (window : Window) (start : Row) (inputs rows : Rows) (last : IsResetLast window inputs) (runs : Runs m window.rows start inputs rows) where
  abbrev test : ℕ → Bool
  test = counts_at m window inputs

  abbrev many : ℕ
  many = window.rows - (window.last_reset + 1)

  is-row : (k : ℕ) → k < window.rows → IsRow m (inputs k) (rows k)
  is-row k below = record {
    fits = λ d h. runs.fits k below d h;
    driven = λ port h input. runs.driven k below port h input;
    assigns = λ name value h. runs.assigns k below name value h;
  }

  reset-is : (k : ℕ) → k < window.rows → rows k (codes "reset") ≡ inputs k (codes "reset")
  reset-is k below = let p = reset-port m clocked in subst (λ n. rows k n ≡ inputs k n) p.2 (runs.driven k below p.0 p.1 p.3)

  port-fits : (k : ℕ) → k < window.rows → (port : Port) → Contains m.ports port → rows k port.name < 2 ^ port.width
  port-fits k below port h = runs.fits k below (port_declared port) (mention-listed m acyclic.driven acyclic.once (port_declared port) (in-port m acyclic.driven acyclic.once port h))

  -- a row that isn't counted has `clk_enable` 0
  stalled : (j : ℕ) → row_at window j < window.rows → test j ≡ false → rows (row_at window j) (codes "clk_enable") ≡ 0
  stalled j below e =
      let p = bit-port (codes "clk_enable") m.ports stallable in
      let k = row_at window j in
      let off : (inputs k (codes "clk_enable") == 1) ≡ false = (or_parts (not (is_stallable m)) (inputs k (codes "clk_enable") == 1) e).1 in
      let other = eqb-false (inputs k (codes "clk_enable")) 1 off in
      let is : rows k (codes "clk_enable") ≡ inputs k (codes "clk_enable") = subst (λ n. rows k n ≡ inputs k n) p.2 (runs.driven k below p.0 p.1 p.3) in
      let low : rows k p.0.name < 2 ^ 1 = subst (λ w. rows k p.0.name < 2 ^ w) p.4 (port-fits k below p.0 p.1) in
      let low' : rows k (codes "clk_enable") < 2 ^ 1 = subst (λ n. rows k n < 2 ^ 1) p.2 low in
      omega (arith, low', is, other)

  -- ---- the row of reset with `clk_enable` 1

  head_inputs : Row
  head_inputs name = if bytes_eq name (codes "clk_enable") then 1 else rows window.last_reset name

  head-other : (name : List ℕ) → bytes_eq name (codes "clk_enable") ≡ false → head_inputs name ≡ rows window.last_reset name
  unfolding head_inputs
  head-other name e = cond-false (bytes_eq name (codes "clk_enable")) 1 (rows window.last_reset name) e

  head-enabled : head_inputs (codes "clk_enable") ≡ 1
  unfolding head_inputs
  head-enabled = refl

  head-fits : (port : Port) → Contains m.ports port → head_inputs port.name < 2 ^ port.width
  head-fits port h = ⊎_elim
      (λ t.
      let same : port.name ≡ codes "clk_enable" = (bytes_eq-Decides port.name (codes "clk_enable")).0 t in
      let p = bit-port (codes "clk_enable") m.ports stallable in
      let d = acyclic.driven in
      let o = acyclic.once in
      let mine = net-is by_layer m d o acyclic.acyclic (port_declared port) (in-port m d o port h) in
      let its = net-is by_layer m d o acyclic.acyclic (port_declared p.0) (in-port m d o p.0 p.1) in
      let width : port.width ≡ 1 =
      ap (λ (net : Net). net.width) (sym mine) ∙ ap (λ (n : List ℕ). (nets_of m n).width) (same ∙ sym p.2) ∙ ap (λ (net : Net). net.width) its ∙ p.4 in
      let one : head_inputs port.name ≡ 1 = ap head_inputs same ∙ head-enabled in
      subst (λ w. head_inputs port.name < 2 ^ w) (sym width) (subst (λ v. v < 2 ^ 1) (sym one) (omega arith)))
      (λ f. subst (λ v. v < 2 ^ port.width) (sym (head-other port.name f)) (port-fits window.last_reset last.within port h))
      (cases_Bool (bytes_eq port.name (codes "clk_enable")))

  head-rows : HasRows m 1 (rows window.last_reset) (λ k. head_inputs)
  head-rows = rows-run by_layer m acyclic.driven acyclic.once acyclic.acyclic 1 (rows window.last_reset) (λ k. head_inputs) (record {
    started = λ signed width name h. runs.fits window.last_reset last.within _
        (mention-listed m acyclic.driven acyclic.once _ (reg-declared m acyclic.driven acyclic.once signed width name h));
    driven = λ k below port h input. head-fits port h;
  })

  head : Row
  head = head-rows.0 0

  head-is : IsRow m head_inputs head
  unfolding head
  head-is = let r = head-rows.1 in record {
    fits = λ d h. r.fits 0 (omega arith) d h;
    driven = λ port h input. r.driven 0 (omega arith) port h input;
    assigns = λ name value h. r.assigns 0 (omega arith) name value h;
  }

  head-starts : (signed : Bool) (width : ℕ) (name : List ℕ) → Contains m.items (Reg signed width name) → head name ≡ rows window.last_reset name
  unfolding head
  head-starts signed width name h = head-rows.1.starts (omega arith) signed width name h

  head-inputs-reset : head_inputs (codes "reset") ≡ 1
  head-inputs-reset = head-other (codes "reset") refl ∙ reset-is window.last_reset last.within ∙ last.reset

  head-reset : head (codes "reset") ≡ 1
  head-reset = let p = reset-port m clocked in subst (λ n. head n ≡ head_inputs n) p.2 (head-is.driven p.0 p.1 p.3) ∙ head-inputs-reset

  -- ---- the registers

  abbrev items : Rows
  items j = rows (row_at window j)

  -- each row's registers have what the last counted row before it gives
  taken : (j : ℕ) → row_at window j < window.rows → (name : List ℕ) (first : Sized) (condition : Option Expr) (value : Expr) → Contains m.items (Always name first condition value)
      → items j name ≡ next_bits m (newest test head items j) name first condition value
  taken zero below name first condition value h =
      let e : window.last_reset + 1 + 0 ≡ window.last_reset + 1 = omega arith in
      let was : rows window.last_reset (codes "reset") ≡ 1 = reset-is window.last_reset last.within ∙ last.reset in
      ap (λ k. rows k name) e
      ∙ runs.steps window.last_reset (omega (arith, below)) name first condition value h
      ∙ next-reset m (rows window.last_reset) name first condition value was
      ∙ sym (next-reset m head name first condition value head-reset)
  taken (suc j) below name first condition value h = by (taken j (omega (arith, below)) name first condition value h) where
    within : row_at window j < window.rows
    within = omega (arith, below)

    stepped : items (suc j) name ≡ next_bits m (items j) name first condition value
    stepped =
        let e : window.last_reset + 1 + suc j ≡ window.last_reset + 1 + j + 1 = omega arith in
        ap (λ k. rows k name) e ∙ runs.steps (row_at window j) (omega (arith, below)) name first condition value h

    by : items j name ≡ next_bits m (newest test head items j) name first condition value
        → items (suc j) name ≡ next_bits m (newest test head items (suc j)) name first condition value
    by before = ⊎_elim
        (λ t. stepped ∙ ap (λ (r : Row). next_bits m r name first condition value) (sym (cond-true (test j) (items j) (newest test head items j) t)))
        (λ f.
        let released = reset-is (row_at window j) within ∙ last.released (row_at window j) (omega arith) within in
        let kept = keeps.at (inputs (row_at window j)) (items j) (is-row (row_at window j) within) released (stalled j within f) name first condition value h in
        stepped ∙ kept ∙ before ∙ ap (λ (r : Row). next_bits m r name first condition value) (sym (cond-false (test j) (items j) (newest test head items j) f)))
        (cases_Bool (test j))

  -- ---- the thinned rows

  abbrev input_items : Rows
  input_items j = inputs (row_at window j)

  abbrev thin_rows : Rows
  thin_rows = thin test head items many

  abbrev thin_inputs : Rows
  thin_inputs = thin test head_inputs input_items many

  abbrev Placed : ℕ → Type 0
  Placed number = At test many number

  among : (j : ℕ) → j < many → row_at window j < window.rows
  among j below = let w = last.within in omega (arith, below, w)

  row-placed : (number : ℕ) (at : Placed number) → thin_rows (suc number) ≡ items at.place
  row-placed number at = subst (λ n. thin_rows (suc n) ≡ items at.place) at.counts (thin-placed test head items many at.place at.below at.passes)

  input-placed : (number : ℕ) (at : Placed number) → thin_inputs (suc number) ≡ input_items at.place
  input-placed number at = subst (λ n. thin_inputs (suc n) ≡ input_items at.place) at.counts (thin-placed test head_inputs input_items many at.place at.below at.passes)

  row-before : (number : ℕ) (at : Placed number) → thin_rows number ≡ newest test head items at.place
  row-before number at = subst (λ n. thin_rows n ≡ newest test head items at.place) at.counts
      (thin-kept test head items many at.place (counted test at.place) (let l = at.below in omega (arith, l)) (omega arith) ∙ thin-newest test head items at.place)

  row-first : thin_rows 0 ≡ head
  row-first = thin-kept test head items many 0 0 (omega arith) (omega arith)

  input-first : thin_inputs 0 ≡ head_inputs
  input-first = thin-kept test head_inputs input_items many 0 0 (omega arith) (omega arith)

  first-is : IsRow m (thin_inputs 0) (thin_rows 0)
  first-is = subst (λ (r : Row). IsRow m (thin_inputs 0) r) (sym row-first) (subst (λ (i : Row). IsRow m i head) (sym input-first) head-is)

  later-is : (number : ℕ) → Placed number → IsRow m (thin_inputs (suc number)) (thin_rows (suc number))
  later-is number at =
      subst (λ (r : Row). IsRow m (thin_inputs (suc number)) r) (sym (row-placed number at))
      (subst (λ (i : Row). IsRow m i (items at.place)) (sym (input-placed number at)) (is-row (row_at window at.place) (among at.place at.below)))

  later-steps : (number : ℕ) → Placed number → (name : List ℕ) (first : Sized) (condition : Option Expr) (value : Expr) → Contains m.items (Always name first condition value)
      → thin_rows (suc number) name ≡ next_bits m (thin_rows number) name first condition value
  later-steps number at name first condition value h =
      ap (λ (r : Row). r name) (row-placed number at)
      ∙ taken at.place (among at.place at.below) name first condition value h
      ∙ ap (λ (r : Row). next_bits m r name first condition value) (sym (row-before number at))

  are-steps : AreSteps m (suc (clocks_in m window inputs)) (rows window.last_reset) thin_inputs thin_rows
  are-steps = record {
    begins = λ some. record {
      row_is = first-is;
      starts = λ signed width name h. ap (λ (r : Row). r name) row-first ∙ head-starts signed width name h;
    };
    edges = λ k below.
        let at = found test many k (omega (arith, below)) in
        let e : suc k ≡ k + 1 = omega arith in
        record {
          row_is = subst (λ j. IsRow m (thin_inputs j) (thin_rows j)) e (later-is k at);
          steps = λ name first condition value h.
              subst (λ j. thin_rows j name ≡ next_bits m (thin_rows k) name first condition value) e (later-steps k at name first condition value h);
        };
  }

  abbrev at-clock : (clock place : ℕ) → IsClock m window inputs clock place → Placed clock
  at-clock clock place is = record { place = place; below = (let w = is.within in omega (arith, w)); passes = is.counts; counts = is.number }

  enabled-at : (j : ℕ) → test j ≡ true → input_items j (codes "clk_enable") ≡ 1
  enabled-at j t = eqb-true (input_items j (codes "clk_enable")) 1 (by (is_stallable m) (input_items j (codes "clk_enable") == 1) stallable t) where
    by : (s e : Bool) → s ≡ true → (not s || e) ≡ true → e ≡ true
    by true true s t = refl
    by true false s t = absurd (cc t)
    by false e s t = absurd (cc s)

  enabled : (k : ℕ) → k < suc (clocks_in m window inputs) → thin_inputs k (codes "clk_enable") ≡ 1
  enabled zero below = ap (λ (r : Row). r (codes "clk_enable")) input-first ∙ head-enabled
  enabled (suc k) below =
      let at = found test many k (omega (arith, below)) in
      ap (λ (r : Row). r (codes "clk_enable")) (input-placed k at) ∙ enabled-at at.place at.passes

  released : (k : ℕ) → 0 < k → k < suc (clocks_in m window inputs) → thin_inputs k (codes "reset") ≡ 0
  released zero above below = absurd (omega (arith, above))
  released (suc k) above below =
      let at = found test many k (omega (arith, below)) in
      ap (λ (r : Row). r (codes "reset")) (input-placed k at) ∙ last.released (row_at window at.place) (omega arith) (among at.place at.below)

  pub are-thinned : AreThinned m window inputs rows
  are-thinned = record {
    start = rows window.last_reset;
    thin_inputs = thin_inputs;
    thin_rows = thin_rows;
    runs = steps-run m (suc (clocks_in m window inputs)) (rows window.last_reset) thin_inputs thin_rows are-steps;
    reset = record { within = omega arith; reset = ap (λ (r : Row). r (codes "reset")) input-first ∙ head-inputs-reset; released = released };
    enabled = record { at = enabled };
    found = λ clock below. let at = found test many clock below in (at.place, record { within = among at.place at.below; counts = at.passes; number = at.counts });
    inputs_are = λ clock place is. input-placed clock (at-clock clock place is);
    rows_are = λ clock place is. row-placed clock (at-clock clock place is);
  }
