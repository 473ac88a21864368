-- At a transfer out each output shows what the core showed at the last clock of its sample.
use Rattle.std.proofs.Common.{◌≡◌, ℕ, zero, suc, ◌+◌, ◌-◌, ◌*◌, ◌/◌, ◌%◌, ◌^◌, ◌<◌, ◌≤◌, ◌==◌, ◌⊎◌, inl, inr, ⊎_elim, Bool, true, false, ◌&&◌, if◌then◌else◌, List, Contains, codes, Some, refl, sym}
use Rattle.std.proofs.Common.{ap, subst, ◌∙◌, arith}
use Rattle.std.proofs.lemmas.Bool.{cases_Bool, cases_eq, cond-true, cond-false, eqb-true, eqb-false, ne_eqb}
use Rattle.std.proofs.lemmas.Nat.{div-add-mod'}
use Rattle.vl_ast.specs.declared.expressions.Expr.TheVariants.{Name}
use Rattle.vl_ast.specs.declared.modules.ModItem.TheVariants.{Assign, Wire}
use Rattle.vl_ast.specs.declared.modules.Module.{Module}
use Rattle.vl_ast.specs.Context.{Net}
use Rattle.vl_ast.specs.Header.{output_port}
use Rattle.vl_ast.specs.Nets.{Declared, Declares, mentions, net_or_none, nets_of, port_declared}
use Rattle.vl_ast.specs.Runs.{Row, Rows}
use Rattle.vl_ast.specs.Value.{assigned}
use Rattle.vl_ast.specs.Windows.{Window, counted, row_at}
use Rattle.vl_ast.proofs.Alone.{reset-port}
use Rattle.vl_ast.proofs.Facts.{in-port, is-declared, mention-listed, reg-declared, wire-declared}
use Rattle.vl_ast.specs.Attributes.{clocks_of}
use Rattle.st_wrap.specs.declared.columns.Column.{Column}
use Rattle.st_wrap.specs.declared.pace.Counters.{Counters}
use Rattle.st_wrap.specs.Pace.{latest_in}
use Rattle.st_wrap.specs.Transfers.{IsTransfer, out_side}
use Rattle.st_wrap.specs.inner.Columns.{column_port, moving, plain, stage_declared, stage_driven, stage_name}
use Rattle.st_wrap.specs.inner.Names.{end_name, inner_name, late_name}
use Rattle.st_wrap.proofs.ControlSignals.{end-moves, ends, moves}
use Rattle.st_wrap.proofs.CoreInputs.{assigned-Name, word_of}
use Rattle.st_wrap.proofs.Handovers.{Setting, ends-is, out-clock}
use Rattle.st_wrap.proofs.Samples.{next-same, next-sample, zero-sample}
use Rattle.st_wrap.proofs.Handshakes.{some-cycles}

-- what a module has of an output
pub record HasOutput (m : Module) (column : Column) : Type 0 where
  pub port : Contains m.ports (output_port (column_port column))
  pub wire : Contains m.items (Wire column.signed column.width (inner_name column.inner))
  pub stages : (place : ℕ) → place < column.late → Contains m.items (stage_declared column place)
  pub steps : (place : ℕ) → place < column.late → Contains m.items (stage_driven column place)
  pub shown : Contains m.items (Assign column.name (Name (stage_name column column.late)))

module _ {core m : Module} {counters : Counters} {window : Window} {start : Row} {inputs rows : Rows}
    (s : Setting core m counters window start inputs rows) (column : Column) (has : HasOutput m column) where
  abbrev test : ℕ → Bool
  test place = moves counters (rows (row_at window place))

  abbrev F : ℕ
  F = clocks_of core

  stage-later : (place : ℕ) → stage_name column (place + 1) ≡ late_name column.name (place + 1)
  stage-later place = cond-false (place + 1 == 0) (inner_name column.inner) (late_name column.name (place + 1)) (ne_eqb (place + 1) 0 (λ e. omega (arith, e)))

  -- a stage with its declaration
  record IsStage (samples : ℕ) : Type 0 where
    declared : Declared
    there : Contains (mentions m) (Declares declared)
    name : declared.name ≡ stage_name column samples
    net : declared.net ≡ word_of column

  stage-at : (samples : ℕ) → samples ≤ column.late → IsStage samples
  stage-at zero low = record { declared = _; there = wire-declared m s.acyclic.driven s.acyclic.once column.signed column.width (inner_name column.inner) has.wire; name = refl; net = refl }
  stage-at (suc place) low =
      let e : suc place ≡ place + 1 = omega arith in
      record {
        declared = _;
        there = reg-declared m s.acyclic.driven s.acyclic.once column.signed column.width (late_name column.name (place + 1)) (has.stages place (omega (arith, low)));
        name = sym (ap (stage_name column) e ∙ stage-later place);
        net = refl;
      }

  stage-net : (samples : ℕ) → samples ≤ column.late → nets_of m (stage_name column samples) ≡ word_of column
  stage-net samples low =
      let t = stage-at samples low in
      ap (nets_of m) (sym t.name) ∙ ap net_or_none (is-declared m s.acyclic.driven s.acyclic.once t.declared t.there) ∙ t.net

  stage-fits : (samples : ℕ) → samples ≤ column.late → (k : ℕ) → k < window.rows → rows k (stage_name column samples) < 2 ^ column.width
  stage-fits samples low k below =
      let t = stage-at samples low in
      let f = s.runs.fits k below t.declared (mention-listed m s.acyclic.driven s.acyclic.once t.declared t.there) in
      subst (λ n. rows k n < 2 ^ column.width) t.name (subst (λ (n : Net). rows k t.declared.name < 2 ^ n.width) t.net f)

  port-net : nets_of m column.name ≡ word_of column
  port-net = ap net_or_none (is-declared m s.acyclic.driven s.acyclic.once
      (port_declared (output_port (column_port column)))
      (in-port m s.acyclic.driven s.acyclic.once (output_port (column_port column)) has.port))

  output-is : (k : ℕ) → k < window.rows → rows k column.name ≡ rows k (stage_name column column.late)
  output-is k below =
      s.runs.assigns k below column.name (Name (stage_name column column.late)) has.shown
      ∙ ap (λ (n : Net). assigned (nets_of m) (rows k) n.width (Name (stage_name column column.late))) port-net
      ∙ assigned-Name (nets_of m) (rows k) column.width column.signed (stage_name column column.late) (stage-net column.late (omega arith)) (stage-fits column.late (omega arith) k below)

  stage-next : (place : ℕ) → place < column.late → (k : ℕ) → k + 1 < window.rows → window.last_reset < k
      → rows (k + 1) (stage_name column (place + 1)) ≡ (if moves counters (rows k) && ends counters (rows k) then rows k (stage_name column place) else rows k (stage_name column (place + 1)))
  stage-next place low k more behind =
      let below : k < window.rows = omega (arith, more) in
      let p = reset-port m s.clocked in
      let zero-reset : rows k (codes "reset") ≡ 0 = subst (λ n. rows k n ≡ inputs k n) p.2 (s.runs.driven k below p.0 p.1 p.3) ∙ s.last.released k behind below in
      let off : (rows k (codes "reset") == 1) ≡ false = ap (λ n. n == 1) zero-reset in
      let own : List ℕ = late_name column.name (place + 1) in
      let net : nets_of m own ≡ word_of column = subst (λ n. nets_of m n ≡ word_of column) (stage-later place) (stage-net (place + 1) (omega (arith, low))) in
      ap (rows (k + 1)) (stage-later place)
      ∙ s.runs.steps k more own (plain column.width 0) (Some (moving end_name)) (Name (stage_name column place)) (has.steps place low)
      ∙ cond-false (rows k (codes "reset") == 1) _ _ off
      ∙ (λ i. if end-moves m counters s.acyclic s.has window.rows start inputs rows s.runs k below i
      then assigned (nets_of m) (rows k) (net i).width (Name (stage_name column place)) else rows k own)
      ∙ ap (λ n. if moves counters (rows k) && ends counters (rows k) then n else rows k own)
      (assigned-Name (nets_of m) (rows k) column.width column.signed (stage_name column place) (stage-net place (omega (arith, low))) (stage-fits place (omega (arith, low)) k below))
      ∙ ap (λ x. if moves counters (rows k) && ends counters (rows k) then rows k (stage_name column place) else rows k x) (sym (stage-later place))

  -- what the core's output showed at a clock
  pub record Came (clock bits : ℕ) : Type 0 where
    pub place : ℕ
    pub within : row_at window place < window.rows
    pub moves-now : moves counters (rows (row_at window place)) ≡ true
    pub clock-is : counted (λ place. moves counters (rows (row_at window place))) place ≡ clock
    pub shows : rows (row_at window place) (inner_name column.inner) ≡ bits

  -- the last clock of a sample
  abbrev last_of : ℕ → ℕ
  last_of sample = sample * F + (F - 1)

  abbrev LateAt : ℕ → Type 0
  LateAt place = (j : ℕ) → j < column.late → j + 1 ≤ counted test place / F → Came (last_of (counted test place / F - (j + 1))) (rows (row_at window place) (stage_name column (j + 1)))

  late-step : (place : ℕ) → row_at window (suc place) < window.rows → LateAt place → LateAt (suc place)
  late-step place below before j low come = by (cases_Bool (test place)) where
    inside : row_at window place < window.rows
    inside = omega (arith, below)

    next-row : row_at window (suc place) ≡ row_at window place + 1
    next-row = omega arith

    stepped : rows (row_at window (suc place)) (stage_name column (j + 1))
        ≡ (if test place && ends counters (rows (row_at window place)) then rows (row_at window place) (stage_name column j) else rows (row_at window place) (stage_name column (j + 1)))
    stepped = ap (λ n. rows n (stage_name column (j + 1))) next-row ∙ stage-next j low (row_at window place) (omega (arith, below)) (omega arith)

    -- nothing is taken, and no sample is passed
    still : (test place && ends counters (rows (row_at window place))) ≡ false → counted test (suc place) / F ≡ counted test place / F
        → Came (last_of (counted test (suc place) / F - (j + 1))) (rows (row_at window (suc place)) (stage_name column (j + 1)))
    still off same =
        let old = before j low (omega (arith, come, same)) in
        let value : rows (row_at window (suc place)) (stage_name column (j + 1)) ≡ rows (row_at window place) (stage_name column (j + 1)) =
        stepped ∙ cond-false (test place && ends counters (rows (row_at window place))) _ _ off in
        record { place = old.place; within = old.within; moves-now = old.moves-now; clock-is = old.clock-is ∙ ap (λ n. last_of (n - (j + 1))) (sym same); shows = old.shows ∙ sym value }

    taken : test place ≡ true → (counted test place % F == F - 1) ≡ true → counted test (suc place) / F ≡ counted test place / F + 1
        → Came (last_of (counted test (suc place) / F - (j + 1))) (rows (row_at window (suc place)) (stage_name column (j + 1)))
    taken on last sample =
        let value : rows (row_at window (suc place)) (stage_name column (j + 1)) ≡ rows (row_at window place) (stage_name column j) =
        stepped ∙ cond-true (test place && ends counters (rows (row_at window place))) _ _ (λ i. on i && (ends-is s place inside ∙ last) i) in
        ⊎_elim
        (λ z. let whole = div-add-mod' (counted test place) F in let end = eqb-true (counted test place % F) (F - 1) last in
        record {
          place = place;
          within = inside;
          moves-now = on;
          clock-is = (let q : counted test (suc place) / F - (j + 1) ≡ counted test place / F = omega (arith, sample, z) in
              (let e : counted test place ≡ last_of (counted test place / F) = omega (arith, whole, end) in e) ∙ ap last_of (sym q));
          shows = ap (λ n. rows (row_at window place) (stage_name column n)) (sym z) ∙ sym value;
        })
        (λ some.
        let one : j - 1 + 1 ≡ j = omega (arith, some) in
        let old = before (j - 1) (omega (arith, low)) (omega (arith, come, sample, some)) in
        let q : counted test place / F - (j - 1 + 1) ≡ counted test (suc place) / F - (j + 1) = omega (arith, sample, some) in
        record {
          place = old.place;
          within = old.within;
          moves-now = old.moves-now;
          clock-is = old.clock-is ∙ ap last_of q;
          shows = old.shows ∙ ap (λ n. rows (row_at window place) (stage_name column n)) one ∙ sym value;
        })
        (cases_eq j 0)

    by : (test place ≡ true) ⊎ (test place ≡ false) → Came (last_of (counted test (suc place) / F - (j + 1))) (rows (row_at window (suc place)) (stage_name column (j + 1)))
    by (inr off) = still (ap (λ b. b && ends counters (rows (row_at window place))) off) (ap (λ n. n / F) (cond-false (test place) (suc (counted test place)) (counted test place) off))
    by (inl on) =
        let c : counted test (suc place) ≡ counted test place + 1 = cond-true (test place) (suc (counted test place)) (counted test place) on ∙ omega arith in
        ⊎_elim
        (λ t. taken on t (ap (λ n. n / F) c ∙ next-sample F (some-cycles core) (counted test place) (eqb-true (counted test place % F) (F - 1) t)))
        (λ f. still (λ i. on i && (ends-is s place inside ∙ f) i) (ap (λ n. n / F) c ∙ next-same F (some-cycles core) (counted test place) (eqb-false (counted test place % F) (F - 1) f)))
        (cases_Bool (counted test place % F == F - 1))

  late-at : (place : ℕ) → row_at window place < window.rows → LateAt place
  late-at zero below j low come = absurd (let z = zero-sample F (some-cycles core) in omega (arith, come, z))
  late-at (suc place) below j low come = late-step place below (late-at place (omega (arith, below))) j low come

  -- at a transfer out the port shows what the core showed so many samples ago
  pub output-shown : (number place : ℕ) → IsTransfer out_side window rows number place → column.late ≤ latest_in core
      → Came ((number + (latest_in core - column.late) + 1) * clocks_of core - 1) (rows (row_at window place) column.name)
  output-shown number place is few =
      let out = out-clock s number place is in
      let whole = div-add-mod' (counted test place) F in
      let end = out.last-clock in
      let sample = out.sample in
      let some = some-cycles core in
      ⊎_elim
      (λ z.
      let q : number + (latest_in core - column.late) ≡ counted test place / F = omega (arith, sample, z) in
      let split : (counted test place / F + 1) * F ≡ (counted test place / F) * F + F = omega arith in
      let clock : counted test place ≡ (counted test place / F + 1) * F - 1 = omega (arith, whole, end, split, some) in
      record {
        place = place;
        within = is.within;
        moves-now = out.moves-now;
        clock-is = clock ∙ ap (λ n. (n + 1) * F - 1) (sym q);
        shows = ap (λ n. rows (row_at window place) (stage_name column n)) (sym z) ∙ sym (output-is (row_at window place) is.within);
      })
      (λ more.
      let one : column.late - 1 + 1 ≡ column.late = omega (arith, more) in
      let old = late-at place is.within (column.late - 1) (omega (arith, more)) (omega (arith, sample, few, more)) in
      let q : counted test place / F - (column.late - 1 + 1) ≡ number + (latest_in core - column.late) = omega (arith, sample, few, more) in
      let n : ℕ = number + (latest_in core - column.late) in
      let split : (n + 1) * F ≡ n * F + F = omega arith in
      let clock : last_of n ≡ (n + 1) * F - 1 = omega (arith, split, some) in
      record {
        place = old.place;
        within = old.within;
        moves-now = old.moves-now;
        clock-is = old.clock-is ∙ ap last_of q ∙ clock;
        shows = old.shows ∙ ap (λ k. rows (row_at window place) (stage_name column k)) one ∙ sym (output-is (row_at window place) is.within);
      })
      (cases_eq column.late 0)
