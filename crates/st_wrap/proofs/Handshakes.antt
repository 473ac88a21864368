-- The counters of the wrapper count the rows that move, so its four signals shake hands.
use Rattle.std.proofs.Common.{◌≡◌, ℕ, zero, suc, ◌+◌, ◌-◌, ◌*◌, ◌/◌, ◌%◌, ◌^◌, ◌<◌, ◌≤◌, ◌==◌, ⊎_elim, Bool, true, false, not, ◌&&◌, ◌||◌, if◌then◌else◌, codes, Some, None, refl, sym, ap, subst, ◌∙◌}
use Rattle.std.proofs.Common.{arith, pow_pos}
use Rattle.std.proofs.Math.Nat.{mod-eq_of_lt}
use Rattle.std.proofs.lemmas.Bool.{cases_Bool, cond-true, cond-false, eq-eqb, eqb-true, eqb-false}
use Rattle.std.proofs.lemmas.Nat.{mod-mul-add, mod_below}
use Rattle.vl_ast.specs.declared.expressions.Expr.TheVariants.{Name}
use Rattle.vl_ast.specs.declared.modules.Module.{Module}
use Rattle.vl_ast.specs.Attributes.{clocks_of}
use Rattle.vl_ast.specs.Conditions.{IsAcyclic, no_reset}
use Rattle.vl_ast.specs.Context.{Net}
use Rattle.vl_ast.specs.Driven.{IsResetLast}
use Rattle.vl_ast.specs.Nets.{nets_of}
use Rattle.vl_ast.specs.Runs.{Row, Rows, Runs}
use Rattle.vl_ast.specs.Value.{assigned, assigned_number, truth}
use Rattle.vl_ast.specs.Windows.{Window, counted, row_at}
use Rattle.vl_ast.proofs.Alone.{reset-port}
use Rattle.vl_ast.proofs.Ranges.{clocks-some}
use Rattle.st_wrap.specs.declared.pace.Counters.{Counters}
use Rattle.st_wrap.specs.Carried.{pace_of}
use Rattle.st_wrap.specs.Handshake.{Handshakes, is_begin, is_due, is_fed, is_open}
use Rattle.st_wrap.specs.Pace.{latest_in}
use Rattle.st_wrap.specs.inner.Columns.{moving, plain}
use Rattle.st_wrap.specs.inner.Control.{CountFor, next_phase, next_wait}
use Rattle.st_wrap.specs.inner.Names.{end_name, enable_name, phase_name, wait_name}
use Rattle.st_wrap.proofs.ControlSignals.{HasControl, begins, due, end-moves, enable-true, end-is, ends, fed, moves, opens, phase-net, ready-is, valid-is, wait-net}
use Rattle.st_wrap.proofs.Samples.{due-is, next-first, next-phase, next-same, next-sample, zero-phase, zero-sample}
use Rattle.st_wrap.proofs.Signals.{assigned-plain, down-value, truth-zero, up-value}

-- ---- numbers

-- a sample takes a clock or more
pub some-cycles : (core : Module) → 1 ≤ clocks_of core
some-cycles core = (clocks-some core).0

cut-up : (w p most : ℕ) → p ≤ most → most < 2 ^ w → (if not (p == most) then (p + 1) % 2 ^ w else 0) % 2 ^ w ≡ (if p == most then 0 else p + 1)
cut-up w p most low room = by (p == most) refl where
  by : (b : Bool) → (p == most) ≡ b → (if not b then (p + 1) % 2 ^ w else 0) % 2 ^ w ≡ (if b then 0 else p + 1)
  by true e = mod-eq_of_lt (pow_pos w)
  by false e =
      let other = eqb-false p most e in
      let small : p + 1 < 2 ^ w = omega (arith, low, room, other) in
      ap (λ n. n % 2 ^ w) (mod-eq_of_lt small) ∙ mod-eq_of_lt small

cut-down : (w n : ℕ) → n < 2 ^ w → (if n == 0 then 0 else (n + (2 ^ w - 1)) % 2 ^ w) % 2 ^ w ≡ n - 1
cut-down w n room = by (n == 0) refl where
  by : (b : Bool) → (n == 0) ≡ b → (if b then 0 else (n + (2 ^ w - 1)) % 2 ^ w) % 2 ^ w ≡ n - 1
  by true e = mod-eq_of_lt (pow_pos w) ∙ (let z = eqb-true n 0 e in omega (arith, z))
  by false e =
      let some = eqb-false n 0 e in
      let fewer : n - 1 < 2 ^ w = omega (arith, room) in
      let round : n + (2 ^ w - 1) ≡ 1 * 2 ^ w + (n - 1) = omega (arith, some, pow_pos w) in
      ap (λ k. k % 2 ^ w) (ap (λ k. k % 2 ^ w) round ∙ mod-mul-add 1 (2 ^ w) (n - 1) fewer) ∙ mod-eq_of_lt fewer

module _ (core : Module) where
  abbrev F : ℕ
  F = clocks_of core

  abbrev K : ℕ
  K = latest_in core

  some : 1 ≤ clocks_of core
  some = some-cycles core

  step-phase : (c : ℕ) (b : Bool) → (if b then (if c % F == F - 1 then 0 else c % F + 1) else c % F) ≡ (if b then suc c else c) % F
  step-phase c false = refl
  step-phase c true =
      let more : suc c ≡ c + 1 = omega arith in
      ⊎_elim
      (λ t. cond-true (c % F == F - 1) 0 (c % F + 1) t ∙ sym (ap (λ n. n % F) more ∙ next-first F some c (eqb-true (c % F) (F - 1) t)))
      (λ f. cond-false (c % F == F - 1) 0 (c % F + 1) f ∙ sym (ap (λ n. n % F) more ∙ next-phase F some c (eqb-false (c % F) (F - 1) f)))
      (cases_Bool (c % F == F - 1))

  step-wait : (c : ℕ) (b : Bool) → (if b && c % F == F - 1 then K - c / F - 1 else K - c / F) ≡ K - (if b then suc c else c) / F
  step-wait c false = refl
  step-wait c true =
      let more : suc c ≡ c + 1 = omega arith in
      let fewer : K - c / F - 1 ≡ K - (c / F + 1) = omega arith in
      ⊎_elim
      (λ t. cond-true (c % F == F - 1) (K - c / F - 1) (K - c / F) t ∙ fewer
      ∙ sym (ap (λ n. K - n) (ap (λ n. n / F) more ∙ next-sample F some c (eqb-true (c % F) (F - 1) t))))
      (λ f. cond-false (c % F == F - 1) (K - c / F - 1) (K - c / F) f
      ∙ sym (ap (λ n. K - n) (ap (λ n. n / F) more ∙ next-same F some c (eqb-false (c % F) (F - 1) f))))
      (cases_Bool (c % F == F - 1))

  -- the counters after so many rows that moved
  pub record At (row : Row) (moved : ℕ) : Type 0 where
    pub phase : row phase_name ≡ moved % clocks_of core
    pub wait : row wait_name ≡ latest_in core - moved / clocks_of core

  module _ (m : Module) (counters : Counters) (acyclic : IsAcyclic m) (clocked : no_reset m ≡ None) (has : HasControl m counters) (counts : CountFor core counters)
      (window : Window) (start : Row) (inputs rows : Rows) (last : IsResetLast window inputs) (runs : Runs m window.rows start inputs rows) where
    reset-is : (k : ℕ) → k < window.rows → rows k (codes "reset") ≡ inputs k (codes "reset")
    reset-is k below = let p = reset-port m clocked in subst (λ n. rows k n ≡ inputs k n) p.2 (runs.driven k below p.0 p.1 p.3)

    abbrev pub test : ℕ → Bool
    test place = moves counters (rows (row_at window place))

    first-row : row_at window 0 < window.rows → At (rows (row_at window 0)) 0
    first-row below =
        let r : ℕ = window.last_reset in
        let e : row_at window 0 ≡ r + 1 = omega arith in
        let inside : r + 1 < window.rows = omega (arith, below) in
        let on : (rows r (codes "reset") == 1) ≡ true = eq-eqb (rows r (codes "reset")) 1 (reset-is r last.within ∙ last.reset) in
        record {
          phase =
              ap (λ k. rows k phase_name) e
              ∙ runs.steps r inside phase_name (plain counters.phase.width 0) (Some (Name enable_name)) (next_phase counters.phase) (has.driven _ (8, omega arith, refl))
              ∙ cond-true (rows r (codes "reset") == 1) _ _ on
              ∙ ap (λ (n : Net). assigned_number n.width (plain counters.phase.width 0)) (phase-net m counters acyclic has)
              ∙ assigned-plain counters.phase.width 0 (pow_pos counters.phase.width)
              ∙ sym (zero-phase F some);
          wait =
              ap (λ k. rows k wait_name) e
              ∙ runs.steps r inside wait_name (plain counters.wait.width counters.wait.most) (Some (moving end_name)) (next_wait counters.wait) (has.driven _ (9, omega arith, refl))
              ∙ cond-true (rows r (codes "reset") == 1) _ _ on
              ∙ ap (λ (n : Net). assigned_number n.width (plain counters.wait.width counters.wait.most)) (wait-net m counters acyclic has)
              ∙ assigned-plain counters.wait.width counters.wait.most counts.wait_room.room
              ∙ counts.wait
              ∙ (let z = zero-sample F some in let f : K ≡ K - 0 = omega arith in f ∙ ap (λ q. K - q) (sym z));
        }

    module _ (k : ℕ) (below : k + 1 < window.rows) (behind : window.last_reset < k) (c : ℕ) (at : At (rows k) c) where
      inside : k < window.rows
      inside = omega (arith, below)

      off : (rows k (codes "reset") == 1) ≡ false
      off = let z = reset-is k inside ∙ last.released k behind inside in ap (λ n. n == 1) z

      abbrev row : Row
      row = rows k

      moves-here : Bool
      moves-here = moves counters row

      low : row phase_name ≤ counters.phase.most
      low = let b = mod_below c F (omega (arith, some)) in let p = at.phase in let e = counts.phase in omega (arith, b, p, e, some)

      ends-is : ends counters row ≡ (c % F == F - 1)
      ends-is = (λ i. at.phase i == counts.phase i)

      next-phase-is : rows (k + 1) phase_name ≡ (if moves counters row then suc c else c) % F
      next-phase-is =
          runs.steps k below phase_name (plain counters.phase.width 0) (Some (Name enable_name)) (next_phase counters.phase) (has.driven _ (8, omega arith, refl))
          ∙ cond-false (row (codes "reset") == 1) _ _ off
          ∙ (λ i. if enable-true m counters acyclic has window.rows start inputs rows runs k inside i then assigned
          (nets_of m) row (phase-net m counters acyclic has i).width
          (next_phase counters.phase) else row phase_name)
          ∙ ap (λ n. if moves counters row then n else row phase_name)
          (up-value (nets_of m) row counters.phase.width phase_name (phase-net m counters acyclic has) end_name
          ∙ ap (λ b. (if b then (row phase_name + 1) % 2 ^ counters.phase.width else 0) % 2 ^ counters.phase.width)
          (ap (λ n. n == 0) (end-is m counters acyclic has window.rows start inputs rows runs k inside) ∙ truth-zero (ends counters row))
          ∙ cut-up counters.phase.width (row phase_name) counters.phase.most low counts.phase_room.room)
          ∙ (λ i. if moves counters row then (if ends-is i then 0 else at.phase i + 1) else at.phase i)
          ∙ step-phase c (moves counters row)

      wait-low : row wait_name < 2 ^ counters.wait.width
      wait-low = let r = counts.wait_room.room in let w = at.wait in let e = counts.wait in omega (arith, r, w, e)

      next-wait-is : rows (k + 1) wait_name ≡ K - (if moves counters row then suc c else c) / F
      next-wait-is =
          runs.steps k below wait_name (plain counters.wait.width counters.wait.most) (Some (moving end_name)) (next_wait counters.wait) (has.driven _ (9, omega arith, refl))
          ∙ cond-false (row (codes "reset") == 1) _ _ off
          ∙ (λ i. if end-moves m counters acyclic has window.rows start inputs rows runs k inside i then assigned
          (nets_of m) row (wait-net m counters acyclic has i).width
          (next_wait counters.wait) else row wait_name)
          ∙ ap (λ n. if moves counters row && ends counters row then n else row wait_name)
          (down-value (nets_of m) row counters.wait.width wait_name (wait-net m counters acyclic has) ∙ cut-down counters.wait.width (row wait_name) wait-low)
          ∙ (λ i. if moves counters row && ends-is i then at.wait i - 1 else at.wait i)
          ∙ step-wait c (moves counters row)

      next-at : At (rows (k + 1)) (if moves counters row then suc c else c)
      next-at = record { phase = next-phase-is; wait = next-wait-is }

    pub counters-at : (place : ℕ) → row_at window place < window.rows → At (rows (row_at window place)) (counted test place)
    counters-at zero below = first-row below
    counters-at (suc place) below =
        let e : row_at window (suc place) ≡ row_at window place + 1 = omega arith in
        let inside : row_at window place + 1 < window.rows = omega (arith, below) in
        let at = counters-at place (omega (arith, below)) in
        subst (λ k. At (rows k) (counted test (suc place))) (sym e) (next-at (row_at window place) inside (omega arith) (counted test place) at)

    module _ (place : ℕ) (below : row_at window place < window.rows) where
      abbrev here : Row
      here = rows (row_at window place)

      abbrev c : ℕ
      c = counted test place

      pub begin-at : begins counters (rows (row_at window place)) ≡ is_begin (pace_of core) (counted test place)
      begin-at = ap (λ p. p == 0) (counters-at place below).phase

      pub due-at : due counters (rows (row_at window place)) ≡ is_due (pace_of core) (counted test place)
      due-at = let at = counters-at place below in (λ i. at.phase i == counts.phase i && at.wait i == 0) ∙ due-is F some K (counted test place)

      pub fed-at : fed counters (rows (row_at window place)) ≡ is_fed (pace_of core) (counted test place) (rows (row_at window place))
      fed-at = ap (λ b. not b || here (codes "in_valid") == 1) begin-at

      pub open-at : opens counters (rows (row_at window place)) ≡ is_open (pace_of core) (counted test place) (rows (row_at window place))
      open-at = ap (λ b. not b || here (codes "out_ready") == 1) due-at

    pub shakes : Handshakes (pace_of core) window rows
    shakes = record {
      moves = test;
      moves_where = λ place below. (λ i. fed-at place below i && open-at place below i);
      in_ready = λ place below. ready-is m counters acyclic has window.rows start inputs rows runs (row_at window place) below
          ∙ (λ i. truth (begin-at place below i && open-at place below i));
      out_valid = λ place below. valid-is m counters acyclic has window.rows start inputs rows runs (row_at window place) below
          ∙ (λ i. truth (due-at place below i && fed-at place below i));
    }
