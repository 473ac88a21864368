-- Which rows hand over samples, and how many did before, by how many rows moved.
use Rattle.std.proofs.Common.{◌≡◌, ◌≢◌, ℕ, zero, suc, ◌+◌, ◌-◌, ◌/◌, ◌%◌, ◌<◌, ◌≤◌, ◌==◌, ◌⊎◌, inl, inr, ⊎_elim, Bool, true, false, not, ◌&&◌, ◌||◌, if◌then◌else◌, codes, None, refl, sym, ap, ◌∙◌}
use Rattle.std.proofs.Common.{arith}
use Rattle.std.proofs.lemmas.Bool.{and_parts, cases_Bool, cond-true, cond-false, eqb-true, eqb-false, ne_eqb}
use Rattle.vl_ast.specs.declared.modules.Module.{Module}
use Rattle.vl_ast.specs.Conditions.{IsAcyclic, no_reset}
use Rattle.vl_ast.specs.Driven.{IsResetLast}
use Rattle.vl_ast.specs.Runs.{Row, Rows, Runs}
use Rattle.vl_ast.specs.Windows.{Window, counted, row_at}
use Rattle.vl_ast.specs.Attributes.{clocks_of}
use Rattle.st_wrap.specs.declared.pace.Counters.{Counters}
use Rattle.st_wrap.specs.Pace.{latest_in}
use Rattle.st_wrap.specs.Transfers.{IsTransfer, in_side, out_side, transfers}
use Rattle.st_wrap.specs.inner.Control.{CountFor}
use Rattle.st_wrap.proofs.ControlSignals.{HasControl, begins, due, ends, fed, moves, opens, ready-is, valid-is}
use Rattle.st_wrap.proofs.Samples.{next-first, next-phase, next-same, next-sample, zero-phase, zero-sample}
use Rattle.st_wrap.proofs.Handshakes.{At, counters-at, some-cycles}
use Rattle.st_wrap.proofs.Signals.{truth-one}

-- ---- tests and their counts

in-both : (b o v : Bool) → (v && (b && o)) ≡ (((not b || v) && o) && b)
in-both true true true = refl
in-both true true false = refl
in-both true false true = refl
in-both true false false = refl
in-both false true true = refl
in-both false true false = refl
in-both false false true = refl
in-both false false false = refl

out-both : (d f r : Bool) → ((d && f) && r) ≡ ((f && (not d || r)) && d)
out-both true true true = refl
out-both true true false = refl
out-both true false true = refl
out-both true false false = refl
out-both false true true = refl
out-both false true false = refl
out-both false false true = refl
out-both false false false = refl

-- how many samples have begun, and how many were handed over, after so many rows that moved
module _ (cycles latest : ℕ) (some : 1 ≤ cycles) where
  abbrev pub begun : ℕ → ℕ
  begun c = c / cycles + (if c % cycles == 0 then 0 else 1)

  abbrev pub given : ℕ → ℕ
  given c = c / cycles - latest

  more : (c : ℕ) → suc c ≡ c + 1
  more c = omega arith

  begun-zero : begun 0 ≡ 0
  begun-zero = (let p = zero-phase cycles some in let q = zero-sample cycles some in (λ i. q i + (if p i == 0 then 0 else 1)))

  pub begun-first : (c : ℕ) → c % cycles ≡ 0 → begun c ≡ c / cycles
  begun-first c e = ap (λ n. c / cycles + (if n == 0 then 0 else 1)) e ∙ omega arith

  begun-later : (c : ℕ) → c % cycles ≢ 0 → begun c ≡ c / cycles + 1
  begun-later c e = ap (λ (b : Bool). c / cycles + (if b then 0 else 1)) (ne_eqb (c % cycles) 0 e)

  -- the next number of begun samples
  begun-next-first : (c : ℕ) → c % cycles ≡ 0 → begun (suc c) ≡ suc (begun c)
  begun-next-first c e = ⊎_elim
      (λ last. begun-first (suc c) (ap (λ n. n % cycles) (more c) ∙ next-first cycles some c last) ∙ ap (λ n. n / cycles) (more c) ∙ next-sample cycles some c last
      ∙ (let b = begun-first c e in omega (arith, b)))
      (λ other.
      let phase = ap (λ n. n % cycles) (more c) ∙ next-phase cycles some c other in
      let same = ap (λ n. n / cycles) (more c) ∙ next-same cycles some c other in
      begun-later (suc c) (λ z. omega (arith, z, phase)) ∙ (let b = begun-first c e in omega (arith, b, same)))
      (cases-last c)
    where
      cases-last : (c : ℕ) → (c % cycles ≡ cycles - 1) ⊎ (c % cycles ≢ cycles - 1)
      cases-last c = ⊎_elim (λ t. inl (eqb-true (c % cycles) (cycles - 1) t)) (λ f. inr (eqb-false (c % cycles) (cycles - 1) f)) (cases_Bool (c % cycles == cycles - 1))

  begun-next-later : (c : ℕ) → c % cycles ≢ 0 → begun (suc c) ≡ begun c
  begun-next-later c e = ⊎_elim
      (λ last. begun-first (suc c) (ap (λ n. n % cycles) (more c) ∙ next-first cycles some c last) ∙ ap (λ n. n / cycles) (more c) ∙ next-sample cycles some c last
      ∙ sym (begun-later c e))
      (λ other.
      let phase = ap (λ n. n % cycles) (more c) ∙ next-phase cycles some c other in
      let same = ap (λ n. n / cycles) (more c) ∙ next-same cycles some c other in
      begun-later (suc c) (λ z. omega (arith, z, phase)) ∙ ap (λ n. n + 1) same ∙ sym (begun-later c e))
      (cases-last c)
    where
      cases-last : (c : ℕ) → (c % cycles ≡ cycles - 1) ⊎ (c % cycles ≢ cycles - 1)
      cases-last c = ⊎_elim (λ t. inl (eqb-true (c % cycles) (cycles - 1) t)) (λ f. inr (eqb-false (c % cycles) (cycles - 1) f)) (cases_Bool (c % cycles == cycles - 1))

  begun-step : (c : ℕ) (b : Bool) → (if b && c % cycles == 0 then suc (begun c) else begun c) ≡ begun (if b then suc c else c)
  begun-step c false = refl
  begun-step c true = ⊎_elim
      (λ t. cond-true (c % cycles == 0) (suc (begun c)) (begun c) t ∙ sym (begun-next-first c (eqb-true (c % cycles) 0 t)))
      (λ f. cond-false (c % cycles == 0) (suc (begun c)) (begun c) f ∙ sym (begun-next-later c (eqb-false (c % cycles) 0 f)))
      (cases_Bool (c % cycles == 0))

  given-step : (c : ℕ) (b : Bool) → (if b && (c % cycles == cycles - 1 && latest - c / cycles == 0) then suc (given c) else given c) ≡ given (if b then suc c else c)
  given-step c false = refl
  given-step c true = ⊎_elim
      (λ t.
      let sample = ap (λ n. n / cycles) (more c) ∙ next-sample cycles some c (eqb-true (c % cycles) (cycles - 1) t) in
      ⊎_elim
      (λ come. cond-true (c % cycles == cycles - 1 && latest - c / cycles == 0) (suc (given c)) (given c) ((λ i. t i && come i))
      ∙ (let z = eqb-true (latest - c / cycles) 0 come in omega (arith, z, sample)))
      (λ wait. cond-false (c % cycles == cycles - 1 && latest - c / cycles == 0) (suc (given c)) (given c) ((λ i. t i && wait i))
      ∙ (let z = eqb-false (latest - c / cycles) 0 wait in omega (arith, z, sample)))
      (cases_Bool (latest - c / cycles == 0)))
      (λ f. cond-false (c % cycles == cycles - 1 && latest - c / cycles == 0) (suc (given c)) (given c) (ap (λ x. x && latest - c / cycles == 0) f)
      ∙ sym (ap (λ n. n - latest) (ap (λ n. n / cycles) (more c) ∙ next-same cycles some c (eqb-false (c % cycles) (cycles - 1) f))))
      (cases_Bool (c % cycles == cycles - 1))

  given-zero : given 0 ≡ 0
  given-zero = let q = zero-sample cycles some in omega (arith, q)

-- ---- the rows of a run

-- a run of a module with the control, that is reset
pub record Setting (core m : Module) (counters : Counters) (window : Window) (start : Row) (inputs rows : Rows) : Type 0 where
  pub acyclic : IsAcyclic m
  pub clocked : no_reset m ≡ None
  pub has : HasControl m counters
  pub counts : CountFor core counters
  pub last : IsResetLast window inputs
  pub runs : Runs m window.rows start inputs rows

module _ {core m : Module} {counters : Counters} {window : Window} {start : Row} {inputs rows : Rows} (s : Setting core m counters window start inputs rows) where
  abbrev test : ℕ → Bool
  test place = moves counters (rows (row_at window place))

  pub at-place : (place : ℕ) → row_at window place < window.rows → At core (rows (row_at window place)) (counted (λ place. moves counters (rows (row_at window place))) place)
  at-place place below = counters-at core m counters s.acyclic s.clocked s.has s.counts window start inputs rows s.last s.runs place below

  abbrev F : ℕ
  F = clocks_of core

  abbrev K : ℕ
  K = latest_in core

  pub in-transfer : (place : ℕ) → row_at window place < window.rows
      → transfers in_side window rows place ≡ (moves counters (rows (row_at window place)) && begins counters (rows (row_at window place)))
  in-transfer place below =
      let row : Row = rows (row_at window place) in
      let ready = ap (λ n. n == 1) (ready-is m counters s.acyclic s.has window.rows start inputs rows s.runs (row_at window place) below) ∙ truth-one (begins counters row && opens counters row) in
      ap (λ b. row (codes "in_valid") == 1 && b) ready ∙ in-both (begins counters row) (opens counters row) (row (codes "in_valid") == 1)

  pub out-transfer : (place : ℕ) → row_at window place < window.rows
      → transfers out_side window rows place ≡ (moves counters (rows (row_at window place)) && due counters (rows (row_at window place)))
  out-transfer place below =
      let row : Row = rows (row_at window place) in
      let valid = ap (λ n. n == 1) (valid-is m counters s.acyclic s.has window.rows start inputs rows s.runs (row_at window place) below) ∙ truth-one (due counters row && fed counters row) in
      ap (λ b. b && row (codes "out_ready") == 1) valid ∙ out-both (due counters row) (fed counters row) (row (codes "out_ready") == 1)

  pub begins-is : (place : ℕ) → row_at window place < window.rows
      → begins counters (rows (row_at window place))
      ≡ (counted (λ place. moves counters (rows (row_at window place))) place % clocks_of core == 0)
  begins-is place below = ap (λ n. n == 0) (at-place place below).phase

  pub ends-is : (place : ℕ) → row_at window place < window.rows
      → ends counters (rows (row_at window place))
      ≡ (counted
      (λ place. moves counters (rows (row_at window place))) place % clocks_of core == clocks_of core - 1)
  ends-is place below = let at = at-place place below in (λ i. at.phase i == s.counts.phase i)

  due-here : (place : ℕ) → row_at window place < window.rows → due counters (rows (row_at window place)) ≡ (counted test place % F == F - 1 && K - counted test place / F == 0)
  due-here place below = let at = at-place place below in (λ i. ends-is place below i && at.wait i == 0)

  -- how many clocks pass a side, told by how many move
  passed : (passes : ℕ → Bool) (told : ℕ → ℕ) (when : ℕ → Bool) → told 0 ≡ 0 → ((place : ℕ) → row_at window place < window.rows → passes place ≡ (test place && when (counted test place)))
      → ((c : ℕ) (b : Bool) → (if b && when c then suc (told c) else told c) ≡ told (if b then suc c else c))
      → (place : ℕ) → row_at window place < window.rows → counted passes place ≡ told (counted test place)
  passed passes told when none each step zero below = sym none
  passed passes told when none each step (suc place) below =
      let inside : row_at window place < window.rows = omega (arith, below) in
      let before = passed passes told when none each step place inside in
      let here = each place inside in
      (λ i. if here i then suc (before i) else before i) ∙ step (counted test place) (test place)

  pub ins-are : (place : ℕ) → row_at window place < window.rows
      → counted (transfers in_side window rows) place
      ≡ begun (clocks_of core) (latest_in core) (some-cycles core)
      (counted (λ place. moves counters (rows (row_at window place))) place)
  ins-are =
      passed (transfers in_side window rows) (begun F K (some-cycles core)) (λ c. c % F == 0) (begun-zero F K (some-cycles core))
      (λ place below. in-transfer place below ∙ ap (λ b. test place && b) (begins-is place below)) (begun-step F K (some-cycles core))

  pub outs-are : (place : ℕ) → row_at window place < window.rows
      → counted (transfers out_side window rows) place
      ≡ given (clocks_of core) (latest_in core) (some-cycles core)
      (counted (λ place. moves counters (rows (row_at window place))) place)
  outs-are =
      passed (transfers out_side window rows) (given F K (some-cycles core)) (λ c. c % F == F - 1 && K - c / F == 0) (given-zero F K (some-cycles core))
      (λ place below. out-transfer place below ∙ ap (λ b. test place && b) (due-here place below)) (given-step F K (some-cycles core))

  -- the clock of a transfer out
  pub record IsOut (number place : ℕ) : Type 0 where
    pub moves-now : moves counters (rows (row_at window place)) ≡ true
    pub last-clock : counted (λ place. moves counters (rows (row_at window place))) place % clocks_of core ≡ clocks_of core - 1
    pub sample : counted (λ place. moves counters (rows (row_at window place))) place / clocks_of core ≡ number + latest_in core

  pub out-clock : (number place : ℕ) → IsTransfer out_side window rows number place → IsOut number place
  out-clock number place is =
      let both = and_parts (moves counters (rows (row_at window place))) (due counters (rows (row_at window place))) (sym (out-transfer place is.within) ∙ is.hands_over) in
      let parts = and_parts (counted test place % F == F - 1) (K - counted test place / F == 0) (sym (due-here place is.within) ∙ both.1) in
      let come = eqb-true (K - counted test place / F) 0 parts.1 in
      let number-is = sym is.earlier ∙ outs-are place is.within in
      record {
        moves-now = both.0;
        last-clock = eqb-true (counted test place % F) (F - 1) parts.0;
        sample = omega (arith, come, number-is);
      }
