-- Rows that all count: of a module without `clk_enable`, and where it is 1 in every row.
use Rattle.std.proofs.Common.{◌≡◌, ◌<◌, ◌≤◌, ◌+◌, ◌-◌, ℕ, zero, suc, Bool, true, false, not, ◌||◌, ◌==◌, List, codes, ℤ, refl, sym, ap, subst, ◌∙◌, arith}
use Rattle.std.proofs.lemmas.Bool.{eq-eqb}
use Rattle.vl_ast.specs.declared.modules.Module.{Module}
use Rattle.vl_ast.specs.Control.{is_stallable}
use Rattle.vl_ast.specs.Driven.{Driven, IsEnabled}
use Rattle.vl_ast.specs.Runs.{Row, Rows}
use Rattle.vl_ast.specs.Stalls.{AreThinned, thin_window}
use Rattle.vl_ast.specs.Value.{bits_of}
use Rattle.vl_ast.specs.Windows.{PortNumbers, Window, row_at, Shows, counted, counts_at, IsClock}
use Rattle.vl_ast.proofs.Thin.{counted-yes, counted-above}

pub counted-all : (test : ℕ → Bool) (many : ℕ) → ((j : ℕ) → j < many → test j ≡ true) → counted test many ≡ many
counted-all test zero all = refl
counted-all test (suc many) all = counted-yes test many (all many (omega arith)) ∙ ap suc (counted-all test many (λ j below. all j (omega (arith, below))))

module _ (m : Module) (window : Window) (inputs : Rows) where
  -- every row behind the last with `reset` counts
  abbrev pub AllCount : Type 0
  AllCount = (j : ℕ) → row_at window j < window.rows → counts_at m window inputs j ≡ true

  pub unstallable-count : is_stallable m ≡ false → AllCount
  unstallable-count e j below = ap (λ s. not s || inputs (row_at window j) (codes "clk_enable") == 1) e

  pub enabled-count : IsEnabled window inputs → AllCount
  enabled-count on j below = by (not (is_stallable m)) (eq-eqb (inputs (row_at window j) (codes "clk_enable")) 1 (on.at (row_at window j) below)) where
    by : (s : Bool) {t : Bool} → t ≡ true → (s || t) ≡ true
    by true e = refl
    by false e = e

  -- then the clocks are the places
  pub clock-place : AllCount → (clock place : ℕ) → IsClock m window inputs clock place → clock ≡ place
  clock-place all clock place is =
      let w = is.within in
      sym is.number ∙ counted-all (counts_at m window inputs) place (λ j below. all j (omega (arith, w, below)))

  pub place-clock : AllCount → (place : ℕ) → row_at window place < window.rows → IsClock m window inputs place place
  place-clock all place w = record { within = w; counts = all place w; number = counted-all (counts_at m window inputs) place (λ j below. all j (omega (arith, w, below))) }

  -- what a name has in the rows at places it shows at clocks
  pub shows-clocks : AllCount → (rows : Rows) (name : List ℕ) (width : ℕ) (number : ℤ) (from until : ℕ)
      → ((place : ℕ) → from ≤ place → place < until → row_at window place < window.rows → rows (row_at window place) name ≡ bits_of width number)
      → Shows m window inputs rows name width number from until
  shows-clocks all rows name width number from until shows clock place since before is =
      let e = clock-place all clock place is in
      let w = is.within in
      subst (λ p. rows (row_at window p) name ≡ bits_of width number) e (shows clock since before (subst (λ p. row_at window p < window.rows) (sym e) w))

-- ---- from a run without stalls

module _ (m : Module) (window : Window) (inputs rows : Rows) (thinned : AreThinned m window inputs rows) where
  abbrev thin : Window
  thin = thin_window m window inputs

  all-thin : AllCount m thin thinned.thin_inputs
  all-thin = enabled-count m thin thinned.thin_inputs thinned.enabled

  -- what stands in all places of two windows that have the same row at a clock
  pub thinned-driven : (stimulus : PortNumbers) (samples : ℕ) → Driven m stimulus samples window inputs → Driven m stimulus samples thin thinned.thin_inputs
  thinned-driven stimulus samples d = record {
    reset = thinned.reset;
    shows = λ cycles ec place port es period ep t sample at clock k since before is.
        let e = clock-place m thin thinned.thin_inputs all-thin clock k is in
        let w = is.within in
        let its = thinned.found clock (omega (arith, e, w)) in
        let here : 0 + 1 + k ≡ suc clock = omega (arith, e) in
        ap (λ j. thinned.thin_inputs j port.name) here
        ∙ ap (λ (r : Row). r port.name) (thinned.inputs_are clock its.0 its.1)
        ∙ d.shows cycles ec place port es period ep t sample at clock its.0 since before its.1;
  }

  pub thinned-shows : (name : List ℕ) (width : ℕ) (number : ℤ) (from until : ℕ) → Shows m thin thinned.thin_inputs thinned.thin_rows name width number from until
      → Shows m window inputs rows name width number from until
  thinned-shows name width number from until shows clock place since before is =
      let w = is.within in
      let above = counted-above (counts_at m window inputs) (window.rows - (window.last_reset + 1)) place (omega (arith, w)) is.counts in
      let n = is.number in
      let within : row_at thin clock < thin.rows = omega (arith, above, n) in
      let here : 0 + 1 + clock ≡ suc clock = omega arith in
      ap (λ (r : Row). r name) (sym (thinned.rows_are clock place is))
      ∙ ap (λ j. thinned.thin_rows j name) (sym here)
      ∙ shows clock clock since before (place-clock m thin thinned.thin_inputs all-thin clock within)
