-- The delays and the products of a filter run with its sum.
use Rattle.std.proofs.Common.{◌≡◌, ℕ, zero, suc, ◌<◌, ◌⊎◌, Bool, true, false, true≢false, not, cond, inl, inr, List, [], ◌∷◌, length, find, Option, Some, None, slice_get, replicate, ap, sym, ◌∙◌}
use Rattle.std.proofs.Common.{subst, refl, arith, eqb-true}
use Rattle.std.proofs.lemmas.List.{length-replicate}
use Rattle.std.proofs.lemmas.Bool.{not-false}
use Rattle.std.proofs.lemmas.Option.{same_Some}
use Rattle.fx_type.specs.declared.spec.TypeSpec.TheVariants.{Internal}
use Rattle.math_list.proofs.Places.{held, get_some, get_left, there_map}
use Rattle.dg_model.specs.declared.diagram.Block.{Block}
use Rattle.dg_model.specs.declared.diagram.Diagram.{Diagram}
use Rattle.dg_model.specs.declared.diagram.Edge.{Edge}
use Rattle.dg_model.specs.declared.kind.Kind.{Kind}
use Rattle.dg_model.specs.declared.kind.Kind.TheVariants.{Delay, Gain, Sum}
use Rattle.dg_model.specs.Checked.{IsChecked}
use Rattle.dg_model.specs.Convolution.{Taps, IsFilter, IsKindAt, tap, product, sum_of}
use Rattle.dg_model.specs.Library.{row_of}
use Rattle.dg_model.specs.Periods.{Period, drivers_of, control_of, periods_of, period_at}
use Rattle.dg_model.specs.Rate.{joins_periods, suits, asked_of}
use Rattle.dg_model.specs.Readable.{IsReadable, HasPorts}
use Rattle.dg_model.specs.Wires.{driver_of, edges_into}
use Rattle.dg_tables.proofs.Edges.{edge_at}
use Rattle.hw_sched.specs.Laws.{MovingHavePeriods, is_moving}

-- what a search that finds none passes over
passed_by : {A : Type 0} (test : A → Bool) (first : A) (xs : List A)
    → ((k : ℕ) (x : A) → find test xs ≡ None → slice_get xs k ≡ Some x → test x ≡ false) → (b : Bool)
    → test first ≡ b → cond b (Some first) (find test xs) ≡ None
    → (k : ℕ) (x : A) → slice_get (first ∷ xs) k ≡ Some x → test x ≡ false
passed_by {A} test first xs again true is none k x at = let bad : ◌≡◌ {A = Option A} (Some first) None = none in absurd (cc)
passed_by test first xs again false is none zero x at = ap test (sym (same_Some first x at)) ∙ is
passed_by test first xs again false is none (suc k) x at = again k x none at

passed : {A : Type 0} (test : A → Bool) (xs : List A) (k : ℕ) (x : A) → find test xs ≡ None → slice_get xs k ≡ Some x → test x ≡ false
passed {A} test [] k x none at = let bad : ◌≡◌ {A = Option A} None (Some x) = at in absurd (cc)
passed test (first ∷ xs) k x none at = passed_by test first xs (λ j y. passed test xs j y) (test first) refl none k x at

-- ---- periods that suit

-- a source of a period suits no block of another
own_is : (own : Period) (source : ℕ) → suits false own (Some source) ≡ true → own ≡ Some source
own_is None source is = absurd (true≢false (sym is))
own_is (Some own) source is = ap (λ (n : ℕ). Some n) (eqb-true own source is)

-- what suits a block whose value never changes doesn't change
source_is : (source : Period) → suits false None source ≡ true → source ≡ None
source_is None is = refl
source_is (Some source) is = absurd (true≢false (sym is))

module _ (diagram : Diagram) (checked : IsChecked diagram) where
  abbrev periods : List Period
  periods = periods_of diagram

  ports : (place : ℕ) (kind : Kind) (b : Block) → IsKindAt diagram place kind b → HasPorts kind b.inputs b.outputs
  ports place kind b is = subst (λ (k : Kind). HasPorts k b.inputs b.outputs) is.kind_is (held IsReadable diagram.blocks place b checked.wired.blocks is.block_is).ports

  asked_there : (place : ℕ) (b : Block) (own : Period) (i from : ℕ) → slice_get (drivers_of diagram place) i ≡ Some from → slice_get (asked_of diagram own place b) i ≡ Some from
  asked_there place b None i from at = at
  asked_there place b (Some own) i from at = get_left (drivers_of diagram place) (control_of b) i from at

  -- the source of an input suits a block that doesn't join two periods
  suits_at : (place : ℕ) (kind : Kind) (b : Block) → IsKindAt diagram place kind b
      → joins_periods (row_of kind).timing.reads ≡ false → (i : ℕ) → i < b.inputs → (edge : Edge)
      → driver_of diagram place (suc i) ≡ Some edge
      → suits false (period_at (periods_of diagram) place) (period_at (periods_of diagram) edge.from) ≡ true
  suits_at place kind b is joins i below edge driver =
      let own = edge_at diagram checked.wired place b is.block_is i below in
      let same : own.0 ≡ edge = same_Some own.0 edge (sym own.2 ∙ driver) in
      let listed : slice_get (drivers_of diagram place) i ≡ Some edge.from = there_map (λ (e : Edge). e.from) (edges_into diagram place) i own.0 own.1 ∙ ap (λ (e : Edge). Some e.from) same in
      let asked = asked_there place b (period_at (periods_of diagram) place) i edge.from listed in
      let test = passed (λ source. not (suits (joins_periods (row_of b.kind).timing.reads)
      (period_at (periods_of diagram) place) (period_at (periods_of diagram) source)))
      (asked_of diagram (period_at (periods_of diagram) place) place b) i edge.from
      (checked.rates.periods place b is.block_is) asked in
      let suited = not-false (suits (joins_periods (row_of b.kind).timing.reads) (period_at (periods_of diagram) place) (period_at (periods_of diagram) edge.from)) test in
      subst (λ (j : Bool). suits j (period_at (periods_of diagram) place) (period_at (periods_of diagram) edge.from)
      ≡ true) (ap (λ (k : Kind). joins_periods (row_of k).timing.reads) is.kind_is ∙ joins) suited

  -- ---- a filter

  module _ (moving : MovingHavePeriods) (first : ℕ) (taps : Taps) (sum : Block) (enable : Option ℕ) (reset : Bool) (filter : IsFilter diagram first taps sum enable reset) where
    abbrev count : ℕ
    count = length taps.coefficients

    abbrev period : ℕ → Period
    period place = period_at (periods_of diagram) place

    delay_suits : (k : ℕ) → suc k < count → suits false (period (tap first (suc k))) (period (tap first k)) ≡ true
    delay_suits k inside =
        let value = get_some taps.initial k (omega (arith, inside, filter.values)) in
        let delay = filter.delays k value.0 value.1 in
        let inputs : delay.0.inputs ≡ 1 = (ports (tap first (suc k)) (Delay 1 (value.0 ∷ []) reset) delay.0 delay.1).0 in
        suits_at (tap first (suc k)) (Delay 1 (value.0 ∷ []) reset) delay.0 delay.1 refl 0 (omega (arith, inputs)) _ delay.3

    delay_moves : (k : ℕ) → suc k < count → (own : ℕ) × (period (tap first (suc k)) ≡ Some own)
    delay_moves k inside =
        let value = get_some taps.initial k (omega (arith, inside, filter.values)) in
        let delay = filter.delays k value.0 value.1 in
        moving diagram (tap first (suc k)) delay.0 checked delay.1.block_is (ap (λ (kind : Kind). is_moving (row_of kind).timing.inherits) delay.1.kind_is)

    -- the delays have one period
    pub delays_together : (k : ℕ) → suc k < count → period (tap first (suc k)) ≡ period (tap first 1)
    delays_together zero inside = refl
    delays_together (suc k) inside =
        let before = delay_moves k (omega (arith, inside)) in
        let suited : suits false (period (tap first (suc (suc k)))) (Some before.0) ≡ true =
        subst (λ (p : Period). suits false (period (tap first (suc (suc k)))) p ≡ true) before.1
        (delay_suits (suc k) inside) in
        own_is (period (tap first (suc (suc k)))) before.0 suited ∙ sym before.1 ∙ delays_together k (omega (arith, inside))

    product_suits : (k : ℕ) → k < count → suits false (period (product first taps k)) (period (tap first k)) ≡ true
    product_suits k inside =
        let coefficient = get_some taps.coefficients k inside in
        let gain = filter.products k coefficient.0 coefficient.1 in
        let inputs : gain.0.inputs ≡ 1 = (ports (product first taps k) (Gain (coefficient.0 ∷ []) taps.param) gain.0 gain.1).0 in
        suits_at (product first taps k) (Gain (coefficient.0 ∷ []) taps.param) gain.0 gain.1 refl 0 (omega (arith, inputs)) _ gain.3

    sum_suits : (k : ℕ) → k < count → suits false (period (sum_of first taps)) (period (product first taps k)) ≡ true
    sum_suits k inside =
        let coefficient = get_some taps.coefficients k inside in
        let gain = filter.products k coefficient.0 coefficient.1 in
        let inputs : sum.inputs ≡ count = (ports (sum_of first taps) (Sum (replicate (length taps.coefficients) false) Internal) sum filter.total).0 ∙ length-replicate count false in
        suits_at (sum_of first taps) (Sum (replicate (length taps.coefficients) false) Internal) sum filter.total refl k (omega (arith, inside, inputs)) _ gain.4

    -- and the sum has it
    product_moves : (k own : ℕ) → k < count → period (tap first k) ≡ Some own → period (product first taps k) ≡ Some own
    product_moves k own inside is = own_is (period (product first taps k)) own (subst (λ (p : Period). suits false (period (product first taps k)) p ≡ true) is (product_suits k inside))

    sum_moves : (k own : ℕ) → k < count → period (product first taps k) ≡ Some own → period (sum_of first taps) ≡ Some own
    sum_moves k own inside is = own_is (period (sum_of first taps)) own (subst (λ (p : Period). suits false (period (sum_of first taps)) p ≡ true) is (sum_suits k inside))

    one : (own : ℕ) × (period (tap first 1) ≡ Some own)
    one = delay_moves 0 (omega (arith, filter.some))

    sum_is : period (sum_of first taps) ≡ Some one.0
    sum_is = sum_moves 1 one.0 (omega (arith, filter.some)) (product_moves 1 one.0 (omega (arith, filter.some)) one.1)

    pub sum_together : period (tap first 1) ≡ period (sum_of first taps)
    sum_together = one.1 ∙ sym sum_is

    -- each product runs with it, or neither that nor its tap ever changes
    pub products_together : (k : ℕ) → k < count → (period (product first taps k) ≡ period (sum_of first taps)) ⊎ ((period (product first taps k) ≡ None) × (period (tap first k) ≡ None))
    products_together k inside = by (period (product first taps k)) refl
      where
        by : (own : Period) → period (product first taps k) ≡ own
            → (period (product first taps k) ≡ period (sum_of first taps))
            ⊎ ((period (product first taps k) ≡ None) × (period (tap first k) ≡ None))
        by None is = inr (is, source_is (period (tap first k)) (subst (λ (p : Period). suits false p (period (tap first k)) ≡ true) is (product_suits k inside)))
        by (Some own) is = inl (is ∙ sym (sum_moves k own inside is))
