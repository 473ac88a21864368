-- The slots of periods, line by line and period by period.
use Rattle.std.proofs.Common.{◌≡◌, ℕ, ◌+◌, ◌-◌, ◌*◌, ◌<◌, ◌≤◌, max, Bool, true, false, cond, Option, Some, None, List, [], ◌∷◌, ◌++◌, length, refl, sym, ap, subst, ◌∙◌, inl, inr, length-append, arith}
use Rattle.std.proofs.Common.{mul-le-mul_right}
use Rattle.std.specs.Prelude.{slice_get, slice_index, nat_lt, ◌&&◌, ◌==◌}
use Rattle.std.proofs.lemmas.Bool.{cases_lt, cases_eq, cond-true, cond-false, and_left, and_right, eqb-true, eq-eqb, ne_eqb, ltb-true}
use Rattle.std.proofs.lemmas.List.{take_all, get_or_past}
use Rattle.dg_model.specs.declared.diagram.Diagram.{Diagram}
use Rattle.dg_model.specs.declared.diagram.Block.{Block}
use Rattle.dg_model.specs.declared.diagram.Edge.{Edge}
use Rattle.dg_model.specs.declared.resolved.Resolved.{Resolved}
use Rattle.dg_model.specs.Attributes.{attributes_of}
use Rattle.dg_model.specs.Checked.{IsChecked}
use Rattle.dg_model.specs.Library.{row_of}
use Rattle.dg_model.specs.Periods.{periods_of}
use Rattle.dg_model.specs.Rate.{joins_periods}
use Rattle.dg_model.proofs.Propagation.{length_periods}
use Rattle.hw_latency.specs.Weight.{samples}
use Rattle.hw_slots.specs.declared.operation.Span.{Span}
use Rattle.math_list.proofs.Sums.{greatest_next}
use Rattle.hw_sched.specs.Slots.{shorter_into, start_of}
use Rattle.hw_sched.specs.inner.Spans.{AreCounted, AreLongestTo, AreLongest, AreSpansTo, AreSpans, longest_of, span_of}
use Rattle.hw_sched.proofs.Lists.{greatest_within}
use Rattle.hw_sched.proofs.Periods.{periods_are_short}
use Rattle.math_list.proofs.Places.{get_front, last_at}

-- ---- periods

pub samples_short : (diagram : Diagram) (place : ℕ) → IsChecked diagram → samples ((attributes_of diagram).period_at place) ≤ 4096
samples_short diagram place checked = go ((attributes_of diagram).period_at place) refl
  where
    go : (period : Option ℕ) → (attributes_of diagram).period_at place ≡ period → samples period ≤ 4096
    go None e = omega arith
    go (Some period) e = periods_are_short diagram place period checked e

pub samples_past : (diagram : Diagram) (place : ℕ) → length diagram.blocks ≤ place → samples ((attributes_of diagram).period_at place) ≡ 0
samples_past diagram place past = let size = length_periods diagram in ap samples (get_or_past (periods_of diagram) place None (omega (arith, size, past)))

-- the periods of the first blocks are no longer than this one
pub record AreWithin (diagram : Diagram) (count longest : ℕ) : Type 0 where
  pub are : (place : ℕ) → place < count → samples ((attributes_of diagram).period_at place) ≤ longest
  pub short : longest ≤ 4096

pub within_none : (diagram : Diagram) → AreWithin diagram 0 0
within_none diagram = record { are = λ place below. absurd (omega (arith, below)); short = omega arith }

pub within_more : (diagram : Diagram) (place longest next period : ℕ) → IsChecked diagram
    → period ≡ samples ((attributes_of diagram).period_at place) → next ≡ max longest period
    → AreWithin diagram place longest → AreWithin diagram (place + 1) next
within_more diagram place longest next period checked is most before = record {
  are = λ other below. elim (cases_lt other place) [
    | inl less ↦ let low = before.are other less in omega (arith, low, most)
    | inr past ↦
        let e : place ≡ other = omega (arith, past, below) in
        let same = ap (λ (n : ℕ). samples ((attributes_of diagram).period_at n)) e in
        omega (arith, same, is, most)
  ];
  short = let here = samples_short diagram place checked in let low = before.short in omega (arith, here, low, is, most);
}

pub counted_all : (diagram : Diagram) (count longest : ℕ) → length diagram.blocks ≤ count → AreWithin diagram count longest → AreCounted diagram (longest + 1)
counted_all diagram count longest past within = record {
  all = λ place. elim (cases_lt place count) [
    | inl less ↦ let low = within.are place less in omega (arith, low)
    | inr behind ↦ let none = samples_past diagram place (omega (arith, past, behind)) in omega (arith, none)
  ];
  few = let low = within.short in omega (arith, low);
}

-- ---- the shorter period that a line comes from

abbrev joins : Block → Bool
joins block = joins_periods (row_of block.kind).timing.reads

shorter_test : (own period source : ℕ) (joins : Bool) → own ≡ period → (joins && ((own == period) && nat_lt source period)) ≡ (joins && nat_lt source own)
shorter_test own period source joins same = ap (λ (p : ℕ). joins && ((own == p) && nat_lt source p)) (sym same) ∙ ap (λ (b : Bool). joins && (b && nat_lt source own)) (eq-eqb own own refl)

module _ (diagram : Diagram) (edge : Edge) where
  abbrev own : ℕ
  own = samples ((attributes_of diagram).period_at edge.to)

  abbrev source : ℕ
  source = samples ((attributes_of diagram).period_at edge.from)

  abbrev shorter : ℕ → ℕ
  shorter period = shorter_into (attributes_of diagram) period edge (slice_get diagram.blocks edge.to)

  pub shorter_at : (block : Block) → slice_get diagram.blocks edge.to ≡ Some block → shorter own ≡ cond (joins block && nat_lt source own) source 0
  shorter_at block at = ap (shorter_into (attributes_of diagram) own edge) at ∙ ap (λ (b : Bool). cond b source 0) (shorter_test own own source (joins block) refl)

  -- none into another period
  pub shorter_apart : (period : ℕ) → (own ≡ period → ⊥) → shorter period ≡ 0
  shorter_apart period differ = go (slice_get diagram.blocks edge.to)
    where
      go : (block : Option Block) → shorter_into (attributes_of diagram) period edge block ≡ 0
      go None = refl
      go (Some block) = cond-false (joins block && ((own == period) && nat_lt source period)) source 0
          (and_right (joins block) ((own == period) && nat_lt source period)
          (and_left (own == period) (nat_lt source period) (ne_eqb own period differ)))

  -- where there is one, the line ends at a block of the period
  pub shorter_there : (period : ℕ) → 0 < shorter period → (own ≡ period) × (0 < period)
  shorter_there period some = go (slice_get diagram.blocks edge.to) some
    where
      by : (joins same less : Bool) → nat_lt source period ≡ less → (own == period) ≡ same → 0 < cond (joins && (same && less)) source 0 → (own ≡ period) × (0 < period)
      by true true true l e low = let below = ltb-true source period l in (eqb-true own period e, omega (arith, below))
      by true true false l e low = absurd (omega (arith, low))
      by true false less l e low = absurd (omega (arith, low))
      by false same less l e low = absurd (omega (arith, low))

      go : (block : Option Block) → 0 < shorter_into (attributes_of diagram) period edge block → (own ≡ period) × (0 < period)
      go None low = absurd (omega (arith, low))
      go (Some block) low = by (joins block) (own == period) (nat_lt source period) refl refl low

  pub shorter_short : (period : ℕ) → IsChecked diagram → shorter period ≤ 4096
  shorter_short period checked = go (slice_get diagram.blocks edge.to)
    where
      by : (test : Bool) → cond test source 0 ≤ 4096
      by true = samples_short diagram edge.from checked
      by false = omega arith

      go : (block : Option Block) → shorter_into (attributes_of diagram) period edge block ≤ 4096
      go None = omega arith
      go (Some block) = by (joins block && ((own == period) && nat_lt source period))

  -- a list in which this one period is raised
  pub raised_at : (old new : List ℕ) (at : ℕ) → length new ≡ length old → at ≡ own
      → ((period : ℕ) → period < length old → slice_index new period ≡ cond (at == period) (max (slice_index old at) (shorter own)) (slice_index old period))
      → (period : ℕ) → period < length old → slice_index new period ≡ max (slice_index old period) (shorter period)
  raised_at old new at size is writes period below = elim (cases_eq own period) [
    | inl same ↦
        let here = writes period below ∙ cond-true (at == period) (max (slice_index old at) (shorter own)) (slice_index old period) (eq-eqb at period (is ∙ same)) in
        here ∙ ap (λ (n : ℕ). max (slice_index old n) (shorter own)) (is ∙ same) ∙ ap (λ (n : ℕ). max (slice_index old period) (shorter n)) same
    | inr differ ↦
        let there = writes period below ∙ cond-false (at == period) (max (slice_index old at) (shorter own)) (slice_index old period) (ne_eqb at period (λ e. differ (sym is ∙ e))) in
        let none = shorter_apart period differ in
        omega (arith, there, none)
  ]

-- ---- all lines

module _ (diagram : Diagram) where
  pub longest_none : (longest : List ℕ) → AreCounted diagram (length longest) → ((period : ℕ) → slice_index longest period ≡ 0) → AreLongestTo diagram 0 longest
  longest_none longest counted none = record { counted = counted; are = λ period below. none period }

  pub longest_more : (i : ℕ) (edge : Edge) (old new : List ℕ) → slice_get diagram.edges i ≡ Some edge → length new ≡ length old
      → ((period : ℕ) → period < length old → slice_index new period ≡ max (slice_index old period) (shorter_into (attributes_of diagram) period edge (slice_get diagram.blocks edge.to)))
      → AreLongestTo diagram i old → AreLongestTo diagram (i + 1) new
  longest_more i edge old new at size raised before = record {
    counted = subst (AreCounted diagram) (sym size) before.counted;
    are = λ period below.
        let low : period < length old = omega (arith, below, size) in
        let next = greatest_next (λ (e : Edge). shorter_into (attributes_of diagram) period e (slice_get diagram.blocks e.to)) diagram.edges i edge at in
        let was = before.are period low in
        let here = raised period low in
        omega (arith, next, was, here);
  }

  pub longest_end : (i : ℕ) (longest : List ℕ) → IsChecked diagram → length diagram.edges ≤ i → AreLongestTo diagram i longest → AreLongest diagram longest
  longest_end i longest checked past to = record {
    counted = to.counted;
    are = λ period below. whole period below;
    short = λ period. elim (cases_lt period (length longest)) [
      | inl below ↦
          let is = whole period below in
          let low = greatest_within (λ (e : Edge). shorter_into (attributes_of diagram) period e
          (slice_get diagram.blocks e.to)) 4096 diagram.edges
          (λ k e at. shorter_short diagram e period checked) in
          omega (arith, is, low)
      | inr behind ↦ let none = get_or_past longest period 0 behind in omega (arith, none)
    ];
  }
    where
      whole : (period : ℕ) → period < length longest → slice_index longest period ≡ longest_of diagram diagram.edges period
      whole period below = to.are period below ∙ ap (λ (edges : List Edge). longest_of diagram edges period) (take_all i diagram.edges past)

-- ---- all periods

abbrev span : ℕ → ℕ → Span
span start have = record { start = start; have = have }

module _ (diagram : Diagram) (plan : Resolved) where
  pub spans_none : (spans : List Span) → spans ≡ [] → AreSpansTo diagram plan 0 spans
  spans_none spans none = record { size = ap (λ (xs : List Span). length xs) none; are = λ period below. absurd (omega (arith, below)) }

  -- a product of a period and a plan's clocks is small
  pub few_clocks : (period : ℕ) → period ≤ 4096 → plan.cycles ≤ 1024 → period * plan.cycles ≤ 4194304
  few_clocks period short few =
      let one = mul-le-mul_right {m = period} {n = 4096} plan.cycles short in
      omega (arith, one, few)

  pub spans_more : (period : ℕ) (longest : List ℕ) (spans : List Span) (start have : ℕ) → AreLongest diagram longest
      → period < length longest → start ≡ slice_index longest period * plan.cycles → have ≡ period * plan.cycles - 1
      → AreSpansTo diagram plan period spans → AreSpansTo diagram plan (period + 1) (spans ++ span start have ∷ [])
  spans_more period longest spans start have known below starts haves before = record {
    size = let push = length-append spans (span start have ∷ []) in let was = before.size in omega (arith, push, was);
    are = λ other low. elim (cases_lt other period) [
      | inl less ↦ get_front spans (span start have ∷ []) other (let was = before.size in omega (arith, less, was)) ∙ before.are other less
      | inr past ↦
          let e : period ≡ other = omega (arith, past, low) in
          let is : span start have ≡ span_of diagram plan period =
          ap (λ (n : ℕ). span n have) (starts ∙ ap (λ (n : ℕ). n * plan.cycles) (known.are period below)) ∙ ap (span (start_of diagram (attributes_of diagram) plan period)) haves in
          subst (λ (n : ℕ). slice_get (spans ++ span start have ∷ []) n ≡ Some (span_of diagram plan n)) e
          (ap (slice_get (spans ++ span start have ∷ [])) (sym before.size) ∙ last_at spans (span start have) ∙ ap (λ (s : Span). Some s) is)
    ];
  }

  pub spans_end : (period : ℕ) (longest : List ℕ) (spans : List Span) → AreLongest diagram longest
      → length longest ≤ period → period ≤ length longest → AreSpansTo diagram plan period spans
      → AreSpans diagram plan spans
  spans_end period longest spans known past within to =
      let e : length longest ≡ length spans = let size = to.size in omega (arith, past, within, size) in
      record {
        counted = subst (AreCounted diagram) e known.counted;
        are = λ other below. to.are other (let size = to.size in omega (arith, below, size));
      }
