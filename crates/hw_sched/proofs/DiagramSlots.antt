-- The slots of numbered operations are those of the diagram, and so is the first period that has too few.
use Rattle.std.proofs.Common.{◌≡◌, ℕ, zero, suc, ◌*◌, ◌<◌, Bool, true, false, cond, Option, Some, None, List, [], ◌∷◌, length, map, refl, sym, ap, subst, ◌∙◌, inl, inr, arith}
use Rattle.std.specs.Prelude.{slice_get, ◌==◌, if◌then◌else◌}
use Rattle.std.proofs.lemmas.Bool.{cases_lt, eqb-true}
use Rattle.std.proofs.lemmas.List.{length-map}
use Rattle.std.proofs.lemmas.Option.{same_Some, slice_get_within}
use Rattle.dg_model.specs.declared.diagram.Diagram.{Diagram}
use Rattle.dg_model.specs.declared.diagram.Edge.{Edge}
use Rattle.dg_model.specs.declared.fault.Shown.TheVariants.{Budget}
use Rattle.dg_model.specs.declared.resolved.Resolved.{Resolved}
use Rattle.dg_model.specs.declared.rule.Rule.{Rule}
use Rattle.dg_model.specs.Attributes.{attributes_of}
use Rattle.dg_model.specs.Signals.{Attributes}
use Rattle.dg_model.specs.Faults.{fault_of}
use Rattle.math_list.specs.Numbers.{greatest}
use Rattle.hw_latency.specs.declared.latencies.Latencies.{Latencies}
use Rattle.hw_latency.specs.Weight.{samples}
use Rattle.hw_slots.specs.declared.operation.Operation.{Operation as Cell}
use Rattle.hw_slots.specs.declared.operation.Span.{Span}
use Rattle.hw_slots.specs.declared.slots.Slots.{Slots as Made}
use Rattle.hw_slots.specs.Slots.{base_slot as base_in, levels_of as levels_in, need_of as need_in, slot_of as slot_in, unit_of as unit_in}
use Rattle.hw_slots.specs.Answer.{AreSlots as AreMade, IsShort, IsSlotFault}
use Rattle.hw_sched.specs.Slots.{Timing, Operation, shared_operations, shorter_into, start_of, base_slot, level_of, levels_of, need_of, have_of, kind_of}
use Rattle.hw_sched.specs.Budget.{IsPeriodOf, BreaksBudget}
use Rattle.hw_sched.specs.Scheduled.{IsTimingOf}
use Rattle.hw_sched.specs.Laws.{IsOperation}
use Rattle.hw_sched.specs.Numbered.{all_kinds, cell_of, cells_of}
use Rattle.hw_sched.specs.Answer.{AreSlots, IsBudgetFault, timing_of}
use Rattle.hw_sched.specs.Level.{AreDepths}
use Rattle.hw_sched.specs.Ready.{AreReady}
use Rattle.hw_slots.specs.declared.slots.SlotFault.{SlotFault}
use Rattle.hw_slots.specs.declared.slots.SlotFault.TheVariants.{Budget as Short, OutOfMemory}
use Rattle.hw_latency.specs.Latency.{AreLatencies}
use Rattle.hw_sched.specs.inner.Cells.{AreCells}
use Rattle.hw_sched.specs.inner.Spans.{AreSpans, span_of}
use Rattle.hw_sched.specs.inner.Service.{AreBases, IsServed}
use Rattle.hw_sched.specs.declared.cells.Cells.{Cells}
use Rattle.math_list.proofs.Places.{there_map}
use Rattle.hw_sched.proofs.Bases.{of_shared}
use Rattle.hw_sched.proofs.Service.{have_periods}
use Rattle.hw_sched.proofs.Units.{own_listed}
use Rattle.hw_sched.proofs.SlotNumbers.{numbered, bases_as}
use Rattle.hw_sched.proofs.KindNumbers.{number_below}
use Rattle.hw_sched.proofs.SpanLines.{shorter_there}

-- ---- results

-- ---- lists

nothing : {A : Type 0} (xs : List A) → ((k : ℕ) (x : A) → slice_get xs k ≡ Some x → ⊥) → xs ≡ []
nothing [] none = refl
nothing (x ∷ xs) none = absurd (none 0 x refl)

found_greatest : {A : Type 0} (f : A → ℕ) (xs : List A) → 0 < greatest (map f xs) → (k : ℕ) × (x : A) × (slice_get xs k ≡ Some x) × (0 < f x)
found_greatest f [] some = absurd (omega (arith, some))
found_greatest f (x ∷ xs) some = elim (cases_lt 0 (f x)) [
  | inl here ↦ (0, x, refl, here)
  | inr none ↦ let more = found_greatest f xs (omega (arith, some, none)) in (suc more.0, more.1, more.2, more.3)
]

factor : (n m : ℕ) → 0 < n * m → 0 < n
factor zero m some = absurd (omega (arith, some))
factor (suc n) m some = omega arith

-- ---- periods

some_samples : (period : Option ℕ) (n : ℕ) → samples period ≡ n → 0 < n → period ≡ Some n
some_samples None n is some = absurd (omega (arith, is, some))
some_samples (Some period) n is some = ap (λ (k : ℕ). Some k) is

module _ (diagram : Diagram) (plan : Resolved) (timing : Timing) where
  abbrev attributes : Attributes
  attributes = attributes_of diagram

  abbrev all : List Operation
  all = shared_operations diagram attributes plan

  abbrev cells : List Cell
  cells = cells_of diagram attributes plan timing

  abbrev period : ℕ → ℕ
  period place = samples (attributes.period_at place)

  abbrev start : ℕ → ℕ
  start p = start_of diagram attributes plan p

  period_of_level : (p : ℕ) (o : Operation) (number : ℕ) (test : Bool)
      → IsOperation diagram attributes plan number o → (period o.block == p) ≡ test
      → 0 < cond test (suc (level_of timing o)) 0 → IsPeriodOf diagram p
  period_of_level p o number true at e some =
      let has = have_periods diagram attributes plan number o at in
      let same : has.0 ≡ p = sym (ap samples has.1) ∙ eqb-true (period o.block) p e in
      record { place = o.block; is = has.1 ∙ ap (λ (n : ℕ). Some n) same }
  period_of_level p o number false at e some = absurd (omega (arith, some))

  -- a period that needs slots is one of a block
  needed_is : (p : ℕ) → 0 < need_of diagram attributes plan timing p → IsPeriodOf diagram p
  needed_is p some = elim (cases_lt 0 (levels_of diagram attributes plan timing p)) [
    | inl levels ↦
        let found = found_greatest (λ (o : Operation). if period o.block == p then suc (level_of timing o) else 0) all levels in
        period_of_level p found.1 found.0 (period found.1.block == p) found.2 refl found.3
    | inr none ↦
        let zero_levels : levels_of diagram attributes plan timing p ≡ 0 = omega (arith, none) in
        let need = ap (base_slot diagram attributes plan timing p) zero_levels in
        let starts : 0 < start p = omega (arith, some, need) in
        let longest = greatest (map (λ (e : Edge). shorter_into attributes p e (slice_get diagram.blocks e.to)) diagram.edges) in
        let positive : 0 < longest = factor longest plan.cycles starts in
        let found = found_greatest (λ (e : Edge). shorter_into attributes p e (slice_get diagram.blocks e.to)) diagram.edges positive in
        let there = shorter_there diagram found.1 p found.3 in
        record { place = found.1.to; is = some_samples (attributes.period_at found.1.to) p there.0 there.1 }
  ]

  -- ---- any number of multipliers will do for no operation

  module _ (multipliers : ℕ) (is : 0 < plan.multipliers → multipliers ≡ plan.multipliers) where
    none_shared : plan.multipliers ≡ 0 → cells ≡ []
    none_shared none = ap (λ (os : List Operation). map (cell_of diagram attributes plan timing) os)
        (nothing all (λ k o at. let some = (of_shared diagram attributes plan timing k o at).some in omega (arith, some, none)))

    any_base : (m s p level : ℕ) → plan.multipliers ≡ m → base_in cells multipliers s p level ≡ base_in cells plan.multipliers s p level
    any_base zero s p level none = subst (λ (cs : List Cell). base_in cs multipliers s p level ≡ base_in cs plan.multipliers s p level) (sym (none_shared none)) refl
    any_base (suc m) s p level some = ap (λ (k : ℕ). base_in cells k s p level) (is (omega (arith, some)))

    base_is : (p level : ℕ) → base_in cells multipliers (start p) p level ≡ base_slot diagram attributes plan timing p level
    base_is p level = any_base plan.multipliers (start p) p level refl ∙ bases_as diagram attributes plan timing p level

    need_is : (p : ℕ) → need_in cells multipliers (start p) p ≡ need_of diagram attributes plan timing p
    need_is p = any_base plan.multipliers (start p) p (levels_in cells p) refl ∙ (numbered diagram attributes plan timing).needs p

    multipliers_are : (number : ℕ) (o : Operation) → IsOperation diagram attributes plan number o → multipliers ≡ plan.multipliers
    multipliers_are number o at = is (of_shared diagram attributes plan timing number o at).some

    -- ---- what is served

    module _ (made_cells : Cells) (are : AreCells diagram plan timing made_cells) (spans : List Span) (spanned : AreSpans diagram plan spans) where
      span_at : (p : ℕ) → p < length spans → slice_get spans p ≡ Some (span_of diagram plan p)
      span_at p below = spanned.are p below

      period_below : (place : ℕ) → period place < length spans
      period_below place = spanned.counted.all place

      cell_at : (number : ℕ) (o : Operation) → IsOperation diagram attributes plan number o → slice_get cells number ≡ Some (cell_of diagram attributes plan timing o)
      cell_at number o at = there_map (cell_of diagram attributes plan timing) all number o at

      below : (number : ℕ) (o : Operation) → IsOperation diagram attributes plan number o → number < length cells
      below number o at = slice_get_within cells number (cell_of diagram attributes plan timing o) (cell_at number o at)

      is_served_by : (made : Made) → AreMade cells multipliers spans (length (all_kinds diagram attributes plan timing)) made → IsServed diagram plan timing made
      is_served_by made by = record {
        budget = record {
          keeps = λ p there.
              let low : p < length spans = let e = ap samples there.is in let within = period_below there.place in omega (arith, e, within) in
              let need = need_is p in
              let fits = by.keeps p (span_of diagram plan p) (span_at p low) in
              omega (arith, need, fits);
        };
        starts = record {
          size = by.starts.size ∙ length-map all (cell_of diagram attributes plan timing);
          are = λ number o at.
              by.starts.are number (cell_of diagram attributes plan timing o)
              (span_of diagram plan (period o.block)) (below number o at) (cell_at number o at)
              (span_at (period o.block) (period_below o.block))
              ∙ ap (λ (k : ℕ). Some (slot_in cells k (start (period o.block)) number (cell_of diagram attributes plan timing o))) (multipliers_are number o at)
              ∙ ap (λ (n : ℕ). Some n) ((numbered diagram attributes plan timing).slots number o at);
        };
        units = record {
          size = by.units.size ∙ length-map all (cell_of diagram attributes plan timing);
          are = λ number o at.
              by.units.are number (cell_of diagram attributes plan timing o) (below number o at) (cell_at number o at)
              (number_below (all_kinds diagram attributes plan timing) (kind_of diagram attributes timing o) (own_listed diagram attributes plan timing all [] number o at))
              ∙ ap (λ (k : ℕ). Some (unit_in cells k number (cell_of diagram attributes plan timing o))) (multipliers_are number o at)
              ∙ ap (λ (n : ℕ). Some n) ((numbered diagram attributes plan timing).units number o at);
        };
        bases = record {
          are = λ place level.
              by.bases.are (period place) level (span_of diagram plan (period place)) (span_at (period place) (period_below place)) ∙ base_is (period place) level;
        };
      }

      -- the operations as they were numbered
      pub is_served : (kinds : ℕ) (made : Made) → kinds ≡ made_cells.numbers.count → AreMade made_cells.operations.items multipliers spans kinds made → IsServed diagram plan timing made
      is_served kinds made many by =
          is_served_by made (subst (λ (cs : List Cell). AreMade cs multipliers spans (length (all_kinds diagram attributes plan timing)) made) are.listed
          (subst (λ (n : ℕ). AreMade made_cells.operations.items multipliers spans n made) (many ∙ are.kinds) by))

      -- ---- the first period that has too few slots

      breaks_by : (p need have : ℕ) → IsShort cells multipliers spans p need have → BreaksBudget diagram plan timing (fault_of Rule.Budget [] (Budget p need have))
      breaks_by p need have short =
          let low : p < length spans = slice_get_within spans p short.span short.at in
          let span : short.span ≡ span_of diagram plan p = same_Some short.span (span_of diagram plan p) (sym short.at ∙ span_at p low) in
          let has : have ≡ have_of plan p = short.has ∙ ap (λ (s : Span). s.have) span in
          let needs : need ≡ need_of diagram attributes plan timing p = short.needs ∙ ap (λ (s : Span). need_in cells multipliers s.start p) span ∙ need_is p in
          let broken : have_of plan p < need_of diagram attributes plan timing p = let few = short.short in omega (arith, few, has, needs) in
          record {
            period = p;
            there = needed_is p (omega (arith, broken));
            broken = broken;
            least = λ other less there.
                let fits = short.first other less (span_of diagram plan other) (span_at other (omega (arith, less, low))) in
                let same = need_is other in
                omega (arith, fits, same);
            fault_is = ap (λ (n : ℕ). fault_of Rule.Budget [] (Budget p n have)) needs ∙ ap (λ (n : ℕ). fault_of Rule.Budget [] (Budget p (need_of diagram attributes plan timing p) n)) has;
          }

      pub breaks : (p need have : ℕ) → IsShort made_cells.operations.items multipliers spans p need have → BreaksBudget diagram plan timing (fault_of Rule.Budget [] (Budget p need have))
      breaks p need have short = breaks_by p need have (subst (λ (cs : List Cell). IsShort cs multipliers spans p need have) are.listed short)

-- a fault of these operations is one of the diagram
pub fault_told : (diagram : Diagram) (plan : Resolved) (latencies : Latencies) (depths : List ℕ)
    → IsTimingOf diagram plan (timing_of latencies depths) → (multipliers : ℕ)
    → (0 < plan.multipliers → multipliers ≡ plan.multipliers)
    → (made_cells : Cells) → AreCells diagram plan (timing_of latencies depths) made_cells → (spans : List Span)
    → AreSpans diagram plan spans → (fault : SlotFault)
    → IsSlotFault made_cells.operations.items multipliers spans fault
    → IsBudgetFault diagram plan latencies fault
fault_told diagram plan latencies depths timed multipliers is made_cells are spans spanned (Short period need have) short = record {
  depths = depths;
  timed = timed;
  breaks = breaks diagram plan (timing_of latencies depths) multipliers is made_cells are spans spanned period need have short;
}
fault_told diagram plan latencies depths timed multipliers is made_cells are spans spanned OutOfMemory short = tt

-- ---- the whole answer

pub timed_by : (diagram : Diagram) (plan : Resolved) (latencies : Latencies) (depths shown : List ℕ)
    → shown ≡ depths → AreLatencies diagram plan latencies → AreDepths diagram (attributes_of diagram) plan depths
    → IsTimingOf diagram plan (timing_of latencies shown)
timed_by diagram plan latencies depths shown same late deep = record {
  fed = late.fed;
  depths = subst (AreDepths diagram (attributes_of diagram) plan) (sym same) deep;
  size = late.size;
  lat = late.least;
}

pub slots_are : (diagram : Diagram) (plan : Resolved) (latencies : Latencies) (depths shown : List ℕ) (made : Made)
    (ready : List ℕ) → shown ≡ depths → AreLatencies diagram plan latencies
    → AreDepths diagram (attributes_of diagram) plan depths
    → IsServed diagram plan (timing_of latencies shown) made
    → ((other : Resolved) → AreBases diagram other (timing_of latencies shown) made.bases
    → AreReady diagram other (timing_of latencies shown) ready)
    → AreSlots diagram plan latencies (record { starts = made.starts; units = made.units; ready = ready; depths = depths })
slots_are diagram plan latencies depths shown made ready same late deep served readied =
    let by = subst (λ (list : List ℕ). IsServed diagram plan (timing_of latencies list) made) same served in
    record {
      timed = timed_by diagram plan latencies depths depths refl late deep;
      budget = by.budget;
      starts = by.starts;
      units = by.units;
      ready = subst (λ (list : List ℕ). AreReady diagram plan (timing_of latencies list) ready) same (readied plan served.bases);
    }
