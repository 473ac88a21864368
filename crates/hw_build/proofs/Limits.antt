-- The frames and shifts of a schedule are such as chains may be asked for.
use Rattle.std.proofs.Common.{◌≡◌, ℕ, ◌+◌, ◌*◌, ◌≤◌, inl, inr, List, length, Option, Some, None, sym, subst, refl, arith, mul-le-mul_right}
use Rattle.std.specs.Prelude.{slice_index, All}
use Rattle.std.proofs.lemmas.Bool.{cases_lt}
use Rattle.std.proofs.lemmas.List.{get_or_past}
use Rattle.dg_model.specs.declared.diagram.Diagram.{Diagram}
use Rattle.dg_model.specs.declared.resolved.Resolved.{Resolved}
use Rattle.dg_model.specs.Attributes.{attributes_of}
use Rattle.hw_arcs.specs.Latencies.{latency_at}
use Rattle.hw_latency.specs.Laws.{ArePeriodsWithin, LatenciesAreSmall}
use Rattle.hw_latency.specs.Weight.{samples}
use Rattle.dg_model.specs.PlanOf.{stages_at}
use Rattle.hw_sched.specs.Laws.{PeriodsAreShort}
use Rattle.hw_sched.specs.Scheduled.{IsScheduled}
use Rattle.hw_sched.specs.Slots.{Timing as Times}
use Rattle.hw_shows.specs.Timing.{latency_after}
use Rattle.hw_build.specs.Times.{timing_by}

-- the most base samples by which a block is late
abbrev pub most_late : ℕ
most_late = 20000 * (65 * 4096)

few_stages : (stages : List ℕ) (place : ℕ) → All (λ n. n ≤ 64) stages → slice_index stages place ≤ 64
few_stages stages place all = elim (cases_lt place (length stages)) [
  | inl inside ↦ all place 0 inside
  | inr past ↦ let none : slice_index stages place ≡ 0 = get_or_past stages place 0 past in omega (arith, none)
]

module _ (small : LatenciesAreSmall) (short : PeriodsAreShort) (diagram : Diagram) (plan : Resolved) (times : Times) (s : IsScheduled diagram plan times) where
  within : ArePeriodsWithin diagram 4096
  within = record { some = omega arith; short = λ place. go place ((attributes_of diagram).period_at place) refl }
    where
      go : (place : ℕ) (period : Option ℕ) → (attributes_of diagram).period_at place ≡ period → samples ((attributes_of diagram).period_at place) ≤ 4096
      go place None e = subst (λ (p : Option ℕ). samples p ≤ 4096) (sym e) (omega arith)
      go place (Some period) e = subst (λ (p : Option ℕ). samples p ≤ 4096) (sym e) (short diagram place period s.checked e)

  pub little_late : (place : ℕ) → latency_at times.lat place ≤ most_late
  little_late place =
      let law = small diagram plan times.lat 4096 place s.planned within (record { fed = times.fed; are_fed = s.timed.fed; size = s.timed.size; least = s.timed.lat }) in
      let size = s.checked.wired.size in
      let most : length diagram.blocks * (65 * 4096) ≤ 20000 * (65 * 4096) = mul-le-mul_right (65 * 4096) size in
      omega (arith, law, most)

  -- behind a pipeline, too
  pub little_behind : (place period : ℕ) → (attributes_of diagram).period_at place ≡ Some period → latency_after (timing_by diagram plan times) period place ≤ most_late + 64 * 4096
  little_behind place period is =
      let late = little_late place in
      let stages = few_stages plan.stages place s.planned.stages in
      let wide = short diagram place period s.checked is in
      let a : stages_at plan place * period ≤ 64 * period = mul-le-mul_right period stages in
      let b : 64 * period ≤ 64 * 4096 = omega (arith, wide) in
      omega (arith, late, a, b)
