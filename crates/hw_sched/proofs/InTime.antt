-- The end of an edge is late enough.
use Rattle.std.proofs.Common.{◌≡◌, ℕ, ◌<◌, ◌≤◌, Bool, true, false, refl, ap, subst, ◌∙◌, inl, inr, arith}
use Rattle.std.specs.Prelude.{slice_get, Some}
use Rattle.std.proofs.lemmas.Bool.{cases_Bool, cond-true, cond-false}
use Rattle.dg_model.specs.Attributes.{attributes_of}
use Rattle.dg_model.specs.LatencyEdges.{latency_edges}
use Rattle.dg_model.specs.Library.{row_of}
use Rattle.hw_arcs.specs.declared.arc.Arc.{Arc}
use Rattle.hw_arcs.specs.Latencies.{KeepsArc}
use Rattle.hw_latency.specs.Cone.{is_marked}
use Rattle.hw_latency.specs.Weight.{samples, is_registered, behind, reserve, arc_of, arc_from, arc_into}
use Rattle.dg_model.specs.PlanOf.{stages_at}
use Rattle.hw_sched.specs.Laws.{EdgesAreInTime}
use Rattle.math_list.proofs.Places.{there_map}
use Rattle.hw_sched.proofs.Periods.{periods_are_above}
use Rattle.hw_sched.proofs.Readiness.{unfed_ready}

pub edges_are_in_time : EdgesAreInTime
edges_are_in_time diagram plan timing number edge b source own checked timed is_edge at from_is to_is =
    let arc : ◌≡◌ {A = Arc} (arc_of diagram (attributes_of diagram) plan timing.fed edge) (arc_into edge.from edge.to (is_marked timing.fed edge.from) (stages_at plan edge.from) source own (Some b)) =
    ap (arc_from diagram (attributes_of diagram) plan timing.fed edge.from edge.to) from_is
    ∙ ap (λ (n : ℕ). arc_into edge.from edge.to (is_marked timing.fed edge.from) (stages_at plan edge.from) source n (slice_get diagram.blocks edge.to)) (ap samples to_is)
    ∙ ap (arc_into edge.from edge.to (is_marked timing.fed edge.from) (stages_at plan edge.from) source own) at in
    let keeps = timed.lat.feasible.keeps number (arc_of diagram (attributes_of diagram) plan timing.fed edge)
    (there_map (arc_of diagram (attributes_of diagram) plan timing.fed)
    (latency_edges diagram) number edge is_edge) in
    let kept = subst (KeepsArc timing.lat) arc keeps refl in
    let above = periods_are_above diagram edge.from source checked from_is in
    record {
      plain = λ plain.
          let gain = cond-false {A = ℕ} (is_registered b own source) (reserve (is_marked timing.fed edge.from) source) 0 plain in
          let slack = cond-false {A = ℕ} (is_registered b own source) (behind (row_of b.kind).timing.reads (row_of b.kind).timing.delay own source) 0 plain in
          omega (arith, kept, gain, slack);
      late = λ late.
          let gain = cond-true {A = ℕ} (is_registered b own source) (reserve (is_marked timing.fed edge.from) source) 0 late in
          let slack = cond-true {A = ℕ} (is_registered b own source) (behind (row_of b.kind).timing.reads (row_of b.kind).timing.delay own source) 0 late in
          let some = some_reserve (is_marked timing.fed edge.from) above in
          omega (arith, kept, gain, slack, some);
      whole = λ late waits.
          let gain = cond-true {A = ℕ} (is_registered b own source) (reserve (is_marked timing.fed edge.from) source) 0 late in
          let slack = cond-true {A = ℕ} (is_registered b own source) (behind (row_of b.kind).timing.reads (row_of b.kind).timing.delay own source) 0 late in
          elim (cases_Bool (is_marked timing.fed edge.from)) [
            | inl holds ↦ let whole = cond-true {A = ℕ} (is_marked timing.fed edge.from) source 1 holds in omega (arith, kept, gain, slack, whole)
            | inr fails ↦ let ready = unfed_ready diagram (attributes_of diagram) plan timing edge.from fails in absurd (omega (arith, ready, waits))
          ];
    }
  where
    some_reserve : (fed : Bool) → 0 < source → 1 ≤ reserve fed source
    some_reserve true above = omega (arith, above)
    some_reserve false above = omega arith
