-- How great the latencies of a diagram can be, and which are 0.
use Rattle.std.proofs.Common.{◌≡◌, ℕ, ◌+◌, ◌*◌, ◌<◌, ◌≤◌, Bool, true, false, List, length, ⊎_elim, refl, sym, ap, subst, ◌∙◌, arith}
use Rattle.std.specs.Prelude.{slice_get, Some, None, Option}
use Rattle.std.specs.Option.{option_map}
use Rattle.std.proofs.Math.Nat.{mul-le-mul}
use Rattle.std.proofs.lemmas.Bool.{cases_lt, false≢true}
use Rattle.std.proofs.lemmas.List.{get_or_past}
use Rattle.std.proofs.lemmas.Option.{none-some, same_Some, slice_get-map}
use Rattle.dg_model.specs.declared.diagram.Diagram.{Diagram}
use Rattle.dg_model.specs.declared.diagram.Block.{Block}
use Rattle.dg_model.specs.declared.resolved.Resolved.{Resolved}
use Rattle.dg_model.specs.Attributes.{attributes_of}
use Rattle.dg_model.specs.LatencyEdges.{LatencyEdge, latency_edges}
use Rattle.hw_arcs.specs.declared.arc.Arc.{Arc}
use Rattle.hw_arcs.specs.Latencies.{latency_at}
use Rattle.hw_arcs.specs.Laws.{AskAtMost, LatenciesAreBounded, UnaskedAreZero}
use Rattle.hw_latency.specs.Cone.{is_marked}
use Rattle.hw_latency.specs.Latency.{IsLeastLatency}
use Rattle.hw_latency.specs.Laws.{ArePeriodsWithin, IsUnasked}
use Rattle.dg_model.specs.PlanOf.{IsPlanOf, stages_at}
use Rattle.hw_latency.specs.Weight.{arc_from, arc_into, arc_of, gain_into, is_registered, latency_arcs, samples}

few_stages : (diagram : Diagram) (plan : Resolved) (place : ℕ) → IsPlanOf diagram plan → stages_at plan place ≤ 64
few_stages diagram plan place is = ⊎_elim
    (λ (inside : place < length plan.stages). is.stages place 0 inside)
    (λ (past : length plan.stages ≤ place). let none = get_or_past plan.stages place 0 past in omega (arith, none))
    (cases_lt place (length plan.stages))

small_gain : (registered fed : Bool) (stages period most : ℕ) → stages ≤ 64 → period ≤ most → 1 ≤ most → gain_into registered fed stages period ≤ 65 * most
small_gain false fed stages period most few short some = let product : stages * period ≤ 64 * most = mul-le-mul few short in omega (arith, product)
small_gain true false stages period most few short some = let product : stages * period ≤ 64 * most = mul-le-mul few short in omega (arith, product, some)
small_gain true true stages period most few short some = let product : stages * period ≤ 64 * most = mul-le-mul few short in omega (arith, product, short)

small_into : (from to : ℕ) (fed : Bool) (stages period own most : ℕ) (block : Option Block) → stages ≤ 64 → period ≤ most → 1 ≤ most → (arc_into from to fed stages period own block).gain ≤ 65 * most
small_into from to fed stages period own most None few short some = omega (arith, some)
small_into from to fed stages period own most (Some block) few short some = small_gain (is_registered block own period) fed stages period most few short some

small_from : (diagram : Diagram) (plan : Resolved) (fed : List Bool) (from to most : ℕ) (period : Option ℕ)
    → IsPlanOf diagram plan → samples period ≤ most → 1 ≤ most
    → (arc_from diagram (attributes_of diagram) plan fed from to period).gain ≤ 65 * most
small_from diagram plan fed from to most None is short some = omega (arith, some)
small_from diagram plan fed from to most (Some period) is short some =
    small_into from to (is_marked fed from) (stages_at plan from) period
    (samples ((attributes_of diagram).period_at to)) most (slice_get diagram.blocks to)
    (few_stages diagram plan from is) short some

asked_little : (diagram : Diagram) (plan : Resolved) (fed : List Bool) (most : ℕ) → IsPlanOf diagram plan → ArePeriodsWithin diagram most → AskAtMost (latency_arcs diagram plan fed) (65 * most)
asked_little diagram plan fed most is within = record {
  most = λ number arc at counts. by_edge number arc (slice_get (latency_edges diagram) number) refl
      (sym (slice_get-map (arc_of diagram (attributes_of diagram) plan fed) (latency_edges diagram) number) ∙ at);
}
  where
    by_edge : (number : ℕ) (arc : Arc) (edge : Option LatencyEdge) → slice_get (latency_edges diagram) number ≡ edge
        → option_map (arc_of diagram (attributes_of diagram) plan fed) edge ≡ Some arc
        → arc.gain ≤ arc.slack + 65 * most
    by_edge number arc None there is_arc = absurd (none-some arc is_arc)
    by_edge number arc (Some edge) there is_arc =
        let same = same_Some (arc_of diagram (attributes_of diagram) plan fed edge) arc is_arc in
        let small = small_from diagram plan fed edge.from edge.to most ((attributes_of diagram).period_at edge.from) is (within.short edge.from) within.some in
        let gain = ap (λ (a : Arc). a.gain) same in
        omega (arith, small, gain)

pub small_latencies : LatenciesAreBounded → (diagram : Diagram) (plan : Resolved) (lat : List ℕ) (most place : ℕ)
    → IsPlanOf diagram plan → ArePeriodsWithin diagram most → IsLeastLatency diagram plan lat
    → latency_at lat place ≤ length diagram.blocks * (65 * most)
small_latencies bounded diagram plan lat most place is within least =
    subst (λ n. latency_at lat place ≤ n * (65 * most)) least.size
    (bounded (latency_arcs diagram plan least.fed) lat (65 * most) least.least (asked_little diagram plan least.fed most is within) place)

-- ---- blocks that nothing is asked of

arc_ends : (diagram : Diagram) (plan : Resolved) (fed : List Bool) (from to : ℕ) (period : Option ℕ) → (arc_from diagram (attributes_of diagram) plan fed from to period).to ≡ to
arc_ends diagram plan fed from to None = refl
arc_ends diagram plan fed from to (Some period) = by_block (slice_get diagram.blocks to)
  where
    by_block : (block : Option Block) → (arc_into from to (is_marked fed from) (stages_at plan from) period (samples ((attributes_of diagram).period_at to)) block).to ≡ to
    by_block None = refl
    by_block (Some block) = refl

pub unasked_zero : UnaskedAreZero → (diagram : Diagram) (plan : Resolved) (lat : List ℕ) (block : ℕ) → IsLeastLatency diagram plan lat → IsUnasked diagram block → latency_at lat block ≡ 0
unasked_zero zero diagram plan lat block least unasked =
    zero (latency_arcs diagram plan least.fed) lat block least.least
    (λ number arc at counts ends. by_edge number arc (slice_get (latency_edges diagram) number) refl
    (sym (slice_get-map (arc_of diagram (attributes_of diagram) plan least.fed) (latency_edges diagram) number)
    ∙ at) counts ends)
  where
    by_edge : (number : ℕ) (arc : Arc) (edge : Option LatencyEdge) → slice_get (latency_edges diagram) number ≡ edge
        → option_map (arc_of diagram (attributes_of diagram) plan least.fed) edge ≡ Some arc → arc.counts ≡ true
        → arc.to ≡ block → ⊥
    by_edge number arc None there is_arc counts ends = none-some arc is_arc
    by_edge number arc (Some edge) there is_arc counts ends =
        let same = same_Some (arc_of diagram (attributes_of diagram) plan least.fed edge) arc is_arc in
        let to : edge.to ≡ block = sym (arc_ends diagram plan least.fed edge.from edge.to ((attributes_of diagram).period_at edge.from)) ∙ ap (λ (a : Arc). a.to) same ∙ ends in
        let idle = ap (λ p. (arc_from diagram (attributes_of diagram) plan least.fed edge.from edge.to p).counts) (unasked.idle number edge there to) in
        false≢true (sym idle ∙ ap (λ (a : Arc). a.counts) same ∙ counts)
