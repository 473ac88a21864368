-- Plans that set the same registers and share the same multiplications have the same latencies.
use Rattle.std.proofs.Common.{◌≡◌, ℕ, zero, suc, ◌*◌, ◌<◌, ◌≤◌, Bool, List, ◌∷◌, [], map, refl, sym, subst, ap, ◌∙◌, arith}
use Rattle.std.specs.Prelude.{◌&&◌, nat_lt, Option, Some, None, slice_get, slice_index}
use Rattle.std.proofs.lemmas.Bool.{lt-ltb}
use Rattle.std.proofs.lemmas.Nat.{mul-le}
use Rattle.dg_model.specs.declared.diagram.Diagram.{Diagram}
use Rattle.dg_model.specs.declared.resolved.Resolved.{Resolved}
use Rattle.dg_model.specs.Attributes.{attributes_of}
use Rattle.dg_model.specs.LatencyEdges.{LatencyEdge, latency_edges}
use Rattle.dg_model.specs.PlanOf.{stages_at}
use Rattle.hw_arcs.specs.declared.arc.Arc.{Arc}
use Rattle.hw_arcs.specs.Latencies.{IsLeast, AreTight, IsGainingCycle}
use Rattle.hw_latency.specs.Cone.{AreFed, IsFed, is_marked}
use Rattle.hw_latency.specs.Shared.{multiplies, shares, is_shared}
use Rattle.hw_latency.specs.Weight.{samples, arc_into, arc_from, arc_of, latency_arcs}
use Rattle.hw_explore.specs.declared.timed.Timed.{Timed}
use Rattle.hw_explore.specs.declared.timed.Timed.TheVariants.{Kept, Gaining}
use Rattle.hw_explore.specs.Candidates.{plain_plan}
use Rattle.hw_explore.specs.inner.Latencies.{IsTimed}

module _ (diagram : Diagram) (plan other : Resolved) (stages : plan.stages ≡ other.stages) (same : (period : ℕ) → shares plan (Some period) ≡ shares other (Some period)) where
  same_shares : (period : Option ℕ) → shares plan period ≡ shares other period
  same_shares None = refl
  same_shares (Some period) = same period

  same_shared : (place : ℕ) → is_shared diagram (attributes_of diagram) plan place ≡ is_shared diagram (attributes_of diagram) other place
  same_shared place = ap (λ (b : Bool). multiplies diagram place && b) (same_shares ((attributes_of diagram).period_at place))

  fed_too : (place : ℕ) → IsFed diagram (attributes_of diagram) plan place → IsFed diagram (attributes_of diagram) other place
  fed_too place fed = record { source = fed.source; cone = fed.cone; shared = sym (same_shared fed.source) ∙ fed.shared }

  fed_back : (place : ℕ) → IsFed diagram (attributes_of diagram) other place → IsFed diagram (attributes_of diagram) plan place
  fed_back place fed = record { source = fed.source; cone = fed.cone; shared = same_shared fed.source ∙ fed.shared }

  are_fed_too : (fed : List Bool) → AreFed diagram (attributes_of diagram) plan fed → AreFed diagram (attributes_of diagram) other fed
  are_fed_too fed are = record {
    size = are.size;
    sound = λ place marked. fed_too place (are.sound place marked);
    whole = λ place there is. are.whole place there (fed_back place is);
  }

  same_arc : (fed : List Bool) (from to : ℕ) (period : Option ℕ) → arc_from diagram (attributes_of diagram) plan fed from to period ≡ arc_from diagram (attributes_of diagram) other fed from to period
  same_arc fed from to None = refl
  same_arc fed from to (Some period) =
      ap (λ count. arc_into from to (is_marked fed from) count period (samples ((attributes_of diagram).period_at to)) (slice_get diagram.blocks to)) (same_stages from)
    where
      same_stages : (place : ℕ) → stages_at plan place ≡ stages_at other place
      same_stages place = ap (λ (list : List ℕ). slice_index list place) stages

  same_list : (fed : List Bool) (edges : List LatencyEdge) → map (arc_of diagram (attributes_of diagram) plan fed) edges ≡ map (arc_of diagram (attributes_of diagram) other fed) edges
  same_list fed [] = refl
  same_list fed (edge ∷ edges) =
      ap (λ a. a ∷ map (arc_of diagram (attributes_of diagram) plan fed) edges) (same_arc fed edge.from edge.to ((attributes_of diagram).period_at edge.from))
      ∙ ap (λ es. arc_of diagram (attributes_of diagram) other fed edge ∷ es) (same_list fed edges)

  same_arcs : (fed : List Bool) → latency_arcs diagram plan fed ≡ latency_arcs diagram other fed
  same_arcs fed = same_list fed (latency_edges diagram)

  pub timed_too : (timed : Timed) → IsTimed diagram plan timed → IsTimed diagram other timed
  timed_too (Kept latencies) is = record {
    fed = are_fed_too latencies.fed is.fed;
    size = is.size;
    least = subst (λ (arcs : List Arc). IsLeast arcs latencies.lat) (same_arcs latencies.fed) is.least;
    tight = subst (λ (arcs : List Arc). AreTight arcs latencies.lat latencies.tight) (same_arcs latencies.fed) is.tight;
  }
  timed_too (Gaining blocks total) is = record {
    sum = is.sum;
    cycle = record {
      fed = is.cycle.fed;
      are_fed = are_fed_too is.cycle.fed is.cycle.are_fed;
      gains = subst (λ (arcs : List Arc). IsGainingCycle arcs blocks is.sum) (same_arcs is.cycle.fed) is.cycle.gains;
      begins = is.cycle.begins;
    };
    total_is = is.total_is;
  }

-- periods of two or more clocks share, whatever the clocks of a base sample
shares_whole : (period cycles : ℕ) → 1 < cycles → nat_lt 1 (period * 2) ≡ nat_lt 1 (period * cycles)
shares_whole zero cycles many =
    let none : 0 * cycles ≡ 0 = omega arith in
    ap (λ (clocks : ℕ). nat_lt 1 clocks) (sym none)
shares_whole (suc period) cycles many =
    let one : 1 < suc period * 2 = omega arith in
    let least : 1 * cycles ≤ suc period * cycles = mul-le 1 cycles (suc period) cycles (omega arith) (omega arith) in
    let more : 1 < suc period * cycles = omega (arith, least, many) in
    lt-ltb 1 (suc period * 2) one ∙ sym (lt-ltb 1 (suc period * cycles) more)

module _ (diagram : Diagram) (cycles multipliers : ℕ) (timed : Timed) where
  pub timed_none : multipliers ≡ 0 → IsTimed diagram (plain_plan diagram 1 0) timed → IsTimed diagram (plain_plan diagram cycles multipliers) timed
  timed_none none = timed_too diagram (plain_plan diagram 1 0) (plain_plan diagram cycles multipliers) refl
      (λ period. ap (λ count. nat_lt 0 count && nat_lt 1 (period * cycles)) (sym none)) timed

  pub timed_slower : 0 < multipliers → cycles ≡ 1 → IsTimed diagram (plain_plan diagram 1 1) timed → IsTimed diagram (plain_plan diagram cycles multipliers) timed
  timed_slower some one = timed_too diagram (plain_plan diagram 1 1) (plain_plan diagram cycles multipliers) refl
      (λ period. ap (λ clocks. nat_lt 1 (period * clocks)) (sym one) ∙ ap (λ b. b && nat_lt 1 (period * cycles)) (sym (lt-ltb 0 multipliers some))) timed

  pub timed_all : 0 < multipliers → 1 < cycles → IsTimed diagram (plain_plan diagram 2 1) timed → IsTimed diagram (plain_plan diagram cycles multipliers) timed
  timed_all some many = timed_too diagram (plain_plan diagram 2 1) (plain_plan diagram cycles multipliers) refl
      (λ period. shares_whole period cycles many ∙ ap (λ b. b && nat_lt 1 (period * cycles)) (sym (lt-ltb 0 multipliers some))) timed
