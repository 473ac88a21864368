-- A cycle that gains leaves no latencies.
use Rattle.std.proofs.Common.{◌≡◌, ℕ, suc, ◌+◌, ◌≤◌, List, [], ◌∷◌, map, ap, arith}
use Rattle.std.specs.List.{sum_by, All}
use Rattle.std.proofs.lemmas.List.Sums.{sum_by-cons, sum_by_push}
use Rattle.hw_arcs.specs.declared.arc.Arc.{Arc}
use Rattle.hw_arcs.specs.Latencies.{latency_at, IsFeasible, turned, IsCountedArc, IsGainingCycle}

turned_sum : (f : ℕ → ℕ) (cycle : List ℕ) → sum_by f (turned cycle) ≡ sum_by f cycle
turned_sum f [] = omega arith
turned_sum f (first ∷ others) = let p = sum_by_push f others first in let c = sum_by-cons f first others in omega (arith, p, c)

kept_sum : (arcs : List Arc) (lat : List ℕ) (edges : List Arc) → IsFeasible arcs lat → All (IsCountedArc arcs) edges
    → sum_by (latency_at lat) (map (λ (arc : Arc). arc.from) edges) + sum_by (λ (arc : Arc). arc.gain) edges
    ≤ sum_by (latency_at lat) (map (λ (arc : Arc). arc.to) edges) + sum_by (λ (arc : Arc). arc.slack) edges
kept_sum arcs lat [] feasible are = omega arith
kept_sum arcs lat (arc ∷ edges) feasible are =
    let here = are 0 arc (omega arith) in
    let keeps = feasible.keeps here.number arc here.at here.counts in
    let more = kept_sum arcs lat edges feasible (λ k d inside. are (suc k) d (omega (arith, inside))) in
    let f = sum_by-cons (latency_at lat) arc.from (map (λ (a : Arc). a.from) edges) in
    let t = sum_by-cons (latency_at lat) arc.to (map (λ (a : Arc). a.to) edges) in
    let g = sum_by-cons (λ (a : Arc). a.gain) arc edges in
    let s = sum_by-cons (λ (a : Arc). a.slack) arc edges in
    omega (arith, keeps, more, f, t, g, s)

pub none_left : (arcs : List Arc) (cycle : List ℕ) (total : ℕ) (lat : List ℕ) → IsGainingCycle arcs cycle total → IsFeasible arcs lat → ⊥
none_left arcs cycle total lat gaining feasible =
    let sums = kept_sum arcs lat gaining.edges feasible gaining.are in
    let f = ap (sum_by (latency_at lat)) gaining.from in
    let t = ap (sum_by (latency_at lat)) gaining.to in
    let round = turned_sum (latency_at lat) cycle in
    let gains = gaining.gains in
    let above = gaining.above in
    omega (arith, sums, f, t, round, gains, above)
