-- What the calls tell: the way back that ends or closes, and the least latencies.
use Rattle.std.proofs.Common.{◌≡◌, ℕ, ◌+◌, ◌*◌, ◌<◌, ◌≤◌, List, length, drop, sym, subst, arith}
use Rattle.std.specs.Prelude.{Some, None, Option, MatchOption, Result, Ok, Err, IfNone, IfOk, IfSome, OnOk}
use Rattle.std.proofs.lemmas.Option.{none-some, same_Some, slice_get_within}
use Rattle.hw_arcs.specs.declared.arc.Arc.{Arc}
use Rattle.hw_arcs.specs.declared.found.Gaining.{Gaining}
use Rattle.hw_arcs.specs.declared.found.Found.{Found}
use Rattle.hw_arcs.specs.declared.found.Found.TheVariants.{Least, Gains}
use Rattle.hw_arcs.specs.Latencies.{latency_at, IsFeasible}
use Rattle.hw_arcs.specs.Found.{AreKnown, AreLeast, IsFound, IsGaining, most_gain, most_joined_blocks}
use Rattle.hw_arcs.specs.inner.State.{State, AreLabels, IsState}
use Rattle.hw_arcs.specs.inner.Walk.{AreGiven, IsClosed, IsEnded, IsRing, IsTurnedBack, IsWalked, gains_of, slacks_of}
use Rattle.hw_arcs.proofs.Chains.{gains_small}
use Rattle.hw_arcs.proofs.Rings.{begins_least, cycle_is, ended_small, ring_of}
use Rattle.hw_arcs.proofs.Steps.{least_of}

pub given_of : (arcs : List Arc) (lat : List ℕ) (tight slice : List (Option ℕ)) → AreLabels arcs lat tight → slice ≡ tight → AreGiven arcs slice
given_of arcs lat tight slice labels same = subst (λ (t : List (Option ℕ)). AreGiven arcs t) (sym same) (record {
  given = λ block number at. let pulled = labels.some block number at in slice_get_within arcs number pulled.arc pulled.at;
})

pub ended_bound : (arcs : List Arc) (lat : List ℕ) (tight slice : List (Option ℕ)) (first : ℕ) (path : List ℕ)
    (place : Option ℕ) → AreKnown arcs (length lat) → AreLabels arcs lat tight → slice ≡ tight → place ≡ None
    → IsWalked arcs slice first path (length slice) place → latency_at lat first ≤ length lat * most_gain
ended_bound arcs lat tight slice first path None known labels same none walked =
    let ended : IsEnded arcs tight first path (length tight) = subst (λ (t : List (Option ℕ)). IsEnded arcs t first path (length t)) same walked in
    subst (λ n. latency_at lat first ≤ n * most_gain) labels.size
    (ended_small arcs lat tight first path (length tight) (subst (λ n. AreKnown arcs n) (sym labels.size) known) labels ended)
ended_bound arcs lat tight slice first path (Some k) known labels same none walked = absurd (none-some k (sym none))

closed_at : (arcs : List Arc) (slice : List (Option ℕ)) (first : ℕ) (path : List ℕ) (found : Option ℕ) (place : ℕ)
    → found ≡ Some place → IsWalked arcs slice first path (length slice) found
    → IsClosed arcs slice first path (length slice) place
closed_at arcs slice first path None place is walked = absurd (none-some place is)
closed_at arcs slice first path (Some k) place is walked = subst (λ n. IsClosed arcs slice first path (length slice) n) (same_Some k place is) walked

pub place_inside : (arcs : List Arc) (slice : List (Option ℕ)) (first : ℕ) (path : List ℕ) (found : Option ℕ)
    (place : ℕ) → found ≡ Some place → IsWalked arcs slice first path (length slice) found → place < length path
place_inside arcs slice first path found place is walked =
    let closed = closed_at arcs slice first path found place is walked in
    slice_get_within path place closed.end closed.back

pub ring_after : (arcs : List Arc) (lat : List ℕ) (tight slice : List (Option ℕ)) (first : ℕ) (path ring : List ℕ)
    (found : Option ℕ) (place : ℕ) → AreLabels arcs lat tight → slice ≡ tight → found ≡ Some place
    → IsWalked arcs slice first path (length slice) found → ring ≡ drop place path → IsRing arcs slice ring (length slice)
ring_after arcs lat tight slice first path ring found place labels same is walked after =
    subst (λ (r : List ℕ). IsRing arcs slice r (length slice)) (sym after)
    (ring_of arcs lat slice first path (length slice) place (subst (λ (t : List (Option ℕ)). AreLabels arcs lat t) (sym same) labels) (closed_at arcs slice first path found place is walked))

pub gaining_is : (arcs : List Arc) (lat : List ℕ) (tight slice : List (Option ℕ)) (ring blocks : List ℕ) (total : ℕ)
    → AreKnown arcs (length lat) → length lat ≤ most_joined_blocks → AreLabels arcs lat tight → slice ≡ tight
    → IsRing arcs slice ring (length slice) → IsTurnedBack ring blocks
    → total + slacks_of arcs slice ring ≡ gains_of arcs slice ring → IsGaining arcs (record { blocks = blocks; total = total })
gaining_is arcs lat tight slice ring blocks total known few labels same is turned sum =
    let told : AreLabels arcs lat slice = subst (λ (t : List (Option ℕ)). AreLabels arcs lat t) (sym same) labels in
    let size = told.size in
    let short = is.short in
    let small = gains_small arcs slice (length lat) ring known in
    record {
      cycle = cycle_is arcs lat slice ring blocks (length slice) total told is turned sum;
      begins = begins_least ring blocks turned;
      small = omega (arith, few, size, short, small, sum);
    }

-- where a latency is greater than any way without a cycle could make it, there is a cycle
pub cycle_there : {P E : Type 0} (arcs : List Arc) (lat : List ℕ) (latency most : ℕ)
    (result : Result (Option Gaining) E) → P → most < latency → IfOk result (λ found. IfSome found (IsGaining arcs))
    → IfOk result (λ found. IfNone found (latency ≤ most))
    → OnOk result P × IfOk result (λ found. MatchOption found (IsFeasible arcs lat) (IsGaining arcs))
cycle_there arcs lat latency most (Ok None) p above gains none = absurd (omega (arith, above, none))
cycle_there arcs lat latency most (Ok (Some cycle)) p above gains none = (p, gains)
cycle_there arcs lat latency most (Err e) p above gains none = (tt, tt)

pub found_is : (arcs : List Arc) (count many : ℕ) (s : State) (gaining : Option Gaining) (told : Found)
    → many ≡ count → IsState arcs many s → MatchOption gaining (IsFeasible arcs s.lat) (IsGaining arcs)
    → MatchOption gaining (told ≡ Least s.lat s.tight) (λ cycle. told ≡ Gains cycle) → IsFound arcs count told
found_is arcs count many s None told same state feasible is =
    subst (λ (f : Found). IsFound arcs count f) (sym is) (subst (λ n. AreLeast arcs n s.lat s.tight) same (least_of arcs many s state feasible))
found_is arcs count many s (Some cycle) told same state gains is = subst (λ (f : Found). IsFound arcs count f) (sym is) gains
