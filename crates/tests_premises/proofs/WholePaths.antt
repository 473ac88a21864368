-- The instant paths of the whole model lead from each block to the next, and the Gain stands at most once on one.
use Rattle.std.proofs.Common.{◌≡◌, ℕ, zero, suc, ◌+◌, ◌≤◌, ◌<◌, Bool, true, false, true≢false, cond, ◌&&◌, List, [], ◌∷◌, length, Some, slice_get, refl, sym, ap, subst, ◌∙◌, arith}
use Rattle.std.specs.Prelude.{count_by}
use Rattle.std.proofs.Math.Dec.{lit<}
use Rattle.std.proofs.lemmas.List.Sums.{sum_by-cons}
use Rattle.std.proofs.lemmas.Option.{none-some, same_Some}
use Rattle.dg_model.specs.LatencyEdges.{LatencyEdge, signal_edge}
use Rattle.dg_model.specs.Loop.{LeadsNow, IsInstantPath}
use Rattle.hw_latency.specs.Cone.{AreFed, IsFed, is_marked}
use Rattle.hw_latency.specs.Shared.{is_shared}
use Rattle.hw_sched.specs.Level.{AreDepths, IsDepth, depth_at, is_same_period}
use Rattle.tests_premises.specs.Whole.{diagram, edge_of, resolved, timing}
use Rattle.tests_premises.proofs.WholeRules.{attributes}

-- ---- an instant edge leads to the next block
leads_next : (from to : ℕ) → LeadsNow diagram attributes from to → to ≡ suc from
leads_next from to (zero, edge, below, at, (from_is, to_is, now)) =
    let f : edge.from ≡ 0 = ap (λ (x : LatencyEdge). x.from) (sym at) in
    let t : edge.to ≡ 1 = ap (λ (x : LatencyEdge). x.to) (sym at) in
    omega (arith, from_is, to_is, f, t)
leads_next from to (suc zero, edge, below, at, (from_is, to_is, now)) =
    let f : edge.from ≡ 1 = ap (λ (x : LatencyEdge). x.from) (sym at) in
    let t : edge.to ≡ 2 = ap (λ (x : LatencyEdge). x.to) (sym at) in
    omega (arith, from_is, to_is, f, t)
leads_next from to (suc (suc k), edge, below, at, (from_is, to_is, now)) = absurd (omega (arith, below))

-- what stands before a block of a path
before : (path : List ℕ) (k x : ℕ) → slice_get path (suc k) ≡ Some x → (y : ℕ) × (slice_get path k ≡ Some y)
before [] k x at = absurd (none-some x at)
before (y ∷ path) zero x at = (y, refl)
before (y ∷ path) (suc k) x at = before path k x at

climbs : (path : List ℕ) → IsInstantPath diagram attributes path → (first k x : ℕ) → slice_get path 0 ≡ Some first → slice_get path k ≡ Some x → x ≡ first + k
climbs path leads first zero x begins at = let same : first ≡ x = same_Some first x (sym begins ∙ at) in omega (arith, same)
climbs path leads first (suc k) x begins at =
    let earlier = before path k x at in
    let rest : earlier.0 ≡ first + k = climbs path leads first k earlier.0 begins earlier.1 in
    let next : x ≡ suc earlier.0 = leads_next earlier.0 x (leads k earlier.0 x earlier.1 at) in
    omega (arith, rest, next)

abbrev ClimbsFrom : ℕ → List ℕ → Type 0
ClimbsFrom first path = (k x : ℕ) → slice_get path k ≡ Some x → x ≡ first + k

all_climb : (path : List ℕ) → IsInstantPath diagram attributes path → (first : ℕ) × ClimbsFrom first path
all_climb [] leads = (0, λ k x at. absurd (none-some x at))
all_climb (y ∷ path) leads = (y, λ k x at. climbs (y ∷ path) leads y k x refl at)

later_climb : (first y : ℕ) (path : List ℕ) → ClimbsFrom first (y ∷ path) → ClimbsFrom (suc first) path
later_climb first y path all = λ k x at. let here = all (suc k) x at in omega (arith, here)

-- ---- the Gain alone is shared
abbrev counts : ℕ → Bool
counts place = is_shared diagram attributes resolved place && is_same_period (attributes.period_at place) (Some 1)

past : (place : ℕ) → 2 ≤ place → counts place ≡ false
past zero high = absurd (omega arith)
past (suc zero) high = absurd (omega arith)
past (suc (suc zero)) high = refl
past (suc (suc (suc place))) high = refl

one_counted : (y : ℕ) (path : List ℕ) → count_by counts (y ∷ path) ≡ cond {A = ℕ} (counts y) 1 0 + count_by counts path
one_counted y path = sum_by-cons (λ x. cond (counts x) 1 0) y path

counted_as : (y : ℕ) (b : Bool) → counts y ≡ b → cond {A = ℕ} (counts y) 1 0 ≡ cond {A = ℕ} b 1 0
counted_as y b is = ap (λ (x : Bool). cond {A = ℕ} x 1 0) is

none_past : (first : ℕ) (path : List ℕ) → 2 ≤ first → ClimbsFrom first path → count_by counts path ≡ 0
none_past first [] high all = refl
none_past first (y ∷ path) high all =
    let here : y ≡ first + 0 = all 0 y refl in
    let rest = none_past (suc first) path (omega (arith, high)) (later_climb first y path all) in
    let head = counted_as y false (past y (omega (arith, here, high))) in
    omega (arith, one_counted y path, head, rest)

most_once : (first : ℕ) (path : List ℕ) → ClimbsFrom first path → count_by counts path ≤ 1
most_once first [] all = omega arith
most_once zero (y ∷ path) all =
    let here : y ≡ 0 = all 0 y refl in
    let rest = most_once 1 path (later_climb 0 y path all) in
    let head = counted_as y false (ap counts here) in
    omega (arith, one_counted y path, head, rest)
most_once (suc zero) (y ∷ path) all =
    let here : y ≡ 1 = all 0 y refl in
    let rest = none_past 2 path (omega arith) (later_climb 1 y path all) in
    let head = counted_as y true (ap counts here) in
    omega (arith, one_counted y path, head, rest)
most_once (suc (suc first)) (y ∷ path) all = let none = none_past (suc (suc first)) (y ∷ path) (omega arith) all in omega (arith, none)

none_first : (path : List ℕ) → length path ≤ 1 → ClimbsFrom 0 path → count_by counts path ≤ 0
none_first [] short all = omega arith
none_first (y ∷ []) short all =
    let here : y ≡ 0 = all 0 y refl in
    let head = counted_as y false (ap counts here) in
    let sums : count_by counts (y ∷ []) ≡ cond {A = ℕ} (counts y) 1 0 + 0 = one_counted y [] in
    omega (arith, sums, head)
none_first (y ∷ z ∷ path) short all = absurd (omega (arith, short))

-- ---- depths
alone : (x : ℕ) → IsInstantPath diagram attributes (x ∷ [])
alone x k from to at next = absurd (none-some to next)

both : IsInstantPath diagram attributes (1 ∷ 2 ∷ [])
both zero from to at next = (1, signal_edge (edge_of 1 2), lit< tt, refl, (same_Some 1 from at, same_Some 2 to next, refl))
both (suc k) from to at next = absurd (none-some to next)

abbrev HasDepth : ℕ → Type 0
HasDepth place = IsDepth diagram attributes resolved place (depth_at timing.depths place)

at_input : HasDepth 0
at_input = record {
  path = 0 ∷ [];
  ends = record { leads = alone 0; last = 0; size = refl; ends = refl };
  reached = refl;
  most = λ other ends.
      let all = all_climb other ends.leads in
      let last = all.1 ends.last 0 ends.ends in
      none_first other (omega (arith, ends.size, last)) (λ k x at. let here = all.1 k x at in omega (arith, here, last));
}

at_gain : HasDepth 1
at_gain = record {
  path = 1 ∷ [];
  ends = record { leads = alone 1; last = 0; size = refl; ends = refl };
  reached = refl;
  most = λ other ends. let all = all_climb other ends.leads in most_once all.0 other all.1;
}

at_output : HasDepth 2
at_output = record {
  path = 1 ∷ 2 ∷ [];
  ends = record { leads = both; last = 1; size = refl; ends = refl };
  reached = refl;
  most = λ other ends. let all = all_climb other ends.leads in most_once all.0 other all.1;
}

have_depths : (place : ℕ) → place < 3 → HasDepth place
have_depths zero below = at_input
have_depths (suc zero) below = at_gain
have_depths (suc (suc zero)) below = at_output
have_depths (suc (suc (suc place))) below = absurd (omega arith)

pub depths : AreDepths diagram attributes resolved timing.depths
depths = record { size = refl; are = have_depths }

-- ---- what is fed
fed_by : (place : ℕ) → is_marked timing.fed place ≡ true → IsFed diagram attributes resolved place
fed_by zero marked = absurd (true≢false (sym marked))
fed_by (suc zero) marked = record { source = 1; cone = record { path = 1 ∷ []; leads = alone 1; begins = refl; last = 0; ends = refl }; shared = refl }
fed_by (suc (suc zero)) marked = record { source = 1; cone = record { path = 1 ∷ 2 ∷ []; leads = both; begins = refl; last = 1; ends = refl }; shared = refl }
fed_by (suc (suc (suc place))) marked = absurd (true≢false (sym marked))

marked_by : (place : ℕ) → place < 3 → IsFed diagram attributes resolved place → is_marked timing.fed place ≡ true
marked_by zero below is =
    let climbed = climbs is.cone.path is.cone.leads is.source is.cone.last 0 is.cone.begins is.cone.ends in
    let none : is.source ≡ 0 = omega (arith, climbed) in
    absurd (true≢false (sym (subst (λ (x : ℕ). is_shared diagram attributes resolved x ≡ true) none is.shared)))
marked_by (suc zero) below is = refl
marked_by (suc (suc zero)) below is = refl
marked_by (suc (suc (suc place))) below is = absurd (omega arith)

pub fed : AreFed diagram attributes resolved timing.fed
fed = record { size = refl; sound = fed_by; whole = marked_by }
