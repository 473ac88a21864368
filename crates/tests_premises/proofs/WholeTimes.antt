-- The times of the whole model's blocks by one multiplier and no registers, in two clocks and in three.
use Rattle.std.proofs.Common.{◌≡◌, ℕ, zero, suc, ◌≤◌, Bool, true, false, cond, ◌&&◌, List, [], ◌∷◌, length, Some, slice_get, refl, sym, ap, subst, ◌∙◌, arith}
use Rattle.std.specs.Prelude.{Option, count_by, slice_index}
use Rattle.std.proofs.Math.Dec.{lit≤}
use Rattle.std.proofs.lemmas.List.Sums.{sum_by-cons}
use Rattle.std.proofs.lemmas.Option.{none-some, same_Some}
use Rattle.dg_model.specs.declared.resolved.Resolved.{Resolved}
use Rattle.dg_model.specs.Attributes.{attributes_of}
use Rattle.dg_model.specs.Signals.{Attributes}
use Rattle.hw_arcs.specs.declared.arc.Arc.{Arc}
use Rattle.hw_arcs.specs.Latencies.{IsFeasible, IsLeast, KeepsArc}
use Rattle.hw_latency.specs.Cone.{AreFed, IsFed, is_marked}
use Rattle.hw_latency.specs.Laws.{FedIsOne, LatenciesAreOne}
use Rattle.hw_latency.specs.Shared.{is_shared}
use Rattle.hw_latency.specs.Weight.{arcs_with}
use Rattle.hw_sched.specs.Laws.{DepthsAreOne}
use Rattle.hw_sched.specs.Level.{AreDepths, IsDepth, is_same_period, shared_on}
use Rattle.hw_sched.specs.Scheduled.{IsTimingOf}
use Rattle.hw_sched.specs.Slots.{Timing}
use Rattle.tests_premises.specs.Whole.{arc, diagram, resolved, timing}
use Rattle.tests_premises.proofs.WholePaths.{depths, fed}
use Rattle.tests_premises.proofs.WholeRules.{attributes, attributes_known}

-- ---- the plans, and the times by both
abbrev pub in_clocks : ℕ → Resolved
in_clocks clocks = record { cycles = clocks; multipliers = 1; stages = 0 ∷ 0 ∷ 0 ∷ [] }

abbrev pub at_once : Timing
at_once = record timing { lat = 0 ∷ 0 ∷ 0 ∷ [] }

-- both share what the model's own plan shares
abbrev pub SharesAlike : Resolved → Type 0
SharesAlike plan = (place : ℕ) → is_shared diagram attributes plan place ≡ is_shared diagram attributes resolved place

pub two_alike : SharesAlike (in_clocks 2)
two_alike zero = refl
two_alike (suc zero) = refl
two_alike (suc (suc zero)) = refl
two_alike (suc (suc (suc place))) = refl

pub three_alike : SharesAlike (in_clocks 3)
three_alike zero = refl
three_alike (suc zero) = refl
three_alike (suc (suc zero)) = refl
three_alike (suc (suc (suc place))) = refl

count_alike : (one other : ℕ → Bool) → ((x : ℕ) → one x ≡ other x) → (path : List ℕ) → count_by one path ≡ count_by other path
count_alike one other same [] = refl
count_alike one other same (x ∷ path) =
    let front = sum_by-cons (λ y. cond {A = ℕ} (one y) 1 0) x path in
    let back = sum_by-cons (λ y. cond {A = ℕ} (other y) 1 0) x path in
    let here : cond {A = ℕ} (one x) 1 0 ≡ cond {A = ℕ} (other x) 1 0 = ap (λ (b : Bool). cond {A = ℕ} b 1 0) (same x) in
    let rest = count_alike one other same path in
    omega (arith, front, back, here, rest)

list_of_three : (xs : List ℕ) (a b c : ℕ) → length xs ≡ 3 → slice_index xs 0 ≡ a → slice_index xs 1 ≡ b → slice_index xs 2 ≡ c → xs ≡ a ∷ b ∷ c ∷ []
list_of_three [] a b c size first second third = absurd (omega (arith, size))
list_of_three (x ∷ []) a b c size first second third = absurd (omega (arith, size))
list_of_three (x ∷ y ∷ []) a b c size first second third = absurd (omega (arith, size))
list_of_three (x ∷ y ∷ z ∷ []) a b c size first second third =
    ap (λ (n : ℕ). n ∷ y ∷ z ∷ []) first ∙ ap (λ (n : ℕ). a ∷ n ∷ z ∷ []) second ∙ ap (λ (n : ℕ). a ∷ b ∷ n ∷ []) third
list_of_three (x ∷ y ∷ z ∷ w ∷ xs) a b c size first second third = absurd (omega (arith, size))

marks_of_three : (xs : List Bool) (a b c : Bool) → length xs ≡ 3 → is_marked xs 0 ≡ a → is_marked xs 1 ≡ b → is_marked xs 2 ≡ c → xs ≡ a ∷ b ∷ c ∷ []
marks_of_three [] a b c size first second third = absurd (omega (arith, size))
marks_of_three (x ∷ []) a b c size first second third = absurd (omega (arith, size))
marks_of_three (x ∷ y ∷ []) a b c size first second third = absurd (omega (arith, size))
marks_of_three (x ∷ y ∷ z ∷ []) a b c size first second third =
    ap (λ (m : Bool). m ∷ y ∷ z ∷ []) first ∙ ap (λ (m : Bool). a ∷ m ∷ z ∷ []) second ∙ ap (λ (m : Bool). a ∷ b ∷ m ∷ []) third
marks_of_three (x ∷ y ∷ z ∷ w ∷ xs) a b c size first second third = absurd (omega (arith, size))

-- ---- a plan that shares so, and whose registers ask for nothing
abbrev straight : List Arc
straight = arc 0 1 0 ∷ arc 1 2 0 ∷ []

module _ (plan : Resolved) (alike : SharesAlike plan) (arcs_are : arcs_with diagram attributes plan at_once.fed ≡ straight) where
  fed_alike : (place : ℕ) → IsFed diagram attributes plan place → IsFed diagram attributes resolved place
  fed_alike place is = record { source = is.source; cone = is.cone; shared = sym (alike is.source) ∙ is.shared }

  fed_back : (place : ℕ) → IsFed diagram attributes resolved place → IsFed diagram attributes plan place
  fed_back place is = record { source = is.source; cone = is.cone; shared = alike is.source ∙ is.shared }

  are_fed : AreFed diagram attributes plan at_once.fed
  are_fed = record {
    size = refl;
    sound = λ place marked. fed_back place (fed.sound place marked);
    whole = λ place below is. fed.whole place below (fed_alike place is);
  }

  shared_alike : (period : Option ℕ) (path : List ℕ) → shared_on diagram attributes plan period path ≡ shared_on diagram attributes resolved period path
  shared_alike period path =
      count_alike (λ x. is_shared diagram attributes plan x && is_same_period (attributes.period_at x) period)
      (λ x. is_shared diagram attributes resolved x && is_same_period (attributes.period_at x) period)
      (λ x. ap (λ (b : Bool). b && is_same_period (attributes.period_at x) period) (alike x)) path

  have_depth : (place depth : ℕ) → IsDepth diagram attributes resolved place depth → IsDepth diagram attributes plan place depth
  have_depth place depth is = record {
    path = is.path;
    ends = is.ends;
    reached = shared_alike (attributes.period_at place) is.path ∙ is.reached;
    most = λ other ends. let most = is.most other ends in let same = shared_alike (attributes.period_at place) other in omega (arith, most, same);
  }

  are_depths : AreDepths diagram attributes plan at_once.depths
  are_depths = record { size = refl; are = λ place below. have_depth place _ (depths.are place below) }

  least : IsLeast straight at_once.lat
  least = record {
    feasible = record { keeps = kept };
    least = nothing;
  }
    where
      kept : (number : ℕ) (a : Arc) → slice_get straight number ≡ Some a → KeepsArc at_once.lat a
      kept zero a at = subst (KeepsArc at_once.lat) (same_Some (arc 0 1 0) a at) (λ counts. lit≤ tt)
      kept (suc zero) a at = subst (KeepsArc at_once.lat) (same_Some (arc 1 2 0) a at) (λ counts. lit≤ tt)
      kept (suc (suc number)) a at = absurd (none-some a at)

      nothing : (other : List ℕ) → IsFeasible straight other → (block : ℕ) → slice_index at_once.lat block ≤ slice_index other block
      nothing other feasible zero = omega arith
      nothing other feasible (suc zero) = omega arith
      nothing other feasible (suc (suc zero)) = omega arith
      nothing other feasible (suc (suc (suc block))) = omega arith

  pub timed : IsTimingOf diagram plan at_once
  timed = record {
    fed = subst (λ (a : Attributes). AreFed diagram a plan at_once.fed) (sym attributes_known) are_fed;
    depths = subst (λ (a : Attributes). AreDepths diagram a plan at_once.depths) (sym attributes_known) are_depths;
    size = refl;
    lat = subst (λ (a : Attributes). IsLeast (arcs_with diagram a plan at_once.fed) at_once.lat) (sym attributes_known) (subst (λ (xs : List Arc). IsLeast xs at_once.lat) (sym arcs_are) least);
  }

  -- no other times are those of the blocks
  module _ (one_fed : FedIsOne) (one_lat : LatenciesAreOne) (one_depth : DepthsAreOne) where
    pub only_times : (other : Timing) → IsTimingOf diagram plan other → other ≡ at_once
    only_times other is =
        let mark = λ (place : ℕ). one_fed diagram (attributes_of diagram) plan other.fed at_once.fed place is.fed timed.fed in
        let depth = λ (place : ℕ). one_depth diagram (attributes_of diagram) plan other.depths at_once.depths place is.depths timed.depths in
        let lat = λ (place : ℕ). one_lat diagram plan other.lat at_once.lat place
        (record { fed = other.fed; are_fed = is.fed; size = is.size; least = is.lat })
        (record { fed = at_once.fed; are_fed = timed.fed; size = refl; least = timed.lat }) in
        let lats : other.lat ≡ at_once.lat = list_of_three other.lat 0 0 0 is.size (lat 0) (lat 1) (lat 2) in
        let feds : other.fed ≡ at_once.fed = marks_of_three other.fed false true true is.fed.size (mark 0) (mark 1) (mark 2) in
        let deeps : other.depths ≡ at_once.depths = list_of_three other.depths 0 1 1 is.depths.size (depth 0) (depth 1) (depth 2) in
        ap (λ (x : List ℕ). record other { lat = x }) lats
        ∙ ap (λ (x : List Bool). record other { lat = at_once.lat; fed = x }) feds
        ∙ ap (λ (x : List ℕ). record { lat = at_once.lat; fed = at_once.fed; depths = x }) deeps
