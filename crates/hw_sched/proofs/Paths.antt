-- Instant paths that go on by an edge.
use Rattle.std.proofs.Common.{◌≡◌, ℕ, zero, suc, ◌≤◌, Bool, true, cond, List, [], ◌∷◌, ◌++◌, length, take, refl, sym, ap, subst, ◌∙◌, inl, inr, arith}
use Rattle.std.specs.Prelude.{slice_get, Option, Some, count_by, ◌&&◌}
use Rattle.std.proofs.lemmas.Bool.{cond-true, and_from}
use Rattle.std.proofs.lemmas.List.{length-append}
use Rattle.std.proofs.lemmas.List.Sums.{sum_by_push}
use Rattle.std.proofs.lemmas.Option.{none-some, same_Some, slice_get_within, get_or_from_slice_get}
use Rattle.dg_model.specs.declared.diagram.Diagram.{Diagram}
use Rattle.dg_model.specs.declared.resolved.Resolved.{Resolved}
use Rattle.dg_model.specs.Instant.{IsInstant}
use Rattle.dg_model.specs.LatencyEdges.{LatencyEdge, latency_edges}
use Rattle.dg_model.specs.Loop.{LeadsNow, IsInstantPath, IsInCone}
use Rattle.dg_model.specs.Signals.{Attributes}
use Rattle.hw_latency.specs.Cone.{IsFed}
use Rattle.hw_latency.specs.Shared.{is_shared}
use Rattle.hw_sched.specs.Laws.{IsEdge}
use Rattle.hw_sched.specs.Level.{is_same_period, shared_on, EndsWith, IsDepth}
use Rattle.hw_sched.proofs.Service.{same_period}
use Rattle.math_list.proofs.Places.{last_at, push_cases, get_taken}
use Rattle.hw_sched.proofs.SlotNumbers.{taken_from}

pub take_length : {A : Type 0} (n : ℕ) (xs : List A) → n ≤ length xs → length (take n xs) ≡ n
take_length zero xs few = refl
take_length (suc n) [] few = absurd (omega arith)
take_length (suc n) (x ∷ xs) few = ap suc (take_length n xs (omega arith))

module _ (diagram : Diagram) (attributes : Attributes) where
  -- an edge that is instant leads on
  pub leads_now : (number : ℕ) (edge : LatencyEdge) → IsEdge diagram number edge → IsInstant diagram attributes edge → LeadsNow diagram attributes edge.from edge.to
  leads_now number edge at now = (number, edge, slice_get_within (latency_edges diagram) number edge at, get_or_from_slice_get (latency_edges diagram) number edge edge at, (refl, refl, now))

  path_push : (path : List ℕ) (last from to : ℕ) → IsInstantPath diagram attributes path → length path ≡ suc last
      → slice_get path last ≡ Some from → LeadsNow diagram attributes from to
      → IsInstantPath diagram attributes (path ++ to ∷ [])
  path_push path last from to leads size ends now k x y here next = elim (push_cases path to (suc k) y next) [
    | inl old ↦ elim (push_cases path to k x here) [
      | inl there ↦ leads k x y there old
      | inr new ↦ let within = slice_get_within path (suc k) y old in let end = new.0 in absurd (omega (arith, within, end))
    ]
    | inr new ↦ elim (push_cases path to k x here) [
      | inl there ↦
          let end = new.0 in
          let at : k ≡ last = omega (arith, end, size) in
          let x_is : from ≡ x = same_Some from x (sym ends ∙ ap (slice_get path) (sym at) ∙ there) in
          subst (λ (n : ℕ). LeadsNow diagram attributes x n) new.1 (subst (λ (n : ℕ). LeadsNow diagram attributes n to) x_is now)
      | inr other ↦ let end = new.0 in let too = other.0 in absurd (omega (arith, end, too))
    ]
  ]

  pub ends_later : (path : List ℕ) (from to : ℕ) → EndsWith diagram attributes path from → LeadsNow diagram attributes from to → EndsWith diagram attributes (path ++ to ∷ []) to
  ends_later path from to ends now = record {
    leads = path_push path ends.last from to ends.leads ends.size ends.ends now;
    last = suc ends.last;
    size = let size = ends.size in omega (arith, size, length-append path (to ∷ []));
    ends = ap (slice_get (path ++ to ∷ [])) (sym ends.size) ∙ last_at path to;
  }

  pub path_taken : (n : ℕ) (path : List ℕ) → IsInstantPath diagram attributes path → IsInstantPath diagram attributes (take n path)
  path_taken n path leads k x y here next = leads k x y (taken_from n path k x here) (taken_from n path (suc k) y next)

  -- a cone goes on
  cone_later : (source from to : ℕ) → IsInCone diagram attributes source from → LeadsNow diagram attributes from to → IsInCone diagram attributes source to
  cone_later source from to cone now =
      let within = slice_get_within cone.path cone.last from cone.ends in
      let size : length (take (suc cone.last) cone.path) ≡ suc cone.last = take_length (suc cone.last) cone.path (omega (arith, within)) in
      let begins : slice_get (take (suc cone.last) cone.path) 0 ≡ Some source = get_taken (suc cone.last) cone.path 0 source (omega arith) cone.begins in
      record {
        path = take (suc cone.last) cone.path ++ to ∷ [];
        leads = path_push (take (suc cone.last) cone.path) cone.last from to
            (path_taken (suc cone.last) cone.path cone.leads) size
            (get_taken (suc cone.last) cone.path cone.last from (omega arith) cone.ends) now;
        begins = first_stays (take (suc cone.last) cone.path) source begins;
        last = length (take (suc cone.last) cone.path);
        ends = last_at (take (suc cone.last) cone.path) to;
      }
    where
      first_stays : (xs : List ℕ) (x : ℕ) → slice_get xs 0 ≡ Some x → slice_get (xs ++ to ∷ []) 0 ≡ Some x
      first_stays [] x at = absurd (none-some x at)
      first_stays (y ∷ xs) x at = at

  module _ (plan : Resolved) where
    pub fed_later : (from to : ℕ) → IsFed diagram attributes plan from → LeadsNow diagram attributes from to → IsFed diagram attributes plan to
    fed_later from to fed now = record { source = fed.source; cone = cone_later fed.source from to fed.cone now; shared = fed.shared }

    abbrev counts : Option ℕ → ℕ → Bool
    counts period place = is_shared diagram attributes plan place && is_same_period (attributes.period_at place) period

    -- depths don't fall along an instant edge in a period, and rise to a shared block
    pub depth_later : (from to depth later : ℕ) → attributes.period_at from ≡ attributes.period_at to
        → LeadsNow diagram attributes from to → IsDepth diagram attributes plan from depth
        → IsDepth diagram attributes plan to later
        → (depth ≤ later) × (is_shared diagram attributes plan to ≡ true → suc depth ≤ later)
    depth_later from to depth later same now deep end =
        let most = end.most (deep.path ++ to ∷ []) (ends_later deep.path from to deep.ends now) in
        let reached : count_by (counts (attributes.period_at to)) deep.path ≡ depth = ap (λ (p : Option ℕ). shared_on diagram attributes plan p deep.path) (sym same) ∙ deep.reached in
        let sums = sum_by_push (λ (place : ℕ). cond (counts (attributes.period_at to) place) 1 0) deep.path to in (
          omega (arith, most, reached, sums),
          λ shared.
              let one = cond-true {A = ℕ} (counts (attributes.period_at to) to) 1 0
              (and_from (is_shared diagram attributes plan to)
              (is_same_period (attributes.period_at to) (attributes.period_at to)) shared
              (same_period (attributes.period_at to))) in
              omega (arith, most, reached, sums, one),
        )
