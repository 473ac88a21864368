-- The depth of a block from those of the blocks that it reads in its own sample.
use Rattle.std.proofs.Common.{◌≡◌, ℕ, zero, suc, ◌+◌, ◌-◌, ◌≤◌, Bool, true, false, cond, List, [], ◌∷◌, ◌++◌, length, take, refl, sym, ap, ◌∙◌, inl, inr, arith}
use Rattle.std.specs.Prelude.{slice_get, Option, Some, None, count_by, ◌&&◌, ◌⊎◌}
use Rattle.std.proofs.lemmas.Bool.{false≢true, cases_Bool, cases_eq, cases_lt, and_parts, eqb-true}
use Rattle.std.proofs.lemmas.List.{take_all, get_or_past}
use Rattle.std.proofs.lemmas.List.Sums.{sum_by_push, sum_by_more}
use Rattle.std.proofs.lemmas.Option.{none-some, same_Some, slice_get_within, slice_get-get_or, get_or_from_slice_get}
use Rattle.dg_model.specs.declared.diagram.Diagram.{Diagram}
use Rattle.dg_model.specs.declared.resolved.Resolved.{Resolved}
use Rattle.dg_model.specs.Attributes.{attributes_of}
use Rattle.dg_model.specs.Checked.{IsChecked}
use Rattle.dg_model.specs.LatencyEdges.{LatencyEdge, latency_edges}
use Rattle.dg_model.specs.Loop.{LeadsNow, IsInstantPath}
use Rattle.dg_model.specs.Signals.{Attributes}
use Rattle.hw_latency.specs.Shared.{multiplies, shares, is_shared}
use Rattle.hw_sched.specs.Laws.{IsEdge, DepthsAreOne}
use Rattle.hw_sched.specs.Level.{is_same_period, EndsWith, IsDepth}
use Rattle.hw_sched.proofs.Bases.{shared_period}
use Rattle.hw_sched.proofs.Lists.{none_counted}
use Rattle.math_list.proofs.Places.{get_taken}
use Rattle.hw_sched.proofs.Paths.{ends_later, path_taken, take_length}
use Rattle.hw_sched.proofs.Rates.{edges_join_periods}
use Rattle.hw_sched.proofs.Readiness.{end_of, instant_longer}
use Rattle.hw_sched.proofs.Service.{ends_alone, same_period}

pub period_is : (period other : Option ℕ) → is_same_period period other ≡ true → period ≡ other
period_is None None e = refl
period_is None (Some other) e = absurd (false≢true e)
period_is (Some period) None e = absurd (false≢true e)
period_is (Some period) (Some other) e = ap (λ (n : ℕ). Some n) (eqb-true period other e)

same_number : (period other : Option ℕ) (n m : ℕ) → period ≡ Some n → other ≡ Some m → n ≡ m → period ≡ other
same_number period other n m is too same = is ∙ ap (λ (k : ℕ). Some k) same ∙ sym too

same_or_not : (period other : Option ℕ) → (period ≡ other) ⊎ (period ≡ other → ⊥)
same_or_not None None = inl refl
same_or_not None (Some other) = inr (λ e. none-some other e)
same_or_not (Some period) None = inr (λ e. none-some period (sym e))
same_or_not (Some period) (Some other) = elim (cases_eq period other) [ inl same ↦ inl (ap (λ (n : ℕ). Some n) same) | inr differ ↦ inr (λ e. differ (same_Some period other e)) ]

-- what is best of the depths of the blocks of one's own period that are read in the same sample
pub record IsBest (diagram : Diagram) (attributes : Attributes) (depth : ℕ → ℕ) (place best : ℕ) : Type 0 where
  pub reached : (best ≡ 0) ⊎ ((source : ℕ) × LeadsNow diagram attributes source place × (attributes.period_at source ≡ attributes.period_at place) × (depth source ≡ best))
  pub most : (source : ℕ) → LeadsNow diagram attributes source place → attributes.period_at source ≡ attributes.period_at place → depth source ≤ best

module _ (diagram : Diagram) (plan : Resolved) (checked : IsChecked diagram) where
  abbrev Leads : ℕ → ℕ → Type 0
  Leads from to = LeadsNow diagram (attributes_of diagram) from to

  abbrev period : ℕ → Option ℕ
  period place = (attributes_of diagram).period_at place

  abbrev counts : Option ℕ → ℕ → Bool
  counts p place = is_shared diagram (attributes_of diagram) plan place && is_same_period (period place) p

  -- an instant edge from a block of a period leads to one of no shorter period
  no_shorter : (from to p : ℕ) → Leads from to → period from ≡ Some p → (q : ℕ) × (period to ≡ Some q) × (p ≤ q)
  no_shorter from to p leads is =
      let number = leads.0 in
      let edge = leads.1 in
      let is_edge : IsEdge diagram number edge = slice_get-get_or (latency_edges diagram) number edge leads.2 ∙ ap (λ (e : LatencyEdge). Some e) leads.3 in
      let from_is : period edge.from ≡ Some p = ap period leads.4.0 ∙ is in
      let end = end_of diagram edge leads.4.2 in
      let joins = edges_join_periods diagram number edge end.0 p checked is_edge end.1 from_is in
      (joins.0, sym (ap period leads.4.1) ∙ joins.1.period, instant_longer diagram number edge end.0 p joins.0 is_edge leads.4.2 end.1 joins.1)

  -- from a place of a path on no block has a shorter period
  along : (path : List ℕ) (steps k from to p : ℕ) → IsInstantPath diagram (attributes_of diagram) path
      → slice_get path k ≡ Some from → slice_get path (steps + k) ≡ Some to → period from ≡ Some p
      → (q : ℕ) × (period to ≡ Some q) × (p ≤ q)
  along path zero k from to p leads at end is =
      let here : 0 + k ≡ k = omega arith in
      let same : from ≡ to = same_Some from to (sym at ∙ ap (slice_get path) (sym here) ∙ end) in
      (p, ap period (sym same) ∙ is, omega arith)
  along path (suc steps) k from to p leads at end is =
      let within = slice_get_within path (suc steps + k) to end in
      let there = slice_get-get_or path (suc k) 0 (omega (arith, within)) in
      let step = no_shorter from _ p (leads k from _ at there) is in
      let place : suc steps + k ≡ steps + suc k = omega arith in
      let more = along path steps (suc k) _ to step.0 leads there (ap (slice_get path) (sym place) ∙ end) step.1 in
      let low = step.2 in
      let high = more.2 in
      (more.0, more.1, omega (arith, low, high))

  -- before an edge from another period no block on a path has the period that it leads to
  none_before : (path : List ℕ) (source place : ℕ) → EndsWith diagram (attributes_of diagram) path source
      → Leads source place → (period source ≡ period place → ⊥) → count_by (counts (period place)) path ≡ 0
  none_before path source place ends now differ = none_counted (counts (period place)) path (λ k x at. uncounted k x at (cases_Bool (counts (period place) x)))
    where
      uncounted : (k x : ℕ) → slice_get path k ≡ Some x → (counts (period place) x ≡ true) ⊎ (counts (period place) x ≡ false) → counts (period place) x ≡ false
      uncounted k x at (inr fails) = fails
      uncounted k x at (inl holds) =
          let parts = and_parts (is_shared diagram (attributes_of diagram) plan x) (is_same_period (period x) (period place)) holds in
          let some = shared_period plan (period x) (and_parts (multiplies diagram x) (shares plan (period x)) parts.0).1 in
          let same : period x ≡ period place = period_is (period x) (period place) parts.1 in
          let within = slice_get_within path k x at in
          let size = ends.size in
          let low : (ends.last - k) + k ≡ ends.last = omega (arith, within, size) in
          let last = along path (ends.last - k) k x source some.0 ends.leads at (ap (slice_get path) low ∙ ends.ends) some.1 in
          let next = no_shorter source place last.0 now last.1 in
          let own : some.0 ≡ next.0 = same_Some some.0 next.0 (sym some.1 ∙ same ∙ next.1) in
          let first = last.2 in
          let second = next.2 in
          let equal : last.0 ≡ next.0 = omega (arith, own, first, second) in
          absurd (differ (same_number (period source) (period place) last.0 next.0 last.1 next.1 equal))

  abbrev own_count : ℕ → ℕ
  own_count place = cond (is_shared diagram (attributes_of diagram) plan place) 1 0

  own_counted : (place : ℕ) → ◌≡◌ {A = ℕ} (cond (counts (period place) place) 1 0) (own_count place)
  own_counted place = go (is_shared diagram (attributes_of diagram) plan place) (is_same_period (period place) (period place)) (same_period (period place))
    where
      go : (x y : Bool) → y ≡ true → ◌≡◌ {A = ℕ} (cond (x && y) 1 0) (cond x 1 0)
      go true true e = refl
      go true false e = absurd (false≢true e)
      go false y e = refl

  module _ (depth : ℕ → ℕ) (place best : ℕ)
      (deep : (source : ℕ) → Leads source place
      → IsDepth diagram (attributes_of diagram) plan source (depth source))
      (is_best : IsBest diagram (attributes_of diagram) depth place best) where
    -- a path that ends with the block counts no more
    at_most : (path : List ℕ) → EndsWith diagram (attributes_of diagram) path place → count_by (counts (period place)) path ≤ best + own_count place
    at_most path ends = go ends.last refl
      where
        -- the last block alone is counted behind the others
        split : (last : ℕ) → ends.last ≡ last → count_by (counts (period place)) path ≡ count_by (counts (period place)) (take last path) + own_count place
        split last is =
            let size = ends.size in
            let at : slice_get path last ≡ Some place = ap (slice_get path) (sym is) ∙ ends.ends in
            let more = sum_by_more (λ (x : ℕ). cond (counts (period place) x) 1 0) path last place (omega (arith, size, is)) in
            let read = get_or_from_slice_get path last place place at in
            let counted = ap (λ (x : ℕ). cond {A = ℕ} (counts (period place) x) 1 0) read ∙ own_counted place in
            let all : take (last + 1) path ≡ path = take_all (last + 1) path (omega (arith, size, is)) in
            let whole = ap (count_by (counts (period place))) all in
            omega (arith, more, counted, whole)

        before : (last source : ℕ) → ends.last ≡ suc last → slice_get path last ≡ Some source → EndsWith diagram (attributes_of diagram) (take (suc last) path) source
        before last source is at = record {
          leads = path_taken diagram (attributes_of diagram) (suc last) path ends.leads;
          last = last;
          size = let size = ends.size in take_length (suc last) path (omega (arith, size, is));
          ends = get_taken (suc last) path last source (omega arith) at;
        }

        go : (last : ℕ) → ends.last ≡ last → count_by (counts (period place)) path ≤ best + own_count place
        go zero is = let s = split 0 is in omega (arith, s)
        go (suc last) is =
            let size = ends.size in
            let at = slice_get-get_or path last 0 (omega (arith, size, is)) in
            let now = ends.leads last _ place at (ap (slice_get path) (sym is) ∙ ends.ends) in
            let first = before last _ is at in
            let s = split (suc last) is in
            elim (same_or_not (period _) (period place)) [
              | inl same ↦
                  let most = (deep _ now).most (take (suc last) path) first in
                  let count = ap (λ (p : Option ℕ). count_by (counts p) (take (suc last) path)) same in
                  let low = is_best.most _ now same in
                  omega (arith, s, most, count, low)
              | inr differ ↦ let none = none_before (take (suc last) path) _ place first now differ in omega (arith, s, none)
            ]

    pub depth_is : IsDepth diagram (attributes_of diagram) plan place (best + own_count place)
    depth_is = elim is_best.reached [
      | inl none ↦ record {
        path = place ∷ [];
        ends = ends_alone diagram (attributes_of diagram) place;
        reached = let sums = sum_by_push (λ (x : ℕ). cond (counts (period place) x) 1 0) [] place in let own = own_counted place in omega (arith, sums, own, none);
        most = at_most;
      }
      | inr some ↦ record {
        path = (deep some.0 some.1).path ++ place ∷ [];
        ends = ends_later diagram (attributes_of diagram) (deep some.0 some.1).path some.0 place (deep some.0 some.1).ends some.1;
        reached =
            let sums = sum_by_push (λ (x : ℕ). cond (counts (period place) x) 1 0) (deep some.0 some.1).path place in
            let own = own_counted place in
            let reached = ap (λ (p : Option ℕ). count_by (counts p) (deep some.0 some.1).path) (sym some.2) ∙ (deep some.0 some.1).reached in
            let best_is = some.3 in
            omega (arith, sums, own, reached, best_is);
        most = at_most;
      }
    ]

-- ---- depths are one

pub depths_are_one : DepthsAreOne
depths_are_one diagram attributes plan depths other place are too = elim (cases_lt place (length diagram.blocks)) [
  | inl there ↦
      let first = are.are place there in
      let second = too.are place there in
      let low = second.most first.path first.ends in
      let high = first.most second.path second.ends in
      let reached = first.reached in
      let met = second.reached in
      omega (arith, low, high, reached, met)
  | inr past ↦
      let size = are.size in
      let many = too.size in
      get_or_past depths place 0 (omega (arith, size, past)) ∙ sym (get_or_past other place 0 (omega (arith, many, past)))
]
