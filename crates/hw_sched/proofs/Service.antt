-- An operation is served in the slots of its level, before its block is ready.
use Rattle.std.proofs.Common.{◌≡◌, ℕ, zero, suc, ◌<◌, ◌≤◌, Bool, true, cond, [], ◌∷◌, length, refl, sym, ap, ◌∙◌, arith}
use Rattle.std.specs.Prelude.{Option, Some, None, ◌&&◌}
use Rattle.std.proofs.lemmas.Bool.{cond-true, and_parts, and_from, eq-eqb}
use Rattle.std.proofs.lemmas.Option.{none-some}
use Rattle.std.proofs.lemmas.List.Sums.{sum_by-cons}
use Rattle.dg_model.specs.declared.diagram.Diagram.{Diagram}
use Rattle.dg_model.specs.declared.resolved.Resolved.{Resolved}
use Rattle.dg_model.specs.Loop.{IsInstantPath}
use Rattle.dg_model.specs.Signals.{Attributes}
use Rattle.hw_latency.specs.Cone.{AreFed, is_marked}
use Rattle.hw_latency.specs.Shared.{multiplies, shares, is_shared}
use Rattle.hw_latency.specs.Weight.{samples}
use Rattle.hw_sched.specs.Level.{AreDepths, EndsWith, is_same_period, depth_at}
use Rattle.hw_sched.specs.Slots.{Timing, Operation, base_slot, level_of}
use Rattle.hw_sched.specs.Ready.{ready_of}
use Rattle.hw_sched.specs.Laws.{OperationsAreServed, OperationsHavePeriods}
use Rattle.hw_sched.proofs.Bases.{of_shared, shared_period, slot_within}

pub same_period : (period : Option ℕ) → is_same_period period period ≡ true
same_period None = refl
same_period (Some period) = eq-eqb period period refl

pub alone : (diagram : Diagram) (attributes : Attributes) (place : ℕ) → IsInstantPath diagram attributes (place ∷ [])
alone diagram attributes place zero from to at next = absurd (none-some to next)
alone diagram attributes place (suc k) from to at next = absurd (none-some from at)

-- a block stands at the end of the path that it is
pub ends_alone : (diagram : Diagram) (attributes : Attributes) (place : ℕ) → EndsWith diagram attributes (place ∷ []) place
ends_alone diagram attributes place = record { leads = alone diagram attributes place; last = 0; size = refl; ends = refl }

module _ (diagram : Diagram) (attributes : Attributes) (plan : Resolved) (timing : Timing)
    (fed : AreFed diagram attributes plan timing.fed) (depths : AreDepths diagram attributes plan timing.depths)
    (place : ℕ) (there : place < length diagram.blocks)
    (shared : is_shared diagram attributes plan place ≡ true) where
  shared_is_fed : is_marked timing.fed place ≡ true
  shared_is_fed = fed.whole place there (record { source = place; cone = record { path = place ∷ []; leads = alone diagram attributes place; begins = refl; last = 0; ends = refl }; shared = shared })

  shared_is_deep : 1 ≤ depth_at timing.depths place
  shared_is_deep =
      let most = (depths.are place there).most (place ∷ []) (ends_alone diagram attributes place) in
      let test : ℕ → Bool = λ other. is_shared diagram attributes plan other && is_same_period (attributes.period_at other) (attributes.period_at place) in
      let one = cond-true {A = ℕ} (test place) 1 0
      (and_from (is_shared diagram attributes plan place)
      (is_same_period (attributes.period_at place) (attributes.period_at place)) shared
      (same_period (attributes.period_at place))) in
      let sums = sum_by-cons (λ (other : ℕ). cond (test other) 1 0) place [] in
      omega (arith, most, one, sums)

  -- a shared block is ready with the first slot behind its level
  pub shared_ready : (o : Operation) → o.block ≡ place
      → ready_of diagram attributes plan timing place
      ≡ base_slot diagram attributes plan timing (samples (attributes.period_at place))
      (suc (level_of timing o))
  shared_ready o is =
      let depth : depth_at timing.depths place ≡ suc (level_of timing o) = let deep = shared_is_deep in let e = ap (depth_at timing.depths) is in omega (arith, deep, e) in
      cond-true (is_marked timing.fed place) (base_slot diagram attributes plan timing (samples (attributes.period_at place)) (depth_at timing.depths place)) 0 shared_is_fed
      ∙ ap (base_slot diagram attributes plan timing (samples (attributes.period_at place))) depth

pub served : OperationsAreServed
served diagram attributes plan timing number o period fed depths at is =
    let of = of_shared diagram attributes plan timing number o at in
    let p : samples (attributes.period_at o.block) ≡ period = ap samples is in
    let base = ap (λ (q : ℕ). base_slot diagram attributes plan timing q (level_of timing o)) p in
    record {
      level = omega (arith, base);
      within = slot_within diagram attributes plan timing number o period at p;
      ready = sym (shared_ready diagram attributes plan timing fed depths o.block of.there of.shared o refl ∙ ap (λ (q : ℕ). base_slot diagram attributes plan timing q (suc (level_of timing o))) p);
    }

pub have_periods : OperationsHavePeriods
have_periods diagram attributes plan number o at =
    let of = of_shared diagram attributes plan (record { lat = []; fed = []; depths = [] }) number o at in
    shared_period plan (attributes.period_at o.block) (and_parts (multiplies diagram o.block) (shares plan (attributes.period_at o.block)) of.shared).1
