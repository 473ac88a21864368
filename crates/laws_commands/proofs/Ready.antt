-- A block is ready in its step, whether or not its value changes.
use Rattle.std.proofs.Common.{◌≡◌, ℕ, zero, suc, ◌*◌, ◌<◌, Bool, true, false, List, Option, None, Some, refl, sym, ap, subst, ◌∙◌, arith}
use Rattle.std.specs.Prelude.{slice_get, unwrap_or}
use Rattle.std.proofs.lemmas.Bool.{and_parts, false≢true}
use Rattle.std.proofs.lemmas.Option.{none-some, same_Some, slice_get-get_or}
use Rattle.dg_model.specs.declared.diagram.Block.{Block}
use Rattle.dg_model.specs.declared.diagram.Diagram.{Diagram}
use Rattle.dg_model.specs.declared.resolved.Resolved.{Resolved}
use Rattle.dg_model.specs.Attributes.{attributes_of}
use Rattle.dg_model.specs.Instant.{IsInstant, takes_now_at}
use Rattle.dg_model.specs.LatencyEdges.{LatencyEdge, latency_edges}
use Rattle.dg_model.specs.Loop.{IsInstantPath, LeadsNow}
use Rattle.dg_model.specs.Signals.{Attributes}
use Rattle.math_list.proofs.Places.{get_some, there_within}
use Rattle.hw_latency.specs.Cone.{is_marked}
use Rattle.hw_latency.specs.Shared.{is_shared, multiplies, shares}
use Rattle.hw_sched.specs.Laws.{EdgesJoinPeriods, PeriodsAreAbove, ReadyFits, UnfedAreReady}
use Rattle.hw_sched.specs.Ready.{ready_of}
use Rattle.hw_sched.specs.Scheduled.{IsScheduled}
use Rattle.hw_sched.specs.Slots.{Timing}

-- the laws of schedules
pub record Schedules : Type 0 where
  pub above : PeriodsAreAbove
  pub joins : EdgesJoinPeriods
  pub unfed : UnfedAreReady
  pub fits : ReadyFits

module _ (laws : Schedules) {diagram : Diagram} {plan : Resolved} {timing : Timing} (scheduled : IsScheduled diagram plan timing) where
  abbrev A : Attributes
  A = attributes_of diagram

  abbrev HasPeriod : ℕ → Type 0
  HasPeriod place = (period : ℕ) × (A.period_at place ≡ Some period)

  -- an instant edge ends at a block
  end-of : (edge : LatencyEdge) → IsInstant diagram A edge → (b : Block) × (slice_get diagram.blocks edge.to ≡ Some b)
  end-of edge now = go (slice_get diagram.blocks edge.to) refl now where
    go : (o : Option Block) → slice_get diagram.blocks edge.to ≡ o → takes_now_at diagram A edge o ≡ true → (b : Block) × (slice_get diagram.blocks edge.to ≡ Some b)
    go None e h = absurd (false≢true h)
    go (Some b) e h = (b, e)

  -- where its source has a period, that block has one
  leads-on : (from to : ℕ) → LeadsNow diagram A from to → HasPeriod from → HasPeriod to
  leads-on from to (number, edge, below, is, (from-is, to-is, now)) (source, period) =
      let at : slice_get (latency_edges diagram) number ≡ Some edge = slice_get-get_or (latency_edges diagram) number edge below ∙ ap (λ (x : LatencyEdge). Some x) is in
      let b = end-of edge now in
      let j = laws.joins diagram number edge b.0 source scheduled.checked at b.1 (ap A.period_at from-is ∙ period) in
      (j.0, ap A.period_at (sym to-is) ∙ j.1.period)

  along : (path : List ℕ) → IsInstantPath diagram A path → (first : ℕ) → slice_get path 0 ≡ Some first → HasPeriod first → (k place : ℕ) → slice_get path k ≡ Some place → HasPeriod place
  along path leads first begins has zero place at = subst (λ n. HasPeriod n) (same_Some first place (sym begins ∙ at)) has
  along path leads first begins has (suc k) place at =
      let more = there_within path (suc k) place at in
      let before = get_some path k (omega (arith, more)) in
      leads-on before.0 place (leads k before.0 place before.1 at) (along path leads first begins has k before.0 before.1)

  shared-moves : (place : ℕ) → is_shared diagram A plan place ≡ true → HasPeriod place
  shared-moves place shared = go (A.period_at place) refl (and_parts (multiplies diagram place) (shares plan (A.period_at place)) shared).1 where
    go : (o : Option ℕ) → A.period_at place ≡ o → shares plan o ≡ true → HasPeriod place
    go None e h = absurd (false≢true h)
    go (Some period) e h = (period, e)

  -- what stands behind a shared operation has a period
  fed-moves : (place : ℕ) → is_marked timing.fed place ≡ true → HasPeriod place
  fed-moves place marked =
      let fed = scheduled.timed.fed.sound place marked in
      along fed.cone.path fed.cone.leads fed.source fed.cone.begins (shared-moves fed.source fed.shared) fed.cone.last place fed.cone.ends

  still-ready : (place : ℕ) → A.period_at place ≡ None → ready_of diagram A plan timing place ≡ 0
  still-ready place still = go (is_marked timing.fed place) refl where
    go : (b : Bool) → is_marked timing.fed place ≡ b → ready_of diagram A plan timing place ≡ 0
    go true marked = let has = fed-moves place marked in absurd (none-some has.0 (sym still ∙ has.1))
    go false unmarked = laws.unfed diagram A plan timing place unmarked

  pub ready-in : (place : ℕ) (period : Option ℕ) → A.period_at place ≡ period → ready_of diagram A plan timing place < unwrap_or period 1 * plan.cycles
  ready-in place None still = let now = still-ready place still in let some = scheduled.planned.some_clocks in omega (arith, now, some)
  ready-in place (Some period) is = laws.fits diagram plan timing place period scheduled is

  pub some-step : (place : ℕ) (period : Option ℕ) → A.period_at place ≡ period → 0 < unwrap_or period 1
  some-step place None still = omega arith
  some-step place (Some period) is = laws.above diagram place period scheduled.checked is
