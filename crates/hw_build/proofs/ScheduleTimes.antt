-- The times of a schedule are such as waves need: what the laws of a schedule say, in the form in which the laws of waves ask for it.
use Rattle.std.proofs.Common.{◌≡◌, ℕ, ◌*◌, ◌<◌, ◌≤◌, Bool, true, false, List, refl, sym, ap, subst, ◌∙◌, arith, eqb, get_or}
use Rattle.std.specs.Prelude.{◌&&◌, not, nat_lt, if◌then◌else◌, slice_get, Option, Some, None}
use Rattle.std.proofs.lemmas.Bool.{false≢true, and_parts, eqb-true}
use Rattle.std.proofs.lemmas.List.Quantifiers.{position-Some}
use Rattle.std.proofs.lemmas.Option.{none-some, same_Some, slice_get-get_or}
use Rattle.dg_model.specs.declared.diagram.Diagram.{Diagram}
use Rattle.dg_model.specs.declared.diagram.Block.{Block}
use Rattle.dg_model.specs.declared.diagram.Edge.{Edge}
use Rattle.dg_model.specs.declared.kind.Kind.{Kind}
use Rattle.dg_model.specs.declared.kind.Kind.TheVariants.{RateTransition}
use Rattle.dg_model.specs.declared.nested.Target.{Target}
use Rattle.dg_model.specs.declared.nested.Target.TheVariants.{Port, Enable}
use Rattle.dg_model.specs.declared.resolved.Resolved.{Resolved}
use Rattle.dg_model.specs.Attributes.{attributes_of}
use Rattle.dg_model.specs.Hits.{is_slow_to_fast}
use Rattle.dg_model.specs.Instant.{is_now, takes_now_at}
use Rattle.dg_model.specs.declared.row.Reading.{Reading}
use Rattle.dg_model.specs.declared.row.Standing.{Standing}
use Rattle.dg_model.specs.LatencyEdges.{LatencyEdge}
use Rattle.dg_model.specs.Library.{row_of}
use Rattle.dg_model.specs.Rate.{joins_periods}
use Rattle.dg_model.specs.Wired.{IsWired, MayStand}
use Rattle.dg_model.specs.Wires.{period_into}
use Rattle.hw_latency.specs.Laws.{UnaskedBlocksAreZero}
use Rattle.hw_latency.specs.Weight.{is_free, is_registered, behind}
use Rattle.hw_sched.specs.Slots.{Timing as Times, Operation, operation, shared_operations, slot_of}
use Rattle.hw_sched.specs.Ready.{ready_of}
use Rattle.hw_sched.specs.Laws.{is_moving, MovingHavePeriods, JoinsPeriods, IsEdge, LinesAreEdges, ControlsAreEdges, EdgesJoinPeriods, IsOperation, OperationsAreServed, OperationsHavePeriods}
use Rattle.hw_sched.specs.Laws.{NoneIntoRoots, RootsAreReady, ReadyFits, ReadyRises, OperandsAreReady, EdgesAreInTime}
use Rattle.hw_sched.specs.Scheduled.{IsScheduled}
use Rattle.hw_shows.specs.Timing.{Timing, IsPlainEdge, IsLateEdge, IsEdgeInTime}
use Rattle.hw_shows.specs.Timed.{lag_of, lag_into, Feeds, IsInTime}
use Rattle.hw_build.specs.Laws.{SchedulesAreTimed}
use Rattle.hw_build.specs.Times.{is_element, number_at, slot_by, timing_by}
use Rattle.math_list.proofs.Places.{held}

-- ---- slots

-- an operation has the slot that is told of its element
pub record IsSlotOf (diagram : Diagram) (plan : Resolved) (times : Times) (block element slot : ℕ) : Type 0 where
  pub number : ℕ
  pub is : IsOperation diagram (attributes_of diagram) plan number (operation block element)
  pub slot_is : slot_of diagram (attributes_of diagram) plan times number (operation block element) ≡ slot

pub slot_found : (diagram : Diagram) (plan : Resolved) (times : Times) (block element slot : ℕ) (found : Option ℕ)
    → number_at diagram plan block element ≡ found → slot_by diagram plan times block element found ≡ Some slot
    → IsSlotOf diagram plan times block element slot
slot_found diagram plan times block element slot None at e = absurd (none-some slot e)
slot_found diagram plan times block element slot (Some number) at e =
    let all : List Operation = shared_operations diagram (attributes_of diagram) plan in
    let found = position-Some (is_element block element) all number (operation block element) at in
    let o : Operation = get_or all number (operation block element) in
    let here : slice_get all number ≡ Some o = slice_get-get_or all number (operation block element) found.0 in
    let parts = and_parts (eqb o.block block) (eqb o.element element) found.1 in
    let block_is : o.block ≡ block = eqb-true o.block block parts.0 in
    let element_is : o.element ≡ element = eqb-true o.element element parts.1 in
    let same : ◌≡◌ {A = Operation} o (operation block element) = ap (λ (n : ℕ). operation n o.element) block_is ∙ ap (operation block) element_is in
    record { number = number; is = here ∙ ap Some same; slot_is = same_Some (slot_of diagram (attributes_of diagram) plan times number (operation block element)) slot e }

pub slot_told : (diagram : Diagram) (plan : Resolved) (times : Times) (block element slot : ℕ)
    → (timing_by diagram plan times).slot block element ≡ Some slot → IsSlotOf diagram plan times block element slot
slot_told diagram plan times block element slot e = slot_found diagram plan times block element slot (number_at diagram plan block element) refl e

-- ---- edges

rate_edge : (timing : Timing) (from source block own : ℕ) (slower b : Bool) → not slower ≡ not b → ((true && not (not b)) ≡ false → IsPlainEdge timing from source block own)
    → ((true && not (not b)) ≡ true → IsLateEdge timing from source block own (if b then source else 0))
    → IsEdgeInTime timing from source block own (lag_of Reading.BeforeIfSlower 0 None slower source)
rate_edge timing from source block own true true e plain late = late refl
rate_edge timing from source block own false false e plain late = plain refl
rate_edge timing from source block own true false e plain late = absurd (false≢true e)
rate_edge timing from source block own false true e plain late = absurd (false≢true (sym e))

-- an end of a block is in time as it reads
edge_by : (timing : Timing) (from source block own delay : ℕ) (reading : Reading) (enable : Option ℕ)
    (slower : Bool) → (joins_periods reading ≡ false → own ≡ source)
    → (joins_periods reading ≡ true → enable ≡ None)
    → is_now reading slower ≡ is_now reading (nat_lt own source) → ((is_free enable && not (is_now reading (nat_lt own source))) ≡ false → IsPlainEdge timing from source block own)
    → ((is_free enable && not (is_now reading (nat_lt own source))) ≡ true
    → IsLateEdge timing from source block own (behind reading delay own source))
    → IsEdgeInTime timing from source block own (lag_of reading delay enable slower source)
edge_by timing from source block own delay Reading.Now None slower same free now plain late = plain refl
edge_by timing from source block own delay Reading.Now (Some control) slower same free now plain late = plain refl
edge_by timing from source block own delay Reading.Before None slower same free now plain late = subst (λ (p : ℕ). IsLateEdge timing from source block own (delay * p)) (same refl) (late refl)
edge_by timing from source block own delay Reading.Before (Some control) slower same free now plain late = plain refl
edge_by timing from source block own delay Reading.BeforeIfSlower None slower same free now plain late = go slower now
  where
    go : (slower : Bool) → not slower ≡ not (nat_lt own source) → IsEdgeInTime timing from source block own (lag_of Reading.BeforeIfSlower delay None slower source)
    go true e = rate_edge timing from source block own true (nat_lt own source) e plain late
    go false e = rate_edge timing from source block own false (nat_lt own source) e plain late
edge_by timing from source block own delay Reading.BeforeIfSlower (Some control) slower same free now plain late = absurd (none-some control (sym (free refl)))

-- what joins two periods stands outside of enabled subsystems
stands_outside : (kind : Kind) → joins_periods (row_of kind).timing.reads ≡ true → (row_of kind).place.stands ≡ Standing.Outside
stands_outside (RateTransition period initial) e = refl
stands_outside _ e = absurd (false≢true e)

pub free_of_control : (diagram : Diagram) (block : ℕ) (b : Block) → IsWired diagram → slice_get diagram.blocks block ≡ Some b → joins_periods (row_of b.kind).timing.reads ≡ true → b.enable ≡ None
free_of_control diagram block b wired at joins =
    subst (λ (s : Standing). MayStand s b.enable) (stands_outside b.kind joins) (held (λ (x : Block). MayStand (row_of x.kind).place.stands x.enable) diagram.blocks block b wired.enables at)

module _ (zeros : UnaskedBlocksAreZero) (moving : MovingHavePeriods) (lines : LinesAreEdges)
    (controls : ControlsAreEdges) (joins : EdgesJoinPeriods) (in_time : EdgesAreInTime)
    (served : OperationsAreServed) (have : OperationsHavePeriods)
    (none : NoneIntoRoots) (roots : RootsAreReady) (fits : ReadyFits) (rises : ReadyRises) (operands : OperandsAreReady)
  where
    module _ (diagram : Diagram) (plan : Resolved) (times : Times) (s : IsScheduled diagram plan times) where
      abbrev edge_into : ℕ → Target → ℕ → ℕ → LatencyEdge
      edge_into block target from from_port = record { from = from; from_port = from_port; to = block; target = target }

      -- an end of a block, by how its registers are told
      abbrev IsToldBy : ℕ → Block → Target → ℕ → ℕ → ℕ → Type 0
      IsToldBy block b target from from_port source = (own : ℕ) → JoinsPeriods diagram (edge_into block target from from_port) b source own
          → (is_registered b own source ≡ false → IsPlainEdge (timing_by diagram plan times) from source block own)
          → (is_registered b own source ≡ true → IsLateEdge (timing_by diagram plan times) from source block own (behind (row_of b.kind).timing.reads (row_of b.kind).timing.delay own source))
          → IsEdgeInTime (timing_by diagram plan times) from source block own (lag_into diagram (attributes_of diagram) block b target source)

      end_in_time : (block : ℕ) (b : Block) (target : Target) (from from_port source number : ℕ)
          → slice_get diagram.blocks block ≡ Some b → IsEdge diagram number (edge_into block target from from_port)
          → (attributes_of diagram).period_at from ≡ Some source → IsToldBy block b target from from_port source
          → IsInTime diagram (attributes_of diagram) (timing_by diagram plan times) block b target from source
      end_in_time block b target from from_port source number at is_edge is told =
          let edge : LatencyEdge = edge_into block target from from_port in
          let own = joins diagram number edge b source s.checked is_edge at is in
          let late = in_time diagram plan times number edge b source own.0 s.checked s.timed is_edge at is own.1.period in
          record {
            own = own.0;
            period = own.1.period;
            same = own.1.same;
            edge = told own.0 own.1 (λ h. record { divides = own.1.plain h; behind = late.plain h }) (λ h. record { divides = own.1.late h; behind = late.late h; whole = late.whole h });
            ready = λ now. rises diagram plan times number edge source s is_edge (ap (takes_now_at diagram (attributes_of diagram) edge) at ∙ now) is;
            slot = λ element slot told.
                let o = slot_told diagram plan times block element slot told in
                subst (λ (n : ℕ). ready_of diagram (attributes_of diagram) plan times from ≤ n) o.slot_is
                (operands diagram plan times number edge source o.number
                (operation block element) s is_edge is o.is refl);
          }

      ends_in_time : (block : ℕ) (b : Block) (target : Target) (from source : ℕ)
          → slice_get diagram.blocks block ≡ Some b → Feeds diagram block b target from
          → (attributes_of diagram).period_at from ≡ Some source
          → IsInTime diagram (attributes_of diagram) (timing_by diagram plan times) block b target from source
      ends_in_time block b (Port port) from source at feeds is =
          let line : Edge = feeds.0 in
          let number = lines diagram block port line feeds.3 in
          let is_edge : IsEdge diagram number.0 (edge_into block (Port port) from line.from_port) =
          subst (λ (n : ℕ). IsEdge diagram number.0 (edge_into block (Port port) n line.from_port)) feeds.4
          number.1 in
          end_in_time block b (Port port) from line.from_port source number.0 at is_edge is
          (λ own j plain late. edge_by (timing_by diagram plan times) from source block own (row_of b.kind).timing.delay (row_of b.kind).timing.reads b.enable
          (is_slow_to_fast (period_into diagram (attributes_of diagram) block 1)
          ((attributes_of diagram).period_at block)) j.same
          (free_of_control diagram block b s.checked.wired at) j.now plain late)
      ends_in_time block b Enable from source at feeds is =
          let number = controls diagram block b from at feeds.0 feeds.1 in
          end_in_time block b Enable from 1 source number.0 at number.1 is
          (λ own j plain late. plain (ap (λ (e : Option ℕ). is_free e
          && not (is_now (row_of b.kind).timing.reads (nat_lt own source))) feeds.0))

      slot_early : (block element slot : ℕ) → (timing_by diagram plan times).slot block element ≡ Some slot → slot < ready_of diagram (attributes_of diagram) plan times block
      slot_early block element slot told =
          let o = slot_told diagram plan times block element slot told in
          let period = have diagram (attributes_of diagram) plan o.number (operation block element) o.is in
          let is = served diagram (attributes_of diagram) plan times o.number (operation block element) period.0 s.timed.fed s.timed.depths o.is period.1 in
          omega (arith, is.within, is.ready, o.slot_is)

      none_still : (block element : ℕ) (found : Option ℕ) → number_at diagram plan block element ≡ found
          → (attributes_of diagram).period_at block ≡ None → slot_by diagram plan times block element found ≡ None
      none_still block element None at e = refl
      none_still block element (Some number) at e =
          let o = slot_found diagram plan times block element (slot_of diagram (attributes_of diagram) plan times number (operation block element)) (Some number) at refl in
          let period = have diagram (attributes_of diagram) plan o.number (operation block element) o.is in
          absurd (none-some period.0 (sym e ∙ period.1))

    pub schedules_are_timed : SchedulesAreTimed
    schedules_are_timed diagram plan times s = record {
      ready = λ block period e. fits diagram plan times block period s e;
      edges = λ block b target from source at showing feeds is. ends_in_time diagram plan times s block b target from source at feeds is;
      moving = λ block b at e. moving diagram block b s.checked at (ap is_moving e);
      base = λ block b at e. (
        zeros diagram plan times.lat block (record { fed = times.fed; are_fed = s.timed.fed; size = s.timed.size; least = s.timed.lat })
            (record { idle = λ number edge is_edge to. absurd (none diagram block b number edge s.checked.wired at e is_edge to) }),
        roots diagram plan times block b s.checked.wired s.timed.fed at e,
      );
      slots = slot_early diagram plan times s;
      still = λ block element e. none_still diagram plan times s block element (number_at diagram plan block element) refl e;
    }
