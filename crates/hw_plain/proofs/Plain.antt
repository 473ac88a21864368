-- Plans without sharing and pipelining: nothing is late, and of the rules only that of storage can
-- be broken.
use borrow.Author.Tests.{ltb-true}
use Rattle.std.proofs.Common.{◌≡◌, ℕ, zero, suc, ◌+◌, ◌-◌, ◌*◌, ◌<◌, ◌≤◌, ◌⊎◌, ⊎_elim, Bool, true, false, cond, ◌&&◌, List, [], ◌∷◌, length, map, Option, None, Some, refl, sym, ap, subst, ◌∙◌, arith}
use Rattle.std.specs.Prelude.{filter, not, nat_lt, ◌==◌, if◌then◌else◌, slice_get, slice_index}
use Rattle.std.specs.List.{flat_map, sum}
use Rattle.std.proofs.lemmas.Bool.{and_parts, cases_Bool, false≢true}
use Rattle.std.proofs.lemmas.Option.{none-some}
use Rattle.std.proofs.Math.Nat.{mul-le-mul_left}
use Rattle.math_list.specs.Numbers.{numbers_from, greatest}
use Rattle.dg_model.specs.declared.diagram.Block.{Block}
use Rattle.dg_model.specs.declared.diagram.Diagram.{Diagram}
use Rattle.dg_model.specs.declared.diagram.Edge.{Edge}
use Rattle.dg_model.specs.declared.fault.RuleFault.{RuleFault}
use Rattle.dg_model.specs.declared.fault.Shown.TheVariants.{Size}
use Rattle.dg_model.specs.declared.kind.Kind.{Kind}
use Rattle.dg_model.specs.declared.kind.Kind.TheVariants.{Delay}
use Rattle.dg_model.specs.declared.plan.Plan.{Plan}
use Rattle.dg_model.specs.declared.plan.Pipeline.{Pipeline}
use Rattle.dg_model.specs.declared.resolved.Resolved.{Resolved}
use Rattle.dg_model.specs.declared.row.Reading.{Reading}
use Rattle.dg_model.specs.declared.rule.Rule.{Rule}
use Rattle.dg_model.specs.Attributes.{attributes_of}
use Rattle.dg_model.specs.Checked.{IsChecked}
use Rattle.dg_model.specs.Faults.{fault_of}
use Rattle.dg_model.specs.Instant.{is_now}
use Rattle.dg_model.specs.LatencyEdges.{LatencyEdge, latency_edges}
use Rattle.dg_model.specs.Library.{row_of}
use Rattle.dg_model.specs.PlanNames.{BreaksPlan, IsResolved, count_of}
use Rattle.dg_model.specs.PlanOf.{stages_at}
use Rattle.dg_model.specs.Rate.{joins_periods}
use Rattle.dg_model.specs.Readable.{IsReadable}
use Rattle.dg_model.specs.RootElements.{RootElement, root_outputs}
use Rattle.dg_model.specs.Signals.{Attributes}
use Rattle.math_list.proofs.Places.{held, map_there}
use Rattle.hw_arcs.specs.declared.arc.Arc.{Arc}
use Rattle.hw_arcs.specs.Latencies.{IsFeasible, KeepsArc, latency_at}
use Rattle.hw_arcs.specs.Laws.{CyclesLeaveNone}
use Rattle.hw_latency.specs.Cone.{AreFed, is_marked}
use Rattle.hw_latency.specs.Latency.{BreaksLatency}
use Rattle.hw_latency.specs.Shared.{is_shared, multiplies, shares}
use Rattle.hw_latency.specs.Weight.{arc_from, arc_into, arc_of, behind, gain_into, is_free, is_registered, latency_arcs, samples, slack_into}
use Rattle.hw_rules.specs.Rules.{BreaksBudgetFirst, BreaksSizeFirst, BreaksTimesOf, IsFoundIn}
use Rattle.hw_sched.specs.Laws.{EdgesJoinPeriods, PeriodsAreAbove, UnfedAreReady}
use Rattle.hw_sched.specs.Ready.{declared_latency, ready_of, units_in_all, unshared}
use Rattle.hw_sched.specs.Scheduled.{IsTimingOf}
use Rattle.hw_sched.specs.Slots.{Operation, Timing, base_slot, have_of, kinds_of, level_of, need_of, operations_of, shared_operations, shorter_into, start_of, units_of_kind}
use Rattle.hw_sched.specs.Storage.{greatest_latency, most_latency, most_storage, storage}
use Rattle.hw_plain.specs.Plain.{BreaksStorage, IsAtOnce, IsPlain, PlainPlansAreAtOnce, PlainPlansBreakStorage, multiplied_elements}

-- ---- lists and numbers

none-pass : {X : Type 0} (test : X → Bool) → ((x : X) → test x ≡ false) → (xs : List X) → filter test xs ≡ []
none-pass test none [] = refl
none-pass test none (x ∷ xs) = ap (λ b. cond b (x ∷ filter test xs) (filter test xs)) (none x) ∙ none-pass test none xs

same-filter : {X : Type 0} (test other : X → Bool) → ((x : X) → test x ≡ other x) → (xs : List X) → filter test xs ≡ filter other xs
same-filter test other same [] = refl
same-filter test other same (x ∷ xs) =
    ap (λ b. cond b (x ∷ filter test xs) (filter test xs)) (same x) ∙ ap (λ later. cond (other x) (x ∷ later) later) (same-filter test other same xs)

zeros : {X : Type 0} (f : X → ℕ) → ((x : X) → f x ≡ 0) → (xs : List X) (place : ℕ) → slice_index (map f xs) place ≡ 0
zeros f each [] place = refl
zeros f each (x ∷ xs) zero = each x
zeros f each (x ∷ xs) (suc place) = zeros f each xs place

and-false : (a b : Bool) → b ≡ false → a && b ≡ false
and-false true b e = e
and-false false b e = refl

and-true : (a b : Bool) → b ≡ false → a && not b ≡ a
and-true true b e = ap not e
and-true false b e = refl

greatest-within : {X : Type 0} (f : X → ℕ) (bound : ℕ) → ((x : X) → f x ≤ bound) → (xs : List X) → greatest (map f xs) ≤ bound
greatest-within f bound each [] = omega arith
greatest-within f bound each (x ∷ xs) = let here = each x in let later = greatest-within f bound each xs in omega (arith, here, later)

room : (start period cycles : ℕ) → start < period → 1 ≤ cycles → start * cycles ≤ period * cycles - 1
room start period cycles less some = let most = mul-le-mul_left cycles (omega_le start period less) in omega (arith, most, some)
  where
    omega_le : (a b : ℕ) → a < b → a + 1 ≤ b
    omega_le a b h = omega (arith, h)

shorter : (joins same : Bool) (source period : ℕ) → (if joins && (same && nat_lt source period) then source else 0) ≤ period - 1
shorter joins same source period = go joins same (nat_lt source period) refl where
  go : (j s b : Bool) → nat_lt source period ≡ b → (if j && (s && b) then source else 0) ≤ period - 1
  go false s b e = omega arith
  go true false b e = omega arith
  go true true false e = omega arith
  go true true true e = let less = ltb-true source period e in omega (arith, less)

-- ---- registered edges make up for their register

-- a kind that reads what was before keeps at least one sample
delays-some : (kind : Kind) → (row_of kind).parameters → (row_of kind).timing.reads ≡ Reading.Before → 1 ≤ (row_of kind).timing.delay
delays-some (Delay delay initial reset) parameters reads = parameters.0.0
delays-some kind parameters reads = cc

behind-some : (reads : Reading) (delay own period : ℕ) → (reads ≡ Reading.Before → 1 ≤ delay) → 0 < own → not (is_now reads (nat_lt own period)) ≡ true → 1 ≤ behind reads delay own period
behind-some Reading.Now delay own period delays some registered = absurd (false≢true registered)
behind-some Reading.Before delay own period delays some registered = let long = mul-le-mul_left own (delays refl) in omega (arith, long, some)
behind-some Reading.BeforeIfSlower delay own period delays some registered = go (nat_lt own period) refl registered where
  go : (b : Bool) → nat_lt own period ≡ b → not (not b) ≡ true → 1 ≤ (if b then period else 0)
  go true e h = let less = ltb-true own period e in omega (arith, less)
  go false e h = absurd (false≢true h)

repaid : (block : Block) (own period : ℕ) → 0 < own → IsReadable block
    → gain_into (is_registered block own period) false 0 period ≤ slack_into (is_registered block own period) block own period
repaid block own period some readable = go (is_registered block own period) refl where
  go : (b : Bool) → is_registered block own period ≡ b → gain_into b false 0 period ≤ slack_into b block own period
  go false e = omega arith
  go true e =
      let late = (and_parts (is_free block.enable) (not (is_now (row_of block.kind).timing.reads (nat_lt own period))) e).1 in
      let least = behind-some (row_of block.kind).timing.reads (row_of block.kind).timing.delay own period (delays-some block.kind readable.parameters) some late in
      omega (arith, least)

-- ---- the numbers of a plain plan for the blocks

-- no multiplier is shared, and no block has registers behind it
record IsBare (plan : Resolved) : Type 0 where
  pub unshared : plan.multipliers ≡ 0
  pub stages : (place : ℕ) → stages_at plan place ≡ 0

none-counted : (plan : Plan) → plan.pipelines ≡ [] → (path : List ℕ) → count_of plan path ≡ 0
none-counted plan none path = ap (λ (lines : List Pipeline). count_of (record plan { pipelines = lines }) path) none

bare : (diagram : Diagram) (plan : Plan) (resolved : Resolved) → IsPlain plan → IsResolved diagram plan resolved → IsBare resolved
bare diagram plan resolved plain numbers = record {
  unshared = numbers.multipliers ∙ plain.unshared;
  stages = λ place. ap (λ (stages : List ℕ). slice_index stages place) numbers.stages
      ∙ zeros (λ (block : Block). count_of plan block.path)
      (λ block. none-counted plan plain.unpipelined block.path) diagram.blocks place;
}

module _ (above : PeriodsAreAbove) (joins : EdgesJoinPeriods) (unfed : UnfedAreReady) (diagram : Diagram) (checked : IsChecked diagram) (plan : Resolved) (is_bare : IsBare plan) where
  abbrev A : Attributes
  A = attributes_of diagram

  -- ---- nothing is shared

  none-shares : (period : Option ℕ) → shares plan period ≡ false
  none-shares None = refl
  none-shares (Some period) = ap (λ (count : ℕ). nat_lt 0 count && nat_lt 1 (period * plan.cycles)) is_bare.unshared

  none-shared : (place : ℕ) → is_shared diagram A plan place ≡ false
  none-shared place = and-false (multiplies diagram place) (shares plan (A.period_at place)) (none-shares (A.period_at place))

  none-operates : shared_operations diagram A plan ≡ []
  none-operates = ap (flat_map (operations_of A)) (none-pass (is_shared diagram A plan) none-shared (numbers_from 0 (length diagram.blocks)))

  unmarked : (fed : List Bool) → AreFed diagram A plan fed → (place : ℕ) → is_marked fed place ≡ false
  unmarked fed are place = ⊎_elim
      (λ (marked : is_marked fed place ≡ true). let cone = are.sound place marked in absurd (false≢true (sym (none-shared cone.source) ∙ cone.shared)))
      (λ (free : is_marked fed place ≡ false). free)
      (cases_Bool (is_marked fed place))

  -- ---- nothing is late

  module _ (fed : List Bool) (are : AreFed diagram A plan fed) where
    keeps-into : (edge : LatencyEdge) (number period : ℕ) → slice_get (latency_edges diagram) number ≡ Some edge
        → A.period_at edge.from ≡ Some period → (o : Option Block) → slice_get diagram.blocks edge.to ≡ o
        → KeepsArc [] (arc_into edge.from edge.to (is_marked fed edge.from) (stages_at plan edge.from) period (samples (A.period_at edge.to)) o)
    keeps-into edge number period at is None there counts = absurd (false≢true counts)
    keeps-into edge number period at is (Some block) there counts =
        let join = joins diagram number edge block period checked at there is in
        let some = above diagram edge.to join.0 checked join.1.period in
        let Asks = λ (f : Bool) (stages own : ℕ). gain_into (is_registered block own period) f stages period ≤ slack_into (is_registered block own period) block own period in
        let enough = repaid block join.0 period some (held IsReadable diagram.blocks edge.to block checked.wired.blocks there) in
        let bare_one = subst (λ (stages : ℕ). Asks false stages join.0) (sym (is_bare.stages edge.from)) enough in
        let fed_one = subst (λ (f : Bool). Asks f (stages_at plan edge.from) join.0) (sym (unmarked fed are edge.from)) bare_one in
        let all = subst (λ (own : Option ℕ). Asks (is_marked fed edge.from) (stages_at plan edge.from) (samples own)) (sym join.1.period) fed_one in
        omega (arith, all)

    keeps-from : (edge : LatencyEdge) (number : ℕ) → slice_get (latency_edges diagram) number ≡ Some edge
        → (period : Option ℕ) → A.period_at edge.from ≡ period
        → KeepsArc [] (arc_from diagram A plan fed edge.from edge.to period)
    keeps-from edge number at None is counts = absurd (false≢true counts)
    keeps-from edge number at (Some period) is counts = keeps-into edge number period at is (slice_get diagram.blocks edge.to) refl counts

    none-asks : IsFeasible (latency_arcs diagram plan fed) []
    none-asks = record {
      keeps = λ number arc at.
          let of = map_there (arc_of diagram A plan fed) (latency_edges diagram) number arc at in
          subst (λ (a : Arc). KeepsArc [] a) of.2 (keeps-from of.0 number of.1 (A.period_at of.0.from) refl);
    }

  none-late : (timing : Timing) → IsTimingOf diagram plan timing → (place : ℕ) → latency_at timing.lat place ≡ 0
  none-late timing timed place = let low = timed.lat.least [] (none-asks timing.fed timed.fed) place in omega (arith, low)

  at-ready : (timing : Timing) → IsTimingOf diagram plan timing → (place : ℕ) → ready_of diagram A plan timing place ≡ 0
  at-ready timing timed place = unfed diagram A plan timing place (unmarked timing.fed timed.fed place)

  none-declared : (timing : Timing) → IsTimingOf diagram plan timing → (place : ℕ) → declared_latency diagram A plan timing place ≡ 0
  none-declared timing timed place =
      let late = none-late timing timed place in
      let ready = at-ready timing timed place in
      ap (λ (lat : ℕ). lat * plan.cycles + ready_of diagram A plan timing place) late ∙ omega (arith, ready)

  -- ---- a multiplication for each element

  own-units : (timing : Timing) → units_in_all diagram A plan timing ≡ 0
  own-units timing = ap (λ (operations : List Operation). sum (map (units_of_kind diagram A plan timing) (kinds_of diagram A timing [] operations))) none-operates

  all-unshared : unshared diagram A plan ≡ multiplied_elements diagram
  all-unshared = ap (λ (places : List ℕ). sum (map (λ place. A.width_at place 1) places))
      (same-filter (λ place. multiplies diagram place && not (is_shared diagram A plan place)) (multiplies diagram)
      (λ place. and-true (multiplies diagram place) (is_shared diagram A plan place) (none-shared place)) (numbers_from 0 (length diagram.blocks)))

  at-once-of : (timing : Timing) → IsTimingOf diagram plan timing → IsAtOnce diagram plan timing
  at-once-of timing timed = record {
    latency = none-late timing timed;
    ready = at-ready timing timed;
    declared = none-declared timing timed;
    owes = let units = own-units timing in let others = all-unshared in omega (arith, units, others);
  }

  -- ---- rules

  leaves-latencies : CyclesLeaveNone → (fault : RuleFault) → BreaksLatency diagram plan fault → ⊥
  leaves-latencies leaves fault broken =
      let told = broken.is_cycle in
      leaves (latency_arcs diagram plan told.fed) broken.cycle broken.total [] told.gains (none-asks told.fed told.are_fed)

  need-start : (timing : Timing) (period : ℕ) → need_of diagram A plan timing period ≡ start_of diagram A plan period
  need-start timing period =
      ap (λ (operations : List Operation). base_slot diagram A plan timing period
      (greatest (map (λ o. if samples (A.period_at o.block) == period then suc (level_of timing o) else 0)
      operations))) none-operates ∙ omega arith

  keeps-budget : 1 ≤ plan.cycles → (timing : Timing) (period : ℕ) → 0 < period → need_of diagram A plan timing period ≤ have_of plan period
  keeps-budget clocks timing period some =
      let f = λ (edge : Edge). shorter_into A period edge (slice_get diagram.blocks edge.to) in
      let least = greatest-within f (period - 1) (λ edge. start-below period edge (slice_get diagram.blocks edge.to)) diagram.edges in
      let is = need-start timing period in
      let fits = room (greatest (map f diagram.edges)) period plan.cycles (omega (arith, least, some)) clocks in
      omega (arith, is, fits)
    where
      start-below : (period : ℕ) (edge : Edge) (o : Option Block) → shorter_into A period edge o ≤ period - 1
      start-below period edge None = omega arith
      start-below period edge (Some block) = shorter (joins_periods (row_of block.kind).timing.reads) (samples (A.period_at edge.to) == period) (samples (A.period_at edge.from)) period

  leaves-budget : 1 ≤ plan.cycles → (fault : RuleFault) → BreaksBudgetFirst diagram plan fault → ⊥
  leaves-budget clocks fault first =
      let some = above diagram first.broken.there.place first.broken.period checked first.broken.there.is in
      let keeps = keeps-budget clocks first.timing first.broken.period some in
      let over = first.broken.broken in
      omega (arith, keeps, over)

  none-greatest : (timing : Timing) → IsTimingOf diagram plan timing → greatest_latency diagram A plan timing ≡ 0
  none-greatest timing timed =
      let low = greatest-within (λ (e : RootElement). declared_latency diagram A plan timing e.block) 0
      (λ e. let none = none-declared timing timed e.block in omega (arith, none)) (root_outputs diagram A) in
      omega (arith, low)

  breaks-storage : (own : Plan) (fault : RuleFault) → IsFoundIn diagram own plan → BreaksSizeFirst diagram plan fault → BreaksStorage diagram own fault
  breaks-storage own fault found first = record {
    resolved = plan;
    timing = first.timing;
    found = found;
    timed = first.timed;
    above = ⊎_elim
        (λ (over : most_storage < storage diagram A plan first.timing). over)
        (λ (late : most_latency < greatest_latency diagram A plan first.timing). let none = none-greatest first.timing first.timed in absurd (omega (arith, late, none)))
        first.broken.broken;
    fault_is = first.broken.fault_is ∙ ap (λ (latency : ℕ). fault_of Rule.Size [] (Size (storage diagram A plan first.timing) latency)) (none-greatest first.timing first.timed);
  }

pub at-once : PeriodsAreAbove → EdgesJoinPeriods → UnfedAreReady → PlainPlansAreAtOnce
at-once above joins unfed diagram plan resolved timing checked plain found timed = at-once-of above joins unfed diagram checked resolved (bare diagram plan resolved plain found.numbers) timing timed

pub break-storage : CyclesLeaveNone → PeriodsAreAbove → EdgesJoinPeriods → UnfedAreReady → PlainPlansBreakStorage
break-storage leaves above joins unfed diagram plan fault checked plain clocks broken = ⊎_elim
    (λ (missing : BreaksPlan diagram (attributes_of diagram) plan fault). absurd
    (none-some missing.line (ap (λ (lines : List Pipeline). slice_get lines missing.number)
    (sym plain.unpipelined) ∙ missing.line_is)))
    (λ (times : BreaksTimesOf diagram plan fault).
    let is_bare = bare diagram plan times.resolved plain times.found.numbers in
    let some : 1 ≤ times.resolved.cycles = (let same = times.found.numbers.cycles in omega (arith, same, clocks)) in
    ⊎_elim
    (λ (late : BreaksLatency diagram times.resolved fault). absurd (leaves-latencies above joins unfed diagram checked times.resolved is_bare leaves fault late))
    (λ (later : BreaksBudgetFirst diagram times.resolved fault ⊎ BreaksSizeFirst diagram times.resolved fault). ⊎_elim
    (λ (budget : BreaksBudgetFirst diagram times.resolved fault). absurd (leaves-budget above joins unfed diagram checked times.resolved is_bare some fault budget))
    (λ (size : BreaksSizeFirst diagram times.resolved fault). breaks-storage above joins unfed diagram checked times.resolved is_bare plan fault times.found size)
    later)
    times.broken)
    broken
