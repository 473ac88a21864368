-- When outputs are ready in a diagram that keeps the rules.
use Rattle.std.proofs.Common.{◌≡◌, ℕ, suc, ◌+◌, ◌<◌, ◌≤◌, Bool, true, false, eqb, length, map, refl, sym, ap, subst, ◌∙◌, inl, inr, arith, mul-le-mul_right}
use Rattle.std.specs.Prelude.{slice_get, Option, Some, None, not, ◌&&◌, nat_lt}
use Rattle.std.proofs.Math.Nat.{one-le-mul}
use Rattle.std.proofs.lemmas.Bool.{false≢true, cases_Bool, cases_lt, cases_order, cond-true, cond-false, and_parts, and_from, eq-eqb, lt-ltb}
use Rattle.std.proofs.lemmas.List.{get_or_past}
use Rattle.std.proofs.lemmas.Option.{same_Some, slice_get_within}
use Rattle.dg_model.specs.declared.diagram.Diagram.{Diagram}
use Rattle.dg_model.specs.declared.diagram.Block.{Block}
use Rattle.dg_model.specs.declared.diagram.Edge.{Edge}
use Rattle.dg_model.specs.declared.kind.Kind.{Kind}
use Rattle.dg_model.specs.declared.kind.Kind.TheVariants.{Gain, Product}
use Rattle.dg_model.specs.declared.nested.Target.TheVariants.{Port}
use Rattle.dg_model.specs.declared.resolved.Resolved.{Resolved}
use Rattle.dg_model.specs.Attributes.{attributes_of}
use Rattle.dg_model.specs.Instant.{takes_now, takes_now_at, IsInstant, is_now, reads_now}
use Rattle.dg_model.specs.declared.row.Reading.{Reading}
use Rattle.dg_model.specs.LatencyEdges.{LatencyEdge, asks_ever}
use Rattle.dg_model.specs.Library.{row_of}
use Rattle.dg_model.specs.Loop.{LeadsNow}
use Rattle.dg_model.specs.Rate.{joins_periods}
use Rattle.dg_model.specs.Signals.{Attributes}
use Rattle.math_list.specs.Numbers.{greatest}
use Rattle.hw_latency.specs.Cone.{is_marked}
use Rattle.hw_latency.specs.Shared.{multiplies, multiplies_if, shares, is_shared}
use Rattle.hw_latency.specs.Weight.{samples}
use Rattle.math_list.proofs.Sums.{greatest_at}
use Rattle.hw_sched.specs.Level.{depth_at}
use Rattle.hw_sched.specs.Slots.{Timing, Operation, base_slot, shorter_into, level_of}
use Rattle.hw_sched.specs.Ready.{ready_of}
use Rattle.hw_sched.specs.Scheduled.{IsScheduled}
use Rattle.hw_sched.specs.Laws.{IsEdge, JoinsPeriods, ReadyFits, ReadyRises, OperandsAreReady}
use Rattle.hw_sched.proofs.Bases.{of_shared, base_rises, base_within}
use Rattle.hw_sched.proofs.Edges.{IsLine, control_edge, edge_cases}
use Rattle.hw_sched.proofs.Paths.{leads_now, fed_later, depth_later}
use Rattle.hw_sched.proofs.Periods.{periods_are_above}
use Rattle.hw_sched.proofs.Rates.{edges_join_periods, never_asks}

module _ (diagram : Diagram) (attributes : Attributes) (plan : Resolved) (timing : Timing) (place : ℕ) where
  abbrev behind_all : ℕ
  behind_all = base_slot diagram attributes plan timing (samples (attributes.period_at place)) (depth_at timing.depths place)

  pub unfed_ready : is_marked timing.fed place ≡ false → ready_of diagram attributes plan timing place ≡ 0
  unfed_ready fails = cond-false (is_marked timing.fed place) behind_all 0 fails

  pub fed_ready : (period : ℕ) → is_marked timing.fed place ≡ true → attributes.period_at place ≡ Some period
      → ready_of diagram attributes plan timing place
      ≡ base_slot diagram attributes plan timing period (depth_at timing.depths place)
  fed_ready period holds is =
      let p : samples (attributes.period_at place) ≡ period = ap samples is in
      cond-true (is_marked timing.fed place) behind_all 0 holds ∙ ap (λ (n : ℕ). base_slot diagram attributes plan timing n (depth_at timing.depths place)) p

pub ready_fits : ReadyFits
ready_fits diagram plan timing place period scheduled is =
    let above = periods_are_above diagram place period scheduled.checked is in
    let clocks = scheduled.planned.some_clocks in
    let some = one-le-mul {a = period} {b = plan.cycles} (omega (arith, above)) clocks in
    elim (cases_Bool (is_marked timing.fed place)) [
      | inl holds ↦
          let ready = fed_ready diagram (attributes_of diagram) plan timing place period holds is in
          let low = base_within diagram (attributes_of diagram) plan timing period (depth_at timing.depths place) in
          let keeps = scheduled.budget.keeps period (record { place = place; is = is }) in
          omega (arith, ready, low, keeps, some)
      | inr fails ↦ let ready = unfed_ready diagram (attributes_of diagram) plan timing place fails in omega (arith, ready, some)
    ]

-- ---- what multiplies reads in its own sample, and asks for no control

reads_at_once : (kind : Kind) → (row_of kind).hardware.multiplies ≡ true
    → (joins_periods (row_of kind).timing.reads ≡ false)
    × ((slower : Bool) → is_now (row_of kind).timing.reads slower ≡ true)
    × (asks_ever (row_of kind).timing.asks ≡ false)
reads_at_once (Gain value param) is = (refl, λ slower. refl, refl)
reads_at_once Product is = (refl, λ slower. refl, refl)
reads_at_once _ is = absurd (false≢true is)

-- ---- an instant edge

-- it ends at a block
pub end_of : (diagram : Diagram) (edge : LatencyEdge) → IsInstant diagram (attributes_of diagram) edge → (b : Block) × (slice_get diagram.blocks edge.to ≡ Some b)
end_of diagram edge now = go (slice_get diagram.blocks edge.to) refl now
  where
    go : (o : Option Block) → slice_get diagram.blocks edge.to ≡ o → takes_now_at diagram (attributes_of diagram) edge o ≡ true → (b : Block) × (slice_get diagram.blocks edge.to ≡ Some b)
    go None e h = absurd (false≢true h)
    go (Some b) e h = (b, e)

-- a transition has no control
transition_line : (diagram : Diagram) (number : ℕ) (edge : LatencyEdge) (b : Block) → IsEdge diagram number edge
    → slice_get diagram.blocks edge.to ≡ Some b → joins_periods (row_of b.kind).timing.reads ≡ true
    → IsLine diagram edge
transition_line diagram number edge b is_edge at holds = elim (edge_cases diagram number edge is_edge) [
  | inl line ↦ line
  | inr control ↦
      let place : 0 + control.place ≡ control.place = omega arith in
      let to_is : control.place ≡ edge.to = sym (ap (λ (e : LatencyEdge). e.to) (control.is ∙ ap (control_edge control.control) place)) in
      let same : control.block ≡ b = same_Some control.block b (sym control.at ∙ ap (slice_get diagram.blocks) to_is ∙ at) in
      absurd (never_asks b.kind holds (ap (λ (x : Block). asks_ever (row_of x.kind).timing.asks) (sym same) ∙ control.asks))
]

-- it leads to no shorter period
pub instant_longer : (diagram : Diagram) (number : ℕ) (edge : LatencyEdge) (b : Block) (source own : ℕ)
    → IsEdge diagram number edge → IsInstant diagram (attributes_of diagram) edge
    → slice_get diagram.blocks edge.to ≡ Some b → JoinsPeriods diagram edge b source own
    → source ≤ own
instant_longer diagram number edge b source own is_edge now at joins = elim (cases_Bool (joins_periods (row_of b.kind).timing.reads)) [
  | inr fails ↦ let same = joins.same fails in omega (arith, same)
  | inl holds ↦
      let line = transition_line diagram number edge b is_edge at holds in
      let target : edge.target ≡ Port line.line.to_port = ap (λ (e : LatencyEdge). e.target) line.is in
      let taken : takes_now diagram (attributes_of diagram) edge.to b.kind edge.target ≡ true = ap (takes_now_at diagram (attributes_of diagram) edge) (sym at) ∙ now in
      let read : reads_now diagram (attributes_of diagram) edge.to b.kind ≡ true = ap (takes_now diagram (attributes_of diagram) edge.to b.kind) (sym target) ∙ taken in
      by_reading (row_of b.kind).timing.reads holds (sym joins.now ∙ read)
]
  where
    by_reading : (reads : Reading) → joins_periods reads ≡ true → is_now reads (nat_lt own source) ≡ true → source ≤ own
    by_reading Reading.Now holds is = absurd (false≢true holds)
    by_reading Reading.Before holds is = absurd (false≢true holds)
    by_reading Reading.BeforeIfSlower holds is = elim (cases_lt own source) [
      | inl less ↦ absurd (false≢true (sym (ap not (lt-ltb own source less)) ∙ is))
      | inr past ↦ past
    ]

module _ (diagram : Diagram) (plan : Resolved) (timing : Timing) (scheduled : IsScheduled diagram plan timing) where
  abbrev ready : ℕ → ℕ
  ready place = ready_of diagram (attributes_of diagram) plan timing place

  marked_there : (place : ℕ) → is_marked timing.fed place ≡ true → place < length diagram.blocks
  marked_there place holds = elim (cases_lt place (length diagram.blocks)) [
    | inl there ↦ there
    | inr past ↦ let size = scheduled.timed.fed.size in absurd (false≢true (sym (get_or_past timing.fed place false (omega (arith, size, past))) ∙ holds))
  ]

  module _ (number : ℕ) (edge : LatencyEdge) (source own : ℕ) (b : Block) (is_edge : IsEdge diagram number edge)
      (now : IsInstant diagram (attributes_of diagram) edge) (at : slice_get diagram.blocks edge.to ≡ Some b)
      (from_is : (attributes_of diagram).period_at edge.from ≡ Some source) (joins : JoinsPeriods diagram edge b source own) (fed : is_marked timing.fed edge.from ≡ true) where
    leads : LeadsNow diagram (attributes_of diagram) edge.from edge.to
    leads = leads_now diagram (attributes_of diagram) number edge is_edge now

    there : edge.to < length diagram.blocks
    there = slice_get_within diagram.blocks edge.to b at

    fed_end : is_marked timing.fed edge.to ≡ true
    fed_end = scheduled.timed.fed.whole edge.to there (fed_later diagram (attributes_of diagram) plan edge.from edge.to (scheduled.timed.fed.sound edge.from fed) leads)

    -- in one period depths don't fall
    deeper : own ≡ source → (depth_at timing.depths edge.from ≤ depth_at timing.depths edge.to)
        × (is_shared diagram (attributes_of diagram) plan edge.to ≡ true
        → suc (depth_at timing.depths edge.from) ≤ depth_at timing.depths edge.to)
    deeper same =
        depth_later diagram (attributes_of diagram) plan edge.from edge.to (depth_at timing.depths edge.from) (depth_at timing.depths edge.to)
        (from_is ∙ ap (λ (n : ℕ). Some n) (sym same) ∙ sym joins.period) leads (scheduled.timed.depths.are edge.from (marked_there edge.from fed)) (scheduled.timed.depths.are edge.to there)

    from_ready : ready edge.from ≡ base_slot diagram (attributes_of diagram) plan timing source (depth_at timing.depths edge.from)
    from_ready = fed_ready diagram (attributes_of diagram) plan timing edge.from source fed from_is

    pub rises_in : own ≡ source → (level : ℕ) → depth_at timing.depths edge.from ≤ level → ready edge.from ≤ base_slot diagram (attributes_of diagram) plan timing own level
    rises_in same level low =
        let rises = base_rises diagram (attributes_of diagram) plan timing own (depth_at timing.depths edge.from) level low in
        let e = ap (λ (n : ℕ). base_slot diagram (attributes_of diagram) plan timing n (depth_at timing.depths edge.from)) same in
        let ready_is = from_ready in
        omega (arith, rises, e, ready_is)

    end_ready : ready edge.to ≡ base_slot diagram (attributes_of diagram) plan timing own (depth_at timing.depths edge.to)
    end_ready = fed_ready diagram (attributes_of diagram) plan timing edge.to own fed_end joins.period

    pub rises_same : own ≡ source → ready edge.from ≤ ready edge.to
    rises_same same = let low = rises_in same (depth_at timing.depths edge.to) (deeper same).0 in let end = end_ready in omega (arith, low, end)

    pub below_level : own ≡ source → (o : Operation) → o.block ≡ edge.to
        → is_shared diagram (attributes_of diagram) plan edge.to ≡ true
        → ready edge.from ≤ base_slot diagram (attributes_of diagram) plan timing own (level_of timing o)
    below_level same o is shared =
        let deep = (deeper same).1 shared in
        let e = ap (depth_at timing.depths) is in
        rises_in same (level_of timing o) (omega (arith, deep, e))

    -- into a longer period
    pub rises_longer : source < own → joins_periods (row_of b.kind).timing.reads ≡ true → IsLine diagram edge → ready edge.from ≤ ready edge.to
    rises_longer less joining line =
        let fits = ready_fits diagram plan timing edge.from source scheduled from_is in
        let to_is : line.line.to ≡ edge.to = ap (λ (e : LatencyEdge). e.to) (sym line.is) in
        let from_at : line.line.from ≡ edge.from = ap (λ (e : LatencyEdge). e.from) (sym line.is) in
        let own_is : samples ((attributes_of diagram).period_at line.line.to) ≡ own = ap (λ (n : ℕ). samples ((attributes_of diagram).period_at n)) to_is ∙ ap samples joins.period in
        let source_is : samples ((attributes_of diagram).period_at line.line.from) ≡ source = ap (λ (n : ℕ). samples ((attributes_of diagram).period_at n)) from_at ∙ ap samples from_is in
        let shorter : shorter_into (attributes_of diagram) own line.line (slice_get diagram.blocks line.line.to) ≡ source =
        ap (shorter_into (attributes_of diagram) own line.line) (ap (slice_get diagram.blocks) to_is ∙ at)
        ∙ cond-true (joins_periods (row_of b.kind).timing.reads
        && (eqb (samples ((attributes_of diagram).period_at line.line.to)) own
        && nat_lt (samples ((attributes_of diagram).period_at line.line.from)) own))
        (samples ((attributes_of diagram).period_at line.line.from)) 0
        (and_from (joins_periods (row_of b.kind).timing.reads)
        (eqb (samples ((attributes_of diagram).period_at line.line.to)) own
        && nat_lt (samples ((attributes_of diagram).period_at line.line.from)) own) joining
        (and_from (eqb (samples ((attributes_of diagram).period_at line.line.to)) own) (nat_lt (samples ((attributes_of diagram).period_at line.line.from)) own)
        (eq-eqb (samples ((attributes_of diagram).period_at line.line.to)) own own_is) (lt-ltb (samples ((attributes_of diagram).period_at line.line.from)) own (omega (arith, source_is, less)))))
        ∙ source_is in
        let most = greatest_at (λ (e : Edge). shorter_into (attributes_of diagram) own e (slice_get diagram.blocks e.to)) diagram.edges line.place line.line line.at in
        let times = mul-le-mul_right {m = source}
        {n = greatest (map (λ (e : Edge). shorter_into (attributes_of diagram) own e
        (slice_get diagram.blocks e.to)) diagram.edges)} plan.cycles (omega (arith, most, shorter)) in
        let start = base_rises diagram (attributes_of diagram) plan timing own 0 (depth_at timing.depths edge.to) (omega arith) in
        let end = end_ready in
        omega (arith, fits, times, start, end)

    -- a reader of another period is a transition into a longer one
    pub rises : ready edge.from ≤ ready edge.to
    rises = elim (cases_order own source) [
      | inl same ↦ rises_same same
      | inr apart ↦ elim (cases_Bool (joins_periods (row_of b.kind).timing.reads)) [
        | inr fails ↦ rises_same (joins.same fails)
        | inl holds ↦ elim apart [
          | inl less ↦ let longer = instant_longer diagram number edge b source own is_edge now at joins in absurd (omega (arith, less, longer))
          | inr more ↦ rises_longer more holds (transition_line diagram number edge b is_edge at holds)
        ]
      ]
    ]

pub ready_rises : ReadyRises
ready_rises diagram plan timing number edge source scheduled is_edge now from_is =
    let end = end_of diagram edge now in
    let joins = edges_join_periods diagram number edge end.0 source scheduled.checked is_edge end.1 from_is in
    elim (cases_Bool (is_marked timing.fed edge.from)) [
      | inl holds ↦ rises diagram plan timing scheduled number edge source joins.0 end.0 is_edge now end.1 from_is joins.1 holds
      | inr fails ↦ let ready = unfed_ready diagram (attributes_of diagram) plan timing edge.from fails in omega (arith, ready)
    ]

-- ---- the operands of a shared operation

pub multiplier_at : (diagram : Diagram) (place : ℕ) → multiplies diagram place ≡ true → (b : Block) × (slice_get diagram.blocks place ≡ Some b) × ((row_of b.kind).hardware.multiplies ≡ true)
multiplier_at diagram place is = go (slice_get diagram.blocks place) refl is
  where
    go : (o : Option Block) → slice_get diagram.blocks place ≡ o → multiplies_if o ≡ true → (b : Block) × (slice_get diagram.blocks place ≡ Some b) × ((row_of b.kind).hardware.multiplies ≡ true)
    go None e h = absurd (false≢true h)
    go (Some b) e h = (b, e, h)

pub operands_are_ready : OperandsAreReady
operands_are_ready diagram plan timing number edge source place o scheduled is_edge from_is operation_is block_is =
    let of = of_shared diagram (attributes_of diagram) plan timing place o operation_is in
    let shared : is_shared diagram (attributes_of diagram) plan edge.to ≡ true = subst (λ (n : ℕ). is_shared diagram (attributes_of diagram) plan n ≡ true) block_is of.shared in
    let end = multiplier_at diagram edge.to (and_parts (multiplies diagram edge.to) (shares plan ((attributes_of diagram).period_at edge.to)) shared).0 in
    let once = reads_at_once end.0.kind end.2 in
    let joins = edges_join_periods diagram number edge end.0 source scheduled.checked is_edge end.1 from_is in
    let period : samples ((attributes_of diagram).period_at o.block) ≡ joins.0 = ap (λ (n : ℕ). samples ((attributes_of diagram).period_at n)) block_is ∙ ap samples joins.1.period in
    let base = ap (λ (n : ℕ). base_slot diagram (attributes_of diagram) plan timing n (level_of timing o)) period in
    let now = instant end.0 end.1 once in
    elim (cases_Bool (is_marked timing.fed edge.from)) [
      | inl holds ↦
          let low = below_level diagram plan timing scheduled number edge source joins.0 end.0 is_edge now end.1 from_is joins.1 holds (joins.1.same once.0) o block_is shared in
          omega (arith, low, base)
      | inr fails ↦ let ready = unfed_ready diagram (attributes_of diagram) plan timing edge.from fails in omega (arith, ready)
    ]
  where
    instant : (b : Block) → slice_get diagram.blocks edge.to ≡ Some b
        → (joins_periods (row_of b.kind).timing.reads ≡ false) × ((slower : Bool) → is_now (row_of b.kind).timing.reads slower ≡ true) × (asks_ever (row_of b.kind).timing.asks ≡ false)
        → IsInstant diagram (attributes_of diagram) edge
    instant b at once = elim (edge_cases diagram number edge is_edge) [
      | inl line ↦
          let target : edge.target ≡ Port line.line.to_port = ap (λ (e : LatencyEdge). e.target) line.is in
          ap (takes_now_at diagram (attributes_of diagram) edge) at ∙ ap (takes_now diagram (attributes_of diagram) edge.to b.kind) target ∙ once.1 _
      | inr control ↦
          let place : 0 + control.place ≡ control.place = omega arith in
          let to_is : control.place ≡ edge.to = sym (ap (λ (e : LatencyEdge). e.to) (control.is ∙ ap (control_edge control.control) place)) in
          let same : control.block ≡ b = same_Some control.block b (sym control.at ∙ ap (slice_get diagram.blocks) to_is ∙ at) in
          absurd (false≢true (sym once.2 ∙ ap (λ (x : Block). asks_ever (row_of x.kind).timing.asks) (sym same) ∙ control.asks))
    ]
