-- What a block reads in its own sample from blocks of its period, and the greatest depth among these.
use Rattle.std.proofs.Common.{◌≡◌, ℕ, ◌+◌, ◌<◌, ◌≤◌, max, Bool, true, false, cond, List, length, get_or, refl, sym, ap, subst, ◌∙◌, inl, inr, arith}
use Rattle.std.specs.Prelude.{slice_get, slice_set, Option, Some, None, MatchOption, AllPairs, not, ◌⊎◌, nat_lt}
use Rattle.std.specs.List.Sorted.{IsPartitionedBy, IsPartitionPoint}
use Rattle.std.proofs.lemmas.Bool.{false≢true, cases_eq, cases_lt, ltb-true, ltb-false, lt-ltb, le-ltb, cond-true}
use Rattle.std.proofs.lemmas.List.{length-set, get_or-set_same, get_or-set_other}
use Rattle.std.proofs.lemmas.Option.{none-some, same_Some, slice_get_within, slice_get-get_or, get_or_from_slice_get}
use Rattle.dg_model.specs.declared.diagram.Diagram.{Diagram}
use Rattle.dg_model.specs.declared.diagram.Block.{Block}
use Rattle.dg_model.specs.declared.diagram.Edge.{Edge}
use Rattle.dg_model.specs.declared.nested.Target.TheVariants.{Port}
use Rattle.dg_model.specs.declared.resolved.Resolved.{Resolved}
use Rattle.dg_model.specs.Attributes.{attributes_of}
use Rattle.dg_model.specs.Checked.{IsChecked}
use Rattle.dg_model.specs.Hits.{is_slow_to_fast}
use Rattle.dg_model.specs.Instant.{is_now, reads_now, is_asked_now, asks_now, takes_now, takes_now_at, IsInstant}
use Rattle.dg_model.specs.declared.row.Reading.{Reading}
use Rattle.dg_model.specs.declared.row.Asking.{Asking}
use Rattle.dg_model.specs.declared.row.Role.{Role}
use Rattle.dg_model.specs.LatencyEdges.{LatencyEdge, signal_edge, latency_edges, asks_ever}
use Rattle.dg_model.specs.Library.{row_of}
use Rattle.dg_model.specs.Loop.{LeadsNow, IsOrder}
use Rattle.dg_model.specs.Wired.{IsWired, Joins, StandsBefore, NamesControl}
use Rattle.dg_model.specs.Wires.{period_into}
use Rattle.dg_sort.specs.Control.{control_now}
use Rattle.hw_latency.specs.Shared.{is_shared}
use Rattle.hw_sched.specs.Laws.{IsEdge}
use Rattle.hw_sched.specs.Level.{depth_at, is_same_period, IsDepth, AreDepths}
use Rattle.hw_sched.specs.inner.Greatest.{IsGreatest, IsFirstInto, IsLineFrom, IsReadBy, own_depth, IsNextDepth, AreDepthsTo}
use Rattle.math_list.proofs.Places.{held}
use Rattle.hw_sched.proofs.DepthLaw.{IsBest, depth_is, period_is}
use Rattle.hw_sched.proofs.Edges.{control_edge, edge_cases, controls_are_edges, line_is_edge}
use Rattle.hw_sched.proofs.Paths.{leads_now}
use Rattle.hw_sched.proofs.Rates.{edges_join_periods}
use Rattle.hw_sched.proofs.Readiness.{end_of}
use Rattle.hw_sched.proofs.Service.{same_period}

-- ---- the first line into a block

pub first_rises : (edges : List Edge) → AllPairs StandsBefore edges → (i j : ℕ) (d : Edge) → i ≤ j → j < length edges → (get_or edges i d).to ≤ (get_or edges j d).to
first_rises edges ordered i j d low within = elim (cases_lt i j) [
  | inl less ↦ before (ordered i j d less within)
  | inr past ↦ let same : i ≡ j = omega (arith, low, past) in let e : (get_or edges i d).to ≡ (get_or edges j d).to = ap (λ (n : ℕ). (get_or edges n d).to) same in omega (arith, e)
]
  where
    before : StandsBefore (get_or edges i d) (get_or edges j d) → (get_or edges i d).to ≤ (get_or edges j d).to
    before (inl less) = omega (arith, less)
    before (inr same) = let e = same.0 in omega (arith, e)

pub parted : (edges : List Edge) (block : ℕ) → AllPairs StandsBefore edges → IsPartitionedBy (λ (edge : Edge). nat_lt edge.to block) edges
parted edges block ordered i j d low within is =
    let rises = first_rises edges ordered i j d low within in
    let less = ltb-true (get_or edges j d).to block is in
    lt-ltb (get_or edges i d).to block (omega (arith, rises, less))

pub first_is : (edges : List Edge) (block first : ℕ) → first ≤ length edges
    → IsPartitionPoint (λ (edge : Edge). nat_lt edge.to block ≡ true)
    (λ (edge : Edge). nat_lt edge.to block ≡ false) edges first → IsFirstInto edges block first
first_is edges block first within point = record {
  within = within;
  before = λ k edge below at.
      let e : (get_or edges k edge).to ≡ edge.to = ap (λ (x : Edge). x.to) (get_or_from_slice_get edges k edge edge at) in
      let less = ltb-true (get_or edges k edge).to block (point.0 k edge (omega arith) below) in
      omega (arith, e, less);
  behind = λ k edge past at.
      let e : (get_or edges k edge).to ≡ edge.to = ap (λ (x : Edge). x.to) (get_or_from_slice_get edges k edge edge at) in
      let high = ltb-false (get_or edges k edge).to block (point.1 k edge past (slice_get_within edges k edge at)) in
      omega (arith, e, high);
}

-- ---- greatest depths

pub greatest_none : (IsRead : ℕ → Type 0) (depths : List ℕ) → ((source : ℕ) → IsRead source → ⊥) → IsGreatest IsRead depths 0
greatest_none IsRead depths none = record { reached = inl refl; most = λ source is. absurd (none source is) }

pub greatest_as : (IsRead IsSeen : ℕ → Type 0) (depths : List ℕ) (best : ℕ)
    → ((source : ℕ) → IsRead source → IsSeen source) → ((source : ℕ) → IsSeen source → IsRead source)
    → IsGreatest IsRead depths best → IsGreatest IsSeen depths best
greatest_as IsRead IsSeen depths best to back is = record {
  reached = elim is.reached [ inl none ↦ inl none | inr some ↦ inr (some.0, to some.0 some.1, some.2) ];
  most = λ source seen. is.most source (back source seen);
}

pub greatest_either : (IsRead IsSeen : ℕ → Type 0) (depths : List ℕ) (best other : ℕ)
    → IsGreatest IsRead depths best → IsGreatest IsSeen depths other
    → IsGreatest (λ source. IsRead source ⊎ IsSeen source) depths (max best other)
greatest_either IsRead IsSeen depths best other first second = record {
  reached = elim (cases_lt best other) [
    | inl less ↦ let e : other ≡ max best other = omega (arith, less) in elim second.reached [
      | inl none ↦ inl (omega (arith, none, less))
      | inr some ↦ inr (some.0, inr some.1, some.2 ∙ e)
    ]
    | inr past ↦ let e : best ≡ max best other = omega (arith, past) in elim first.reached [
      | inl none ↦ inl (omega (arith, none, past))
      | inr some ↦ inr (some.0, inl some.1, some.2 ∙ e)
    ]
  ];
  most = λ source is. elim is [
    | inl read ↦ let low = first.most source read in omega (arith, low)
    | inr seen ↦ let low = second.most source seen in omega (arith, low)
  ];
}

-- one more source is met
greatest_more : (IsRead IsSeen : ℕ → Type 0) (depths : List ℕ) (best met : ℕ)
    → ((source : ℕ) → IsRead source → IsSeen source)
    → ((source : ℕ) → IsSeen source → IsRead source ⊎ (source ≡ met)) → IsSeen met
    → IsGreatest IsRead depths best
    → IsGreatest IsSeen depths (max best (depth_at depths met))
greatest_more IsRead IsSeen depths best met to back seen is =
    greatest_as (λ source. IsRead source ⊎ (source ≡ met)) IsSeen depths (max best (depth_at depths met))
    (λ source either. elim either [ inl read ↦ to source read | inr same ↦ subst IsSeen (sym same) seen ]) back
    (greatest_either IsRead (λ source. source ≡ met) depths best (depth_at depths met) is
    (record {
      reached = inr (met, refl, refl);
      most =
          λ source same. let e = ap (depth_at depths) same in omega (arith, e);
    }))

-- ---- lines

module _ (diagram : Diagram) (place : ℕ) where
  abbrev LineFrom : ℕ → ℕ → Type 0
  LineFrom count source = IsLineFrom diagram count place source

  pub lines_begin : (depths : List ℕ) (first : ℕ) → IsFirstInto diagram.edges place first → IsGreatest (LineFrom first) depths 0
  lines_begin depths first is = greatest_none (LineFrom first) depths
      (λ source line. let low = is.before line.number line.line line.before line.at in let to =
      line.to in absurd (omega (arith, low, to)))

  line_more : (count source : ℕ) → LineFrom count source → LineFrom (count + 1) source
  line_more count source line = record {
    number = line.number;
    line = line.line;
    at = line.at;
    before = let low =
        line.before in omega (arith, low);
    to = line.to;
    from = line.from;
    period = line.period;
  }

  line_last : (count source : ℕ) (edge : Edge) → slice_get diagram.edges count ≡ Some edge → LineFrom (count + 1) source → LineFrom count source ⊎ (source ≡ edge.from)
  line_last count source edge at line = elim (cases_lt line.number count) [
    | inl less ↦ inl (record { number = line.number; line = line.line; at = line.at; before = less; to = line.to; from = line.from; period = line.period })
    | inr past ↦
        let high = line.before in
        let here : count ≡ line.number = omega (arith, high, past) in
        let same : line.line ≡ edge = same_Some line.line edge (sym line.at ∙ ap (slice_get diagram.edges) (sym here) ∙ at) in
        inr (sym line.from ∙ ap (λ (e : Edge). e.from) same)
  ]

  pub line_counts : (depths : List ℕ) (count best : ℕ) (edge : Edge) → slice_get diagram.edges count ≡ Some edge → edge.to ≡ place
      → is_same_period ((attributes_of diagram).period_at edge.from) ((attributes_of diagram).period_at place)
      ≡ true → IsGreatest (LineFrom count) depths best
      → IsGreatest (LineFrom (count + 1)) depths (max best (depth_at depths edge.from))
  line_counts depths count best edge at to same is =
      greatest_more (LineFrom count) (LineFrom (count + 1)) depths best edge.from (line_more count) (λ source line. line_last count source edge at line)
      (record {
        number = count;
        line = edge;
        at = at;
        before = omega arith;
        to = to;
        from = refl;
        period =
            period_is ((attributes_of diagram).period_at edge.from) ((attributes_of diagram).period_at place) same;
      })
      is

  pub line_skips : (depths : List ℕ) (count best : ℕ) (edge : Edge) → slice_get diagram.edges count ≡ Some edge
      → is_same_period ((attributes_of diagram).period_at edge.from) ((attributes_of diagram).period_at place)
      ≡ false → IsGreatest (LineFrom count) depths best → IsGreatest (LineFrom (count + 1)) depths best
  line_skips depths count best edge at differs is = greatest_as (LineFrom count) (LineFrom (count + 1)) depths best (line_more count) (λ source line. elim (line_last count source edge at line) [
    | inl before ↦ before
    | inr same ↦
        let period : (attributes_of diagram).period_at edge.from ≡ (attributes_of diagram).period_at place = ap (attributes_of diagram).period_at (sym same) ∙ line.period in
        let yes_it_is = ap (λ (p : Option ℕ). is_same_period p ((attributes_of diagram).period_at place)) period ∙ same_period ((attributes_of diagram).period_at place) in
        absurd (false≢true (sym differs ∙ yes_it_is))
  ]) is

  line_within : (count source : ℕ) → LineFrom count source → LineFrom (length diagram.edges) source
  line_within count source line = record {
    number = line.number;
    line = line.line;
    at = line.at;
    before =
        slice_get_within diagram.edges line.number line.line line.at;
    to =
        line.to;
    from = line.from;
    period = line.period;
  }

  pub lines_end : (depths : List ℕ) (count best : ℕ) → length diagram.edges ≤ count → IsGreatest (LineFrom count) depths best → IsGreatest (LineFrom (length diagram.edges)) depths best
  lines_end depths count best end is = greatest_as (LineFrom count) (LineFrom (length diagram.edges)) depths best
      (line_within count) (λ source line. record {
        number = line.number;
        line = line.line;
        at = line.at;
        before =
            let low = line.before in omega (arith, low, end);
        to = line.to;
        from = line.from;
        period = line.period;
      })
      is

  -- behind a line into a later block no line leads to this one
  pub lines_stop : (depths : List ℕ) (first count best : ℕ) (edge : Edge) → AllPairs StandsBefore diagram.edges
      → IsFirstInto diagram.edges place first → first ≤ count → slice_get diagram.edges count ≡ Some edge
      → (edge.to ≡ place → ⊥)
      → IsGreatest (LineFrom count) depths best → IsGreatest (LineFrom (length diagram.edges)) depths best
  lines_stop depths first count best edge ordered is_first past at differs is =
      greatest_as (LineFrom count) (LineFrom (length diagram.edges)) depths best (line_within count)
      (λ source line. elim (cases_lt line.number count) [
        | inl less ↦ record { number = line.number; line = line.line; at = line.at; before = less; to = line.to; from = line.from; period = line.period }
        | inr behind ↦
            let rises = first_rises diagram.edges ordered count line.number edge behind (slice_get_within diagram.edges line.number line.line line.at) in
            let here : (get_or diagram.edges count edge).to ≡ edge.to = ap (λ (x : Edge). x.to) (get_or_from_slice_get diagram.edges count edge edge at) in
            let there : (get_or diagram.edges line.number edge).to ≡ line.line.to = ap (λ (x : Edge). x.to) (get_or_from_slice_get diagram.edges line.number line.line edge line.at) in
            let low = is_first.behind count edge past at in
            let to = line.to in
            let equal : edge.to ≡ place = omega (arith, rises, here, there, low, to) in
            absurd (differs equal)
      ]) is

  -- ---- where lines and controls begin
  pub from_there : (number : ℕ) (edge : Edge) → IsWired diagram → slice_get diagram.edges number ≡ Some edge → edge.from < length diagram.blocks
  from_there number edge wired at = go (slice_get diagram.blocks edge.from) refl (held (Joins diagram.blocks) diagram.edges number edge wired.edges at).source
    where
      go : (o : Option Block) → slice_get diagram.blocks edge.from ≡ o → MatchOption o ⊥ (λ (b : Block). (1 ≤ edge.from_port) × (edge.from_port ≤ b.outputs)) → edge.from < length diagram.blocks
      go None e h = absurd h
      go (Some b) e h = slice_get_within diagram.blocks edge.from b e

  pub control_there : (b : Block) (control : ℕ) → IsWired diagram → slice_get diagram.blocks place ≡ Some b → control_now b ≡ Some control → control < length diagram.blocks
  control_there b control wired at is = go (slice_get diagram.blocks control) refl
      (subst (λ (o : Option ℕ). NamesControl diagram.blocks o) (enabled (asks_now b.kind) b.enable is)
      (held (λ (x : Block). NamesControl diagram.blocks x.enable) diagram.blocks place b wired.controls at))
    where
      enabled : (asks : Bool) (enable : Option ℕ) → cond asks enable None ≡ Some control → enable ≡ Some control
      enabled true enable e = e
      enabled false enable e = absurd (none-some control e)

      go : (o : Option Block) → slice_get diagram.blocks control ≡ o → MatchOption o ⊥ (λ (c : Block). (row_of c.kind).place.role ≡ Role.Control) → control < length diagram.blocks
      go None e h = absurd h
      go (Some c) e h = slice_get_within diagram.blocks control c e

-- ---- what is read is what an instant edge of one period leads from

at_once : (reads : Reading) (slower : Bool) → is_now reads slower ≡ true → is_now reads false ≡ true
at_once Reading.Now slower e = refl
at_once Reading.Before slower e = absurd (false≢true e)
at_once Reading.BeforeIfSlower slower e = refl

ever : (asks : Asking) → is_asked_now asks ≡ true → asks_ever asks ≡ true
ever Asking.Never e = absurd (false≢true e)
ever Asking.Now e = refl
ever Asking.Before e = absurd (false≢true e)

not_faster : (into own : Option ℕ) → own ≡ None → is_slow_to_fast into own ≡ false
not_faster None own e = refl
not_faster (Some driver) None e = refl
not_faster (Some driver) (Some own) e = absurd (none-some own (sym e))

pub control_parts : (asks : Bool) (enable : Option ℕ) (control : ℕ) → cond asks enable None ≡ Some control → (asks ≡ true) × (enable ≡ Some control)
control_parts true enable control e = (refl, e)
control_parts false enable control e = absurd (none-some control e)

module _ (diagram : Diagram) (checked : IsChecked diagram) where
  abbrev period : ℕ → Option ℕ
  period place = (attributes_of diagram).period_at place

  -- a line that is read from a block of one's period is instant
  line_instant : (number : ℕ) (line : Edge) (b : Block) → slice_get diagram.edges number ≡ Some line
      → slice_get diagram.blocks line.to ≡ Some b → period line.from ≡ period line.to
      → is_now (row_of b.kind).timing.reads false ≡ true
      → IsInstant diagram (attributes_of diagram) (signal_edge line)
  line_instant number line b at there same now = ap (takes_now_at diagram (attributes_of diagram) (signal_edge line)) there ∙ go (period line.to) refl
    where
      by_reading : (reads : Reading) (slower : Bool) → is_now reads false ≡ true → slower ≡ false → is_now reads slower ≡ true
      by_reading Reading.Now slower h e = refl
      by_reading Reading.Before slower h e = h
      by_reading Reading.BeforeIfSlower slower h e = ap not e

      go : (own : Option ℕ) → period line.to ≡ own → reads_now diagram (attributes_of diagram) line.to b.kind ≡ true
      go None e = by_reading (row_of b.kind).timing.reads
          (is_slow_to_fast (period_into diagram (attributes_of diagram) line.to 1) (period line.to)) now
          (not_faster (period_into diagram (attributes_of diagram) line.to 1) (period line.to) e)
      go (Some own) e =
          let edge = line_is_edge diagram number line at in
          let joins = edges_join_periods diagram edge.0 (signal_edge line) b own checked edge.1 there (same ∙ e) in
          let own_is : joins.0 ≡ own = same_Some joins.0 own (sym joins.1.period ∙ e) in
          joins.1.now ∙ by_reading (row_of b.kind).timing.reads (nat_lt joins.0 own) now (le-ltb joins.0 own (omega (arith, own_is)))

  pub read_leads : (place source : ℕ) → IsReadBy diagram place source → LeadsNow diagram (attributes_of diagram) source place × (period source ≡ period place)
  read_leads place source (inl read) =
      let line = read.line in
      let edge = line_is_edge diagram line.number line.line line.at in
      let there : slice_get diagram.blocks line.line.to ≡ Some read.block = ap (slice_get diagram.blocks) line.to ∙ read.there in
      let same : period line.line.from ≡ period line.line.to = ap period line.from ∙ line.period ∙ ap period (sym line.to) in
      let leads = leads_now diagram (attributes_of diagram) edge.0 (signal_edge line.line) edge.1 (line_instant line.number line.line read.block line.at there same read.now) in
      (subst (λ (n : ℕ). LeadsNow diagram (attributes_of diagram) n place) line.from (subst (λ (n : ℕ). LeadsNow diagram (attributes_of diagram) line.line.from n) line.to leads), line.period)
  read_leads place source (inr read) =
      let parts = control_parts (asks_now read.block.kind) read.block.enable source read.control in
      let edge = controls_are_edges diagram place read.block source read.there parts.1 (ever (row_of read.block.kind).timing.asks parts.0) in
      let instant : IsInstant diagram (attributes_of diagram) (control_edge source place) = ap (takes_now_at diagram (attributes_of diagram) (control_edge source place)) read.there ∙ parts.0 in
      (leads_now diagram (attributes_of diagram) edge.0 (control_edge source place) edge.1 instant, read.period)

  pub leads_read : (place source : ℕ) → LeadsNow diagram (attributes_of diagram) source place → period source ≡ period place → IsReadBy diagram place source
  leads_read place source leads same =
      let is_edge : IsEdge diagram leads.0 leads.1 = slice_get-get_or (latency_edges diagram) leads.0 leads.1 leads.2 ∙ ap (λ (e : LatencyEdge). Some e) leads.3 in
      let end = end_of diagram leads.1 leads.4.2 in
      let at : slice_get diagram.blocks place ≡ Some end.0 = ap (slice_get diagram.blocks) (sym leads.4.1) ∙ end.1 in
      let taken : takes_now diagram (attributes_of diagram) leads.1.to end.0.kind leads.1.target ≡ true = ap (takes_now_at diagram (attributes_of diagram) leads.1) (sym end.1) ∙ leads.4.2 in
      elim (edge_cases diagram leads.0 leads.1 is_edge) [
        | inl line ↦
            let target : leads.1.target ≡ Port line.line.to_port = ap (λ (e : LatencyEdge). e.target) line.is in
            let now : reads_now diagram (attributes_of diagram) leads.1.to end.0.kind ≡ true = ap (takes_now diagram (attributes_of diagram) leads.1.to end.0.kind) (sym target) ∙ taken in
            inl (record {
              line = record {
                number = line.place;
                line = line.line;
                at = line.at;
                before = slice_get_within diagram.edges line.place line.line line.at;
                to = ap (λ (e : LatencyEdge). e.to) (sym line.is) ∙ leads.4.1;
                from = ap (λ (e : LatencyEdge). e.from) (sym line.is) ∙ leads.4.0;
                period = same;
              };
              block = end.0;
              there = at;
              now = at_once (row_of end.0.kind).timing.reads (is_slow_to_fast (period_into diagram (attributes_of diagram) leads.1.to 1) (period leads.1.to)) now;
            })
        | inr control ↦
            let here : 0 + control.place ≡ control.place = omega arith in
            let is : ◌≡◌ {A = LatencyEdge} leads.1 (control_edge control.control control.place) = control.is ∙ ap (control_edge control.control) here in
            let to_is : control.place ≡ place = sym (ap (λ (e : LatencyEdge). e.to) is) ∙ leads.4.1 in
            let block_is : control.block ≡ end.0 = same_Some control.block end.0 (sym control.at ∙ ap (slice_get diagram.blocks) to_is ∙ at) in
            let asks : asks_now end.0.kind ≡ true = ap (takes_now diagram (attributes_of diagram) leads.1.to end.0.kind) (sym (ap (λ (e : LatencyEdge). e.target) is)) ∙ taken in
            let from_is : control.control ≡ source = sym (ap (λ (e : LatencyEdge). e.from) is) ∙ leads.4.0 in
            let enable : end.0.enable ≡ Some source = ap (λ (x : Block). x.enable) (sym block_is) ∙ control.enable ∙ ap (λ (n : ℕ). Some n) from_is in
            inr (record { block = end.0; there = at; control = cond-true (asks_now end.0.kind) end.0.enable None asks ∙ enable; period = same })
      ]

-- ---- the depths in an order

module _ (diagram : Diagram) (plan : Resolved) (order : List ℕ) (checked : IsChecked diagram) (ordered : IsOrder diagram (attributes_of diagram) order) where
  pub depths_begin : (depths : List ℕ) → length depths ≡ length diagram.blocks → ((place : ℕ) → depth_at depths place ≡ 0) → AreDepthsTo diagram plan order 0 depths
  depths_begin depths size none = record { size = size; are = λ k place below at. absurd (omega (arith, below)); small = λ place. let e = none place in omega (arith, e) }

  next_is : (count place depth : ℕ) (depths : List ℕ) → slice_get order count ≡ Some place
      → IsNextDepth diagram plan depths place depth → AreDepthsTo diagram plan order count depths
      → IsDepth diagram (attributes_of diagram) plan place depth
  next_is count place depth depths at next to =
      let best : IsBest diagram (attributes_of diagram) (depth_at depths) place next.best = record {
        reached = elim next.greatest.reached [
          | inl none ↦ inl none
          | inr some ↦ let leads = read_leads diagram checked place some.0 some.1 in inr (some.0, leads.0, leads.1, some.2)
        ];
        most = λ source leads same. next.greatest.most source (leads_read diagram checked place source leads same);
      } in
      let deep = depth_is diagram plan checked (depth_at depths) place next.best
      (λ source leads. let before = ordered.after count place source at leads in
      to.are before.0 source before.1 before.2) best in
      subst (λ (d : ℕ). IsDepth diagram (attributes_of diagram) plan place d) (sym (next.is ∙ sum (is_shared diagram (attributes_of diagram) plan place))) deep
    where
      sum : (shared : Bool) → own_depth shared next.best ≡ next.best + cond shared 1 0
      sum true = omega arith
      sum false = omega arith

  next_small : (count place depth : ℕ) (depths : List ℕ) → IsNextDepth diagram plan depths place depth → AreDepthsTo diagram plan order count depths → depth ≤ count + 1
  next_small count place depth depths next to = go (is_shared diagram (attributes_of diagram) plan place) next.is
    where
      best_small : next.best ≤ count
      best_small = elim next.greatest.reached [ inl none ↦ omega (arith, none) | inr some ↦ let low = to.small some.0 in let e = some.2 in omega (arith, low, e) ]

      go : (shared : Bool) → depth ≡ own_depth shared next.best → depth ≤ count + 1
      go true e = let low = best_small in omega (arith, e, low)
      go false e = let low = best_small in omega (arith, e, low)

  pub depths_more : (count place depth : ℕ) (depths : List ℕ) → slice_get order count ≡ Some place
      → place < length diagram.blocks → IsNextDepth diagram plan depths place depth
      → AreDepthsTo diagram plan order count depths
      → AreDepthsTo diagram plan order (count + 1) (slice_set depths place depth)
  depths_more count place depth depths at there next to =
      let size = to.size in
      let inside : place < length depths = omega (arith, size, there) in
      record {
        size = length-set depths place depth ∙ to.size;
        are = λ k other below here. elim (cases_eq place other) [
          | inl same ↦
              let set = sym (get_or-set_same depths place depth 0 inside) ∙ ap (depth_at (slice_set depths place depth)) same in
              subst (λ (n : ℕ). IsDepth diagram (attributes_of diagram) plan n (depth_at (slice_set depths place depth) other)) same
              (subst (λ (d : ℕ). IsDepth diagram (attributes_of diagram) plan place d) set (next_is count place depth depths at next to))
          | inr differs ↦
              let kept = get_or-set_other depths place other depth 0 (λ e. differs (sym e)) in
              subst (λ (d : ℕ). IsDepth diagram (attributes_of diagram) plan other d) (sym kept) (to.are k other (earlier k other below here differs) here)
        ];
        small = λ other. elim (cases_eq place other) [
          | inl same ↦
              let set : depth ≡ depth_at (slice_set depths place depth) other = sym (get_or-set_same depths place depth 0 inside) ∙ ap (depth_at (slice_set depths place depth)) same in
              let low = next_small count place depth depths next to in
              omega (arith, set, low)
          | inr differs ↦ let kept = get_or-set_other depths place other depth 0 (λ e. differs (sym e)) in let low = to.small other in omega (arith, kept, low)
        ];
      }
    where
      earlier : (k other : ℕ) → k < count + 1 → slice_get order k ≡ Some other → (place ≡ other → ⊥) → k < count
      earlier k other below here differs = elim (cases_lt k count) [
        | inl less ↦ less
        | inr late ↦ let e : count ≡ k = omega (arith, below, late) in absurd (differs (same_Some place other (sym at ∙ ap (slice_get order) e ∙ here)))
      ]

  pub depths_end : (count : ℕ) (depths : List ℕ) → length order ≤ count → AreDepthsTo diagram plan order count depths → AreDepths diagram (attributes_of diagram) plan depths
  depths_end count depths end to = record {
    size = to.size;
    are = λ place there.
        let any = ordered.all place there in
        let at : slice_get order any.0 ≡ Some place = slice_get-get_or order any.0 any.1 any.2 ∙ ap (λ (n : ℕ). Some n) (any.3 ∙ any.4) in
        let inside = any.2 in
        to.are any.0 place (omega (arith, inside, end)) at;
  }
