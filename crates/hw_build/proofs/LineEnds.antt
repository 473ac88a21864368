-- What the end of a line asks, by the times of a schedule.
use Rattle.std.proofs.Common.{◌≡◌, ℕ, ◌+◌, ◌-◌, ◌<◌, ◌≤◌, inl, inr, ℤ, Bool, true, false, List, [], length, map, Option, None, Some, ap, sym, ◌∙◌, subst, refl, arith}
use Rattle.std.specs.Prelude.{max, ◌^◌, not, nat_lt, is_some, slice_get, slice_index_or}
use Rattle.std.proofs.lemmas.Bool.{false≢true, and_parts, cases_lt}
use Rattle.std.proofs.lemmas.Option.{same_Some}
use mathlib.Core.List.{map-map}
use Rattle.fx_type.specs.declared.kind.FxType.{FxType}
use Rattle.fx_type.specs.declared.kind.FxType.TheVariants.{Logical}
use Rattle.fx_type.specs.FxType.{IsType, InRange, is_signed, width_of}
use Rattle.math_list.specs.Numbers.{numbers_from}
use Rattle.dg_model.specs.declared.diagram.Diagram.{Diagram}
use Rattle.dg_model.specs.declared.diagram.Block.{Block}
use Rattle.dg_model.specs.declared.diagram.Edge.{Edge}
use Rattle.dg_model.specs.declared.kind.Kind.{Kind}
use Rattle.dg_model.specs.declared.kind.Kind.TheVariants.{Delay, RateTransition}
use Rattle.dg_model.specs.declared.nested.Target.TheVariants.{Port}
use Rattle.dg_model.specs.declared.resolved.Resolved.{Resolved}
use Rattle.dg_model.specs.Attributes.{attributes_of}
use Rattle.dg_model.specs.Dimension.{IsRepeated}
use Rattle.dg_model.specs.Instant.{is_now}
use Rattle.dg_model.specs.LatencyEdges.{signal_edge}
use Rattle.dg_model.specs.Library.{row_of}
use Rattle.dg_model.specs.Readable.{HasPorts}
use Rattle.dg_model.specs.Solves.{shown_ports}
use Rattle.dg_model.specs.Widths.{width_at}
use Rattle.dg_model.specs.Wires.{at_source, repeated, driver_of, type_into}
use Rattle.dg_tables.specs.Fit.{HasLists, KeepsType}
use Rattle.hw_latency.specs.Weight.{is_free, is_registered, samples}
use Rattle.hw_lines.specs.declared.source.Use.{Use as Asked}
use Rattle.hw_net.specs.Circuit.{Circuit}
use Rattle.hw_net.specs.Netlist.{HasWord}
use Rattle.hw_sched.specs.Chained.{Use, first_list, initial_at, use_of}
use Rattle.hw_sched.specs.Slots.{Timing as Times}
use Rattle.hw_sched.proofs.Periods.{readable_at}
use Rattle.hw_shows.specs.Timing.{IsPlainEdge, IsEdgeInTime, latency_after}
use Rattle.hw_shows.specs.Timed.{lag_into, Feeds}
use Rattle.hw_build.specs.declared.asks.Ask.{Ask}
use Rattle.hw_build.specs.declared.asks.Asks.{Asks}
use Rattle.hw_build.specs.declared.wants.Want.{Want}
use Rattle.hw_build.specs.inner.Asks.{IsEndWant, IsHubNet}
use Rattle.hw_build.specs.inner.EndAsks.{HaveHubWords, IsLawful, want_for, hub_for, IsEndPut, IsLinePut}
use Rattle.hw_build.specs.inner.Facts.{count_by, count_by_lag, line_count}
use Rattle.hw_build.specs.inner.HubPlaces.{hub_at}
use Rattle.hw_build.specs.inner.Lines.{frame_behind, use_into}
use Rattle.hw_build.specs.inner.Operands.{first_at}
use Rattle.hw_build.specs.inner.EndSearch.{unasked, hub_from, plain_want, hub_spread, late_want, AsksAll}
use Rattle.hw_build.specs.inner.Wants.{first_of, IsWant}
use Rattle.hw_build.proofs.Ends.{end, own_some}
use Rattle.hw_lines.proofs.LineEnds.{part-below}
use Rattle.hw_build.proofs.LineAsks.{IsLineAsked, line_asked, hub_net, plain_hub}
use Rattle.hw_build.proofs.LineSearch.{IsLineInto, line_into_is}
use Rattle.hw_build.proofs.Sources.{IsSourceOf, source_is, repeated_own, output_shown, source_element, serves}
use Rattle.hw_build.proofs.FirstValues.{first_in_range, first_is_initial}
use Rattle.hw_build.proofs.WantFacts.{end_may_ask}
use Rattle.math_list.proofs.Tests.{some_of, none_of}
use Rattle.hw_build.proofs.EndAsks.{no_places, timing, period, seen_by, wants_are, count_is, still_put, IsElement, moving_put, uses_are, use_is}

module _ {diagram : Diagram} {order : List ℕ} {plan : Resolved} {times : Times} {firsts : List (List ℕ)} (l : IsLawful diagram order plan times firsts) where
  -- ---- the end of a line

  -- what stands before its source, and behind its registers
  late_reads : (kind : Kind) (inputs outputs own p block width : ℕ) → HasPorts kind inputs outputs
      → KeepsType diagram (attributes_of diagram) block kind inputs outputs → HasLists kind width
      → not (is_now (row_of kind).timing.reads (nat_lt own p)) ≡ true
      → (inputs ≡ 1) × (type_into diagram (attributes_of diagram) block 1 ≡ (attributes_of diagram).type_at block 1) × IsRepeated width (length (first_list (row_of kind).signal.lists))
  late_reads (Delay delay initial reset) inputs outputs own p block width ports keeps has late = (ports.0, keeps, has 0 [] (omega arith))
  late_reads (RateTransition every initial) inputs outputs own p block width ports keeps has late = (ports.0, keeps, has 0 [] (omega arith))
  late_reads _ inputs outputs own p block width ports keeps has late = absurd (false≢true late)

  -- as the code has it
  pub line_put : (edge : Edge) (b : Block) → slice_get diagram.blocks edge.to ≡ Some b → (old new : Asks)
      → IsEndPut diagram plan times firsts old.list.items new.list.items old.wants.items new.wants.items b
      (signal_edge edge) → IsLinePut diagram plan times firsts old new edge
  line_put edge b at old new put = record {
    end =
        λ x there. subst (λ (y : Block). IsEndPut diagram plan times firsts old.list.items new.list.items
        old.wants.items new.wants.items y (signal_edge edge)) (same_Some b x (sym at ∙ there)) put;
  }

  module _ (number : ℕ) (edge : Edge) (b : Block) (line_at : slice_get diagram.edges number ≡ Some edge)
      (at : slice_get diagram.blocks edge.to ≡ Some b) (shows : 1 ≤ shown_ports b.kind b.outputs) where
    abbrev source_width : ℕ
    source_width = (attributes_of diagram).width_at edge.from edge.from_port

    abbrev lag : ℕ → Option ℕ
    lag p = lag_into diagram (attributes_of diagram) edge.to b (Port edge.to_port) p

    pub into : IsLineInto diagram edge
    into = line_into_is diagram number edge l.scheduled.checked.wired line_at

    pub into_port : edge.to_port ≤ b.inputs
    into_port = subst (λ (x : Block). edge.to_port ≤ x.inputs) (same_Some into.block b (sym into.is ∙ at)) into.to

    pub source : IsSourceOf diagram edge
    source = source_is diagram number edge l.scheduled.checked.wired line_at

    pub has_parameters : (row_of b.kind).parameters
    has_parameters = (readable_at diagram l.scheduled.checked.wired edge.to b at).parameters

    feeds : Feeds diagram edge.to b (Port edge.to_port) edge.from
    feeds = (edge, into.from, into_port, into.drives, refl)

    -- a line that never changes
    pub still_line : (old new : List Ask) (wants more : List Want) (first width : ℕ) → period l edge.from ≡ None
        → first ≡ width_at firsts edge.from edge.from_port → width ≡ source_width
        → AsksAll old new wants more (hub_from first) unasked width
        → IsEndPut diagram plan times firsts old new wants more b (signal_edge edge)
    still_line old new wants more first width still first_is width_is all =
        still_put l old new wants more b (signal_edge edge) first width still
        (count_is l b (signal_edge edge) shows ∙ ap (count_by source_width ((attributes_of diagram).width_at edge.to 1) lag) still ∙ sym width_is)
        (λ element below. let own = repeated_own source_width element (omega (arith, below, width_is)) in omega (arith, first_is, own)) all

    module _ (p : ℕ) (moves : period l edge.from ≡ Some p) where
      pub asked : IsLineAsked diagram (timing l) edge.from p edge.to (lag p) (λ own. is_registered b own p) (seen_by l (signal_edge edge))
      asked = line_asked l.lines l.joins l.little l.short diagram plan times no_places l.scheduled l.timed edge.to b edge.to_port p edge at has_parameters shows into.from into_port into.drives moves

      abbrev use_by : ℕ → Asked
      use_by own = record { shift = seen_by l (signal_edge edge) - latency_after (timing l) p edge.from; period = own }

      own_is : (own : ℕ) → period l edge.to ≡ Some own → asked.own ≡ own
      own_is own e = same_Some asked.own own (sym asked.period ∙ e)

      flag_is : (own : ℕ) (registered : Bool) → period l edge.to ≡ Some own → is_registered b own p ≡ registered → is_some (lag p) ≡ registered
      flag_is own registered e is = asked.has ∙ ap (λ (o : ℕ). is_registered b o p) (own_is own e) ∙ is

      to_is : (own : ℕ) → period l edge.to ≡ Some own → ◌≡◌ {A = Asked} (use_by own) (use_into (timing l) edge.from p edge.to own (lag p))
      to_is own e = subst (λ (o : ℕ). ◌≡◌ {A = Asked} (use_by o) (use_into (timing l) edge.from p edge.to o (lag p))) (own_is own e) asked.asked

      word_of_hub : (net : Circuit) (element : ℕ) → HaveHubWords diagram firsts net → repeated source_width element < source_width
          → HasWord net.nets (hub_for diagram plan times firsts (signal_edge edge) element)
          (width_of ((attributes_of diagram).type_at edge.from 1))
          (is_signed ((attributes_of diagram).type_at edge.from 1))
      word_of_hub net element words below =
          words.each edge.from source.source edge.from_port (repeated source_width element)
          (source_element diagram edge (repeated source_width element) l.scheduled.checked.wired source below)

      source_type : IsType ((attributes_of diagram).type_at edge.from 1)
      source_type = (l.valid diagram order edge.from source.source l.ordered source.is).0

      want_is : (own element hub : ℕ) (first : Option ℤ) (registered : Bool) → period l edge.to ≡ Some own
          → is_registered b own p ≡ registered → hub ≡ hub_for diagram plan times firsts (signal_edge edge) element
          → is_some first ≡ registered → (registered ≡ true → first_of first ≡ first_at diagram edge.to element)
          → IsEndWant diagram (timing l) edge.to b (Port edge.to_port) edge.from p
          (first_at diagram edge.to element) (hub_for diagram plan times firsts (signal_edge edge) element)
          (record {
            feed = record { hub = hub; frame = frame_behind (timing l) p edge.from; first = first };
            to = use_by own;
          })
      want_is own element hub first registered period_is is hub_is has first_is =
          let flag = flag_is own registered period_is is in
          record { own = own; period = period_is; hub_is = hub_is; frame_is = refl; late = has ∙ sym flag; first_is = λ late. first_is (sym flag ∙ late); to_is = to_is own period_is }

      may_ask : (net : Circuit) (element : ℕ) (want : Want)
          → IsEndWant diagram (timing l) edge.to b (Port edge.to_port) edge.from p
          (first_at diagram edge.to element) (hub_for diagram plan times firsts (signal_edge edge) element) want
          → IsHubNet net (hub_for diagram plan times firsts (signal_edge edge) element) (first_of want.feed.first) → IsWant net want
      may_ask net element want is hub = end_may_ask l.little l.short diagram plan times no_places l.scheduled
          l.timed net edge.to b (Port edge.to_port) edge.from p (first_at diagram edge.to element)
          (hub_for diagram plan times firsts (signal_edge edge) element) want at has_parameters shows feeds
          moves is hub

      -- without registers
      plain_element : (first own element : ℕ) → period l edge.to ≡ Some own → is_registered b own p ≡ false → first ≡ width_at firsts edge.from edge.from_port → element < source_width
          → IsElement l (hub_from first) (plain_want first (frame_behind (timing l) p edge.from) (use_by own)) b (signal_edge edge) p element
      plain_element first own element period_is plain first_is below =
          let want : Want = record { feed = record { hub = first + element; frame = frame_behind (timing l) p edge.from; first = None }; to = use_by own } in
          let same = repeated_own source_width element below in
          let hub : first + element ≡ hub_for diagram plan times firsts (signal_edge edge) element = omega (arith, first_is, same) in
          let is = want_is own element (first + element) None false period_is plain hub refl (λ late. absurd (false≢true late)) in
          record {
            want = want;
            asks = refl;
            hub = hub;
            is = is;
            may = λ net words. may_ask net element want is
                (plain_hub net (hub_for diagram plan times firsts (signal_edge edge) element)
                ((attributes_of diagram).type_at edge.from 1) source_type
                (word_of_hub net element words (omega (arith, same, below))));
          }

      plain_line : (old new : List Ask) (wants more : List Want) (first width own : ℕ) → period l edge.to ≡ Some own
          → is_registered b own p ≡ false → first ≡ width_at firsts edge.from edge.from_port → width ≡ source_width
          → AsksAll old new wants more (hub_from first)
          (plain_want first (frame_behind (timing l) p edge.from) (use_by own)) width
          → IsEndPut diagram plan times firsts old new wants more b (signal_edge edge)
      plain_line old new wants more first width own period_is plain first_is width_is all =
          let none : lag p ≡ None = none_of (lag p) (flag_is own false period_is plain) in
          let shown : Use → Want = want_for diagram plan times firsts in
          let each : ℕ → Use = λ element. use_of diagram (attributes_of diagram) plan times (signal_edge edge) p element None in
          moving_put l old new wants more b (signal_edge edge) p width (hub_from first) (plain_want first (frame_behind (timing l) p edge.from) (use_by own)) moves
          (count_is l b (signal_edge edge) shows
          ∙ ap (count_by source_width ((attributes_of diagram).width_at edge.to 1) lag) moves
          ∙ ap (count_by_lag source_width ((attributes_of diagram).width_at edge.to 1)) none ∙ sym width_is)
          (λ element below. plain_element first own element period_is plain first_is (omega (arith, below, width_is)))
          (wants_are (plain_want first (frame_behind (timing l) p edge.from) (use_by own)) (λ element. shown (each element)) width
          (λ element below.
          let hub : first + element ≡ hub_at firsts edge.from edge.from_port element = omega (arith, first_is) in
          ap (λ (h : ℕ). Some (record { feed = record { hub = h; frame = frame_behind (timing l) p edge.from; first = None }; to = use_by own })) hub
          ∙ ap (λ (u : Asked). Some (record {
            feed =
                record {
                  hub = hub_at firsts edge.from edge.from_port element;
                  frame =
                      frame_behind (timing l) p edge.from;
                  first = None;
                };
            to = u;
          }))
          (sym (use_is l (signal_edge edge) p own moves period_is)))
          ∙ ap (λ (n : ℕ). map (λ element. shown (each element)) (numbers_from 0 n)) width_is
          ∙ sym (map-map shown each (numbers_from 0 source_width))
          ∙ ap (map shown)
          (sym (uses_are l b (signal_edge edge) p own false moves at shows period_is plain)))
          all

      -- with some
      pub late_facts : (own : ℕ) → period l edge.to ≡ Some own → is_registered b own p ≡ true
          → (b.inputs ≡ 1) × (type_into diagram (attributes_of diagram) edge.to 1
          ≡ (attributes_of diagram).type_at edge.to 1)
          × IsRepeated ((attributes_of diagram).width_at edge.to 1)
          (length (first_list (row_of b.kind).signal.lists))
      late_facts own period_is late =
          let fit = l.fit diagram order edge.to b l.ordered at in
          late_reads b.kind b.inputs b.outputs own p edge.to ((attributes_of diagram).width_at edge.to 1)
          (readable_at diagram l.scheduled.checked.wired edge.to b at).ports fit.2 fit.1
          (and_parts (is_free b.enable) (not (is_now (row_of b.kind).timing.reads (nat_lt own p))) late).1

      late_type : (own : ℕ) → period l edge.to ≡ Some own → is_registered b own p ≡ true → (attributes_of diagram).type_at edge.from 1 ≡ (attributes_of diagram).type_at edge.to 1
      late_type own period_is late =
          let facts = late_facts own period_is late in
          let one = facts.0 in
          let low = into.from in
          let high = into_port in
          let port : edge.to_port ≡ 1 = omega (arith, one, low, high) in
          let drives : driver_of diagram edge.to 1 ≡ Some edge = ap (driver_of diagram edge.to) (sym port) ∙ into.drives in
          sym (ap (λ (o : Option Edge). at_source o Logical (attributes_of diagram).type_at) drives) ∙ facts.1

      pub late_serves : (own element : ℕ) → period l edge.to ≡ Some own → is_registered b own p ≡ true
          → element < (attributes_of diagram).width_at edge.to 1 → repeated source_width element < source_width
      late_serves own element period_is late below =
          let some : is_some (lag p) ≡ true = flag_is own true period_is late in
          let by = some_of (lag p) some in
          let count : line_count diagram edge.to b edge.to_port edge ≡ (attributes_of diagram).width_at edge.to 1 =
          ap (count_by source_width ((attributes_of diagram).width_at edge.to 1) lag) moves ∙ ap (count_by_lag source_width ((attributes_of diagram).width_at edge.to 1)) by.1 in
          serves diagram l.wide edge.to b edge.to_port element edge at into.from into_port into.drives (omega (arith, below, count))

      late_element : (first width own element : ℕ) → period l edge.to ≡ Some own → is_registered b own p ≡ true
          → first ≡ width_at firsts edge.from edge.from_port → width ≡ source_width
          → element < (attributes_of diagram).width_at edge.to 1
          → IsElement l (hub_spread first width) (late_want diagram edge.to first width (frame_behind (timing l) p edge.from) (use_by own)) b (signal_edge edge) p element
      late_element first width own element period_is late first_is width_is below =
          let want : Want = record {
            feed = record {
              hub = first + repeated width element;
              frame =
                  frame_behind (timing l) p edge.from;
              first = Some (first_at diagram edge.to element);
            };
            to =
                use_by own;
          } in
          let same : repeated width element ≡ repeated source_width element = ap (λ (w : ℕ). repeated w element) width_is in
          let hub : first + repeated width element ≡ hub_for diagram plan times firsts (signal_edge edge) element = omega (arith, first_is, same) in
          let is = want_is own element (first + repeated width element) (Some (first_at diagram edge.to element)) true period_is late hub refl (λ _. refl) in
          let range : InRange ((attributes_of diagram).type_at edge.from 1) (first_at diagram edge.to element) =
          subst (λ (t : FxType). InRange t (first_at diagram edge.to element)) (sym (late_type own period_is late))
          (first_in_range l.stored l.storing diagram edge.to b element at
          (l.valid diagram order edge.to b l.ordered at).0) in
          record {
            want = want;
            asks = refl;
            hub = hub;
            is = is;
            may = λ net words. may_ask net element want is
                (hub_net net (hub_for diagram plan times firsts (signal_edge edge) element)
                ((attributes_of diagram).type_at edge.from 1)
                (first_at diagram edge.to element) source_type range
                (word_of_hub net element words (late_serves own element period_is late below)));
          }

      late_line : (old new : List Ask) (wants more : List Want) (first width own : ℕ) → period l edge.to ≡ Some own
          → is_registered b own p ≡ true → first ≡ width_at firsts edge.from edge.from_port → width ≡ source_width
          → AsksAll old new wants more (hub_spread first width)
          (late_want diagram edge.to first width (frame_behind (timing l) p edge.from) (use_by own))
          ((attributes_of diagram).width_at edge.to 1)
          → IsEndPut diagram plan times firsts old new wants more b (signal_edge edge)
      late_line old new wants more first width own period_is late first_is width_is all =
          let count : ℕ = (attributes_of diagram).width_at edge.to 1 in
          let by = some_of (lag p) (flag_is own true period_is late) in
          let shown : Use → Want = want_for diagram plan times firsts in
          let each : ℕ → Use = λ element. use_of diagram (attributes_of diagram) plan times (signal_edge edge) p
          (repeated source_width element) (initial_at (attributes_of diagram) edge.to b element) in
          moving_put l old new wants more b (signal_edge edge) p count (hub_spread first width) (late_want diagram edge.to first width (frame_behind (timing l) p edge.from) (use_by own)) moves
          (count_is l b (signal_edge edge) shows ∙ ap (count_by source_width count lag) moves ∙ ap (count_by_lag source_width count) by.1)
          (λ element below. late_element first width own element period_is late first_is width_is below)
          (wants_are (late_want diagram edge.to first width (frame_behind (timing l) p edge.from) (use_by own)) (λ element. shown (each element)) count
          (λ element below.
          let same : repeated width element ≡ repeated source_width element = ap (λ (w : ℕ). repeated w element) width_is in
          let hub : first + repeated width element ≡ hub_at firsts edge.from edge.from_port (repeated source_width element) = omega (arith, first_is, same) in
          ap (λ (h : ℕ). Some (record { feed = record { hub = h; frame = frame_behind (timing l) p edge.from; first = Some (first_at diagram edge.to element) }; to = use_by own })) hub
          ∙ ap (λ (o : Option ℤ). Some (record {
            feed =
                record {
                  hub = hub_at firsts edge.from edge.from_port (repeated source_width element);
                  frame =
                      frame_behind (timing l) p edge.from;
                  first = o;
                };
            to = use_by own;
          }))
          (sym (first_is_initial diagram edge.to b element at below (late_facts own period_is late).2))
          ∙ ap (λ (u : Asked). Some (record {
            feed =
                record {
                  hub = hub_at firsts edge.from edge.from_port (repeated source_width element);
                  frame =
                      frame_behind (timing l) p edge.from;
                  first =
                      initial_at (attributes_of diagram) edge.to b element;
                };
            to = u;
          }))
          (sym (use_is l (signal_edge edge) p own moves period_is)))
          ∙ sym (map-map shown each (numbers_from 0 count)) ∙ ap (map shown) (sym (uses_are l b (signal_edge edge) p own true moves at shows period_is late)))
          all

    pub hub_there : edge.from_port - 1 < length (slice_index_or firsts edge.from [])
    hub_there = l.hubs.there edge.from source.source edge.from_port source.is source.port_from
        (output_shown diagram edge.from source.source edge.from_port l.scheduled.checked.wired source.is
        source.port_from source.port_to).0

    -- the numbers of its hubs have 32 bits
    pub hub_small : (first element : ℕ) → first ≡ width_at firsts edge.from edge.from_port → element < source_width → first + element < 2 ^ 32
    hub_small first element first_is below =
        let small = l.hubs.small edge.from source.source edge.from_port element (source_element diagram edge element l.scheduled.checked.wired source below) in
        omega (arith, small, first_is)

    pub hubs_fit : (first width : ℕ) → first ≡ width_at firsts edge.from edge.from_port → width ≡ source_width → first < 2 ^ 32 → first + width ≤ 2 ^ 32
    hubs_fit first width first_is width_is low = elim (cases_lt 0 width) [
      | inl some ↦ let small = hub_small first (width - 1) first_is (omega (arith, some, width_is)) in omega (arith, small, some)
      | inr none ↦ omega (arith, none, low)
    ]

    -- a block that a line from one of a period leads to has one, which is what the code finds
    pub period_by : (p own : ℕ) → period l edge.from ≡ Some p → own ≡ samples (period l edge.to) → period l edge.to ≡ Some own
    period_by p own moves is =
        let e : period l edge.to ≡ Some (asked p moves).own = (asked p moves).period in
        e ∙ ap (λ (n : ℕ). Some n) (sym (is ∙ ap samples e))

    pub late_fits : (p own first width element : ℕ) → period l edge.from ≡ Some p → own ≡ samples (period l edge.to)
        → is_registered b own p ≡ true → first ≡ width_at firsts edge.from edge.from_port → width ≡ source_width
        → element < (attributes_of diagram).width_at edge.to 1 → first + repeated width element < 2 ^ 32
    late_fits p own first width element moves own_is late first_is width_is below =
        let same : repeated width element ≡ repeated source_width element = ap (λ (w : ℕ). repeated w element) width_is in
        let small = hub_small first (repeated source_width element) first_is (late_serves p moves own element (period_by p own moves own_is) late below) in
        omega (arith, small, same)

    -- what the code asks for, as it finds the end's period
    pub late_end : (p : ℕ) (moves : period l edge.from ≡ Some p) (own first width : ℕ) (old new : Asks)
        → own ≡ samples (period l edge.to) → is_registered b own p ≡ true
        → first ≡ width_at firsts edge.from edge.from_port → width ≡ source_width
        → AsksAll old.list.items new.list.items old.wants.items new.wants.items (hub_spread first width)
        (late_want diagram edge.to first width (frame_behind (timing l) p edge.from) (use_by p moves own))
        ((attributes_of diagram).width_at edge.to 1) → IsLinePut diagram plan times firsts old new edge
    late_end p moves own first width old new own_is late first_is width_is all =
        line_put edge b at old new (late_line p moves old.list.items new.list.items old.wants.items new.wants.items first width own (period_by p own moves own_is) late first_is width_is all)

    pub plain_end : (p : ℕ) (moves : period l edge.from ≡ Some p) (own first width : ℕ) (old new : Asks)
        → own ≡ samples (period l edge.to) → is_registered b own p ≡ false
        → first ≡ width_at firsts edge.from edge.from_port → width ≡ source_width
        → AsksAll old.list.items new.list.items old.wants.items new.wants.items (hub_from first)
        (plain_want first (frame_behind (timing l) p edge.from) (use_by p moves own)) width
        → IsLinePut diagram plan times firsts old new edge
    plain_end p moves own first width old new own_is plain first_is width_is all =
        line_put edge b at old new (plain_line p moves old.list.items new.list.items old.wants.items new.wants.items first width own (period_by p own moves own_is) plain first_is width_is all)

    -- a plain line ends in a frame of the block that it leads to
    pub plain_frame : (p own : ℕ) → period l edge.from ≡ Some p → period l edge.to ≡ Some own
        → is_registered b own p ≡ false → (max p own ≡ own)
        × (latency_after (timing l) p edge.from
        + (seen_by l (signal_edge edge) - latency_after (timing l) p edge.from)
        ≡ (timing l).latency edge.to)
    plain_frame p own moves period_is plain =
        let none : lag p ≡ None = none_of (lag p) (flag_is p moves own false period_is plain) in
        let in_time = end diagram (timing l) no_places l.timed edge.to b (Port edge.to_port) edge.from p at shows feeds moves in
        let same : in_time.own ≡ own = same_Some in_time.own own (sym in_time.period ∙ period_is) in
        let plain_edge : IsPlainEdge (timing l) edge.from p edge.to own =
        subst (λ (o : ℕ). IsPlainEdge (timing l) edge.from p edge.to o) same
        (subst (IsEdgeInTime (timing l) edge.from p edge.to in_time.own) none in_time.edge) in
        let some : 0 < own = (let low = own_some diagram (timing l) no_places l.timed edge.to b (Port edge.to_port) edge.from p at shows feeds moves in omega (arith, low, same)) in
        let low = part-below own p plain_edge.divides some in
        let behind = plain_edge.behind in
        let shift = ap (λ (u : Asked). u.shift) (to_is p moves own period_is ∙ ap (use_into (timing l) edge.from p edge.to own) none) in
        (omega (arith, low), omega (arith, shift, behind))
