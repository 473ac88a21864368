-- What an enabled block asks of its control, by the times of a schedule.
use Rattle.std.proofs.Common.{◌≡◌, ℕ, ◌+◌, ◌-◌, ◌<◌, ◌≤◌, pos, Bool, true, false, cond, List, [], map, Option, None, Some, ap, sym, ◌∙◌, subst, refl, arith}
use Rattle.std.specs.Prelude.{max, ◌&&◌, not, nat_lt, length, slice_get, slice_index_or}
use Rattle.std.proofs.lemmas.Bool.{false≢true}
use Rattle.std.proofs.lemmas.Option.{none-some, same_Some, slice_get_within}
use mathlib.Core.List.{map-map}
use Rattle.fx_type.specs.FxType.{is_signed, width_of}
use Rattle.math_list.specs.Numbers.{numbers_from}
use Rattle.dg_model.specs.declared.diagram.Diagram.{Diagram}
use Rattle.dg_model.specs.declared.diagram.Block.{Block}
use Rattle.dg_model.specs.declared.nested.Target.TheVariants.{Enable}
use Rattle.dg_model.specs.declared.resolved.Resolved.{Resolved}
use Rattle.dg_model.specs.Attributes.{attributes_of}
use Rattle.dg_model.specs.Instant.{is_now}
use Rattle.dg_model.specs.LatencyEdges.{LatencyEdge, asks_ever}
use Rattle.dg_model.specs.Library.{row_of}
use Rattle.dg_model.specs.Solves.{shown_ports, IsShown}
use Rattle.dg_model.specs.Widths.{width_at}
use Rattle.dg_model.specs.Wires.{repeated}
use Rattle.hw_latency.specs.Control.{control_ever}
use Rattle.hw_latency.specs.Weight.{is_free, is_registered, slack_into, samples}
use Rattle.hw_lines.specs.declared.source.Use.{Use as Asked}
use Rattle.hw_net.specs.Netlist.{HasWord}
use Rattle.hw_sched.specs.Chained.{Use, use_of}
use Rattle.hw_sched.specs.Slots.{Timing as Times}
use Rattle.hw_sched.proofs.Periods.{readable_at}
use Rattle.hw_shows.specs.Timing.{latency_after, IsPlainEdge}
use Rattle.hw_shows.specs.Timed.{Feeds, IsInTime}
use Rattle.hw_build.specs.declared.asks.Ask.{Ask}
use Rattle.hw_build.specs.declared.asks.Asks.{Asks}
use Rattle.hw_build.specs.declared.wants.Want.{Want}
use Rattle.hw_build.specs.inner.Asks.{IsEndWant}
use Rattle.hw_build.specs.inner.EndAsks.{IsLawful, want_for, hub_for, control_edge, IsEndPut, IsControlEnd, IsControlPut}
use Rattle.hw_build.specs.inner.HubPlaces.{hub_at}
use Rattle.hw_build.specs.inner.Lines.{frame_behind}
use Rattle.hw_build.specs.inner.EndSearch.{unasked, hub_from, plain_want, AsksAll}
use Rattle.hw_build.proofs.Ends.{end, own_some}
use Rattle.hw_lines.proofs.LineEnds.{part-below}
use Rattle.hw_build.proofs.LineAsks.{slack_is, plain_hub}
use Rattle.hw_build.proofs.EndAsks.{no_places, timing, seen_by, wants_are, count_is, still_put, IsElement, moving_put, uses_are, use_is}
use Rattle.hw_build.proofs.Sources.{IsControlOf, control_is, control_shown, enabled_show, repeated_own}
use Rattle.hw_build.proofs.WantFacts.{end_may_ask}

asked_control : (asks : Bool) (enable : Option ℕ) (control : ℕ) → cond asks enable None ≡ Some control → (enable ≡ Some control) × (asks ≡ true)
asked_control true enable control e = (e, refl)
asked_control false enable control e = absurd (none-some control e)

-- what is asked for is what enables
pub control_feeds : (diagram : Diagram) (block : ℕ) (b : Block) (control : ℕ) → control_ever b ≡ Some control → Feeds diagram block b Enable control
control_feeds diagram block b control e = asked_control (asks_ever (row_of b.kind).timing.asks) b.enable control e

module _ {diagram : Diagram} {order : List ℕ} {plan : Resolved} {times : Times} {firsts : List (List ℕ)} (l : IsLawful diagram order plan times firsts) where
  -- as the code has it
  pub control_put : (block : ℕ) (b : Block) → slice_get diagram.blocks block ≡ Some b
      → (old new : Asks) (o : Option ℕ) → control_ever b ≡ o
      → IsControlEnd diagram plan times firsts old new block b o
      → IsControlPut diagram plan times firsts old new block
  control_put block b at old new o is put = record {
    end = λ x there. subst (λ (y : Block). IsControlEnd diagram plan times firsts old new block y (control_ever y))
        (same_Some b x (sym at ∙ there))
        (subst (IsControlEnd diagram plan times firsts old new block b) (sym is) put);
  }

  module _ (block control : ℕ) (b : Block) (at : slice_get diagram.blocks block ≡ Some b) (feeds : Feeds diagram block b Enable control) where
    abbrev edge : LatencyEdge
    edge = control_edge control block

    of : IsControlOf diagram control
    of = control_is diagram block b control l.scheduled.checked at feeds.0

    shown : IsShown diagram (attributes_of diagram) control of.source 1 0
    shown = control_shown diagram control l.scheduled.checked.wired of

    shows : 1 ≤ shown_ports b.kind b.outputs
    shows = (enabled_show diagram l.scheduled.checked.wired).some block b control at feeds

    pub control_inside : control < length diagram.blocks
    control_inside = slice_get_within diagram.blocks control of.source of.is

    pub control_there : 0 < length (slice_index_or firsts control [])
    control_there = l.hubs.there control of.source 1 of.is (omega arith) shown.port_to

    hub_same : (hub element : ℕ) → hub ≡ width_at firsts control 1 → element < 1 → hub + element ≡ hub_for diagram plan times firsts edge element
    hub_same hub element hub_is below =
        let one = of.one in
        let own = repeated_own ((attributes_of diagram).width_at control 1) element (omega (arith, one, below)) in
        omega (arith, hub_is, own)

    pub still_control : (old new : List Ask) (wants more : List Want) (hub : ℕ)
        → (attributes_of diagram).period_at control ≡ None → hub ≡ width_at firsts control 1
        → AsksAll old new wants more (hub_from hub) unasked 1
        → IsEndPut diagram plan times firsts old new wants more b edge
    still_control old new wants more hub still hub_is all = still_put l old new wants more b edge hub 1 still (count_is l b edge shows) (λ element below. hub_same hub element hub_is below) all

    module _ (p : ℕ) (moves : (attributes_of diagram).period_at control ≡ Some p) where
      abbrev in_time : IsInTime diagram (attributes_of diagram) (timing l) block b Enable control p
      in_time = end diagram (timing l) no_places l.timed block b Enable control p at shows feeds moves

      pub control_behind : latency_after (timing l) p control ≤ (timing l).latency block
      control_behind = in_time.edge.behind

      pub control_moves : (own : ℕ) × ((attributes_of diagram).period_at block ≡ Some own)
      control_moves = (in_time.own, in_time.period)

      pub control_period : (own : ℕ) → own ≡ samples ((attributes_of diagram).period_at block) → (attributes_of diagram).period_at block ≡ Some own
      control_period own is = let e : (attributes_of diagram).period_at block ≡ Some in_time.own = in_time.period in e ∙ ap (λ (n : ℕ). Some n) (sym (is ∙ ap samples e))

      abbrev use_by : ℕ → Asked
      use_by own = record { shift = (timing l).latency block - latency_after (timing l) p control; period = own }

      plain : (own : ℕ) → is_registered b own p ≡ false
      plain own = ap (λ (o : Option ℕ). is_free o && not (is_now (row_of b.kind).timing.reads (nat_lt own p))) feeds.0

      seen_is : (own : ℕ) → (attributes_of diagram).period_at block ≡ Some own → seen_by l edge ≡ (timing l).latency block
      seen_is own period_is =
          let slack = slack_is l.lines l.joins l.little l.short diagram plan times no_places l.scheduled l.timed control p block own b moves period_is at in
          let none : slack_into (is_registered b own p) b own p ≡ 0 = ap (λ (flag : Bool). slack_into flag b own p) (plain own) in
          omega (arith, slack, none)

      control_element : (hub own element : ℕ) → (attributes_of diagram).period_at block ≡ Some own
          → hub ≡ width_at firsts control 1 → element < 1
          → IsElement l (hub_from hub)
          (plain_want hub (frame_behind (timing l) p control) (use_by own)) b edge p element
      control_element hub own element period_is hub_is below =
          let want : Want = record { feed = record { hub = hub + element; frame = frame_behind (timing l) p control; first = None }; to = use_by own } in
          let same = hub_same hub element hub_is below in
          let is : IsEndWant diagram (timing l) block b Enable control p (pos 0) (hub_for diagram plan times firsts edge element) want = record {
            own = own;
            period = period_is;
            hub_is = same;
            frame_is = refl;
            late = refl;
            first_is = λ late. absurd (false≢true late);
            to_is = refl;
          } in
          let zero_element : repeated ((attributes_of diagram).width_at control 1) element ≡ 0 =
          (let one = of.one in let own_element =
          repeated_own ((attributes_of diagram).width_at control 1) element (omega (arith, one, below)) in
          omega (arith, own_element, below)) in
          record {
            want = want;
            asks = refl;
            hub = same;
            is = is;
            may = λ net words.
                end_may_ask l.little l.short diagram plan times no_places l.scheduled l.timed net block b Enable
                control p (pos 0) (hub_for diagram plan times firsts edge element) want at
                (readable_at diagram l.scheduled.checked.wired block b at).parameters shows feeds moves is
                (plain_hub net (hub_for diagram plan times firsts edge element) ((attributes_of diagram).type_at control 1) (l.valid diagram order control of.source l.ordered of.is).0
                (subst (λ (e : ℕ). HasWord net.nets (hub_at firsts control 1 e)
                (width_of ((attributes_of diagram).type_at control 1))
                (is_signed ((attributes_of diagram).type_at control 1))) (sym zero_element)
                (words.each control of.source 1 0 shown)));
          }

      pub moving_control : (old new : List Ask) (wants more : List Want) (hub own : ℕ)
          → (attributes_of diagram).period_at block ≡ Some own → hub ≡ width_at firsts control 1
          → AsksAll old new wants more (hub_from hub)
          (plain_want hub (frame_behind (timing l) p control) (use_by own)) 1
          → IsEndPut diagram plan times firsts old new wants more b edge
      moving_control old new wants more hub own period_is hub_is all =
          let want : Use → Want = want_for diagram plan times firsts in
          let each : ℕ → Use = λ element. use_of diagram (attributes_of diagram) plan times edge p element None in
          let asked : ◌≡◌ {A = Asked} (record {
            shift =
                seen_by l edge - latency_after (timing l) p control;
            period = own;
          }) (use_by own) =
          ap (λ (n : ℕ). record { shift = n - latency_after (timing l) p control; period = own })
          (seen_is own period_is) in
          moving_put l old new wants more b edge p 1 (hub_from hub)
          (plain_want hub (frame_behind (timing l) p control) (use_by own)) moves (count_is l b edge shows)
          (λ element below. control_element hub own element period_is hub_is below)
          (wants_are (plain_want hub (frame_behind (timing l) p control) (use_by own)) (λ element. want (each element)) 1
          (λ element below.
          let same : hub + element ≡ hub_at firsts control 1 element = omega (arith, hub_is) in
          ap (λ (h : ℕ). Some (record { feed = record { hub = h; frame = frame_behind (timing l) p control; first = None }; to = use_by own })) same
          ∙ ap (λ (u : Asked). Some (record {
            feed =
                record {
                  hub = hub_at firsts control 1 element;
                  frame = frame_behind (timing l) p control;
                  first =
                      None;
                };
            to = u;
          })) (sym (use_is l edge p own moves period_is ∙ asked)))
          ∙ ap (λ (n : ℕ). map (λ element. want (each element)) (numbers_from 0 n)) (sym of.one) ∙ sym (map-map want each (numbers_from 0 ((attributes_of diagram).width_at control 1)))
          ∙ ap (map want) (sym (uses_are l b edge p own false moves at shows period_is (plain own))))
          all

      -- it ends in a frame of the block
      pub control_frame : (own : ℕ) → (attributes_of diagram).period_at block ≡ Some own
          → (max p own ≡ own) × (latency_after (timing l) p control
          + (seen_by l edge - latency_after (timing l) p control) ≡ (timing l).latency block)
      control_frame own period_is =
          let same : in_time.own ≡ own = same_Some in_time.own own (sym in_time.period ∙ period_is) in
          let plain_edge : IsPlainEdge (timing l) control p block own = subst (λ (o : ℕ). IsPlainEdge (timing l) control p block o) same in_time.edge in
          let some : 0 < own = (let low = own_some diagram (timing l) no_places l.timed block b Enable control p at shows feeds moves in omega (arith, low, same)) in
          let low = part-below own p plain_edge.divides some in
          let behind = plain_edge.behind in
          let seen = seen_is own period_is in
          (omega (arith, low), omega (arith, seen, behind))
