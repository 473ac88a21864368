-- The nets that meet the wants of ends are what these are offered.
use Rattle.std.proofs.Common.{◌≡◌, ℕ, ◌+◌, ◌≤◌, inl, inr, ℤ, pos, Bool, List, length, Option, None, Some, ap, sym, ◌∙◌, subst, refl, arith}
use Rattle.std.specs.Prelude.{is_some, slice_get}
use Rattle.std.proofs.lemmas.Option.{none-some, same_Some}
use Rattle.dg_model.specs.declared.diagram.Diagram.{Diagram}
use Rattle.dg_model.specs.declared.diagram.Block.{Block}
use Rattle.dg_model.specs.declared.nested.Target.{Target}
use Rattle.dg_model.specs.declared.nested.Target.TheVariants.{Port, Enable}
use Rattle.dg_model.specs.Attributes.{attributes_of}
use Rattle.dg_model.specs.RootElements.{root_inputs}
use Rattle.dg_model.specs.Solves.{shown_ports}
use Rattle.dg_model.specs.Wires.{repeated}
use Rattle.hw_net.specs.declared.netlist.Frame.{Frame}
use Rattle.hw_net.specs.Circuit.{Circuit}
use Rattle.hw_net.specs.Growing.{Extends}
use Rattle.hw_net.specs.Netlist.{HasWord}
use Rattle.hw_net.proofs.Growth.{longer}
use Rattle.hw_lines.specs.declared.source.Source.{Source}
use Rattle.hw_lines.specs.declared.source.Use.{Use}
use Rattle.hw_lines.specs.Chain.{source_of, reader_of, IsAnswer}
use Rattle.hw_shows.specs.Timing.{Timing}
use Rattle.hw_shows.specs.Series.{IsOffered}
use Rattle.hw_shows.specs.Timed.{lag_into, Feeds, IsInTime, IsTimed}
use Rattle.hw_build.specs.declared.wants.Want.{Want}
use Rattle.hw_build.specs.Places.{Places}
use Rattle.hw_build.specs.inner.Asks.{IsEndWant, IsAsk, AreAsks, SourcesAreShown, EnabledShow}
use Rattle.hw_build.specs.inner.Facts.{IsOfferedBy, HaveInputs, AreSpread}
use Rattle.hw_build.specs.inner.Growth.{GoesOn}
use Rattle.hw_build.specs.inner.Lines.{frame_behind, use_into}
use Rattle.hw_build.specs.inner.LineStep.{LateAreLow}
use Rattle.hw_build.specs.inner.UnderWay.{HaveHubs, IsUnderWay}
use Rattle.hw_build.specs.inner.Wants.{first_of, source_by, IsMetBy, AreWantsMet}
use Rattle.hw_build.proofs.Ends.{end, end_offered}
use Rattle.hw_build.proofs.Growth.{goes_appended, later_on}
use Rattle.hw_build.proofs.Steps.{inputs_later}
use Rattle.hw_build.proofs.UnderWay.{hubs_later}

-- ---- an end

module _ (diagram : Diagram) (timing : Timing) (places : Places) (closed hubs : ℕ) (now : Circuit) (block : ℕ) (b : Block) (target : Target) (from : ℕ) (first : ℤ) (hub : ℕ) where
  -- a source that never changes is offered itself
  pub still_offered : (attributes_of diagram).period_at from ≡ None → IsOfferedBy diagram timing places closed hubs now block b target from first hub hub
  still_offered still = record {
    holds = λ later goes n inputs rows is.
        subst (λ (p : Option ℕ). IsOffered n timing from p block ((attributes_of diagram).period_at block)
        (lag_into diagram (attributes_of diagram) block b target) first (rows hub) (rows hub)) (sym still)
        (record { at = λ c below. refl });
  }

  -- the source of a want, as an end is asked for it
  pub source_is : (p : ℕ) (want : Want) → IsEndWant diagram timing block b target from p first hub want
      → ◌≡◌ {A = Source} (source_by want.feed) (source_of hub (frame_behind timing p from) (first_of want.feed.first) (is_some (lag_into diagram (attributes_of diagram) block b target p)))
  source_is p want is =
      ap (λ (h : ℕ). source_of h want.feed.frame (first_of want.feed.first) (is_some want.feed.first)) is.hub_is
      ∙ ap (λ (f : Frame). source_of hub f (first_of want.feed.first) (is_some want.feed.first)) is.frame_is
      ∙ ap (λ (r : Bool). source_of hub (frame_behind timing p from) (first_of want.feed.first) r) is.late

  pub late_met : (number p : ℕ) (want : Want) (level : ℕ → ℕ) → IsTimed diagram (attributes_of diagram) timing
      → now.cycles ≡ timing.cycles → slice_get diagram.blocks block ≡ Some b → 1 ≤ shown_ports b.kind b.outputs
      → Feeds diagram block b target from → (attributes_of diagram).period_at from ≡ Some p
      → IsEndWant diagram timing block b target from p first hub want
      → IsMetBy closed hubs now level want.feed want.to number
      → IsOfferedBy diagram timing places closed hubs now block b target from first hub number
  late_met number p want level timed cycles at showing feeds moves is met =
      let in_time : IsInTime diagram (attributes_of diagram) timing block b target from p = end diagram timing places timed block b target from p at showing feeds moves in
      let lag : Option ℕ = lag_into diagram (attributes_of diagram) block b target p in
      let own : is.own ≡ in_time.own = same_Some is.own in_time.own (sym is.period ∙ in_time.period) in
      let source : Source = source_of hub (frame_behind timing p from) (first_of want.feed.first) (is_some lag) in
      let to : ◌≡◌ {A = Use} want.to (use_into timing from p block in_time.own lag) = is.to_is ∙ ap (λ (o : ℕ). use_into timing from p block o lag) own in
      let asked : IsAnswer met.was met.next source (reader_of source want.to) number =
      subst (λ (s : Source). IsAnswer met.was met.next s (reader_of s want.to) number)
      (source_is p want is) met.answer in
      let answer : IsAnswer met.was met.next source
      (reader_of source (use_into timing from p block in_time.own lag)) number =
      subst (λ (u : Use). IsAnswer met.was met.next source (reader_of source u) number) to asked in
      later_on closed closed hubs met.next now
      (λ n rows. IsOffered n timing from ((attributes_of diagram).period_at from) block
      ((attributes_of diagram).period_at block)
      (lag_into diagram (attributes_of diagram) block b target) first (rows hub) (rows number))
      (omega arith) met.goes
      (end_offered diagram timing places timed block b target from p at showing feeds moves closed hubs met.was
      met.next met.small met.grown (met.cycles ∙ cycles) lag refl hub number
      (first_of want.feed.first) first is.first_is answer)

-- what the net of an end keeps of the hub
pub record IsOfferedNet (closed hubs : ℕ) (now : Circuit) (level : ℕ → ℕ) (hub number : ℕ) : Type 0 where
  pub word : (width : ℕ) (signed : Bool) → HasWord now.nets hub width signed → HasWord now.nets number width signed
  pub low : level number ≤ level hub + 1

net_still : (closed hubs : ℕ) (now : Circuit) (level : ℕ → ℕ) (hub number : ℕ) → number ≡ hub → IsOfferedNet closed hubs now level hub number
net_still closed hubs now level hub number same = subst (λ (n : ℕ). IsOfferedNet closed hubs now level hub n) (sym same) (record { word = λ width signed word. word; low = omega arith })

net_late : (closed hubs : ℕ) (now : Circuit) (level : ℕ → ℕ) (hub number : ℕ) (want : Want) → want.feed.hub ≡ hub
    → IsMetBy closed hubs now level want.feed want.to number → IsOfferedNet closed hubs now level hub number
net_late closed hubs now level hub number want same met = subst (λ (h : ℕ). IsOfferedNet closed hubs now level h number) same (record { word = met.word; low = met.low })

-- ---- all ends

module _ (diagram : Diagram) (timing : Timing) (places : Places) (place_of : ℕ → ℕ) (closed hubs : ℕ) (before now : Circuit) (level : ℕ → ℕ) (wants : List Want) (numbers : List ℕ)
    (timed : IsTimed diagram (attributes_of diagram) timing) (cycles : before.cycles ≡ timing.cycles) (grown : Extends before now)
    (met : AreWantsMet closed hubs (length (root_inputs diagram (attributes_of diagram))) before level now wants numbers) (asks : AreAsks diagram timing wants numbers places)
  where
    cycles_now : now.cycles ≡ timing.cycles
    cycles_now = grown.cycles ∙ cycles

    offered_to : (block : ℕ) (b : Block) (target : Target) (from : ℕ) (first : ℤ) (hub number : ℕ)
        → slice_get diagram.blocks block ≡ Some b → 1 ≤ shown_ports b.kind b.outputs
        → Feeds diagram block b target from
        → IsAsk diagram timing wants numbers block b target from first hub number
        → IsOfferedBy diagram timing places closed hubs now block b target from first hub number
    offered_to block b target from first hub number at showing feeds ask = elim ask [
      | inl still ↦ subst (λ (n : ℕ). IsOfferedBy diagram timing places closed hubs now block b target from first
          hub n) (sym still.1)
          (still_offered diagram timing places closed hubs now block b target from first hub still.0)
      | inr late ↦ late_met diagram timing places closed hubs now block b target from first hub number late.p
          late.want met.next timed cycles_now at showing feeds late.moves late.is
          (met.each late.place late.want number late.at late.answer)
    ]

    net_of : (block : ℕ) (b : Block) (target : Target) (from : ℕ) (first : ℤ) (hub number : ℕ)
        → IsAsk diagram timing wants numbers block b target from first hub number
        → IsOfferedNet closed hubs now met.next hub number
    net_of block b target from first hub number ask = elim ask [
      | inl still ↦ net_still closed hubs now met.next hub number still.1
      | inr late ↦ net_late closed hubs now met.next hub number late.want late.is.hub_is (met.each late.place late.want number late.at late.answer)
    ]

    pub late_are_low : LateAreLow diagram places met.next
    late_are_low = record {
      each = λ block b port element edge source lag at showing from to drives below moves lags. elim (asks.lines block b port element edge at showing from to drives below) [
        | inl still ↦ absurd (none-some source (sym still.0 ∙ moves))
        | inr late ↦
            let own : lag_into diagram (attributes_of diagram) block b (Port port) late.p ≡ Some lag =
            ap (λ (p : ℕ). lag_into diagram (attributes_of diagram) block b (Port port) p)
            (same_Some late.p source (sym late.moves ∙ moves)) ∙ lags in
            (met.each late.place late.want (places.offered block port element) late.at late.answer).late (late.is.late ∙ ap (λ (o : Option ℕ). is_some o) own)
      ];
    }

    pub lines_are_under_way : SourcesAreShown diagram → EnabledShow diagram → AreSpread diagram places → HaveInputs diagram places before → HaveHubs diagram places place_of hubs before level
        → IsUnderWay diagram timing places place_of closed hubs now met.next 0
    lines_are_under_way shown enabled spread inputs hubs_are =
        let goes : GoesOn closed hubs before now = goes_appended closed hubs before now grown in
        let here : HaveHubs diagram places place_of hubs now met.next =
        hubs_later diagram timing places place_of hubs closed before now level met.next goes
        (longer before now grown) met.goes.same hubs_are in
        record {
          facts = record {
            cycles = cycles_now;
            spread = spread;
            inputs = inputs_later diagram places closed hubs before now goes inputs;
            lines = record {
              each = λ block b port element edge at showing from to drives below.
                  offered_to block b (Port port) edge.from (places.first block element)
                  (places.after edge.from edge.from_port
                  (repeated ((attributes_of diagram).width_at edge.from edge.from_port) element))
                  (places.offered block port element) at showing (edge, from, to, drives, refl)
                  (asks.lines block b port element edge at showing from to drives below);
            };
            enables = record {
              each = λ block b control at feeds. offered_to block b Enable control (pos 0)
                  (places.after control 1 0) (places.enable block) at (enabled.some block b control at feeds) feeds
                  (asks.enables block b control at feeds);
            };
            elements = record {
              made = λ block b port element early is. absurd (omega (arith, early));
              piped = λ block b port element early is. absurd (omega (arith, early));
            };
          };
          hubs_are = here;
          operands = record {
            there = λ block b port element edge at showing from to drives below.
                let source = shown.lines block b port element edge at showing from to drives below in
                let net = net_of block b (Port port) edge.from (places.first block element)
                (places.after edge.from edge.from_port
                (repeated ((attributes_of diagram).width_at edge.from edge.from_port) element))
                (places.offered block port element)
                (asks.lines block b port element edge at showing from to drives below) in
                net.word _ _ (here.words edge.from source.0 edge.from_port (repeated ((attributes_of diagram).width_at edge.from edge.from_port) element) source.1);
            levels = λ block b port element edge at showing from to drives below.
                let source = shown.lines block b port element edge at showing from to drives below in
                let net = net_of block b (Port port) edge.from (places.first block element)
                (places.after edge.from edge.from_port
                (repeated ((attributes_of diagram).width_at edge.from edge.from_port) element))
                (places.offered block port element)
                (asks.lines block b port element edge at showing from to drives below) in
                let high = here.levels edge.from source.0 edge.from_port (repeated ((attributes_of diagram).width_at edge.from edge.from_port) element) source.1 in
                let low = net.low in
                omega (arith, low, high);
            enables = λ block b control at feeds.
                let source = shown.enables block b control at feeds in
                let net = net_of block b Enable control (pos 0) (places.after control 1 0) (places.enable block) (asks.enables block b control at feeds) in
                net.word _ _ (here.words control source.0 1 0 source.1);
            enable_levels = λ block b control at feeds.
                let source = shown.enables block b control at feeds in
                let net = net_of block b Enable control (pos 0) (places.after control 1 0) (places.enable block) (asks.enables block b control at feeds) in
                let high = here.levels control source.0 1 0 source.1 in
                let low = net.low in
                omega (arith, low, high);
          };
          sound = met.goes.begun.sound;
          levelled = met.goes.begun.levelled;
          differ = met.goes.begun.differ;
        }
