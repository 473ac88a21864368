-- The nets of all asks are what ends are offered, in a netlist that is under way.
use Rattle.std.proofs.Common.{◌≡◌, ℕ, ◌+◌, ◌-◌, ◌<◌, ◌≤◌, inl, inr, ℤ, pos, List, [], length, None, Some, Option, ap, sym, ◌∙◌, subst, refl, arith}
use Rattle.std.specs.Prelude.{◌^◌, ◌++◌, ◌∷◌, map, min, slice_get, slice_index_or}
use Rattle.std.specs.List.{flat_map}
use Rattle.std.proofs.lemmas.Bool.{cases_lt}
use Rattle.std.proofs.lemmas.List.{append-nil, map-append}
use Rattle.std.proofs.lemmas.Option.{slice_get-get_or, slice_get_within}
use Rattle.dg_model.specs.declared.diagram.Diagram.{Diagram}
use Rattle.dg_model.specs.declared.diagram.Block.{Block}
use Rattle.dg_model.specs.declared.diagram.Edge.{Edge}
use Rattle.dg_model.specs.declared.nested.Target.TheVariants.{Port, Enable}
use Rattle.dg_model.specs.declared.resolved.Resolved.{Resolved}
use Rattle.dg_model.specs.Attributes.{attributes_of}
use Rattle.dg_model.specs.Laws.{InputsAreListed}
use Rattle.dg_model.specs.LatencyEdges.{LatencyEdge, signal_edge, latency_edges}
use Rattle.dg_model.specs.RootElements.{root_inputs}
use Rattle.dg_model.specs.Solves.{shown_ports}
use Rattle.dg_model.specs.Wires.{driver_of, repeated}
use Rattle.dg_tables.specs.Laws.{IsOrdered, TypesAreValid}
use Rattle.hw_net.specs.Circuit.{Circuit}
use Rattle.hw_sched.specs.Chained.{initial_at, uses_from, uses_in_all}
use Rattle.hw_sched.specs.Slots.{Timing as Times}
use Rattle.hw_shows.specs.Timing.{Timing}
use Rattle.hw_shows.specs.Timed.{Feeds}
use Rattle.hw_build.specs.declared.asks.Ask.{Ask}
use Rattle.hw_build.specs.declared.operands.Span.{Span}
use Rattle.hw_build.specs.declared.wants.Want.{Want}
use Rattle.hw_build.specs.Places.{Places}
use Rattle.hw_build.specs.Times.{timing_by}
use Rattle.hw_build.specs.inner.Asks.{IsAsk, AreAsks}
use Rattle.hw_build.specs.inner.EndAsks.{want_for, AreHubPlaces, HaveHubWords, hub_for, first_for, end_count, IsAskAt, IsEndAt, AreEnds, IsLawful, control_edge}
use Rattle.hw_build.specs.inner.Facts.{line_count, AreSpread}
use Rattle.hw_build.specs.inner.HubPlaces.{hub_at, hubs_in_all, start_level, HasHubs}
use Rattle.hw_build.specs.inner.LineStep.{AreLinesPut}
use Rattle.hw_build.specs.inner.Operands.{line_number, net_in, or_zero, first_of_block, AreLinePlaces}
use Rattle.hw_build.specs.inner.EndSearch.{AreNets, AreAsked}
use Rattle.hw_build.specs.inner.Wants.{IsBegun, AreFolded}
use Rattle.hw_build.proofs.HubsOnly.{levelled, differ, inputs_begun, facts_of, hubs_begun, sound_begun}
use Rattle.hw_build.proofs.FewChains.{few_chains}
use Rattle.hw_build.proofs.AskLists.{still_asked, late_asked}
use Rattle.hw_build.proofs.LineFrames.{class_frame}
use Rattle.hw_build.proofs.EndOffers.{late_are_low, lines_are_under_way}
use Rattle.hw_build.proofs.EndAsks.{count_is, count_none}
use Rattle.hw_build.proofs.LineSearch.{driver_number}
use Rattle.hw_build.proofs.Sources.{source_is, source_element, serves, control_is, control_shown, repeated_own, sources_are_shown, enabled_show}

-- ---- what hubs have

pub hub_places : (diagram : Diagram) (order : List ℕ) (earlier later : Circuit) (firsts : List (List ℕ))
    → HasHubs diagram earlier later firsts → InputsAreListed → TypesAreValid → IsOrdered diagram order
    → length later.nets < 2 ^ 32 → AreHubPlaces diagram firsts
hub_places diagram order earlier later firsts has listed valid ordered few = record {
  there = has.there;
  small = λ block b port element shown.
      let low = (facts_of diagram order earlier later firsts has listed valid ordered (λ n. n) block b port element shown).0 in
      let size = has.size in
      omega (arith, low, size, few);
}

pub hub_words : (diagram : Diagram) (order : List ℕ) (earlier later : Circuit) (firsts : List (List ℕ))
    → HasHubs diagram earlier later firsts → InputsAreListed → TypesAreValid → IsOrdered diagram order
    → HaveHubWords diagram firsts later
hub_words diagram order earlier later firsts has listed valid ordered =
    record {
      each = λ block b port element shown.
          (facts_of diagram order earlier later firsts has listed valid ordered (λ n. n) block b port element shown).1;
    }

-- ---- numbers

first_same : (diagram : Diagram) (block element : ℕ) (o : Option Block)
    → first_of_block diagram block element o
    ≡ first_of_block diagram block (min element ((attributes_of diagram).width_at block 1 - 1)) o
first_same diagram block element None = refl
first_same diagram block element (Some b) =
    let last : ℕ = (attributes_of diagram).width_at block 1 - 1 in
    let same : min element last ≡ min (min element last) last = omega arith in
    ap (λ (e : ℕ). or_zero (initial_at (attributes_of diagram) block b e)) same

module _ {diagram : Diagram} {order : List ℕ} {plan : Resolved} {times : Times} {firsts : List (List ℕ)}
    (l : IsLawful diagram order plan times firsts) (list : List Ask) (wants : List Want)
    (lines controls : List Span) (nets numbers : List ℕ)
    (ends : AreEnds diagram plan times firsts list wants lines controls (length diagram.edges) (length diagram.blocks) []) (are : AreNets list numbers nets (length list))
    (places : Places) (named : AreLinePlaces diagram firsts (record { nets = nets; lines = lines; controls = controls }) places)
  where
    abbrev clock : Timing
    clock = timing_by diagram plan times

    -- ---- the net of an element of an end

    pub record IsNetAt (span : Span) (element : ℕ) : Type 0 where
      pub is : slice_get nets (span.first + element) ≡ Some (net_in nets (Some span) element)

    asked_inside : (b : Block) (edge : LatencyEdge) (place element : ℕ) → IsAskAt diagram plan times firsts list wants b edge place element → place < length list
    asked_inside b edge place element (inl still) = slice_get_within list place still.1.ask still.1.is
    asked_inside b edge place element (inr late) = slice_get_within list place late.asked.ask late.asked.is

    net_at : (spans : List Span) (number : ℕ) (b : Block) (edge : LatencyEdge) (element : ℕ)
        → (end : IsEndAt diagram plan times firsts list wants spans number b edge)
        → element < end_count diagram plan times firsts b edge → IsNetAt end.span element
    net_at spans number b edge element end below =
        let inside = asked_inside b edge (end.span.first + element) element (end.each element below) in
        let size = are.size in
        let count = end.count in
        let place : end.span.first + element ≡ end.span.first + min element (end.span.count - 1) = omega (arith, below, count) in
        record { is = slice_get-get_or nets (end.span.first + element) 0 (omega (arith, inside, size)) ∙ ap (λ (n : ℕ). Some (slice_index_or nets n 0)) place }

    ask_of : (spans : List Span) (number block : ℕ) (b : Block) (edge : LatencyEdge) (element : ℕ) → edge.to ≡ block
        → (end : IsEndAt diagram plan times firsts list wants spans number b edge)
        → element < end_count diagram plan times firsts b edge
        → IsAsk diagram clock wants numbers block b edge.target edge.from
        (first_for diagram plan times firsts edge edge.target element)
        (hub_for diagram plan times firsts edge element) (net_in nets (Some end.span) element)
    ask_of spans number block b edge element to end below =
        subst (λ (n : ℕ). IsAsk diagram clock wants numbers n b edge.target edge.from
        (first_for diagram plan times firsts edge edge.target element)
        (hub_for diagram plan times firsts edge element) (net_in nets (Some end.span) element)) to
        (go (end.each element below))
      where
        here : slice_get nets (end.span.first + element) ≡ Some (net_in nets (Some end.span) element)
        here = (net_at spans number b edge element end below).is

        go : IsAskAt diagram plan times firsts list wants b edge (end.span.first + element) element
            → IsAsk diagram clock wants numbers edge.to b edge.target edge.from
            (first_for diagram plan times firsts edge edge.target element)
            (hub_for diagram plan times firsts edge element) (net_in nets (Some end.span) element)
        go (inl still) = still_asked diagram clock list wants numbers nets are edge.to b edge.target edge.from
            (first_for diagram plan times firsts edge edge.target element)
            (hub_for diagram plan times firsts edge element) (end.span.first + element)
            (net_in nets (Some end.span) element) here still.1 still.0
        go (inr late) = late_asked diagram clock list wants numbers nets are edge.to b edge.target edge.from
            (first_for diagram plan times firsts edge edge.target element)
            (hub_for diagram plan times firsts edge element) (end.span.first + element)
            (net_in nets (Some end.span) element) here late.p late.want late.asked late.moves late.is

    -- ---- lines

    abbrev Line : ℕ → ℕ → Edge → Type 0
    Line block port edge = (b : Block) (element : ℕ) → slice_get diagram.blocks block ≡ Some b
        → 1 ≤ shown_ports b.kind b.outputs → 1 ≤ port → port ≤ b.inputs → driver_of diagram block port ≡ Some edge
        → element < line_count diagram block b port edge
        → IsAsk diagram clock wants numbers block b (Port port) edge.from (places.first block element)
        (places.after edge.from edge.from_port
        (repeated ((attributes_of diagram).width_at edge.from edge.from_port) element))
        (places.offered block port element)

    line_end : (number : ℕ) (edge : Edge) (b : Block) → slice_get diagram.edges number ≡ Some edge
        → slice_get diagram.blocks edge.to ≡ Some b
        → IsEndAt diagram plan times firsts list wants lines number b (signal_edge edge)
    line_end number edge b at block = ends.each_line number edge b (slice_get_within diagram.edges number edge at) at block

    line_here : (edge : Edge) → slice_get diagram.edges (line_number diagram edge.to edge.to_port) ≡ Some edge → Line edge.to edge.to_port edge
    line_here edge found b element at shows from to drives below =
        let number : ℕ = line_number diagram edge.to edge.to_port in
        let end = line_end number edge b found at in
        let count = count_is l b (signal_edge edge) shows in
        let inside : element < end_count diagram plan times firsts b (signal_edge edge) = omega (arith, below, count) in
        let ask = ask_of lines number edge.to b (signal_edge edge) element refl end inside in
        let net : places.offered edge.to edge.to_port element ≡ net_in nets (Some end.span) element =
        named.offered edge.to edge.to_port element ∙ ap (λ (o : Option Span). net_in nets o element) end.is in
        let source = source_is diagram number edge l.scheduled.checked.wired found in
        let width : ℕ = (attributes_of diagram).width_at edge.from edge.from_port in
        let shown = source_element diagram edge (repeated width element) l.scheduled.checked.wired source (serves diagram l.wide edge.to b edge.to_port element edge at from to drives below) in
        let hub : places.after edge.from edge.from_port (repeated width element)
        ≡ hub_at firsts edge.from edge.from_port (repeated width element) =
        named.after edge.from source.source edge.from_port (repeated width element) shown in
        subst (λ (n : ℕ). IsAsk diagram clock wants numbers edge.to b (Port edge.to_port) edge.from
        (places.first edge.to element) (places.after edge.from edge.from_port (repeated width element)) n)
        (sym net)
        (subst (λ (h : ℕ). IsAsk diagram clock wants numbers edge.to b (Port edge.to_port) edge.from (places.first edge.to element) h (net_in nets (Some end.span) element)) (sym hub)
        (subst (λ (v : ℤ). IsAsk diagram clock wants numbers edge.to b (Port edge.to_port) edge.from v
        (hub_at firsts edge.from edge.from_port (repeated width element)) (net_in nets (Some end.span) element))
        (sym (named.first edge.to element)) ask))

    line_ask : (block port : ℕ) (edge : Edge) → driver_of diagram block port ≡ Some edge → Line block port edge
    line_ask block port edge drives =
        let found = driver_number diagram block port edge l.scheduled.checked.wired drives in
        let at : slice_get diagram.edges (line_number diagram edge.to edge.to_port) ≡ Some edge =
        ap (λ (n : ℕ). slice_get diagram.edges (line_number diagram n edge.to_port)) found.1
        ∙ ap (λ (n : ℕ). slice_get diagram.edges (line_number diagram block n)) found.2 ∙ found.0 in
        subst (λ (n : ℕ). Line n port edge) found.1 (subst (λ (n : ℕ). Line edge.to n edge) found.2 (line_here edge at))

    -- ---- controls

    control_ask : (block : ℕ) (b : Block) (control : ℕ) → slice_get diagram.blocks block ≡ Some b
        → Feeds diagram block b Enable control
        → IsAsk diagram clock wants numbers block b Enable control (pos 0) (places.after control 1 0)
        (places.enable block)
    control_ask block b control at feeds =
        let end = ends.each_control block b control (slice_get_within diagram.blocks block b at) at feeds in
        let count = count_is l b (control_edge control block) ((enabled_show diagram l.scheduled.checked.wired).some block b control at feeds) in
        let ask = ask_of controls block block b (control_edge control block) 0 refl end (omega (arith, count)) in
        let net : places.enable block ≡ net_in nets (Some end.span) 0 = named.enable block ∙ ap (λ (o : Option Span). net_in nets o 0) end.is in
        let of = control_is diagram block b control l.scheduled.checked at feeds.0 in
        let one = of.one in
        let zero_element = repeated_own ((attributes_of diagram).width_at control 1) 0 (omega (arith, one)) in
        let hub : places.after control 1 0 ≡ hub_for diagram plan times firsts (control_edge control block) 0 =
        named.after control of.source 1 0 (control_shown diagram control l.scheduled.checked.wired of)
        ∙ ap (hub_at firsts control 1) (sym zero_element) in
        subst (λ (n : ℕ). IsAsk diagram clock wants numbers block b Enable control (pos 0) (places.after control 1 0) n) (sym net)
        (subst (λ (h : ℕ). IsAsk diagram clock wants numbers block b Enable control (pos 0) h (net_in nets (Some end.span) 0)) (sym hub) ask)

    pub all_asks : AreAsks diagram clock wants numbers places
    all_asks = record {
      lines = λ block b port element edge at showing from to drives below. line_ask block port edge drives b element at showing from to drives below;
      enables = control_ask;
    }

    -- ---- past the last element of an end

    abbrev Spread : ℕ → ℕ → Edge → Type 0
    Spread block port edge = (b : Block) (element : ℕ) → slice_get diagram.blocks block ≡ Some b
        → places.offered block port element
        ≡ places.offered block port (min element (line_count diagram block b port edge - 1))

    spread_here : (edge : Edge) → slice_get diagram.edges (line_number diagram edge.to edge.to_port) ≡ Some edge → Spread edge.to edge.to_port edge
    spread_here edge found b element at =
        let number : ℕ = line_number diagram edge.to edge.to_port in
        let end = line_end number edge b found at in
        let last : ℕ = min element (line_count diagram edge.to b edge.to_port edge - 1) in
        let count = end.count in
        let net : (e : ℕ) → places.offered edge.to edge.to_port e ≡ net_in nets (Some end.span) e = λ e. named.offered edge.to edge.to_port e ∙ ap (λ (o : Option Span). net_in nets o e) end.is in
        let place : min element (end.span.count - 1) ≡ min last (end.span.count - 1) = elim (cases_lt 0 (shown_ports b.kind b.outputs)) [
          | inl some ↦ let same = count_is l b (signal_edge edge) some in omega (arith, count, same)
          | inr none ↦ let zero_count = count_none l b (signal_edge edge) (omega (arith, none)) in omega (arith, count, zero_count)
        ] in
        net element ∙ ap (λ (n : ℕ). slice_index_or nets (end.span.first + n) 0) place ∙ sym (net last)

    pub all_spread : AreSpread diagram places
    all_spread = record {
      offered = λ block b port element edge at drives.
          let found = driver_number diagram block port edge l.scheduled.checked.wired drives in
          let line : slice_get diagram.edges (line_number diagram edge.to edge.to_port) ≡ Some edge =
          ap (λ (n : ℕ). slice_get diagram.edges (line_number diagram n edge.to_port)) found.1
          ∙ ap (λ (n : ℕ). slice_get diagram.edges (line_number diagram block n)) found.2 ∙ found.0 in
          subst (λ (n : ℕ). Spread n port edge) found.1 (subst (λ (n : ℕ). Spread edge.to n edge) found.2 (spread_here edge line)) b element at;
      first = λ block element. named.first block element
          ∙ first_same diagram block element (slice_get diagram.blocks block)
          ∙ sym (named.first block (min element ((attributes_of diagram).width_at block 1 - 1)));
    }

-- ---- the step

mapped_flat : {A B C : Type 0} (g : B → C) (f : A → List B) (xs : List A) → flat_map (λ x. map g (f x)) xs ≡ map g (flat_map f xs)
mapped_flat g f [] = refl
mapped_flat g f (x ∷ xs) = ap (λ ys. map g (f x) ++ ys) (mapped_flat g f xs) ∙ sym (map-append g (f x) (flat_map f xs))

pub lines_put : (diagram : Diagram) (order : List ℕ) (plan : Resolved) (times : Times) (firsts : List (List ℕ))
    (earlier before now : Circuit) (list : List Ask) (wants : List Want) (lines controls : List Span)
    (nets : List ℕ) → IsLawful diagram order plan times firsts → InputsAreListed
    → HasHubs diagram earlier before firsts → before.cycles ≡ plan.cycles
    → length before.inputs ≤ length (root_inputs diagram (attributes_of diagram))
    → AreEnds diagram plan times firsts list wants lines controls (length diagram.edges)
    (length diagram.blocks) [] → AreAsked before now list wants nets
    → AreLinesPut diagram plan times before now firsts (record { nets = nets; lines = lines; controls = controls })
lines_put diagram order plan times firsts earlier before now list wants lines controls nets l listed has cycles inputs ends asked = record {
  extends = asked.met.extends;
  parts = asked.met.parts;
  counted = λ k net frame past at counts. let class = asked.met.counted.each k net frame past at counts in
      class_frame l asked.met.classes (subst
      (λ (ws : List Want). AreFolded ws asked.met.classes) all_wants asked.met.folded) class.0 class.1 frame
      class.2 class.3;
  few =
      let most = few_chains l earlier before has listed asked.met.classes (subst (λ (ws : List Want). AreFolded ws asked.met.classes) all_wants asked.met.folded) in
      let few = asked.met.few in
      omega (arith, most, few);
  way = λ places place_of named.
      let level : ℕ → ℕ = start_level diagram place_of in
      let ports : ℕ = length (root_inputs diagram (attributes_of diagram)) in
      let hubs : ℕ = hubs_in_all diagram in
      let size = has.size in
      let begun : IsBegun ports hubs ports before level = record {
        there = omega (arith, size);
        inputs = inputs;
        sound = sound_begun diagram order earlier before firsts has listed l.valid l.ordered;
        levelled = levelled diagram earlier before firsts has level;
        differ = differ diagram earlier before firsts has;
      } in
      let met = asked.met.met ports hubs ports level begun in
      record {
        level = met.next;
        same = met.goes.same;
        is = lines_are_under_way diagram (timing_by diagram plan times) places place_of ports hubs before now level wants asked.numbers l.timed cycles asked.met.extends met
            (all_asks l list wants lines controls nets asked.numbers ends asked.are places named)
            (sources_are_shown diagram l.scheduled.checked l.wide)
            (enabled_show diagram l.scheduled.checked.wired)
            (all_spread l list wants lines controls nets asked.numbers ends asked.are places named)
            (inputs_begun diagram earlier before firsts has places named.input) (hubs_begun diagram order earlier before firsts has listed l.valid l.ordered places place_of named.after);
        late = late_are_low diagram (timing_by diagram plan times) places place_of ports hubs before now level wants
            asked.numbers l.timed cycles asked.met.extends met
            (all_asks l list wants lines controls nets asked.numbers ends asked.are places named);
      };
}
  where
    all_wants : wants ≡ map (want_for diagram plan times firsts) (uses_in_all diagram (attributes_of diagram) plan times)
    all_wants = sym (append-nil wants) ∙ ends.whole
        ∙ mapped_flat (want_for diagram plan times firsts)
        (λ edge. uses_from diagram (attributes_of diagram) plan times edge
        ((attributes_of diagram).period_at edge.from)) (latency_edges diagram)
