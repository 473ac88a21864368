-- One more element goes in, for all places that fit.
use Rattle.std.proofs.Common.{◌≡◌, ℕ, zero, suc, ◌+◌, ◌<◌, inl, inr, Bool, true, false, List, [], ◌∷◌, length, slice_index_or, Some, ap, sym, ◌∙◌, subst, refl, length-append, arith}
use Rattle.std.specs.Prelude.{slice_get, not, ◌==◌, ◌&&◌, ◌^◌, Option, None, IsSome}
use Rattle.std.proofs.lemmas.Bool.{false≢true, and_parts, eqb-true, eq-eqb, and_from, cases_Bool}
use Rattle.std.proofs.lemmas.Option.{none-some, same_Some, slice_get_within}
use Rattle.dg_model.specs.declared.diagram.Diagram.{Diagram}
use Rattle.dg_model.specs.declared.diagram.Block.{Block}
use Rattle.dg_model.specs.declared.kind.Kind.{Kind}
use Rattle.dg_model.specs.declared.kind.Kind.TheVariants.{Delay, EnOut, Gain, Product}
use Rattle.dg_model.specs.LatencyEdges.{asks_ever}
use Rattle.dg_model.specs.Library.{row_of}
use Rattle.dg_model.specs.Readable.{HasPorts}
use Rattle.dg_model.specs.Attributes.{attributes_of}
use Rattle.dg_model.specs.Laws.{InputsAreListed}
use Rattle.dg_model.specs.PlanOf.{stages_at}
use Rattle.dg_model.specs.RootElements.{RootElement, root_inputs}
use Rattle.dg_model.specs.Solves.{IsShown, shown_ports}
use Rattle.dg_tables.specs.Laws.{IsOrdered, TypesAreValid}
use Rattle.hw_net.specs.Circuit.{Circuit}
use Rattle.hw_net.specs.Growing.{IsResize}
use Rattle.hw_sched.specs.Laws.{PeriodsAreAbove}
use Rattle.hw_sched.proofs.Periods.{readable_at}
use Rattle.hw_build.specs.Places.{Places}
use Rattle.hw_build.specs.declared.blocks.Setting.{Setting}
use Rattle.hw_build.specs.declared.entry.Entry.{Entry}
use Rattle.hw_build.specs.inner.DesignTimes.{timing_for, times_for}
use Rattle.hw_build.specs.inner.Entries.{IsEntryAt}
use Rattle.hw_build.specs.inner.HubPlaces.{hub_of, own_hubs, hubs_in_all, hub_at, is_input_role}
use Rattle.hw_build.specs.inner.MarkNames.{AreMarked}
use Rattle.hw_build.specs.inner.ElementLoop.{place_in, places_of, IsSet, Fits, IsGoingBy, Reaches, IsEntered}
use Rattle.hw_build.specs.inner.Operands.{first_not}
use Rattle.hw_build.specs.inner.ResultNets.{product_net}
use Rattle.hw_build.specs.inner.Spots.{Spots, with_spot, AreEven, AreSpotted, IsClosedBy}
use Rattle.hw_build.specs.inner.Tally.{AreTallied, product_labels}
use Rattle.hw_build.proofs.Apart.{one_hub}
use Rattle.hw_build.proofs.HubsOnly.{before_up, place_other}
use Rattle.hw_build.proofs.ElementHubs.{going_closed}
use Rattle.hw_build.proofs.Marks.{marked_next}
use Rattle.hw_build.proofs.NextCounts.{pipelining_shows, tallied_next}
use Rattle.hw_build.proofs.GoesOn.{going_same}
use Rattle.hw_build.proofs.Stages.{resize_kept, with_labels}
use Rattle.hw_build.proofs.HubSteps.{front_read}
use Rattle.hw_build.proofs.Tally.{at_last}
use Rattle.fx_type.proofs.Ranges.{type-word}

-- the first place at which a test fails
pub first_not_is : {A : Type 0} (test : A → Bool) (xs : List A) (k : ℕ) (x : A) → slice_get xs k ≡ Some x
    → test x ≡ false → ((j : ℕ) (y : A) → j < k → slice_get xs j ≡ Some y → test y ≡ true) → first_not test xs ≡ k
first_not_is test [] k x at fails before = absurd (none-some x at)
first_not_is test (y ∷ xs) zero x at fails before = let e : test y ≡ false = ap test (same_Some y x at) ∙ fails in rw e refl
first_not_is test (y ∷ xs) (suc k) x at fails before =
    let e : test y ≡ true = before 0 y (omega arith) refl in
    let rest = first_not_is test xs k x at fails (λ j z below there. before (suc j) z (omega (arith, below)) there) in
    rw e (ap suc rest)

-- ---- places so far

module _ (diagram : Diagram) (firsts : List (List ℕ)) (spots : Spots) (entry state stage : ℕ) (even : AreEven spots)
    (places : Places) (spotted : AreSpotted diagram firsts (with_spot spots entry state stage) places) where
  -- of more elements are those of fewer
  pub spotted_before : AreSpotted diagram firsts spots places
  spotted_before = record {
    entry = λ block b port element shown below.
        let sum = length-append spots.entries (entry ∷ []) in
        spotted.entry block b port element shown (omega (arith, sum, below)) ∙ front_read spots.entries entry (hub_at firsts block port element) below;
    stage = λ block b port element k shown below.
        let sum = length-append spots.stages (stage ∷ []) in
        spotted.stage block b port element k shown (omega (arith, sum, below)) ∙ ap (λ (n : ℕ). n + k) (front_read spots.stages stage (hub_at firsts block port element) below);
    state = λ block b port element k shown asks below.
        let sum = length-append spots.states (state ∷ []) in
        spotted.state block b port element k shown asks (omega (arith, sum, below)) ∙ ap (λ (n : ℕ). n + k) (front_read spots.states state (hub_at firsts block port element) below);
    begins = spotted.begins;
  }

  module _ (block : ℕ) (b : Block) (port element : ℕ) (shown : IsShown diagram (attributes_of diagram) block b port element) (here : hub_at firsts block port element ≡ length spots.entries) where
    pub last_entry : places.entry block port element ≡ entry
    last_entry = let sum = length-append spots.entries (entry ∷ []) in
        spotted.entry block b port element shown (omega (arith, sum, here))
        ∙ at_last spots.entries entry (hub_at firsts block port element) here

    pub last_stage : (k : ℕ) → places.stage block port element k ≡ stage + k
    last_stage k =
        let sum = length-append spots.stages (stage ∷ []) in
        let same = even.stages in
        spotted.stage block b port element k shown (omega (arith, sum, here, same)) ∙ ap (λ (n : ℕ). n + k) (at_last spots.stages stage (hub_at firsts block port element) (omega (arith, here, same)))

    pub last_state : asks_ever (row_of b.kind).timing.asks ≡ true → (k : ℕ) → places.state block element (suc k) ≡ state + k
    last_state asks k =
        let sum = length-append spots.states (state ∷ []) in
        let same = even.states in
        spotted.state block b port element k shown asks (omega (arith, sum, here, same))
        ∙ ap (λ (n : ℕ). n + k)
        (at_last spots.states state (hub_at firsts block port element) (omega (arith, here, same)))

pub even_next : (spots : Spots) (entry state stage : ℕ) → AreEven spots → AreEven (with_spot spots entry state stage)
even_next spots entry state stage even =
    let one = length-append spots.entries (entry ∷ []) in
    let two = length-append spots.states (state ∷ []) in
    let three = length-append spots.stages (stage ∷ []) in
    let states = even.states in
    let stages = even.stages in
    record { states = omega (arith, one, two, states); stages = omega (arith, one, three, stages) }

-- a block with a state has one port
state_port : (kind : Kind) (inputs outputs : ℕ) → HasPorts kind inputs outputs → asks_ever (row_of kind).timing.asks ≡ true → shown_ports kind outputs ≡ 1
state_port (Delay delay initial reset) inputs outputs ports asks = ports.1
state_port (EnOut reset initial) inputs outputs ports asks = ports.1
state_port _ inputs outputs ports asks = absurd (false≢true asks)

-- ---- places that fit

module _ (setting : Setting) (listed : InputsAreListed) (ordered : IsOrdered setting.design.checked.now.diagram setting.design.checked.now.order) (spots : Spots) where
  abbrev diagram : Diagram
  diagram = setting.design.checked.now.diagram

  abbrev pub own_places : Places
  own_places = places_of diagram setting.firsts.now setting.operands.now (product_net setting.products.now) spots

  not_true : (t : Bool) → t ≡ false → not t ≡ true
  not_true false e = refl
  not_true true e = absurd (false≢true (sym e))

  pub own_fit : (stood : (k : ℕ) (e : RootElement) → slice_get (root_inputs diagram (attributes_of diagram)) k ≡ Some e → hub_at setting.firsts.now e.block 1 e.element ≡ k) → Fits setting own_places
  own_fit stood = record {
    lines = record {
      input = λ k e at.
          first_not_is (λ (x : RootElement). not ((x.number == e.number) && (x.element == e.element))) (root_inputs diagram (attributes_of diagram)) k e at
          (ap not (and_from (e.number == e.number) (e.element == e.element) (eq-eqb e.number e.number refl) (eq-eqb e.element e.element refl)))
          (λ j x below there. elim (cases_Bool ((x.number == e.number) && (x.element == e.element))) [
            | inl same ↦
                let parts = and_parts (x.number == e.number) (x.element == e.element) same in
                let one = (listed diagram (attributes_of diagram) ordered.checked.wired).different j k x e there at (eqb-true x.number e.number parts.0) (eqb-true x.element e.element parts.1) in
                absurd (omega (arith, one, below))
            | inr other ↦ not_true ((x.number == e.number) && (x.element == e.element)) other
          ]);
      after = λ block b port element shown. refl;
      offered = λ block port element. refl;
      enable = λ block. refl;
      first = λ block element. refl;
    };
    product_is = λ block element. refl;
  }

  pub own_spotted : AreSpotted diagram setting.firsts.now spots own_places
  own_spotted = record {
    entry = λ block b port element shown below. refl;
    stage = λ block b port element k shown below. refl;
    state = λ block b port element k shown asks below.
        let one = state_port b.kind b.inputs b.outputs (readable_at diagram ordered.checked.wired block b shown.block_is).ports asks in
        let from = shown.port_from in
        let to = shown.port_to in
        let first : 1 ≡ port = omega (arith, one, from, to) in
        ap (λ (p : ℕ). slice_index_or spots.states (hub_at setting.firsts.now block p element) 0 + k) first;
    begins = λ block element. refl;
  }

-- ---- the step

-- what has a pipeline or multiplies has one port
single_multiplying : (kind : Kind) (inputs outputs : ℕ) → HasPorts kind inputs outputs → (row_of kind).hardware.multiplies ≡ true → shown_ports kind outputs ≡ 1
single_multiplying (Gain value param) inputs outputs ports is = ports.1
single_multiplying Product inputs outputs ports is = ports.1
single_multiplying _ inputs outputs ports is = absurd (false≢true is)

module _ (setting : Setting) (listed : InputsAreListed) (valid : TypesAreValid) (above : PeriodsAreAbove)
    (ordered : IsOrdered setting.design.checked.now.diagram setting.design.checked.now.order)
    (set : IsSet setting) where
  abbrev drawn : Diagram
  drawn = setting.design.checked.now.diagram

  -- the net that readers name has a number of 32 bits
  pub hub_fits : (block : ℕ) (b : Block) (port element : ℕ)
      → IsShown drawn (attributes_of drawn) block b port element → is_input_role (row_of b.kind).place.role ≡ false
      → hub_at setting.firsts.now block port element < 2 ^ 32
  hub_fits block b port element shown other =
      let place = place_other drawn set.stood.earlier set.stood.later setting.firsts.now set.stood.has block b port element shown other in
      (set.stood.has.fresh block b (hub_at setting.firsts.now block port element) shown.block_is place.0 place.1).1

  -- before its pipeline is there the net that readers name waits
  pub element_waits : (block : ℕ) (b : Block) (port element : ℕ)
      → IsShown drawn (attributes_of drawn) block b port element
      → (before middle : Circuit) (entry : Entry)
      (reaches : Reaches setting before (hub_at setting.firsts.now block port element))
      → IsEntered setting before middle block b port element entry → IsResize middle.nets (length reaches.spots.entries)
  element_waits block b port element shown before middle entry reaches entered =
      let spots : Spots = reaches.spots in
      let more : Spots = with_spot spots entry.net entry.state 0 in
      let places : Places = own_places setting listed ordered more in
      let fits = own_fit setting listed ordered more (λ k e there. set.stood.has.of_inputs k e there) in
      let spotted = own_spotted setting listed ordered more in
      let even = reaches.going.even in
      let at = reaches.at in
      let here = sym at in
      let going = reaches.going.each places fits (spotted_before drawn setting.firsts.now spots entry.net entry.state 0 even places spotted) in
      let named : IsEntryAt places block b port element entry = record {
        net = last_entry drawn setting.firsts.now spots entry.net entry.state 0 even places spotted block b port element shown here;
        begins = λ asks. spotted.begins block element;
        state = λ asks. last_state drawn setting.firsts.now spots entry.net entry.state 0 even places spotted block b port element shown here asks;
      } in
      let is = entered.each places reaches.going.start (length spots.entries) going.0 fits named (reaches.going.begun.each places fits).products going.1 in
      let waits = is.going.waits block b port element shown (omega (arith, at)) in
      record { net = hub_of ((attributes_of drawn).type_at block 1); args = []; is = ap (slice_get middle.nets) at ∙ waits.at; resizes = refl }

  module _ (block : ℕ) (b : Block) (port element : ℕ)
      (shown : IsShown drawn (attributes_of drawn) block b port element)
      (other : is_input_role (row_of b.kind).place.role ≡ false) (before middle after final : Circuit)
      (entry : Entry)
      (reaches : Reaches setting before (hub_at setting.firsts.now block port element))
      (entered : IsEntered setting before middle block b port element entry)
      (put : IsClosedBy drawn (timing_for setting.design) middle after
      (length reaches.spots.entries) block element entry.net)
      (names : final ≡ with_labels after (product_labels block element entry.multiply)) (small_block : block < 2 ^ 64) (small_element : element < 2 ^ 64) where
    abbrev spots : Spots
    spots = reaches.spots

    here : hub_at setting.firsts.now block port element ≡ length spots.entries
    here = sym reaches.at

    high : length spots.entries < hubs_in_all drawn
    high =
        let place = place_other drawn set.stood.earlier set.stood.later setting.firsts.now set.stood.has block b port element shown other in
        let below = place.1 in
        let up = before_up (own_hubs drawn) (suc block) (length drawn.blocks) (slice_get_within drawn.blocks block b shown.block_is) in
        let at = here in
        omega (arith, below, up, at)

    inside : length spots.entries < length reaches.going.start.nets
    inside =
        let fits = own_fit setting listed ordered spots (λ k e there. set.stood.has.of_inputs k e there) in
        let small = (reaches.going.begun.each (own_places setting listed ordered spots) fits).way.hubs_are.there in
        let below = high in
        omega (arith, small, below)

    next_tally : AreTallied drawn setting.design.plan.now (timing_for setting.design) setting.firsts.now reaches.going.start final (with_spot spots entry.net entry.state put.piped.begin)
    next_tally =
        tallied_next setting listed valid above ordered set block b port element shown other before middle
        put.middle after reaches.going.start spots entry put.piped reaches.going.even here reaches.going.begun
        reaches.going.tally entered
        (type-word ((attributes_of drawn).type_at block 1) (valid drawn setting.design.checked.now.order block b ordered shown.block_is).0) inside put.put
        (resize_kept drawn (timing_for setting.design) middle put.middle block element entry.net (length spots.entries) put.piped (λ p is. above drawn block p ordered.checked is) put.put
        (element_waits block b port element shown before middle entry reaches entered))
        put.connected final names small_block small_element

    next_marks : AreMarked drawn setting.design.plan.now (times_for setting.design) setting.firsts.now reaches.going.start final (suc (length spots.entries))
    next_marks =
        let more = reaches.going.tally.more in
        let low = inside in
        let within = slice_get_within drawn.blocks block b shown.block_is in
        let few = ordered.checked.wired.size in
        let ports = (readable_at drawn ordered.checked.wired block b shown.block_is).ports in
        marked_next drawn setting.design.plan.now
        (times_for setting.design) setting.firsts.now reaches.going.start before middle put.middle after final
        (length spots.entries) block element entry.net put.piped.end put.piped entry.multiply
        reaches.going.marks entered.appends.extends entered.own_frames
        (λ m e. let own = entered.own_number m e in (own.1, own.2, first_hub (single_multiplying b.kind b.inputs b.outputs ports own.0))) put.put put.connected names (omega (arith, more, low)) within
        (λ some stage. first_hub (pipelining_shows b.kind b.inputs b.outputs
        (set.designed.scheduled.planned.allowed.each block b shown.block_is some).kind ports))
        (λ some. some_period ((attributes_of drawn).period_at block)
        (set.designed.scheduled.planned.allowed.each block b shown.block_is some).period)
        (omega (arith, within, few)) element_fits
        (few_stages block within)
      where
        first_hub : shown_ports b.kind b.outputs ≡ 1 → hub_at setting.firsts.now block 1 element ≡ length spots.entries
        first_hub one =
            let from = shown.port_from in
            let to = shown.port_to in
            let same : 1 ≡ port = omega (arith, from, to, one) in
            ap (λ (p : ℕ). hub_at setting.firsts.now block p element) same ∙ here

        element_fits : element < 2 ^ 64
        element_fits =
            let small = hub_fits block b port element shown other in
            let is = set.stood.has.of_others block b port element shown other in
            omega (arith, small, is)

        few_stages : (place : ℕ) → place < length drawn.blocks → stages_at setting.design.plan.now place < 2 ^ 64
        few_stages place below =
            let planned = set.designed.scheduled.planned in
            let size = planned.size in
            let few = planned.stages place 0 (omega (arith, size, below)) in
            omega (arith, few)

        some_period : (o : Option ℕ) → IsSome o → (p : ℕ) × (o ≡ Some p)
        some_period (Some p) is = (p, refl)
        some_period None is = absurd (false≢true is)

    next_each : (places : Places) → Fits setting places
        → AreSpotted drawn setting.firsts.now (with_spot spots entry.net entry.state put.piped.begin) places
        → (level : ℕ → ℕ)
        × IsGoingBy setting places reaches.going.start (suc (length spots.entries)) final level
    next_each places fits spotted =
        let even = reaches.going.even in
        let going = reaches.going.each places fits (spotted_before drawn setting.firsts.now spots entry.net entry.state put.piped.begin even places spotted) in
        let entry_is = last_entry drawn setting.firsts.now spots entry.net entry.state put.piped.begin even places spotted block b port element shown here in
        let at : IsEntryAt places block b port element entry = record {
          net = entry_is;
          begins = λ asks. spotted.begins block element;
          state = λ asks. last_state drawn setting.firsts.now spots entry.net entry.state put.piped.begin even places spotted block b port element shown here asks;
        } in
        let is = entered.each places reaches.going.start (length spots.entries) going.0 fits at (reaches.going.begun.each places fits).products going.1 in
        let closes =
        going_closed drawn (timing_for setting.design) places (place_in setting.design.checked.now.order)
        (length (root_inputs drawn (attributes_of drawn))) reaches.going.start (length spots.entries)
        (hubs_in_all drawn) middle put.middle after is.next block b port element entry.net put.piped
        is.going shown
        (fits.lines.after block b port element shown ∙ here) high
        (type-word ((attributes_of drawn).type_at block 1)
        (valid drawn setting.design.checked.now.order block b ordered shown.block_is).0) entered.word is.low
        is.made entry_is
        (last_stage drawn setting.firsts.now spots entry.net entry.state put.piped.begin even places spotted block b port element shown here)
        (λ also q outer member shows same.
        one_hub drawn setting.design.checked.now.order set.stood.earlier set.stood.later setting.firsts.now
        set.stood.has listed valid ordered block b port element also q outer member shown shows other
        (sym (fits.lines.after also q outer member shows) ∙ same ∙ sym here))
        put.connected (λ p period. above drawn block p ordered.checked period) put.put
        in (
          closes.0,
          going_same drawn (timing_for setting.design) places (place_in setting.design.checked.now.order)
              (hubs_in_all drawn) (length (root_inputs drawn (attributes_of drawn))) reaches.going.start
              (suc (length spots.entries)) after final closes.0
              (ap (λ (c : Circuit). c.nets) names) (ap (λ (c : Circuit). c.cycles) names) (ap (λ (c : Circuit). c.inputs) names) closes.1,
        )

    pub element_reached : Reaches setting final (suc (hub_at setting.firsts.now block port element))
    element_reached =
        let sum : length (with_spot spots entry.net entry.state put.piped.begin).entries ≡ suc (length spots.entries) = let e = length-append spots.entries (entry.net ∷ []) in omega (arith, e) in
        let at = here in
        let even = even_next spots entry.net entry.state put.piped.begin reaches.going.even in
        let fits = own_fit setting listed ordered (with_spot spots entry.net entry.state put.piped.begin) (λ k e there. set.stood.has.of_inputs k e there) in
        let spotted = own_spotted setting listed ordered (with_spot spots entry.net entry.state put.piped.begin) in
        let going = next_each (own_places setting listed ordered (with_spot spots entry.net entry.state put.piped.begin)) fits spotted in
        record {
          spots = with_spot spots entry.net entry.state put.piped.begin;
          going = record {
            even = even;
            cycles = going.1.way.facts.cycles;
            start = reaches.going.start;
            begun = reaches.going.begun;
            tally = next_tally;
            marks = subst (AreMarked drawn setting.design.plan.now (times_for setting.design) setting.firsts.now reaches.going.start final) (sym sum) next_marks;
            each = λ places fit is. let h = next_each places fit is in (h.0, subst (λ (n : ℕ). IsGoingBy setting places reaches.going.start n final h.0) (sym sum) h.1);
          };
          at = omega (arith, sum, at);
        }
