-- An element of a block goes into the loops over blocks: what its ends offer is there in its words, stands below it, and stood when elements began.
use Rattle.std.proofs.Common.{◌≡◌, ℕ, ◌<◌, ◌≤◌, inl, inr, true, false, List, [], ◌∷◌, length, All, Contains, None, Some, ap, sym, ◌∙◌, subst, arith, refl}
use Rattle.std.proofs.lemmas.Bool.{false≢true, cases_Bool}
use Rattle.std.proofs.lemmas.Option.{none-some, slice_get_within}
use Rattle.fx_type.specs.declared.decimal.Decimal.{Decimal}
use Rattle.fx_type.specs.declared.kind.FxType.{FxType}
use Rattle.dg_model.specs.declared.diagram.Diagram.{Diagram}
use Rattle.dg_model.specs.declared.diagram.Block.{Block}
use Rattle.dg_model.specs.declared.kind.Kind.{Kind}
use Rattle.dg_model.specs.declared.kind.Kind.TheVariants.{Gain, Product, Delay, RateTransition, EnOut}
use Rattle.dg_model.specs.Attributes.{attributes_of}
use Rattle.dg_model.specs.Dimension.{IsRepeated}
use Rattle.dg_model.specs.Equation.{StoresEntry}
use Rattle.dg_model.specs.Instant.{reads_now}
use Rattle.dg_model.specs.Library.{row_of}
use Rattle.dg_model.specs.Readable.{HasPorts}
use Rattle.dg_model.specs.Solves.{IsShown, shown_ports, shown_width}
use Rattle.dg_model.specs.Wires.{period_into}
use Rattle.hw_latency.specs.Shared.{is_shared}
use Rattle.hw_net.specs.Circuit.{Circuit}
use Rattle.hw_lower.specs.Lowered.{AreArgs}
use Rattle.hw_sched.proofs.Periods.{readable_at}
use Rattle.hw_build.specs.Places.{Places}
use Rattle.hw_build.specs.declared.blocks.Setting.{Setting}
use Rattle.hw_build.specs.declared.entry.Entry.{Entry}
use Rattle.hw_build.specs.inner.DesignTimes.{timing_for, times_for}
use Rattle.hw_build.specs.inner.ElementStep.{ArePlacedInOrder}
use Rattle.hw_build.specs.inner.Entries.{HasFirst, PutsEntry, keeps_entry, operand_types}
use Rattle.hw_build.specs.inner.Facts.{LateAreWide}
use Rattle.hw_build.specs.inner.HubPlaces.{hubs_in_all, is_input_role}
use Rattle.hw_build.specs.inner.ElementLoop.{place_in, Fits, IsBegun, IsEntered, IsGoingBy, IsKnown, Stands}
use Rattle.hw_build.specs.inner.Offers.{Offer}
use Rattle.hw_build.specs.inner.Operands.{first_at}
use Rattle.hw_build.specs.inner.ResultNets.{product_at, product_net}
use Rattle.hw_build.specs.inner.UnderWay.{own_level, IsUnderWay}
use Rattle.hw_build.proofs.ElementLoops.{entered_by, StandLow}
use Rattle.hw_build.proofs.EntryLevels.{held_level, most_above, most_at, most_of}
use Rattle.hw_build.proofs.EntryReads.{early, late_is, late_low, only_one, IsLate}
use Rattle.hw_build.proofs.EntryOperands.{operands_are, operands_low, operands_there, words_are, AreEach, IsOperand}
use Rattle.hw_build.proofs.Factors.{shared_multiplies}
use Rattle.hw_build.proofs.Levels.{result_level}
use Rattle.hw_build.proofs.LoopElement.{own_fit, own_places, own_spotted}
use Rattle.hw_build.proofs.BlockOrder.{in_order}
use Rattle.hw_build.proofs.ProductNets.{untold}
use Rattle.hw_build.proofs.FirstValues.{first_stores}
use Rattle.hw_build.proofs.Widths.{late_are_wide}

-- a block that multiplies has one port, and shows there as many elements as it has
multiplied_below : (diagram : Diagram) (block : ℕ) (inputs outputs port element : ℕ) (kind : Kind)
    → (row_of kind).hardware.multiplies ≡ true → HasPorts kind inputs outputs → 1 ≤ port
    → port ≤ shown_ports kind outputs → element < shown_width diagram (attributes_of diagram) kind block port
    → element < (attributes_of diagram).width_at block 1
multiplied_below diagram block inputs outputs port element (Gain value param) is ports from to below =
    let one = ports.1 in
    let first : port ≡ 1 = omega (arith, one, from, to) in
    subst (λ (p : ℕ). element < (attributes_of diagram).width_at block p) first below
multiplied_below diagram block inputs outputs port element Product is ports from to below =
    let one = ports.1 in
    let first : port ≡ 1 = omega (arith, one, from, to) in
    subst (λ (p : ℕ). element < (attributes_of diagram).width_at block p) first below
multiplied_below diagram block inputs outputs port element _ is ports from to below = absurd (false≢true is)

module _ (setting : Setting) (known : IsKnown setting) (before : Circuit) (going : Stands setting before)
    (block : ℕ) (b : Block) (port element : ℕ)
    (shown : IsShown setting.design.checked.now.diagram
    (attributes_of setting.design.checked.now.diagram) block b port element) where
  abbrev pub drawn : Diagram
  drawn = setting.design.checked.now.diagram

  abbrev pub rank : ℕ → ℕ
  rank = place_in setting.design.checked.now.order

  abbrev pub places_now : Places
  places_now = own_places setting known.listed known.ordered going.spots

  pub fit_now : Fits setting places_now
  fit_now = own_fit setting known.listed known.ordered going.spots (λ k e there. known.set.stood.has.of_inputs k e there)

  pub going_now : (level : ℕ → ℕ) × IsGoingBy setting places_now going.going.start (length going.spots.entries) before level
  going_now = going.going.each places_now fit_now (own_spotted setting known.listed known.ordered going.spots)

  order_is : ArePlacedInOrder drawn rank
  order_is = in_order drawn setting.design.checked.now.order known.ordered.ordered

  wide_are : LateAreWide drawn
  wide_are = late_are_wide known.widths drawn known.ordered.checked

  ports_are : HasPorts b.kind b.inputs b.outputs
  ports_are = (readable_at drawn known.ordered.checked.wired block b shown.block_is).ports

  showing : 1 ≤ shown_ports b.kind b.outputs
  showing = let from = shown.port_from in let to = shown.port_to in omega (arith, from, to)

  inside : block < length drawn.blocks
  inside = slice_get_within drawn.blocks block b shown.block_is

  -- ---- what a block multiplies

  pub product_below : (row_of b.kind).hardware.multiplies ≡ true → element < (attributes_of drawn).width_at block 1
  product_below is = multiplied_below drawn block b.inputs b.outputs port element b.kind is ports_are shown.port_from shown.port_to shown.element_below

  pub shared_is : (product : ℕ) → product_at setting.products.now block element ≡ Some product → is_shared drawn (attributes_of drawn) setting.design.plan.now block ≡ true
  shared_is product told = elim (cases_Bool (is_shared drawn (attributes_of drawn) setting.design.plan.now block)) [
    | inl shared ↦ shared
    | inr other ↦ absurd (none-some product (sym (known.set.products_are.other block element inside other) ∙ told))
  ]

  pub unshared_is : product_at setting.products.now block element ≡ None → is_shared drawn (attributes_of drawn) setting.design.plan.now block ≡ false
  unshared_is none = elim (cases_Bool (is_shared drawn (attributes_of drawn) setting.design.plan.now block)) [
    | inl shared ↦ absurd (none-some (product_net setting.products.now block element)
        (sym none ∙ known.set.products_are.shared block element inside shared
        (product_below (shared_multiplies drawn setting.design.plan.now block b shown.block_is shared))))
    | inr other ↦ other
  ]

  -- ---- what registers have first

  below_one : (kind : Kind) → b.kind ≡ kind → shown_ports kind b.outputs ≡ 1
      → ((p : ℕ) → shown_width drawn (attributes_of drawn) kind block p ≡ (attributes_of drawn).width_at block p)
      → element < (attributes_of drawn).width_at block 1
  below_one kind is one plain =
      let from = shown.port_from in
      let to : port ≤ shown_ports kind b.outputs = subst (λ (k : Kind). port ≤ shown_ports k b.outputs) is shown.port_to in
      let first : port ≡ 1 = omega (arith, one, from, to) in
      let below : element < shown_width drawn (attributes_of drawn) kind block port = subst (λ (k : Kind). element < shown_width drawn (attributes_of drawn) k block port) is shown.element_below in
      subst (λ (p : ℕ). element < (attributes_of drawn).width_at block p) first (subst (λ (n : ℕ). element < n) (plain port) below)

  first_by : (kind : Kind) (list : List Decimal) → b.kind ≡ kind → (row_of kind).signal.lists ≡ list ∷ []
      → shown_ports kind b.outputs ≡ 1 → ((p : ℕ)
      → shown_width drawn (attributes_of drawn) kind block p ≡ (attributes_of drawn).width_at block p)
      → StoresEntry list element ((attributes_of drawn).type_at block 1) (first_at drawn block element)
  first_by kind list is lists one plain =
      let own : (row_of b.kind).signal.lists ≡ list ∷ [] = ap (λ (k : Kind). (row_of k).signal.lists) is ∙ lists in
      first_stores known.storing drawn block b element list shown.block_is (below_one kind is one plain) own
      (subst (λ (all : List (List Decimal)). All
      (λ (l : List Decimal). IsRepeated ((attributes_of drawn).width_at block 1) (length l)) all) own
      (known.fit drawn setting.design.checked.now.order block b known.ordered shown.block_is).1 0 []
      (omega arith))
      (known.valid drawn setting.design.checked.now.order block b known.ordered shown.block_is).0

  first_is : (kind : Kind) → b.kind ≡ kind → HasFirst drawn block element kind (first_at drawn block element)
  first_is (Delay delay initial reset) is = first_by (Delay delay initial reset) initial is refl (subst (λ (k : Kind). HasPorts k b.inputs b.outputs) is ports_are).1 (λ p. refl)
  first_is (RateTransition period initial) is = first_by (RateTransition period initial) initial is refl (subst (λ (k : Kind). HasPorts k b.inputs b.outputs) is ports_are).1 (λ p. refl)
  first_is (EnOut reset initial) is = first_by (EnOut reset initial) initial is refl (subst (λ (k : Kind). HasPorts k b.inputs b.outputs) is ports_are).1 (λ p. refl)
  first_is _ is = tt

  -- ---- what its ends offer

  module _ (operands : List ℕ) (other : is_input_role (row_of b.kind).place.role ≡ false) (offer : Offer setting block b port element operands) where
    module _ (places : Places) (fits : Fits setting places) (closed : ℕ) (now : Circuit) (level : ℕ → ℕ)
        (way : IsUnderWay drawn (timing_for setting.design) places rank closed
        (hubs_in_all drawn) now level 0) where
      abbrev IsOne : FxType → ℕ → Type 0
      IsOne = IsOperand drawn places rank (hubs_in_all drawn) now level known.ordered.checked wide_are way.facts.spread way.operands block b shown.block_is showing

      each_is : AreEach IsOne (operand_types drawn (attributes_of drawn) block b port b.kind) operands
      each_is =
          let fit = known.fit drawn setting.design.checked.now.order block b known.ordered shown.block_is in
          operands_are drawn places rank (hubs_in_all drawn) now level known.ordered.checked wide_are
          way.facts.spread way.operands block b shown.block_is showing port element shown.port_from
          shown.port_to shown.element_below ports_are b.kind operands refl other fit.0 fit.2
          (offer places fits)

      there : (read : ℕ) → Contains operands read → read < length now.nets
      there = operands_there drawn places rank
          (hubs_in_all drawn) now level known.ordered.checked wide_are way.facts.spread way.operands block b
          shown.block_is showing
          (operand_types drawn (attributes_of drawn) block b port b.kind) operands each_is

      low_now : reads_now drawn (attributes_of drawn) block b.kind ≡ true → (read : ℕ) → Contains operands read → (read < length now.nets) × (level read ≤ own_level (rank block))
      low_now now_is =
          operands_low drawn places rank (hubs_in_all drawn) now level known.ordered.checked wide_are
          way.facts.spread way.operands block b shown.block_is showing
          (operand_types drawn (attributes_of drawn) block b port b.kind) operands each_is
          (early known.lines known.controls drawn rank order_is block b shown.block_is inside now_is)

    -- in the words that the element asks for
    pub args_are : AreArgs before (operand_types drawn (attributes_of drawn) block b port b.kind) operands
    args_are =
        let g = going_now in
        words_are before (IsOne places_now fit_now (length going.spots.entries) before g.0 g.1.way)
        (operand_types drawn (attributes_of drawn) block b port b.kind) operands (λ type number is. is.word)
        (each_is places_now fit_now (length going.spots.entries) before g.0 g.1.way)

    stood : (start : Circuit) → IsBegun setting start → length start.nets ≤ length before.nets → (read : ℕ) → Contains operands read → read < length start.nets
    stood start begun long = let is = begun.each places_now fit_now in there places_now fit_now _ start is.level is.way

    module _ (after : Circuit) (entry : Entry) (puts : PutsEntry drawn (timing_for setting.design) before after block b port element operands entry) where
      stand_low : (places : Places) (start : Circuit) (closed : ℕ) (level : ℕ → ℕ) → Fits setting places
          → IsGoingBy setting places start closed before level
          → StandLow setting before after level block operands entry
      stand_low places start closed level fits is = elim (cases_Bool (reads_now drawn (attributes_of drawn) block b.kind)) [
        | inl now_is ↦
            let low = low_now places fits closed before level is.way now_is in
            record { own = own_level (rank block); some = omega arith; named = low; answer = result_level before after level (own_level (rank block)) entry.net operands low puts.stands }
        | inr before_is ↦ elim (cases_Bool (keeps_entry b.enable (period_into drawn (attributes_of drawn) block 1) b.kind)) [
          | inl keeps ↦
              let zero = held_level before after level (most_of level operands) entry.net (puts.held keeps) in
              record {
                own = most_of level operands;
                some = most_above level operands;
                named = λ read among. (
                  there places fits closed before level is.way read among,
                  subst (λ (r : ℕ). level r ≤ most_of level operands) among.2
                      (most_at level operands among.0 read among.1),
                );
                answer = omega (arith, zero);
              }
          | inr keeps ↦
              let late : IsLate drawn places block b element operands = late_is drawn places block b port element operands ports_are b.kind refl before_is keeps (offer places fits) in
              let zero : level (places.offered block 1 element) ≡ 0 =
              late_low drawn places level known.ordered.checked wide_are is.way.facts.spread block b shown.block_is
              (λ p e edge source lag from to drives below source_is lag_is. is.late block b p e edge source lag shown.block_is showing from to drives below source_is lag_is) element operands late in
              let low : (read : ℕ) → Contains operands read → (read < length before.nets) × (level read ≤ own_level (rank block)) =
              λ read among.
              let same : places.offered block 1 element ≡ read = only_one (places.offered block 1 element) read (subst (λ (xs : List ℕ). Contains xs read) late.is among) in
              let e = ap level same in
              (there places fits closed before level is.way read among, omega (arith, e, zero)) in
              record { own = own_level (rank block); some = omega arith; named = low; answer = result_level before after level (own_level (rank block)) entry.net operands low puts.stands }
        ]
      ]

      -- it goes into the loops
      pub one_entered : product_at setting.products.now block element ≡ None → IsEntered setting before after block b port element entry
      one_entered none =
          let unshared = unshared_is none in
          entered_by setting before after block b port element operands entry puts shown.block_is unshared offer
          (λ places fits. subst (HasFirst drawn block element b.kind) (sym (fits.lines.first block element)) (first_is b.kind refl))
          (λ is. untold drawn setting.design.plan.now (times_for setting.design) block element unshared) stood stand_low
