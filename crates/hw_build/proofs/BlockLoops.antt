-- The loops over blocks begin with the nets of root inputs, which are elements themselves, and at their end all elements stand.
use Rattle.std.proofs.Common.{List, ◌≡◌, ℕ, zero, suc, ◌+◌, ◌<◌, ◌≤◌, inl, inr, Bool, true, false, [], ◌∷◌, length, slice_index_or, IsTrue, ap, sym, ◌∙◌, subst, refl, length-append, arith}
use Rattle.std.specs.Prelude.{slice_get, nat_lt, not, ◌&&◌, if◌then◌else◌}
use Rattle.std.proofs.lemmas.Bool.{cond-true, lt-ltb, false≢true, cases_lt, cases_Bool}
use Rattle.std.proofs.lemmas.Option.{none-some, slice_get_within}
use Rattle.dg_model.specs.declared.diagram.Diagram.{Diagram}
use Rattle.dg_model.specs.declared.diagram.Block.{Block}
use Rattle.dg_model.specs.declared.kind.Kind.{Kind}
use Rattle.dg_model.specs.declared.kind.Kind.TheVariants.{Inport}
use Rattle.dg_model.specs.Library.{row_of}
use Rattle.dg_model.specs.Attributes.{attributes_of}
use Rattle.dg_model.specs.Laws.{InputsAreListed}
use Rattle.dg_model.specs.RootElements.{RootElement, root_element, root_inputs}
use Rattle.dg_model.specs.Solves.{IsShown, shown_width}
use Rattle.dg_model.specs.Wired.{root_input}
use Rattle.dg_tables.specs.Laws.{IsOrdered, TypesAreValid}
use Rattle.hw_latency.specs.Shared.{multiplies, multiplies_if, is_shared}
use Rattle.hw_net.specs.declared.netlist.NetLabel.{NetLabel}
use Rattle.hw_net.specs.Circuit.{Circuit}
use Rattle.hw_sched.proofs.Periods.{readable_at}
use Rattle.hw_shows.specs.Waves.{IsMadeAs}
use Rattle.hw_build.specs.Places.{Places, waves_of}
use Rattle.hw_build.specs.declared.blocks.Setting.{Setting}
use Rattle.hw_build.specs.inner.DesignTimes.{timing_for, times_for}
use Rattle.hw_build.specs.inner.Facts.{IsElementMade, IsElementPiped}
use Rattle.hw_build.specs.inner.Growth.{InLater}
use Rattle.hw_build.specs.inner.HubPlaces.{before, owner_of, hub_start, hubs_in_all, hub_at, is_input_role, start_level}
use Rattle.hw_build.specs.inner.ElementLoop.{place_in, IsSet, Fits, IsGoingBy, Reaches, IsBegun, HasElements}
use Rattle.hw_build.specs.inner.Spots.{Spots, with_spot, AreEven, AreSpotted}
use Rattle.hw_build.specs.inner.Tally.{AreLabelled, AreTallied, hub_registers, hub_products, products_by, registers_by}
use Rattle.hw_build.proofs.HubsOnly.{level_other, place_input, place_other}
use Rattle.hw_build.proofs.ElementHubs.{unpiped_by}
use Rattle.hw_build.proofs.Growth.{goes_same}
use Rattle.hw_build.proofs.Marks.{marked_none}
use Rattle.hw_build.proofs.LoopElement.{even_next, own_places, own_fit, own_spotted}
use Rattle.hw_build.proofs.ProductNets.{untold}
use Rattle.hw_build.proofs.HubSteps.{front_read}
use Rattle.hw_build.proofs.Tally.{at_last}
use Rattle.hw_build.proofs.HubStart.{one_port}

-- a root input has no pipeline
unpiped_input : (kind : Kind) → is_input_role (row_of kind).place.role ≡ true → IsTrue (row_of kind).hardware.pipelines → ⊥
unpiped_input (Inport number width) input may = absurd (false≢true may)
unpiped_input _ input may = absurd (false≢true input)

-- and no multiplication
unmultiplied_input : (kind : Kind) → is_input_role (row_of kind).place.role ≡ true → (row_of kind).hardware.multiplies ≡ false
unmultiplied_input (Inport number width) input = refl
unmultiplied_input _ input = absurd (false≢true input)

-- it shows its input
made_input : (P : (kind : Kind) → Type 0) (kind : Kind) → is_input_role (row_of kind).place.role ≡ true → ((number width : ℕ) → kind ≡ Inport number width → P (Inport number width)) → P kind
made_input P (Inport number width) input gives = gives number width refl
made_input P _ input gives = absurd (false≢true input)

-- the first places are those of so many root inputs
pub record AreInputSpots (spots : Spots) (inputs : ℕ) : Type 0 where
  pub even : AreEven spots
  pub size : length spots.entries ≡ inputs
  pub entries : (k : ℕ) → k < inputs → slice_index_or spots.entries k 0 ≡ k
  pub stages : (k : ℕ) → k < inputs → slice_index_or spots.stages k 0 ≡ k

module _ (setting : Setting) (listed : InputsAreListed) (valid : TypesAreValid)
    (ordered : IsOrdered setting.design.checked.now.diagram setting.design.checked.now.order) (set : IsSet setting)
    (now : Circuit) (begun : IsBegun setting now) (spots : Spots)
    (inputs : AreInputSpots spots (length (root_inputs setting.design.checked.now.diagram (attributes_of setting.design.checked.now.diagram)))) where
  abbrev drawn : Diagram
  drawn = setting.design.checked.now.diagram

  abbrev roots : ℕ
  roots = length (root_inputs drawn (attributes_of drawn))

  abbrev hubs : ℕ
  hubs = hubs_in_all drawn

  -- what has its argument at first is a root input
  role_input : (block : ℕ) (b : Block) (port element : ℕ) → IsShown drawn (attributes_of drawn) block b port element
      → hub_at setting.firsts.now block port element < roots → is_input_role (row_of b.kind).place.role ≡ true
  role_input block b port element shown early = elim (cases_Bool (is_input_role (row_of b.kind).place.role)) [
    | inl input ↦ input
    | inr other ↦ let low = (place_other drawn set.stood.earlier set.stood.later setting.firsts.now set.stood.has block b port element shown other).0 in absurd (omega (arith, low, early))
  ]

  role_other : (block : ℕ) (b : Block) (port element : ℕ) → IsShown drawn (attributes_of drawn) block b port element
      → roots ≤ hub_at setting.firsts.now block port element → is_input_role (row_of b.kind).place.role ≡ false
  role_other block b port element shown past = elim (cases_Bool (is_input_role (row_of b.kind).place.role)) [
    | inl input ↦
        let place = place_input drawn setting.design.checked.now.order set.stood.earlier set.stood.later setting.firsts.now set.stood.has listed valid ordered block b port element shown input in
        let k : ℕ = place.0 in
        let inside = slice_get_within (root_inputs drawn (attributes_of drawn)) k place.1 place.2 in
        let at = place.3 in
        absurd (omega (arith, inside, at, past))
    | inr other ↦ other
  ]

  module _ (places : Places) (fits : Fits setting places) (spotted : AreSpotted drawn setting.firsts.now spots places) where
    module _ (block : ℕ) (b : Block) (port element : ℕ) (shown : IsShown drawn (attributes_of drawn) block b port element) (early : places.after block port element < roots) where
      named : places.after block port element ≡ hub_at setting.firsts.now block port element
      named = fits.lines.after block b port element shown

      low : hub_at setting.firsts.now block port element < roots
      low = let e = named in omega (arith, early, e)

      entry_is : places.entry block port element ≡ hub_at setting.firsts.now block port element
      entry_is = let size = inputs.size in let below = low in spotted.entry block b port element shown (omega (arith, below, size)) ∙ inputs.entries (hub_at setting.firsts.now block port element) low

      stage_is : (k : ℕ) → places.stage block port element k ≡ hub_at setting.firsts.now block port element + k
      stage_is k =
          let size = inputs.size in
          let stages = inputs.even.stages in
          let below = low in
          spotted.stage block b port element k shown (omega (arith, below, size, stages)) ∙ ap (λ (n : ℕ). n + k) (inputs.stages (hub_at setting.firsts.now block port element) low)

      input_made : IsElementMade drawn (timing_for setting.design) places roots hubs now block b port element
      input_made =
          let input = role_input block b port element shown low in
          made_input (λ kind. InLater roots hubs now (λ n rows. IsMadeAs drawn (attributes_of drawn) (timing_for setting.design) n (waves_of places rows) kind block b port element)) b.kind input
          (λ number width kind_is.
          let one = one_port b.kind b.inputs b.outputs (readable_at drawn ordered.checked.wired block b shown.block_is).ports input in
          let from = shown.port_from in
          let to = shown.port_to in
          let first : port ≡ 1 = omega (arith, one, from, to) in
          let wide : shown_width drawn (attributes_of drawn) b.kind block port
          ≡ (attributes_of drawn).width_at block 1 =
          ap (λ (k : Kind). shown_width drawn (attributes_of drawn) k block port) kind_is
          ∙ ap ((attributes_of drawn).width_at block) first in
          let below = shown.element_below in
          let found = (listed drawn (attributes_of drawn) ordered.checked.wired).has_each block b number element
          shown.block_is (ap (λ (k : Kind). root_input (row_of k).place.role) kind_is)
          (omega (arith, below, wide)) in
          let e : RootElement = root_element (attributes_of drawn) number block element in
          let input_is : places.input number element ≡ hub_at setting.firsts.now block port element =
          fits.lines.input found.0 e found.1 ∙ sym (ap (λ (p : ℕ). hub_at setting.firsts.now block p element) first ∙ set.stood.has.of_inputs found.0 e found.1)
          in
          record { holds = λ later goes n ins rows are. record { at = λ c below. ap (λ (x : ℕ). rows x c) (entry_is ∙ sym input_is) } })

      input_piped : IsElementPiped drawn (timing_for setting.design) places roots hubs now block port element
      input_piped =
          let input = role_input block b port element shown low in
          unpiped_by drawn (timing_for setting.design) places roots hubs now block port element
          (hub_at setting.firsts.now block port element) entry_is stage_is
          ((attributes_of drawn).period_at block) refl
          (inl (elim (cases_lt 0 ((timing_for setting.design).stages block)) [
            | inl some ↦ absurd (unpiped_input b.kind input (set.designed.scheduled.planned.allowed.each block b shown.block_is some).kind)
            | inr none ↦ omega (arith, none)
          ]))
          (record { holds = λ later goes n ins rows are. record { at = λ c below. ap (λ (x : ℕ). rows x c) named } })

    begun_going : (level : ℕ → ℕ) × IsGoingBy setting places now roots now level
    begun_going =
        let is = begun.each places fits in (
          is.level,
          record {
            since = goes_same roots hubs now;
            on = omega arith;
            way = is.way;
            few = begun.few;
            late = is.late;
            low = λ block b element slot at below told. elim (cases_Bool (is_shared drawn (attributes_of drawn) setting.design.plan.now block)) [
              | inl shared ↦
                  let has = is.products.each block b element at shared below in
                  (slice_get_within now.nets (places.product block element) has.word.net has.word.is, is.low.each block b element at shared below)
              | inr other ↦ absurd (none-some slot (sym (untold drawn setting.design.plan.now (times_for setting.design) block element other) ∙ told))
            ];
            waits = λ block b port element shown past.
                let e = fits.lines.after block b port element shown in
                let other = role_other block b port element shown (omega (arith, past, e)) in
                let high = is.way.hubs_are.below block b port element shown in
                record {
                  at = ap (slice_get now.nets) e ∙ begun.fresh block b port element shown other;
                  level_is =
                      is.levels (places.after block port element) high ∙ ap (start_level drawn (place_in setting.design.checked.now.order)) e
                      ∙ level_other drawn set.stood.earlier set.stood.later setting.firsts.now set.stood.has (place_in setting.design.checked.now.order) block b port element shown other;
                };
            made = λ block b port element shown early. input_made block b port element shown early;
            piped = λ block b port element shown early. input_piped block b port element shown early;
          },
        )

  -- none but root inputs stand so far, and these have no pipelines and count for nothing
  none_before : (f : ℕ → ℕ) (n : ℕ) → ((k : ℕ) → k < n → f k ≡ 0) → before f n ≡ 0
  none_before f zero none = refl
  none_before f (suc n) none = let rest = none_before f n (λ k below. none k (omega (arith, below))) in let last = none n (omega arith) in omega (arith, rest, last)

  -- a root input doesn't multiply
  no_product : (block : ℕ) (b : Block) (element : ℕ) → IsShown drawn (attributes_of drawn) block b 1 element
      → hub_at setting.firsts.now block 1 element < roots → products_by drawn setting.design.plan.now block ≡ 1 → ⊥
  no_product block b element shown early owns =
      let none : multiplies drawn block ≡ false = ap multiplies_if shown.block_is ∙ unmultiplied_input b.kind (role_input block b 1 element shown early) in
      let zero : products_by drawn setting.design.plan.now block ≡ 0 = ap (λ (t : Bool). if t && not (is_shared drawn (attributes_of drawn) setting.design.plan.now block) then 1 else 0) none in
      absurd (omega (arith, zero, owns))

  none_labelled : AreLabelled setting.firsts.now [] (length now.nets) (length spots.entries)
  none_labelled = record {
    low = λ label contained. let within = contained.1 in absurd (omega (arith, within));
    named = λ label contained. let within = contained.1 in absurd (omega (arith, within));
    nets_differ = λ i j d less within. absurd (omega (arith, within));
    names_differ = λ i j d less within. absurd (omega (arith, within));
  }

  begun_tally : AreTallied drawn setting.design.plan.now (timing_for setting.design) setting.firsts.now now now spots
  begun_tally =
      let size = inputs.size in
      let registers : before (hub_registers drawn setting.design.plan.now) (length spots.entries) ≡ 0 =
      none_before (hub_registers drawn setting.design.plan.now) (length spots.entries)
      (λ k below. cond-true {A = ℕ} (nat_lt k roots) 0
      (registers_by drawn setting.design.plan.now (owner_of drawn k)
      (slice_get drawn.blocks (owner_of drawn k))) (lt-ltb k roots (omega (arith, below, size))))
      in
      let products : before (hub_products drawn setting.design.plan.now) (length spots.entries) ≡ 0 =
      none_before (hub_products drawn setting.design.plan.now) (length spots.entries)
      (λ k below. cond-true {A = ℕ} (nat_lt k roots) 0
      (products_by drawn setting.design.plan.now (owner_of drawn k))
      (lt-ltb k roots (omega (arith, below, size))))
      in
      record {
        more = omega arith;
        there = begun.there;
        pipelines = λ block b port element period shown early is_period any.
            absurd (unpiped_input b.kind (role_input block b port element shown (omega (arith, early, size))) (set.designed.scheduled.planned.allowed.each block b shown.block_is any).kind);
        registers = omega (arith, registers);
        own = omega (arith, products);
        shared = refl;
        labelled = subst (λ (all : List NetLabel). AreLabelled setting.firsts.now all (length now.nets) (length spots.entries)) (sym begun.unnamed) none_labelled;
        multiplied = λ block b element shown early owns. absurd (no_product block b element shown (omega (arith, early, size)) owns);
      }

  pub begun_reaches : Reaches setting now (hub_start drawn 0)
  begun_reaches =
      let size = inputs.size in
      record {
        spots = spots;
        going = record {
          even = inputs.even;
          cycles = begun.cycles;
          start = now;
          begun = begun;
          tally = begun_tally;
          marks = marked_none drawn setting.design.plan.now (times_for setting.design) setting.firsts.now now (length spots.entries);
          each = λ places fits spotted. let h = begun_going places fits spotted in (h.0, subst (λ (n : ℕ). IsGoingBy setting places now n now h.0) (sym inputs.size) h.1);
        };
        at = omega (arith, size);
      }

-- ---- the end

module _ (setting : Setting) (listed : InputsAreListed) (ordered : IsOrdered setting.design.checked.now.diagram setting.design.checked.now.order) (set : IsSet setting) (now : Circuit)
    (reaches : Reaches setting now (hubs_in_all setting.design.checked.now.diagram)) where
  abbrev named_places : Places
  named_places = own_places setting listed ordered reaches.spots

  -- all elements stand, by the places that were gathered
  pub all_stand : HasElements setting now reaches.spots
  all_stand =
      let fits = own_fit setting listed ordered reaches.spots (λ k e there. set.stood.has.of_inputs k e there) in
      let spotted = own_spotted setting listed ordered reaches.spots in
      let going = reaches.going.each named_places fits spotted in
      let at = reaches.at in
      let closed = subst (λ (n : ℕ). IsGoingBy setting named_places reaches.going.start n now going.0) at going.1 in
      record {
        fits = fits;
        level = going.0;
        way = record {
          facts = record {
            cycles = closed.way.facts.cycles;
            spread = closed.way.facts.spread;
            inputs = closed.way.facts.inputs;
            lines = closed.way.facts.lines;
            enables = closed.way.facts.enables;
            elements = record {
              made = λ block b port element early shown. closed.made block b port element shown (closed.way.hubs_are.below block b port element shown);
              piped = λ block b port element early shown. closed.piped block b port element shown (closed.way.hubs_are.below block b port element shown);
            };
          };
          hubs_are = closed.way.hubs_are;
          operands = closed.way.operands;
          sound = closed.way.sound;
          levelled = closed.way.levelled;
          differ = closed.way.differ;
        };
        start = reaches.going.start;
        begun = reaches.going.begun;
        tally = reaches.going.tally;
        marks = reaches.going.marks;
        size = reaches.at;
        since = closed.since;
      }

-- ---- the places of root inputs, one by one

no_spots : AreInputSpots (record { entries = []; states = []; stages = [] }) 0
no_spots = record { even = record { states = refl; stages = refl }; size = refl; entries = λ k below. absurd (omega (arith, below)); stages = λ k below. absurd (omega (arith, below)) }

spots_next : (spots : Spots) (input : ℕ) → AreInputSpots spots input → AreInputSpots (with_spot spots input input input) (input + 1)
spots_next spots input are =
    let sum = length-append spots.entries (input ∷ []) in
    let size = are.size in
    let stages = are.even.stages in
    record {
      even = even_next spots input input input are.even;
      size = omega (arith, sum, size);
      entries = λ k below. elim (cases_lt k input) [
        | inl less ↦ front_read spots.entries input k (omega (arith, less, size)) ∙ are.entries k less
        | inr past ↦ at_last spots.entries input k (omega (arith, past, below, size)) ∙ omega (arith, past, below)
      ];
      stages = λ k below. elim (cases_lt k input) [
        | inl less ↦ front_read spots.stages input k (omega (arith, less, size, stages)) ∙ are.stages k less
        | inr past ↦ at_last spots.stages input k (omega (arith, past, below, size, stages)) ∙ omega (arith, past, below)
      ];
    }

pub input_spots : (inputs : ℕ) → (spots : Spots) × AreInputSpots spots inputs
input_spots zero = (record { entries = []; states = []; stages = [] }, no_spots)
input_spots (suc inputs) =
    let rest = input_spots inputs in
    let next : inputs + 1 ≡ suc inputs = omega arith in
    (with_spot rest.0 inputs inputs inputs, subst (AreInputSpots (with_spot rest.0 inputs inputs inputs)) next (spots_next rest.0 inputs rest.1))
