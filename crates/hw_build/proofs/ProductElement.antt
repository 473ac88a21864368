-- An element that converts the product of a shared multiplier goes into the loops over blocks.
use Rattle.std.proofs.Common.{◌≡◌, ℕ, ◌<◌, ◌≤◌, Bool, true, [], ◌∷◌, length, Contains, None, Some, ap, sym, ◌∙◌, subst, arith, refl}
use Rattle.std.specs.Prelude.{◌&&◌, not, if◌then◌else◌}
use Rattle.std.proofs.lemmas.Bool.{false≢true}
use Rattle.std.proofs.lemmas.Option.{none-some, same_Some, slice_get_within}
use Rattle.fx_type.specs.declared.kind.FxType.{FxType}
use Rattle.fx_type.specs.FxType.{is_signed, width_of}
use Rattle.fx_type.specs.FullType.{IsFullProduct}
use Rattle.fx_type.specs.Laws.{FullProductIsOne}
use Rattle.dg_model.specs.declared.diagram.Diagram.{Diagram}
use Rattle.dg_model.specs.declared.diagram.Block.{Block}
use Rattle.dg_model.specs.declared.kind.Kind.{Kind}
use Rattle.dg_model.specs.declared.kind.Kind.TheVariants.{Gain, Product}
use Rattle.dg_model.specs.Attributes.{attributes_of}
use Rattle.dg_model.specs.Library.{row_of}
use Rattle.dg_model.specs.RootElements.{root_inputs}
use Rattle.dg_model.specs.Solves.{IsShown}
use Rattle.dg_model.specs.Wires.{type_into}
use Rattle.hw_latency.specs.Shared.{is_shared, multiplies_if}
use Rattle.hw_net.specs.Circuit.{Circuit}
use Rattle.hw_net.specs.Netlist.{HasWord}
use Rattle.hw_sched.specs.Slots.{right_of}
use Rattle.hw_build.specs.Places.{Places}
use Rattle.hw_build.specs.Serving.{unit_factors}
use Rattle.hw_build.specs.declared.blocks.Setting.{Setting}
use Rattle.hw_build.specs.declared.entry.Entry.{Entry}
use Rattle.hw_build.specs.inner.DesignTimes.{timing_for, times_for}
use Rattle.hw_build.specs.inner.Entries.{HasProductAs, PutsShared}
use Rattle.hw_build.specs.inner.HubPlaces.{hubs_in_all}
use Rattle.hw_build.specs.inner.Levels.{level_behind}
use Rattle.hw_build.specs.inner.ElementLoop.{Fits, IsBegun, IsEntered, IsKnown, Stands}
use Rattle.hw_build.specs.inner.ResultNets.{product_at, number_or_zero, HasProduct}
use Rattle.hw_build.specs.inner.Tally.{products_by}
use Rattle.hw_build.specs.inner.UnderWay.{own_level}
use Rattle.hw_build.proofs.ElementLoops.{own_next, part_frame, part_units}
use Rattle.hw_build.proofs.EntryReads.{only_one}
use Rattle.hw_build.proofs.BlockElement.{rank, fit_now, going_now, places_now, product_below, shared_is}
use Rattle.hw_build.proofs.Factors.{shared_multiplies}
use Rattle.hw_build.proofs.GoesOn.{going_by_call}
use Rattle.hw_build.proofs.Levels.{result_level}
use Rattle.hw_build.proofs.MultiplierStep.{same_listed}
use Rattle.hw_build.proofs.ProductNets.{gain_product, product_later, times_product}

module _ (setting : Setting) (known : IsKnown setting) (before : Circuit) (going : Stands setting before)
    (block : ℕ) (b : Block) (port element : ℕ)
    (shown : IsShown setting.design.checked.now.diagram
    (attributes_of setting.design.checked.now.diagram) block b port element)
    (product : ℕ) (told : product_at setting.products.now block element ≡ Some product) where
  abbrev own_drawn : Diagram
  own_drawn = setting.design.checked.now.diagram

  is_shared_one : is_shared own_drawn (attributes_of own_drawn) setting.design.plan.now block ≡ true
  is_shared_one = shared_is setting known before going block b port element shown product told

  pub multiplying : (row_of b.kind).hardware.multiplies ≡ true
  multiplying = shared_multiplies own_drawn setting.design.plan.now block b shown.block_is is_shared_one

  wide_enough : element < (attributes_of own_drawn).width_at block 1
  wide_enough = product_below setting known before going block b port element shown multiplying

  product_named : (places : Places) → Fits setting places → places.product block element ≡ product
  product_named places fits = fits.product_is block element ∙ ap number_or_zero told

  abbrev HasIt : Places → ℕ → Circuit → Type 0
  HasIt places closed now = HasProduct own_drawn setting.design.plan.now (times_for setting.design) places closed (hubs_in_all own_drawn) now block b element

  abbrev roots : ℕ
  roots = length (root_inputs own_drawn (attributes_of own_drawn))

  -- the product is in the word of its type
  pub product_word : FullProductIsOne → (full : FxType)
      → IsFullProduct (type_into own_drawn (attributes_of own_drawn) block 1)
      (right_of own_drawn (attributes_of own_drawn) block (Some b)) full
      → HasWord before.nets product (width_of full) (is_signed full)
  product_word law full is =
      let places = places_now setting known before going block b port element shown in
      let fits = fit_now setting known before going block b port element shown in
      let g = (going_now setting known before going block b port element shown).1 in
      let has = product_later own_drawn setting.design.plan.now (times_for setting.design) places roots _
      (hubs_in_all own_drawn) going.going.start before block b element g.on g.since
      ((going.going.begun.each places fits).products.each block b element shown.block_is is_shared_one
      wide_enough) in
      let left : FxType = type_into own_drawn (attributes_of own_drawn) block 1 in
      let right : FxType = right_of own_drawn (attributes_of own_drawn) block (Some b) in
      let same : has.full ≡ full = same_Some has.full full (sym ((law left right has.full).0 has.is_full) ∙ (law left right full).0 is) in
      subst (λ (n : ℕ). HasWord before.nets n (width_of full) (is_signed full)) (product_named places fits)
      (subst (λ (t : FxType). HasWord before.nets (places.product block element) (width_of t) (is_signed t))
      same has.word)

  stood : (start : Circuit) → IsBegun setting start → product < length start.nets
  stood start begun =
      let fits = fit_now setting known before going block b port element shown in
      let has = (begun.each (places_now setting known before going block b port element shown) fits).products.each block b element shown.block_is is_shared_one wide_enough in
      subst (λ (n : ℕ). n < length start.nets) (product_named (places_now setting known before going block b port element shown) fits) (slice_get_within start.nets _ has.word.net has.word.is)

  -- it shows what the kind asks for
  has_as : (places : Places) (closed : ℕ) (has : HasIt places closed before) (kind : Kind) → b.kind ≡ kind
      → (row_of kind).hardware.multiplies ≡ true
      → HasProductAs own_drawn (timing_for setting.design) places closed
      (hubs_in_all own_drawn) before block element has.slot kind
  has_as places closed has (Gain value param) is multiplies =
      gain_product own_drawn setting.design.plan.now (times_for setting.design) places closed
      (hubs_in_all own_drawn) before block b element has value param
      (ap (λ (k : Kind). (row_of k).types.full) is)
  has_as places closed has Product is multiplies =
      times_product own_drawn setting.design.plan.now (times_for setting.design) places closed
      (hubs_in_all own_drawn) before block b element has (ap (λ (k : Kind). (row_of k).types.full) is)
  has_as places closed has _ is multiplies = absurd (false≢true multiplies)

  module _ (after : Circuit) (entry : Entry) (puts : PutsShared own_drawn (timing_for setting.design) before after block b port element product entry) where
    none_own : products_by own_drawn setting.design.plan.now block ≡ 0
    none_own =
        ap (λ (x : Bool). if x && not (is_shared own_drawn (attributes_of own_drawn) setting.design.plan.now block) then 1 else 0) (ap multiplies_if shown.block_is ∙ multiplying)
        ∙ ap (λ (x : Bool). if true && not x then 1 else 0) is_shared_one

    abbrev top : ℕ
    top = own_level (rank setting known before going block b port element shown block)

    -- it goes into the loops
    pub shared_entered : IsEntered setting before after block b port element entry
    shared_entered = record {
      named = product ∷ [];
      appends = puts.grows.appends;
      below = λ start begun long read among. subst (λ (n : ℕ). n < length start.nets) (only_one product read among) (stood start begun);
      stands = puts.stands;
      few = let count = puts.grows.registers in omega (arith, count);
      own = let sum = own_next before after puts.grows.appends.extends None puts.multiplies (λ k e. absurd (none-some k e)) in let none = none_own in omega (arith, sum, none);
      shared = same_listed unit_factors before after puts.grows.appends.extends
          (λ k net past there. part_units own_drawn (timing_for setting.design) block net.kind
          (puts.grows.parts k net past there));
      new_product = λ k e. absurd (none-some k (sym puts.multiply ∙ e));
      product = λ owns. let none = none_own in absurd (omega (arith, none, owns));
      own_number = λ m e. absurd (none-some m (sym puts.multiply ∙ e));
      own_frames = λ k frame past there. part_frame setting block
          (slice_get_within own_drawn.blocks block b shown.block_is) there.net.kind frame
          (puts.grows.parts k there.net past there.is) there.counts;
      word = puts.word;
      each = λ places start closed level fits named products is.
          let has = product_later own_drawn setting.design.plan.now (times_for setting.design) places roots closed
          (hubs_in_all own_drawn) start before block b element is.on is.since
          (products.each block b element shown.block_is is_shared_one wide_enough) in
          let stands = is.low block b element has.slot shown.block_is wide_enough has.told in
          let low : (read : ℕ) → Contains (product ∷ []) read → (read < length before.nets) × (level read ≤ top) =
          λ read among.
          let same : places.product block element ≡ read = product_named places fits ∙ only_one product read among in
          let e = ap level same in
          let zero = stands.1 in
          (subst (λ (n : ℕ). n < length before.nets) same stands.0, omega (arith, e, zero)) in
          record {
            next = level_behind before after level top;
            going = going_by_call own_drawn (timing_for setting.design) places
                (rank setting known before going block b port element shown)
                (hubs_in_all own_drawn) roots start closed top before after level
                (product ∷ []) is puts.grows.appends (omega arith) low;
            low = result_level before after level top entry.net (product ∷ []) low puts.stands;
            made = puts.made closed (hubs_in_all own_drawn) places has.slot is.way.hubs_are.there has.told named.net (product_named places fits) (has_as places closed has b.kind refl multiplying);
          };
    }
