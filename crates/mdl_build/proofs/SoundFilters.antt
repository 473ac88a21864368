-- What the filters of a tree are: they stand for as many blocks as their extents say, and hold none.
use Rattle.std.proofs.Common.{◌≡◌, ◌≢◌, ℕ, zero, suc, ◌<◌, true, inl, inr, List, [], ◌∷◌, length, Some, refl, sym, ◌∙◌, ap, subst, arith}
use Rattle.std.specs.Prelude.{slice_get, option_map}
use Rattle.std.specs.List.{AllZip}
use Rattle.std.proofs.lemmas.Option.{same_Some}
use Rattle.fx_type.specs.declared.decimal.Decimal.{Decimal}
use Rattle.dg_model.specs.Sound.{IsSubSystem}
use Rattle.fir_block.specs.declared.filter.Fir.{Fir}
use Rattle.fir_block.specs.Expanded.{extent}
use Rattle.fir_block.specs.Laws.{IsReadableFir}
use Rattle.mdl_text.specs.declared.tree.Item.{Item}
use Rattle.mdl_values.specs.Laws.{ValuesAreOne}
use Rattle.mdl_build.specs.declared.expanding.DrawnBlock.{DrawnBlock}
use Rattle.mdl_build.specs.declared.library.BlockType.{BlockType}
use Rattle.mdl_build.specs.declared.library.BlockType.TheVariants.{DiscreteFir as FirType}
use Rattle.mdl_build.specs.declared.roles.Role.{Role}
use Rattle.mdl_build.specs.declared.roles.Role.TheVariants.{Other, Model, System, Block, SubSystem, Filter, Branch, Defaults, TypeDefaults}
use Rattle.mdl_build.specs.Blocks.{number_at, standing_of, HasSettings}
use Rattle.mdl_build.specs.Extents.{IsExtentOf, IsExtentAt, AreExtents}
use Rattle.mdl_build.specs.Library.{taps}
use Rattle.mdl_build.specs.Lookup.{text_of}
use Rattle.mdl_build.specs.Nested.{IsDrawnAt}
use Rattle.mdl_build.specs.Parts.{part_of, filter_of}
use Rattle.mdl_build.specs.Roles.{role_of, is_block, blocks_of}
use Rattle.mdl_build.proofs.BlockNumbers.{one_number}
use Rattle.mdl_build.proofs.BlockPlaces.{block_of}
use Rattle.mdl_build.proofs.FilterSketch.{extent_of}
use Rattle.mdl_build.proofs.FilterLists.{none_some}
use Rattle.mdl_build.proofs.ReadableFilter.{taps_are, readable_fir}
use Rattle.mdl_build.proofs.SoundBlocks.{fir_role, role_fir}
use Rattle.mdl_build.proofs.SoundParts.{no_filter, filter_type}
use Rattle.mdl_build.proofs.SoundTree.{Stand, stand}

-- ---- the drawn block of a number

pub record DrawnHere (items : List Item) (number : ℕ) (own : DrawnBlock) : Type 0 where
  pub place : ℕ
  pub there : slice_get (blocks_of items) number ≡ Some place
  pub here : IsDrawnAt items place own
  pub within : place < length items
  pub counts : is_block (role_of items place) ≡ true
  pub number_is : number_at items place ≡ number
  pub stands : Stand items place

zip_from : {A B : Type 0} (R : A → B → Type 0) (xs : List A) (ys : List B) → AllZip R xs ys → (k : ℕ) (y : B) → slice_get ys k ≡ Some y → (x : A) × (slice_get xs k ≡ Some x) × R x y
zip_from R [] [] all k y at = absurd (none_some y at)
zip_from R [] (first ∷ ys) all k y at = absurd all
zip_from R (first ∷ xs) [] all k y at = absurd (none_some y at)
zip_from R (x ∷ xs) (first ∷ ys) all zero y at = (x, refl, subst (R x) (same_Some first y at) all.0)
zip_from R (x ∷ xs) (first ∷ ys) all (suc k) y at = zip_from R xs ys all.1 k y at

module _ (items : List Item) (drawn : List DrawnBlock) (all : AllZip (IsDrawnAt items) (blocks_of items) drawn) where
  pub drawn_here : (number : ℕ) (own : DrawnBlock) → slice_get drawn number ≡ Some own → DrawnHere items number own
  drawn_here number own at =
      let found = zip_from (IsDrawnAt items) (blocks_of items) drawn all number own at in
      let its = block_of items number found.0 found.1 in
      record { place = found.0; there = found.1; here = found.2; within = its.within; counts = its.counts; number_is = its.number_is; stands = stand items found.0 its.counts }

-- ---- a filter

type_is : (items : List Item) (place : ℕ) (own : DrawnBlock) (fir : Fir) → (here : IsDrawnAt items place own) → own.filter ≡ Some fir → here.block.block_type ≡ FirType
type_is items place own fir here is = filter_type own.block.name here.block.block_type here.block.settings fir (sym here.filter ∙ is)

settings_are : (items : List Item) (place : ℕ) (own : DrawnBlock) → (here : IsDrawnAt items place own) → here.block.block_type ≡ FirType → HasSettings items FirType place here.block.settings
settings_are items place own here is = subst (λ (t : BlockType). HasSettings items t place here.block.settings) is here.block.has

pub filter_sub : (items : List Item) (place : ℕ) (own : DrawnBlock) (fir : Fir) → IsDrawnAt items place own → own.filter ≡ Some fir → IsSubSystem own.block.part
filter_sub items place own fir here is =
    subst IsSubSystem (sym (here.block.part ∙ ap (λ (t : BlockType). part_of (standing_of items place) t here.block.settings) (type_is items place own fir here is))) tt

pub filter_reads : ValuesAreOne → (items : List Item) (place : ℕ) (own : DrawnBlock) (fir : Fir) → IsDrawnAt items place own → own.filter ≡ Some fir → IsReadableFir fir
filter_reads values items place own fir here is =
    let type = type_is items place own fir here is in
    readable_fir items place here.block.settings (settings_are items place own here type) values own.block.name fir
    (sym (ap (λ (t : BlockType). filter_of own.block.name t here.block.settings) type) ∙ sym here.filter ∙ is)

-- no block stands in a filter
module _ (items : List Item) (drawn : List DrawnBlock) (all : AllZip (IsDrawnAt items) (blocks_of items) drawn) where
  pub filters_bare : (k j : ℕ) (own held : DrawnBlock) (fir : Fir) → slice_get drawn k ≡ Some own → own.filter ≡ Some fir → slice_get drawn j ≡ Some held → held.block.parent ≢ Some k
  filters_bare k j own held fir at is there parent =
      let o = drawn_here items drawn all k own at in
      let h = drawn_here items drawn all j held there in
      let role : role_of items o.place ≡ Filter o.stands.level = fir_role items o.place own.block o.stands o.counts o.here.block (type_is items o.place own fir o.here is) in
      elim h.stands.cases [
        | inl root ↦ none_some k (sym (ap (option_map (number_at items)) root.1) ∙ sym h.here.block.parent ∙ parent)
        | inr sub ↦
            let numbers : number_at items h.stands.holder ≡ k = same_Some (number_at items h.stands.holder) k (sym (ap (option_map (number_at items)) sub.3) ∙ sym h.here.block.parent ∙ parent) in
            let inside : h.stands.holder < length items = omega (arith, h.stands.before, h.stands.holder_before, h.within) in
            let same : h.stands.holder ≡ o.place = one_number items h.stands.holder o.place inside (ap is_block sub.1) o.within o.counts (numbers ∙ sym o.number_is) in
            let bad : SubSystem sub.0 ≡ Filter o.stands.level = sym sub.1 ∙ ap (role_of items) same ∙ role in
            cc
      ]

-- ---- extents

extent_is : ValuesAreOne → (items : List Item) (place : ℕ) (own : DrawnBlock) (size : ℕ)
    → is_block (role_of items place) ≡ true → IsDrawnAt items place own → IsExtentAt items place size
    → size ≡ extent_of own.filter
extent_is values items place own size counts here is = by (role_of items place) refl is
  where
    s : Stand items place
    s = stand items place counts

    plain : size ≡ 1 → ((level : ℕ) → role_of items place ≡ Filter level → ⊥) → size ≡ extent_of own.filter
    plain one other = one ∙ sym (ap extent_of
        (here.filter ∙ no_filter own.block.name here.block.block_type here.block.settings
        (λ type. other (s.level) (fir_role items place own.block s counts here.block type))))

    by : (role : Role) → role_of items place ≡ role → IsExtentOf items place role size → size ≡ extent_of own.filter
    by (Filter level) role x =
        let type = role_fir items place level own.block s role here.block in
        let are = taps_are items place here.block.settings (settings_are items place own here type) in
        let filter = here.filter ∙ ap (λ (t : BlockType). filter_of own.block.name t here.block.settings) type in
        elim x [
          | inl read ↦ read.2 ∙ ap (λ (list : List Decimal). extent (length list))
              (values.lists (text_of items FirType place taps) read.0 here.block.settings.list read.1.list are.list)
              ∙ sym (ap extent_of filter)
          | inr none ↦ absurd (none.0 here.block.settings.list are)
        ]
    by Other role x = plain x (λ level f. let bad : Other ≡ Filter level = sym role ∙ f in cc)
    by Model role x = plain x (λ level f. let bad : Model ≡ Filter level = sym role ∙ f in cc)
    by (System inner) role x = plain x (λ level f. let bad : System inner ≡ Filter level = sym role ∙ f in cc)
    by (Block inner) role x = plain x (λ level f. let bad : Block inner ≡ Filter level = sym role ∙ f in cc)
    by (SubSystem inner) role x = plain x (λ level f. let bad : SubSystem inner ≡ Filter level = sym role ∙ f in cc)
    by (Branch line) role x = plain x (λ level f. let bad : Branch line ≡ Filter level = sym role ∙ f in cc)
    by Defaults role x = plain x (λ level f. let bad : Defaults ≡ Filter level = sym role ∙ f in cc)
    by (TypeDefaults section) role x = plain x (λ level f. let bad : TypeDefaults section ≡ Filter level = sym role ∙ f in cc)

zip_extents : ValuesAreOne → (items : List Item) (places : List ℕ) (drawn : List DrawnBlock) (extents : List ℕ)
    → ((k place : ℕ) → slice_get places k ≡ Some place → is_block (role_of items place) ≡ true)
    → AllZip (IsDrawnAt items) places drawn → AllZip (IsExtentAt items) places extents
    → AllZip (λ (own : DrawnBlock) (size : ℕ). size ≡ extent_of own.filter) drawn extents
zip_extents values items [] [] [] counts here are = tt
zip_extents values items [] [] (size ∷ extents) counts here are = absurd are
zip_extents values items [] (own ∷ drawn) extents counts here are = absurd here
zip_extents values items (place ∷ places) [] extents counts here are = absurd here
zip_extents values items (place ∷ places) (own ∷ drawn) [] counts here are = absurd are
zip_extents values items (place ∷ places) (own ∷ drawn) (size ∷ extents) counts here are =
    (extent_is values items place own size (counts 0 place refl) here.0 are.0, zip_extents values items places drawn extents (λ k. counts (suc k)) here.1 are.1)

pub extents_zip : ValuesAreOne → (items : List Item) (drawn : List DrawnBlock) (extents : List ℕ) → AllZip (IsDrawnAt items) (blocks_of items) drawn → AreExtents items extents
    → AllZip (λ (own : DrawnBlock) (size : ℕ). size ≡ extent_of own.filter) drawn extents
extents_zip values items drawn extents here are =
    zip_extents values items (blocks_of items) drawn extents (λ k place there. (block_of items k place there).counts) here are
