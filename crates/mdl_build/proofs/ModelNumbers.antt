-- The numbers of the blocks of a model serve its blocks and lines.
use Rattle.std.proofs.Common.{◌≡◌, ℕ, ◌+◌, ◌<◌, ◌≤◌, List, length, map, get_or, Option, None, Some, refl, ◌∙◌, ap, subst, arith}
use Rattle.std.specs.Prelude.{MatchOption, option_map, slice_get}
use Rattle.std.proofs.lemmas.List.{length-map}
use Rattle.std.proofs.lemmas.List.Elements.{All-weaker}
use Rattle.std.proofs.lemmas.Option.{slice_get-get_or, slice_get-map, slice_get_within}
use Rattle.std.proofs.lemmas.Slice.Zip.{AllZip-long}
use Rattle.dg_model.specs.declared.nested.NestedBlock.{NestedBlock}
use Rattle.dg_model.specs.declared.nested.NestedLine.{NestedLine}
use Rattle.dg_model.specs.Sound.{HasParent}
use Rattle.mdl_build.specs.declared.expanding.DrawnBlock.{DrawnBlock}
use Rattle.mdl_build.specs.Extents.{starts, total}
use Rattle.mdl_build.specs.inner.Sketch.{AreNumbersOf}
use Rattle.mdl_build.proofs.FilterSketch.{IsDrawnModel, extent_of}
use Rattle.mdl_build.proofs.ExtentLemmas.{starts_long, starts_within}
use Rattle.mdl_build.proofs.Fillings.{are_filters}

parent_before : (blocks : List NestedBlock) (block parent : ℕ) (found : Option ℕ) → found ≡ Some parent → HasParent blocks block found → parent < block
parent_before blocks block parent found is has =
    let own : HasParent blocks block (Some parent) = subst (HasParent blocks block) is has in own.0

there : {A : Type 0} (xs : List A) (k : ℕ) (P : A → Type 0) → MatchOption (slice_get xs k) ⊥ P → (x : A) × (slice_get xs k ≡ Some x) × P x
there {A} xs k P given = by (slice_get xs k) given
  where
    by : (found : Option A) → MatchOption found ⊥ P → (x : A) × (found ≡ Some x) × P x
    by None h = absurd h
    by (Some x) h = (x, refl, h)

module _ (extents : List ℕ) (drawn : List DrawnBlock) (lines : List NestedLine) (model : IsDrawnModel extents drawn lines) where
  abbrev blocks : List NestedBlock
  blocks = map (λ (d : DrawnBlock). d.block) drawn

  as_many : length (starts 0 extents) ≡ length drawn
  as_many = starts_long 0 extents ∙ AllZip-long (λ (d : DrawnBlock) (e : ℕ). e ≡ extent_of d.filter) drawn extents model.extents_are

  within : (k : ℕ) (block : NestedBlock) → slice_get blocks k ≡ Some block → k < length (starts 0 extents)
  within k block is = omega (arith, slice_get_within blocks k block is, length-map drawn (λ (d : DrawnBlock). d.block), as_many)

  pub are_numbers : AreNumbersOf (starts 0 extents) drawn lines
  are_numbers = record {
    long = as_many;
    few = All-weaker (λ (start : ℕ). start ≤ 0 + total extents) (λ (start : ℕ). start ≤ 20000) (λ start most. omega (arith, most, model.few)) (starts 0 extents) (starts_within 0 extents);
    blocks = λ k d below.
        let block : DrawnBlock = get_or drawn k d in
        let at : slice_get blocks k ≡ Some block.block = slice_get-map (λ (b : DrawnBlock). b.block) drawn k ∙ ap (option_map (λ (b : DrawnBlock). b.block)) (slice_get-get_or drawn k d below) in
        record {
          parent = λ parent is. let before = parent_before blocks k parent block.block.parent is (model.sound.parents k block.block at) in omega (arith, before, below, as_many);
          filter = are_filters extents drawn lines model k d below;
        };
    lines = λ k d below.
        let line = get_or lines k d in
        let joins = (model.sound.lines k d below).system in
        let source = there blocks line.from _ joins in
        let target = there blocks line.to _ source.2 in
        (within line.from source.0 source.1, within line.to target.0 target.1);
  }
