-- Each filter of a tree has its blocks and lines among those of the tree.
use Rattle.std.proofs.Common.{◌≡◌, ℕ, zero, suc, ◌+◌, List, [], ◌∷◌, ◌++◌, length, map, Option, Some}
use Rattle.std.proofs.Common.{refl, sym, ◌∙◌, ap, subst, arith}
use Rattle.std.specs.Prelude.{zip, flat_map, slice_get}
use Rattle.std.proofs.lemmas.Option.{same_Some}
use Rattle.std.proofs.lemmas.Slice.Zip.{AllZip-map}
use Rattle.fx_type.specs.declared.decimal.Decimal.{Decimal}
use Rattle.dg_model.specs.declared.nested.Nested.{Nested}
use Rattle.dg_model.specs.declared.nested.NestedLine.{NestedLine}
use Rattle.fir_block.specs.declared.filter.Fir.{Fir}
use Rattle.fir_block.specs.Expanded.{blocks_of, lines_of}
use Rattle.fir_block.specs.Laws.{BlocksAreCounted}
use Rattle.mdl_values.specs.Laws.{ValuesAreOne}
use Rattle.mdl_build.specs.declared.expanding.DrawnBlock.{DrawnBlock}
use Rattle.mdl_build.specs.Expanded.{inner_block, inner_line, filling_lines, moved_line}
use Rattle.mdl_build.specs.Expanded.{expanded_blocks, expanded_lines}
use Rattle.mdl_build.specs.Extents.{starts}
use Rattle.mdl_build.specs.Filters.{HasFilter, FiltersStand}
use Rattle.mdl_build.specs.Lines.{lines_of as tree_lines}
use Rattle.mdl_build.specs.inner.Sketch.{AreDrawn}
use Rattle.mdl_build.proofs.FilterSketch.{extent_of, extents_of, IsDrawnModel, are_firs}
use Rattle.mdl_build.proofs.FilterLists.{none_some, get_left, get_right, map_at}
use Rattle.mdl_build.proofs.FilterPlaces.{numbers_from, put_from, stands}
use Rattle.mdl_build.proofs.Sound.{drawn_model}

-- an item of a list among others
abbrev Among : {A : Type 0} → List A → A → Type 0
Among xs x = (k : ℕ) × (slice_get xs k ≡ Some x)

behind : {A : Type 0} (xs ys : List A) (x : A) → Among ys x → Among (xs ++ ys) x
behind xs ys x is = (length xs + is.0, get_right xs ys is.0 (length xs + is.0) refl ∙ is.1)

before : {A : Type 0} (xs ys : List A) (x : A) → Among xs x → Among (xs ++ ys) x
before xs ys x is = (is.0, get_left xs ys is.0 x is.1)

flat_among : {A B : Type 0} (f : A → List B) (xs : List A) (k : ℕ) (x : A) (y : B)
    → slice_get xs k ≡ Some x → Among (f x) y → Among (flat_map f xs) y
flat_among f [] k x y at is = absurd (none_some x at)
flat_among f (first ∷ xs) zero x y at is =
    let own : Among (f first) y = subst (λ z. Among (f z) y) (sym (same_Some first x at)) is in
    before (f first) (flat_map f xs) y own
flat_among f (first ∷ xs) (suc k) x y at is =
    behind (f first) (flat_map f xs) y (flat_among f xs k x y at is)

pair_there : {A B : Type 0} (xs : List A) (ys : List B) (k : ℕ) (x : A) (y : B)
    → slice_get xs k ≡ Some x → slice_get ys k ≡ Some y → slice_get (zip xs ys) k ≡ Some (x, y)
pair_there [] ys k x y here there = absurd (none_some x here)
pair_there (a ∷ xs) [] k x y here there = absurd (none_some y there)
pair_there (a ∷ xs) (b ∷ ys) zero x y here there =
    ap (λ z. Some (z, b)) (same_Some a x here) ∙ ap (λ z. Some (x, z)) (same_Some b y there)
pair_there (a ∷ xs) (b ∷ ys) (suc k) x y here there = pair_there xs ys k x y here there

-- a model whose filters begin at these places
abbrev expanded : Decimal → List ℕ → List DrawnBlock → List NestedLine → Nested
expanded other sizes drawn lines = record {
  blocks = expanded_blocks other (starts 0 sizes) drawn;
  lines = expanded_lines (starts 0 sizes) drawn lines;
}

-- in a model as it is drawn
module _ (counted : BlocksAreCounted) (other : Decimal) (drawn : List DrawnBlock) (lines : List NestedLine)
    (are : IsDrawnModel (extents_of drawn) drawn lines) (number place : ℕ) (own : DrawnBlock) (fir : Fir)
    (there : slice_get drawn number ≡ Some own) (filter : own.filter ≡ Some fir)
    (place_is : slice_get (starts 0 (extents_of drawn)) number ≡ Some place)
  where
    abbrev lines_at : ℕ × DrawnBlock → List NestedLine
    lines_at entry = filling_lines entry.0 entry.1.filter

    drawn_has : HasFilter other (expanded other (extents_of drawn) drawn lines) place fir
    drawn_has =
        let numbers : List ℕ = numbers_from 0 drawn in
        let firs = are_firs (extents_of drawn) drawn lines are in
        let s = stands counted other (numbers_from 0 drawn) 0 drawn firs number own there in
        let zero_on : 0 + s.place ≡ s.place = omega arith in
        let same : s.place ≡ place = sym zero_on ∙ same_Some (0 + s.place) place (sym s.number ∙ place_is) in
        let all : List NestedLine = flat_map lines_at (zip (numbers_from 0 drawn) drawn) in
        record {
          readable = (are.filters number own fir there filter).1;
          blocks = λ k inner at.
              ap (λ (n : ℕ). slice_get (put_from other (numbers_from 0 drawn) 0 drawn) (suc (n + k))) (sym same)
              ∙ s.inners fir k inner filter at
              ∙ ap (λ (n : ℕ). Some (inner_block n (length (blocks_of other fir)) k inner)) (zero_on ∙ same);
          lines = λ k edge at.
              let inside : slice_get (filling_lines place own.filter) k ≡ Some (inner_line edge) =
              ap (λ (f : Option Fir). slice_get (filling_lines place f) k) filter
              ∙ map_at inner_line (lines_of (place + 1) (length fir.coefficients)) k edge at in
              let pair = pair_there (numbers_from 0 drawn) drawn number place own place_is there in
              behind (map (moved_line (numbers_from 0 drawn)) lines) all (inner_line edge)
              (flat_among lines_at (zip (numbers_from 0 drawn) drawn) number (place, own) (inner_line edge)
              pair (k, inside));
        }

extents_has : BlocksAreCounted → (other : Decimal) (extents : List ℕ) (drawn : List DrawnBlock)
    (lines : List NestedLine) → IsDrawnModel extents drawn lines → (number place : ℕ) (own : DrawnBlock) (fir : Fir)
    → slice_get drawn number ≡ Some own → own.filter ≡ Some fir → slice_get (starts 0 extents) number ≡ Some place
    → HasFilter other (expanded other extents drawn lines) place fir
extents_has counted other extents drawn lines are number place own fir there filter place_is =
    let same : extents ≡ extents_of drawn =
    AllZip-map (λ (own : DrawnBlock). extent_of own.filter) drawn extents are.extents_are in
    let drawn_so = subst (λ (sizes : List ℕ). IsDrawnModel sizes drawn lines) same are in
    let begins = ap (λ (sizes : List ℕ). slice_get (starts 0 sizes) number) (sym same) ∙ place_is in
    subst (λ (sizes : List ℕ). HasFilter other (expanded other sizes drawn lines) place fir) (sym same)
    (drawn_has counted other drawn lines drawn_so number place own fir there filter begins)

pub filters_stand : ValuesAreOne → BlocksAreCounted → FiltersStand
filters_stand values counted tree nested is place fir at other =
    let are : AreDrawn tree.items is.extents is.drawn (tree_lines tree.items) = record {
      structured = is.structured;
      known = is.known;
      blocks = is.are_drawn;
      lines = refl;
    } in
    let model = drawn_model values tree.items is.extents is.drawn (tree_lines tree.items) is.are_extents are in
    let whole = extents_has counted other is.extents is.drawn (tree_lines tree.items) model at.number
    place at.drawn fir at.there at.filter at.place_is in
    subst (λ (n : Nested). HasFilter other n place fir)
    (λ i. record { blocks = sym (is.blocks other) i; lines = sym is.lines i }) whole
