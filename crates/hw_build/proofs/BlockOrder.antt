-- The places of blocks in the order of a checked diagram, and those of root inputs among columns.
use Rattle.std.proofs.Common.{◌≡◌, ◌≢◌, ℕ, zero, suc, ◌+◌, ◌<◌, ◌≤◌, inl, inr, true, false, Bool, List, [], ◌∷◌, length, Some, ap, sym, ◌∙◌, refl, arith}
use Rattle.std.specs.Prelude.{slice_get, slice_index_or, ◌==◌, not, pos, negsuc, ℤ, cond}
use Rattle.std.proofs.lemmas.Bool.{false≢true, eq-eqb, eqb-true, cases_Bool}
use Rattle.std.proofs.lemmas.Option.{none-some, same_Some, slice_get_within, slice_get-get_or, get_or_from_slice_get}
use Rattle.math_list.specs.Numbers.{numbers_from}
use Rattle.dg_model.specs.declared.diagram.Diagram.{Diagram}
use Rattle.dg_model.specs.Attributes.{attributes_of}
use Rattle.dg_model.specs.Laws.{ColumnsComeBack}
use Rattle.dg_model.specs.Loop.{IsOrder}
use Rattle.dg_model.specs.RootElements.{RootElement, root_inputs}
use Rattle.dg_model.specs.Wired.{IsWired}
use Rattle.hw_build.specs.declared.operands.Operands.{Operands}
use Rattle.hw_build.specs.inner.ElementStep.{ArePlacedInOrder}
use Rattle.hw_build.specs.inner.LinePlaces.{input_place, line_places}
use Rattle.hw_build.specs.inner.Operands.{first_not, AreLinePlaces}
use Rattle.hw_build.proofs.Fewer.{no_longer}

-- ---- the order

abbrev pub place_in : List ℕ → ℕ → ℕ
place_in order block = first_not (λ other. not (other == block)) order

-- of a list of different numbers
place_is : (order : List ℕ) (k block : ℕ) → slice_get order k ≡ Some block → ((j : ℕ) → j < k → slice_get order j ≢ Some block) → place_in order block ≡ k
place_is [] k block at first = absurd (none-some block at)
place_is (x ∷ order) zero block at first = go (x == block) (eq-eqb x block (same_Some x block at))
  where
    go : (b : Bool) → b ≡ true → cond (not b) (suc (place_in order block)) 0 ≡ 0
    go true is = refl
    go false is = absurd (false≢true is)
place_is (x ∷ order) (suc k) block at first = elim (cases_Bool (x == block)) [
  | inl same ↦ absurd (first 0 (omega arith) (ap (λ (n : ℕ). Some n) (eqb-true x block same)))
  | inr differs ↦ ap (λ (b : Bool). cond (not b) (suc (place_in order block)) 0) differs ∙ ap suc (place_is order k block at (λ j low. first (suc j) (omega (arith, low))))
]

module _ (diagram : Diagram) (order : List ℕ) (is : IsOrder diagram (attributes_of diagram) order) where
  once : (j k block : ℕ) → j < k → slice_get order j ≡ Some block → slice_get order k ≡ Some block → ⊥
  once j k block less one other =
      let low = slice_get_within order k block other in
      is.different j k 0 less low (get_or_from_slice_get order j block 0 one ∙ sym (get_or_from_slice_get order k block 0 other))

  placed : (k block : ℕ) → slice_get order k ≡ Some block → place_in order block ≡ k
  placed k block at = place_is order k block at (λ j less there. once j k block less there at)

  -- each block stands there
  stands : (block : ℕ) → block < length diagram.blocks → (k : ℕ) × (slice_get order k ≡ Some block)
  stands block below = let found = is.all block below in (found.0, slice_get-get_or order found.0 found.1 found.2 ∙ ap (λ (n : ℕ). Some n) (found.3 ∙ found.4))

  numbered : (from n k : ℕ) → k < n → slice_get (numbers_from from n) k ≡ Some (from + k)
  numbered from zero k below = absurd (omega (arith, below))
  numbered from (suc n) zero below = let e : from ≡ from + 0 = omega arith in ap (λ (x : ℕ). Some x) e
  numbered from (suc n) (suc k) below = let e : suc from + k ≡ from + suc k = omega arith in numbered (suc from) n k (omega (arith, below)) ∙ ap (λ (x : ℕ). Some x) e

  count_is : (from n : ℕ) → length (numbers_from from n) ≡ n
  count_is from zero = refl
  count_is from (suc n) = ap suc (count_is (suc from) n)

  short : length order ≤ length diagram.blocks
  short =
      let fits = no_longer order (numbers_from 0 (length diagram.blocks))
      (λ k block at.
      let low = slice_get_within order k block at in
      let same : slice_index_or order k 0 ≡ block = get_or_from_slice_get order k block 0 at in
      let below = is.there k 0 low in
      record { place = block; at = numbered 0 (length diagram.blocks) block (omega (arith, same, below)) ∙ (let e : 0 + block ≡ block = omega arith in ap (λ (x : ℕ). Some x) e) })
      (record { apart = λ j k x y less one other same. once j k x less one (other ∙ ap (λ (n : ℕ). Some n) (sym same)) }) in
      let size = count_is 0 (length diagram.blocks) in
      omega (arith, fits, size)

  -- so they have places, in the order of instant edges
  pub in_order : ArePlacedInOrder diagram (place_in order)
  in_order = record {
    below = λ block low.
        let at = stands block low in
        let here = placed at.0 block at.1 in
        let inside = slice_get_within order at.0 block at.1 in
        let few = short in
        omega (arith, here, inside, few);
    rise = λ from to low leads.
        let at = stands to low in
        let earlier = is.after at.0 to from at.1 leads in
        let here = placed at.0 to at.1 in
        let there = placed earlier.0 from earlier.2 in
        let less = earlier.1 in
        omega (arith, here, there, less);
  }

-- ---- root inputs

pub input_is : (diagram : Diagram) → IsWired diagram → ColumnsComeBack → (k : ℕ) (e : RootElement)
    → slice_get (root_inputs diagram (attributes_of diagram)) k ≡ Some e
    → input_place diagram e.number e.element ≡ k
input_is diagram wired back k e at = let same : pos (input_place diagram e.number e.element) ≡ pos k = back diagram (attributes_of diagram) (λ place t. pos place) k e 0 wired at in ap number_in same
  where
    number_in : ℤ → ℕ
    number_in (pos n) = n
    number_in (negsuc n) = 0

pub lines_are_placed : (diagram : Diagram) (firsts : List (List ℕ)) (operands : Operands) → IsWired diagram
    → ColumnsComeBack → AreLinePlaces diagram firsts operands (line_places diagram firsts operands)
lines_are_placed diagram firsts operands wired back = record {
  input = input_is diagram wired back;
  after = λ block b port element shown. refl;
  offered = λ block port element. refl;
  enable = λ block. refl;
  first = λ block element. refl;
}
