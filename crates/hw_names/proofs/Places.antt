-- Where the elements of root ports stand among the columns.
use Rattle.std.proofs.Common.{◌≡◌, ◌≢◌, ℕ, suc, ◌+◌, ◌-◌, ◌<◌, ◌≤◌, inl, inr, List, [], ◌∷◌, ◌++◌, length, map, All, Option, None, Some, ap, sym, ◌∙◌, subst, arith, refl}
use Rattle.std.specs.Prelude.{slice_get, slice_set, slice_index_or}
use Rattle.std.specs.List.{flat_map, position}
use Rattle.std.proofs.lemmas.Bool.{cases_lt}
use Rattle.std.proofs.lemmas.List.{length-map, get_or-set_same, get_or-set_other}
use Rattle.std.proofs.lemmas.Option.{none-some, same_Some, slice_get_within, slice_get-get_or}
use Rattle.math_list.proofs.Places.{get_front, get_right, map_there, there_map}
use Rattle.math_list.specs.Numbers.{numbers_from}
use Rattle.math_list.proofs.Numbers.{length_numbers, mapped_at}
use Rattle.dg_model.specs.declared.diagram.Diagram.{Diagram}
use Rattle.dg_model.specs.declared.row.Role.{Role}
use Rattle.dg_model.specs.Attributes.{attributes_of}
use Rattle.dg_model.specs.Signals.{Attributes}
use Rattle.dg_model.specs.Laws.{AreRootElements}
use Rattle.dg_model.specs.RootElements.{RootElement, root_element, elements_of_port, has_number, number_in, root_elements}
use Rattle.dg_tables.specs.Listing.{AreBlocksOf}
use Rattle.hw_names.specs.Columns.{AreColumnsFrom}

pub columns_more : (inputs columns : List ℕ) (left block : ℕ) → AreColumnsFrom inputs columns (suc left)
    → slice_get inputs left ≡ Some block → block < length columns
    → AreColumnsFrom inputs (slice_set columns block left) left
columns_more inputs columns left block are at inside = record {
  least = λ k other k_at low.
      elim (cases_lt block other) [
        | inl less ↦ apart k other k_at low (λ e. absurd (omega (arith, less, e)))
        | inr more ↦ elim (cases_lt other block) [
          | inl past ↦ apart k other k_at low (λ e. absurd (omega (arith, past, e)))
          | inr equal ↦
              let same : other ≡ block = omega (arith, more, equal) in
              let set : slice_index_or (slice_set columns block left) other 0 ≡ left =
              ap (λ (x : ℕ). slice_index_or (slice_set columns block left) x 0) same
              ∙ get_or-set_same columns block left 0 inside in
              (ap (slice_get inputs) set ∙ at ∙ ap (λ (x : ℕ). Some x) (sym same), omega (arith, set, low))
        ]
      ];
}
  where
    apart : (k other : ℕ) → slice_get inputs k ≡ Some other → left ≤ k → other ≢ block
        → (slice_get inputs (slice_index_or (slice_set columns block left) other 0) ≡ Some other)
        × (slice_index_or (slice_set columns block left) other 0 ≤ k)
    apart k other k_at low differ =
        let set : slice_index_or (slice_set columns block left) other 0 ≡ slice_index_or columns other 0 = get_or-set_other columns block other left 0 differ in
        elim (cases_lt left k) [
          | inl above ↦ let h = are.least k other k_at above in (ap (slice_get inputs) set ∙ h.0, omega (arith, set, h.1))
          | inr last ↦
              let same : k ≡ left = omega (arith, low, last) in
              absurd (differ (same_Some other block (sym k_at ∙ ap (slice_get inputs) same ∙ at)))
        ]

element_at : (a : Attributes) (n own wide k : ℕ) → k < wide → slice_get (map (root_element a n own) (numbers_from 0 wide)) k ≡ Some (root_element a n own k)
element_at a n own wide k below = let e : 0 + k ≡ k = omega arith in mapped_at (root_element a n own) 0 wide k below ∙ ap (λ (x : ℕ). Some (root_element a n own x)) e

-- the elements of a port stand one behind another
module _ (a : Attributes) (width_of : ℕ → ℕ) where
  run_by : (o : Option ℕ) (n : ℕ) (rest : List RootElement) (k number block m : ℕ) → slice_get (elements_of_port a width_of n o ++ rest) k ≡ Some (root_element a number block 0) → m < width_of block
      → ((j : ℕ) → slice_get rest j ≡ Some (root_element a number block 0) → slice_get rest (j + m) ≡ Some (root_element a number block m))
      → slice_get (elements_of_port a width_of n o ++ rest) (k + m) ≡ Some (root_element a number block m)
  run_by None n rest k number block m at below next = next k at
  run_by (Some own) n rest k number block m at below next =
      let part : List RootElement = map (root_element a n own) (numbers_from 0 (width_of own)) in
      let size : length part ≡ width_of own = length-map (numbers_from 0 (width_of own)) (root_element a n own) ∙ length_numbers 0 (width_of own) in
      elim (cases_lt k (length part)) [
        | inl less ↦
            let here : slice_get part k ≡ Some (root_element a n own k) = element_at a n own (width_of own) k (omega (arith, less, size)) in
            let same : root_element a n own k ≡ root_element a number block 0 = same_Some (root_element a n own k) (root_element a number block 0) (sym here ∙ sym (get_front part rest k less) ∙ at) in
            let number_is : n ≡ number = ap (λ (e : RootElement). e.number) same in
            let block_is : own ≡ block = ap (λ (e : RootElement). e.block) same in
            let first : k ≡ 0 = ap (λ (e : RootElement). e.element) same in
            let wide : width_of own ≡ width_of block = ap width_of block_is in
            let place : k + m ≡ m = omega (arith, first) in
            ap (slice_get (part ++ rest)) place ∙ get_front part rest m (omega (arith, below, wide, size)) ∙ element_at a n own (width_of own) m (omega (arith, below, wide))
            ∙ ap (λ (x : ℕ). Some (root_element a x own m)) number_is ∙ ap (λ (x : ℕ). Some (root_element a number x m)) block_is
        | inr past ↦
            let j : ℕ = k - length part in
            let split : k ≡ length part + j = omega (arith, past) in
            let later : k + m ≡ length part + (j + m) = omega (arith, split) in
            ap (slice_get (part ++ rest)) later ∙ get_right part rest (j + m) ∙ next j (sym (get_right part rest j) ∙ ap (slice_get (part ++ rest)) (sym split) ∙ at)
      ]

  run : (place_of : ℕ → Option ℕ) (ns : List ℕ) (k number block m : ℕ)
      → slice_get (flat_map (λ n. elements_of_port a width_of n (place_of n)) ns) k
      ≡ Some (root_element a number block 0) → m < width_of block
      → slice_get (flat_map (λ n. elements_of_port a width_of n (place_of n)) ns) (k + m) ≡ Some (root_element a number block m)
  run place_of [] k number block m at below = absurd (none-some (root_element a number block 0) at)
  run place_of (n ∷ ns) k number block m at below =
      run_by (place_of n) n (flat_map (λ n. elements_of_port a width_of n (place_of n)) ns) k number block m at below (λ j h. run place_of ns j number block m h below)

-- the elements of root ports, inputs or outputs, by the columns at which their blocks first stand
module _ (number_of : Role → Option ℕ) (width_of : ℕ → ℕ) (diagram : Diagram)
    (all : AreRootElements number_of width_of diagram (attributes_of diagram)
    (root_elements number_of width_of diagram (attributes_of diagram))) where
  abbrev elements : List RootElement
  elements = root_elements number_of width_of diagram (attributes_of diagram)

  -- the first column of its block, and its place there
  pub place_is : (inputs columns : List ℕ) (k : ℕ) (e : RootElement) → AreBlocksOf elements inputs
      → AreColumnsFrom inputs columns 0 → slice_get elements k ≡ Some e
      → slice_index_or columns e.block 0 + e.element ≡ k
  place_is inputs columns k e blocks are at =
      let of = all.elements_of k e at in
      let low = of.3 in
      let first = all.has_each e.block of.0 e.number 0 of.1 of.2 (omega (arith, low)) in
      let reach : (j : ℕ) (f : RootElement) → slice_get elements j ≡ Some f → f.block ≡ e.block → f.number ≡ e.number → j ≡ first.0 + f.element =
      λ j f f_at block_is number_is.
      let of_f = all.elements_of j f f_at in
      let low_f = of_f.3 in
      let wide : width_of f.block ≡ width_of e.block = ap width_of block_is in
      let here = run (attributes_of diagram) width_of
      (λ number. position (has_number number_of number) diagram.blocks)
      (numbers_from 1 _) first.0 e.number e.block f.element first.1 (omega (arith, low_f, wide)) in
      all.different j (first.0 + f.element) f (root_element (attributes_of diagram) e.number e.block f.element) f_at here number_is refl
      in
      let block_at : slice_get inputs first.0 ≡ Some e.block =
      ap (λ (xs : List ℕ). slice_get xs first.0) blocks
      ∙ there_map (λ (x : RootElement). x.block) elements first.0
      (root_element (attributes_of diagram) e.number e.block 0) first.1 in
      let least = are.least first.0 e.block block_at (omega arith) in
      let found = map_there (λ (x : RootElement). x.block) elements (slice_index_or columns e.block 0) e.block
      (sym (ap (λ (xs : List ℕ). slice_get xs (slice_index_or columns e.block 0)) blocks) ∙ least.0) in
      let of_found = all.elements_of (slice_index_or columns e.block 0) found.0 found.1 in
      let same : of_found.0 ≡ of.0 = same_Some of_found.0 of.0 (sym of_found.1 ∙ ap (slice_get diagram.blocks) found.2 ∙ of.1) in
      let number_is : found.0.number ≡ e.number = same_Some found.0.number e.number (sym of_found.2 ∙ ap (number_in number_of) same ∙ of.2) in
      let there = reach (slice_index_or columns e.block 0) found.0 found.1 found.2 number_is in
      let own = reach k e at refl refl in
      let most = least.1 in
      omega (arith, there, own, most)

  -- their blocks are there
  pub blocks_there : (blocks : List ℕ) → AreBlocksOf elements blocks → All (λ block. block < length diagram.blocks) blocks
  blocks_there blocks are = λ k d within.
      let found = map_there (λ (x : RootElement). x.block) elements k (slice_index_or blocks k d) (sym (ap (λ (xs : List ℕ). slice_get xs k) are) ∙ slice_get-get_or blocks k d within) in
      let of = all.elements_of k found.0 found.1 in
      subst (λ (x : ℕ). x < length diagram.blocks) found.2 (slice_get_within diagram.blocks found.0.block of.0 of.1)
