-- All signals of a diagram whose blocks work on one element alone have one element.
use Rattle.std.proofs.Common.{◌≡◌, ℕ, zero, suc, ◌<◌, ◌≤◌, ◌-◌, min, max, List, [], ◌∷◌, length, map, Option, Some, slice_get, ap, sym, ◌∙◌, subst, inl, inr, arith}
use Rattle.std.specs.Prelude.{slice_index_or}
use Rattle.std.proofs.lemmas.Bool.{cases_lt}
use Rattle.std.proofs.lemmas.List.{get_or_past, length-map}
use Rattle.std.proofs.lemmas.Option.{get_or_from_slice_get, slice_get_within}
use Rattle.math_list.proofs.Places.{get_some, there_map}
use Rattle.math_list.specs.Numbers.{greatest}
use Rattle.dg_model.specs.declared.diagram.Block.{Block}
use Rattle.dg_model.specs.declared.diagram.Diagram.{Diagram}
use Rattle.dg_model.specs.declared.diagram.Edge.{Edge}
use Rattle.dg_model.specs.KindRow.{Shape}
use Rattle.dg_model.specs.Library.{row_of}
use Rattle.dg_model.specs.Widths.{Widths, width_at, input_widths, list_length, taken, most_width, next_of, next_widths, first_of, first_widths, widths_after, widths_of}
use Rattle.dg_model.specs.Wires.{edges_into}
use Rattle.laws_samples.specs.Shape.{IsSingle}
use Rattle.laws_samples.proofs.Rounds.{round_at, length_after}

one_small : (k : ℕ) → slice_index_or (1 ∷ []) k 0 ≤ 1
one_small zero = omega arith
one_small (suc k) = omega arith

greatest_small : {A : Type 0} (f : A → ℕ) → ((x : A) → f x ≤ 1) → (xs : List A) → greatest (map f xs) ≤ 1
greatest_small f small [] = omega arith
greatest_small f small (x ∷ xs) = let own = small x in let more = greatest_small f small xs in omega (arith, own, more)

module _ (diagram : Diagram) (single : (place : ℕ) (b : Block) → slice_get diagram.blocks place ≡ Some b → IsSingle b.kind) where
  rounds_long : (rounds : ℕ) → length (widths_after diagram rounds) ≡ length diagram.blocks
  rounds_long rounds = length_after (next_widths diagram) rounds (first_widths diagram)
      ∙ length-map diagram.blocks (λ (block : Block). first_of (row_of block.kind).signal.shape (row_of block.kind).signal.width)

  -- each block has one width, which is 1
  abbrev AreOne : Widths → Type 0
  AreOne widths = (length widths ≡ length diagram.blocks) × ((place : ℕ) → place < length diagram.blocks → slice_index_or widths place [] ≡ 1 ∷ [])

  small : (widths : Widths) → AreOne widths → (place port : ℕ) → width_at widths place port ≤ 1
  small widths one place port = elim (cases_lt place (length diagram.blocks)) [
    | inl below ↦ subst (λ (own : List ℕ). slice_index_or own (port - 1) 0 ≤ 1) (sym (one.1 place below)) (one_small (port - 1))
    | inr past ↦ subst (λ (own : List ℕ). slice_index_or own (port - 1) 0 ≤ 1) (sym (get_or_past widths place [] (omega (arith, past, one.0)))) (omega arith)
  ]

  next_is : (widths : Widths) → AreOne widths → (place : ℕ) (b : Block) → slice_get diagram.blocks place ≡ Some b → next_widths diagram widths place ≡ 1 ∷ []
  next_is widths one place b at =
      let is = single place b at in
      let below : place < length diagram.blocks = slice_get_within diagram.blocks place b at in
      let own : width_at widths place 1 ≡ 1 = ap (λ (ws : List ℕ). slice_index_or ws 0 0) (one.1 place below) in
      let inputs : greatest (input_widths diagram widths place) ≤ 1 = greatest_small (λ (edge : Edge). width_at widths edge.from edge.from_port) (λ edge. small widths one edge.from edge.from_port) (edges_into diagram place) in
      let lists = is.lists in
      ap (λ (o : Option Block). next_of o (width_at widths place 1) (input_widths diagram widths place)) at
      ∙ ap (λ (s : Shape). map (min most_width) (taken s (list_length b.kind) (width_at widths place 1) (input_widths diagram widths place))) is.shape
      ∙ ap (λ (n : ℕ). n ∷ []) (least_one (width_at widths place 1) (greatest (input_widths diagram widths place)) (list_length b.kind) own inputs lists)
    where
      least_one : (own inputs lists : ℕ) → own ≡ 1 → inputs ≤ 1 → lists ≤ 1 → min most_width (max own (max inputs lists)) ≡ 1
      least_one own inputs lists one few short = omega arith

  first_is : (place : ℕ) (b : Block) → slice_get diagram.blocks place ≡ Some b → slice_index_or (first_widths diagram) place [] ≡ 1 ∷ []
  first_is place b at =
      let is = single place b at in
      get_or_from_slice_get (first_widths diagram) place (first_of (row_of b.kind).signal.shape (row_of b.kind).signal.width) []
      (there_map (λ (block : Block). first_of (row_of block.kind).signal.shape (row_of block.kind).signal.width) diagram.blocks place b at)
      ∙ ap (λ (s : Shape). first_of s (row_of b.kind).signal.width) is.shape
      ∙ ap (λ (w : ℕ). first_of Shape.Elementwise w) is.width

  after_is : (rounds : ℕ) → AreOne (widths_after diagram rounds)
  after_is zero = (rounds_long zero, λ place below. let b = get_some diagram.blocks place below in first_is place b.0 b.1)
  after_is (suc rounds) = (
    rounds_long (suc rounds),
    λ place below.
        let b = get_some diagram.blocks place below in
        let long = rounds_long rounds in
        get_or_from_slice_get (widths_after diagram (suc rounds)) place (next_widths diagram (widths_after diagram rounds) place) []
        (round_at (next_widths diagram) (widths_after diagram rounds) place (omega (arith, below, long)))
        ∙ next_is (widths_after diagram rounds) (after_is rounds) place b.0 b.1,
  )

  pub widths_are_one : (place : ℕ) → place < length diagram.blocks → slice_index_or (widths_of diagram) place [] ≡ 1 ∷ []
  widths_are_one = (after_is (length diagram.blocks)).1
