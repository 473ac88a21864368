-- The blocks of a filter are as wide as its input.
use Rattle.std.proofs.Common.{◌≡◌, ℕ, zero, suc, ◌<◌, ◌≤◌, min, max, Bool, false, List, [], ◌∷◌, length, map, Option, Some, slice_get, replicate, ap, sym, ◌∙◌, subst, refl, arith}
use Rattle.std.specs.Prelude.{slice_index_or}
use Rattle.std.proofs.lemmas.List.{length-map, length-replicate}
use Rattle.std.proofs.lemmas.Option.{none-some, same_Some, slice_get_within, get_or_from_slice_get}
use Rattle.fx_type.specs.declared.spec.TypeSpec.TheVariants.{Internal}
use Rattle.math_list.proofs.Places.{held, get_some, there_map, map_there}
use Rattle.dg_waves.proofs.WaveRounds.{round_at, length_after}
use Rattle.dg_model.specs.declared.diagram.Block.{Block}
use Rattle.dg_model.specs.declared.diagram.Diagram.{Diagram}
use Rattle.dg_model.specs.declared.diagram.Edge.{Edge}
use Rattle.dg_model.specs.declared.kind.Kind.{Kind}
use Rattle.dg_model.specs.declared.kind.Kind.TheVariants.{Pass, Delay, Gain, Sum}
use Rattle.dg_model.specs.KindRow.{Shape}
use Rattle.dg_model.specs.Checked.{IsChecked}
use Rattle.dg_model.specs.Convolution.{Taps, IsFilter, IsKindAt, tap, product, sum_of}
use Rattle.dg_model.specs.Library.{row_of}
use Rattle.dg_model.specs.Readable.{IsReadable, HasPorts}
use Rattle.dg_model.specs.Widths.{Widths, width_at, input_widths, list_length, taken, most_width, next_of, next_widths, first_of, first_widths, widths_after, widths_of}
use Rattle.math_list.specs.Numbers.{greatest}
use Rattle.dg_model.specs.Wires.{driver_of, edges_into}
use Rattle.dg_tables.proofs.Edges.{edges_length, edge_at}

-- ---- the greatest of a list

greatest_most : (xs : List ℕ) (bound : ℕ) → ((i x : ℕ) → slice_get xs i ≡ Some x → x ≤ bound) → greatest xs ≤ bound
greatest_most [] bound each = omega arith
greatest_most (x ∷ xs) bound each =
    let own = each 0 x refl in
    let more = greatest_most xs bound (λ i. each (suc i)) in
    omega (arith, own, more)

greatest_least : (xs : List ℕ) (i x : ℕ) → slice_get xs i ≡ Some x → x ≤ greatest xs
greatest_least [] i x at = absurd (none-some x at)
greatest_least (y ∷ xs) zero x at = let same = same_Some y x at in omega (arith, same)
greatest_least (y ∷ xs) (suc i) x at = let more = greatest_least xs i x at in omega (arith, more)

module _ (diagram : Diagram) (checked : IsChecked diagram) where
  -- the width of a block after so many rounds
  abbrev after : ℕ → ℕ → ℕ
  after rounds place = width_at (widths_after diagram rounds) place 1

  abbrev inputs_after : ℕ → ℕ → List ℕ
  inputs_after rounds place = input_widths diagram (widths_after diagram rounds) place

  ports : (place : ℕ) (kind : Kind) (b : Block) → IsKindAt diagram place kind b → HasPorts kind b.inputs b.outputs
  ports place kind b is = subst (λ (k : Kind). HasPorts k b.inputs b.outputs) is.kind_is (held IsReadable diagram.blocks place b checked.wired.blocks is.block_is).ports

  rounds_long : (rounds : ℕ) → length (widths_after diagram rounds) ≡ length diagram.blocks
  rounds_long rounds = length_after (next_widths diagram) rounds (first_widths diagram)
      ∙ length-map diagram.blocks
      (λ (block : Block). first_of (row_of block.kind).signal.shape (row_of block.kind).signal.width)

  -- what a block that works element by element takes
  abbrev taken_by : Kind → ℕ → List ℕ → ℕ
  taken_by kind own inputs = min most_width (max own (max (greatest inputs) (list_length kind)))

  next_is : (place : ℕ) (kind : Kind) (b : Block) → IsKindAt diagram place kind b → (row_of kind).signal.shape ≡ Shape.Elementwise → (widths : Widths)
      → next_widths diagram widths place ≡ taken_by kind (width_at widths place 1) (input_widths diagram widths place) ∷ []
  next_is place kind b is shape widths =
      ap (λ (o : Option Block). next_of o (width_at widths place 1) (input_widths diagram widths place)) is.block_is
      ∙ ap (λ (k : Kind). map (min most_width) (taken (row_of k).signal.shape (list_length k) (width_at widths place 1) (input_widths diagram widths place))) is.kind_is
      ∙ ap (λ (s : Shape). map (min most_width) (taken s (list_length kind) (width_at widths place 1) (input_widths diagram widths place))) shape

  after_next : (rounds place : ℕ) (kind : Kind) (b : Block) → IsKindAt diagram place kind b
      → (row_of kind).signal.shape ≡ Shape.Elementwise
      → after (suc rounds) place ≡ taken_by kind (after rounds place) (inputs_after rounds place)
  after_next rounds place kind b is shape =
      let below : place < length (widths_after diagram rounds) = subst (λ (n : ℕ). place < n) (sym (rounds_long rounds)) (slice_get_within diagram.blocks place b is.block_is) in
      let there = round_at (next_widths diagram) (widths_after diagram rounds) place below in
      ap (λ (own : List ℕ). slice_index_or own 0 0)
      (get_or_from_slice_get (widths_after diagram (suc rounds)) place
      (next_widths diagram (widths_after diagram rounds) place) [] there
      ∙ next_is place kind b is shape (widths_after diagram rounds))

  after_first : (place : ℕ) (kind : Kind) (b : Block) → IsKindAt diagram place kind b → (row_of kind).signal.shape ≡ Shape.Elementwise → (row_of kind).signal.width ≡ 0 → after 0 place ≡ 1
  after_first place kind b is shape declared =
      let there = there_map (λ (block : Block). first_of (row_of block.kind).signal.shape (row_of block.kind).signal.width) diagram.blocks place b is.block_is in
      ap (λ (own : List ℕ). slice_index_or own 0 0) (get_or_from_slice_get (first_widths diagram) place (first_of (row_of b.kind).signal.shape (row_of b.kind).signal.width) [] there
      ∙ ap (λ (k : Kind). first_of (row_of k).signal.shape (row_of k).signal.width) is.kind_is
      ∙ ap (λ (s : Shape). first_of s (row_of kind).signal.width) shape ∙ ap (λ (w : ℕ). first_of Shape.Elementwise w) declared)

  -- widths grow, and aren't past the cut
  within_cut : (rounds place : ℕ) (kind : Kind) (b : Block) → IsKindAt diagram place kind b
      → (row_of kind).signal.shape ≡ Shape.Elementwise → (row_of kind).signal.width ≡ 0
      → (1 ≤ after rounds place) × (after rounds place ≤ 1025)
  within_cut zero place kind b is shape declared = let one = after_first place kind b is shape declared in (omega (arith, one), omega (arith, one))
  within_cut (suc rounds) place kind b is shape declared =
      let before = within_cut rounds place kind b is shape declared in
      let next = after_next rounds place kind b is shape in
      (omega (arith, before.0, before.1, next), omega (arith, next))

  grows : (rounds place : ℕ) (kind : Kind) (b : Block) → IsKindAt diagram place kind b
      → (row_of kind).signal.shape ≡ Shape.Elementwise → (row_of kind).signal.width ≡ 0
      → after rounds place ≤ after (suc rounds) place
  grows rounds place kind b is shape declared =
      let before = within_cut rounds place kind b is shape declared in
      let next = after_next rounds place kind b is shape in
      omega (arith, before.1, next)

  -- ---- inputs

  inputs_most : (widths : Widths) (place : ℕ) (b : Block) → slice_get diagram.blocks place ≡ Some b → (bound : ℕ)
      → ((i : ℕ) (edge : Edge) → i < b.inputs → driver_of diagram place (suc i) ≡ Some edge → width_at widths edge.from edge.from_port ≤ bound) → greatest (input_widths diagram widths place) ≤ bound
  inputs_most widths place b at bound each = greatest_most (input_widths diagram widths place) bound (λ i x there.
      let from = map_there (λ (edge : Edge). width_at widths edge.from edge.from_port) (edges_into diagram place) i x there in
      let below : i < b.inputs = subst (λ (n : ℕ). i < n) (edges_length diagram checked.wired place b at) (slice_get_within (edges_into diagram place) i from.0 from.1) in
      let own = edge_at diagram checked.wired place b at i below in
      let same : own.0 ≡ from.0 = same_Some own.0 from.0 (sym own.1 ∙ from.1) in
      let driver : driver_of diagram place (suc i) ≡ Some from.0 = own.2 ∙ ap (λ (e : Edge). Some e) same in
      let bounded = each i from.0 below driver in
      omega (arith, bounded, from.2))

  input_least : (widths : Widths) (place : ℕ) (b : Block) → slice_get diagram.blocks place ≡ Some b
      → (i : ℕ) (edge : Edge) → i < b.inputs → driver_of diagram place (suc i) ≡ Some edge
      → width_at widths edge.from edge.from_port ≤ greatest (input_widths diagram widths place)
  input_least widths place b at i edge below driver =
      let own = edge_at diagram checked.wired place b at i below in
      let same : own.0 ≡ edge = same_Some own.0 edge (sym own.2 ∙ driver) in
      greatest_least (input_widths diagram widths place) i (width_at widths edge.from edge.from_port)
      (there_map (λ (e : Edge). width_at widths e.from e.from_port) (edges_into diagram place) i own.0 own.1 ∙ ap (λ (e : Edge). Some (width_at widths e.from e.from_port)) same)

  -- ---- after all rounds

  abbrev width : ℕ → ℕ
  width place = width_at (widths_of diagram) place 1

  -- an input is no wider than the block
  wide : (place : ℕ) (kind : Kind) (b : Block) → IsKindAt diagram place kind b
      → (row_of kind).signal.shape ≡ Shape.Elementwise → 1 ≤ b.outputs → (i : ℕ) (edge : Edge) → i < b.inputs
      → driver_of diagram place (suc i) ≡ Some edge
      → width_at (widths_of diagram) edge.from edge.from_port ≤ width place
  wide place kind b is shape some i edge below driver =
      let keeps = checked.dimensions.blocks place b is.block_is in
      let own : taken_by kind (width place) (input_widths diagram (widths_of diagram) place) ∷ []
      ≡ slice_index_or (widths_of diagram) place [] =
      sym (next_is place kind b is shape (widths_of diagram)) ∙ keeps.settled in
      let long : 0 < length (slice_index_or (widths_of diagram) place []) = subst (λ (list : List ℕ). 0 < length list) own (omega arith) in
      let small : width place ≤ 1024 = keeps.within some 0 0 long in
      let same : taken_by kind (width place) (input_widths diagram (widths_of diagram) place) ≡ width place = ap (λ (list : List ℕ). slice_index_or list 0 0) own in
      let least = input_least (widths_of diagram) place b is.block_is i edge below driver in
      omega (arith, small, same, least)

  -- ---- a filter

  module _ (first : ℕ) (taps : Taps) (sum : Block) (enable : Option ℕ) (reset : Bool) (filter : IsFilter diagram first taps sum enable reset) where
    abbrev count : ℕ
    count = length taps.coefficients

    input_is : IsKindAt diagram first (Pass 0) filter.input.0
    input_is = filter.input.1

    -- of one input
    only_first : (place : ℕ) (b : Block) (edge : Edge) → b.inputs ≡ 1 → driver_of diagram place 1 ≡ Some edge
        → (i : ℕ) (own : Edge) → i < b.inputs → driver_of diagram place (suc i) ≡ Some own → own ≡ edge
    only_first place b edge one driver zero own below at = same_Some own edge (sym at ∙ driver)
    only_first place b edge one driver (suc i) own below at = absurd (omega (arith, below, one))

    -- a block is no wider than the filter's input, if its inputs weren't
    no_wider : (rounds place : ℕ) (kind : Kind) (b : Block) → IsKindAt diagram place kind b
        → (row_of kind).signal.shape ≡ Shape.Elementwise → list_length kind ≤ 1
        → after rounds place ≤ after rounds first
        → ((i : ℕ) (edge : Edge) → i < b.inputs → driver_of diagram place (suc i) ≡ Some edge
        → width_at (widths_after diagram rounds) edge.from edge.from_port ≤ after rounds first)
        → after (suc rounds) place ≤ after (suc rounds) first
    no_wider rounds place kind b is shape lists own inputs =
        let next = after_next rounds place kind b is shape in
        let most = inputs_most (widths_after diagram rounds) place b is.block_is (after rounds first) inputs in
        let some = within_cut rounds first (Pass 0) filter.input.0 input_is refl refl in
        let more = grows rounds first (Pass 0) filter.input.0 input_is refl refl in
        omega (arith, next, lists, own, most, some.0, more)

    tap_most : (rounds k : ℕ) → k < count → after rounds (tap first k) ≤ after rounds first
    tap_most rounds zero inside = let same : tap first 0 ≡ first = omega arith in let e : after rounds (tap first 0) ≡ after rounds first = ap (after rounds) same in omega (arith, e)
    tap_most zero (suc k) inside =
        let value = get_some taps.initial k (omega (arith, inside, filter.values)) in
        let delay = filter.delays k value.0 value.1 in
        let own = after_first (tap first (suc k)) (Delay 1 (value.0 ∷ []) reset) delay.0 delay.1 refl refl in
        let base = after_first first (Pass 0) filter.input.0 input_is refl refl in
        omega (arith, own, base)
    tap_most (suc rounds) (suc k) inside =
        let value = get_some taps.initial k (omega (arith, inside, filter.values)) in
        let delay = filter.delays k value.0 value.1 in
        let one : delay.0.inputs ≡ 1 = (ports (tap first (suc k)) (Delay 1 (value.0 ∷ []) reset) delay.0 delay.1).0 in
        let before = tap_most rounds k (omega (arith, inside)) in
        no_wider rounds (tap first (suc k)) (Delay 1 (value.0 ∷ []) reset) delay.0 delay.1 refl (omega arith) (tap_most rounds (suc k) inside) (λ i edge below driver.
        let same = only_first (tap first (suc k)) delay.0 _ one delay.3 i edge below driver in
        subst (λ (e : Edge). width_at (widths_after diagram rounds) e.from e.from_port ≤ after rounds first) (sym same) before)

    product_most : (rounds k : ℕ) → k < count → after rounds (product first taps k) ≤ after rounds first
    product_most zero k inside =
        let coefficient = get_some taps.coefficients k inside in
        let gain = filter.products k coefficient.0 coefficient.1 in
        let own = after_first (product first taps k) (Gain (coefficient.0 ∷ []) taps.param) gain.0 gain.1 refl refl in
        let base = after_first first (Pass 0) filter.input.0 input_is refl refl in
        omega (arith, own, base)
    product_most (suc rounds) k inside =
        let coefficient = get_some taps.coefficients k inside in
        let gain = filter.products k coefficient.0 coefficient.1 in
        let one : gain.0.inputs ≡ 1 = (ports (product first taps k) (Gain (coefficient.0 ∷ []) taps.param) gain.0 gain.1).0 in
        no_wider rounds (product first taps k) (Gain (coefficient.0 ∷ []) taps.param) gain.0 gain.1 refl (omega arith) (product_most rounds k inside) (λ i edge below driver.
        let same = only_first (product first taps k) gain.0 _ one gain.3 i edge below driver in
        subst (λ (e : Edge). width_at (widths_after diagram rounds) e.from e.from_port ≤ after rounds first) (sym same) (tap_most rounds k inside))

    sum_ports : HasPorts (Sum (replicate (length taps.coefficients) false) Internal) sum.inputs sum.outputs
    sum_ports = ports (sum_of first taps) (Sum (replicate (length taps.coefficients) false) Internal) sum filter.total

    sum_inputs : sum.inputs ≡ length taps.coefficients
    sum_inputs = sum_ports.0 ∙ length-replicate count false

    sum_most : (rounds : ℕ) → after rounds (sum_of first taps) ≤ after rounds first
    sum_most zero =
        let own = after_first (sum_of first taps) (Sum (replicate (length taps.coefficients) false) Internal) sum filter.total refl refl in
        let base = after_first first (Pass 0) filter.input.0 input_is refl refl in
        omega (arith, own, base)
    sum_most (suc rounds) =
        no_wider rounds (sum_of first taps) (Sum (replicate (length taps.coefficients) false) Internal) sum filter.total refl (omega arith) (sum_most rounds) (λ i edge below driver.
        let inside : i < count = omega (arith, below, sum_inputs) in
        let coefficient = get_some taps.coefficients i inside in
        let gain = filter.products i coefficient.0 coefficient.1 in
        let same = same_Some edge _ (sym driver ∙ gain.4) in
        subst (λ (e : Edge). width_at (widths_after diagram rounds) e.from e.from_port ≤ after rounds first) (sym same) (product_most rounds i inside))

    -- ---- and no narrower

    tap_least : (k : ℕ) → k < count → width first ≤ width (tap first k)
    tap_least zero inside = let same : tap first 0 ≡ first = omega arith in let e : width (tap first 0) ≡ width first = ap width same in omega (arith, e)
    tap_least (suc k) inside =
        let value = get_some taps.initial k (omega (arith, inside, filter.values)) in
        let delay = filter.delays k value.0 value.1 in
        let has = ports (tap first (suc k)) (Delay 1 (value.0 ∷ []) reset) delay.0 delay.1 in
        let inputs : delay.0.inputs ≡ 1 = has.0 in
        let outputs : delay.0.outputs ≡ 1 = has.1 in
        let more = wide (tap first (suc k)) (Delay 1 (value.0 ∷ []) reset) delay.0 delay.1 refl (omega (arith, outputs)) 0 _ (omega (arith, inputs)) delay.3 in
        let before = tap_least k (omega (arith, inside)) in
        omega (arith, more, before)

    product_least : (k : ℕ) → k < count → width first ≤ width (product first taps k)
    product_least k inside =
        let coefficient = get_some taps.coefficients k inside in
        let gain = filter.products k coefficient.0 coefficient.1 in
        let has = ports (product first taps k) (Gain (coefficient.0 ∷ []) taps.param) gain.0 gain.1 in
        let inputs : gain.0.inputs ≡ 1 = has.0 in
        let outputs : gain.0.outputs ≡ 1 = has.1 in
        let more = wide (product first taps k) (Gain (coefficient.0 ∷ []) taps.param) gain.0 gain.1 refl (omega (arith, outputs)) 0 _ (omega (arith, inputs)) gain.3 in
        let before = tap_least k inside in
        omega (arith, more, before)

    sum_least : width first ≤ width (sum_of first taps)
    sum_least =
        let inside : 0 < count = omega (arith, filter.some) in
        let coefficient = get_some taps.coefficients 0 inside in
        let gain = filter.products 0 coefficient.0 coefficient.1 in
        let outputs : sum.outputs ≡ 1 = sum_ports.1 in
        let more = wide (sum_of first taps) (Sum (replicate (length taps.coefficients) false) Internal) sum filter.total refl (omega (arith, outputs)) 0 _ (omega (arith, inside, sum_inputs)) gain.4 in
        let before = product_least 0 inside in
        omega (arith, more, before)

    -- ---- all are as wide

    pub tap_wide : (k : ℕ) → k < count → width (tap first k) ≡ width first
    tap_wide k inside = let most = tap_most (length diagram.blocks) k inside in let least = tap_least k inside in omega (arith, most, least)

    pub product_wide : (k : ℕ) → k < count → width (product first taps k) ≡ width first
    product_wide k inside = let most = product_most (length diagram.blocks) k inside in let least = product_least k inside in omega (arith, most, least)

    pub sum_wide : width (sum_of first taps) ≡ width first
    sum_wide = let most = sum_most (length diagram.blocks) in let least = sum_least in omega (arith, most, least)
