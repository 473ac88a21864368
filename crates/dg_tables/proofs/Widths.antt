-- The rule of dimensions gives each block widths and lists that fit.
use Rattle.std.proofs.Common.{◌≡◌, ℕ, suc, ◌+◌, ◌-◌, ◌<◌, ◌≤◌, ◌⊎◌, inl, inr, min, Bool, true, false, if◌then◌else◌, List, [], ◌∷◌, length, map, sum, All, slice_get, slice_index_or, Option, Some, ap}
use Rattle.std.proofs.Common.{sym, ◌∙◌, subst, refl, arith}
use Rattle.std.proofs.Math.Nat.{min-eq_left, min-eq_right}
use Rattle.std.proofs.lemmas.Bool.{cases_lt}
use Rattle.std.proofs.lemmas.Option.{get_or_from_slice_get, slice_get-get_or}
use Rattle.math_list.specs.Numbers.{numbers_from}
use Rattle.math_list.proofs.Numbers.{mapped_at, length_mapped}
use Rattle.math_list.proofs.Places.{same_places, held, there_map}
use Rattle.dg_model.specs.declared.diagram.Diagram.{Diagram}
use Rattle.dg_model.specs.declared.diagram.Block.{Block}
use Rattle.dg_model.specs.declared.diagram.Edge.{Edge}
use Rattle.dg_model.specs.declared.kind.Kind.{Kind}
use Rattle.dg_model.specs.declared.kind.Kind.TheVariants.{Outport, Mux, Demux, EnableTest}
use Rattle.dg_model.specs.KindRow.{Shape}
use Rattle.dg_model.specs.Library.{row_of}
use Rattle.dg_model.specs.Readable.{HasPorts, IsReadable}
use Rattle.dg_model.specs.Widths.{width_at, input_widths, are_open, share, list_length, taken, most_width, next_of, widths_of}
use Rattle.dg_model.specs.Dimension.{IsRepeated, Agrees, KeepsDimension, KeepsDimensions}
use Rattle.dg_model.specs.Attributes.{attributes_of}
use Rattle.dg_model.specs.Wires.{width_into, widths_into, edges_into}
use Rattle.dg_model.specs.Wired.{IsWired}
use Rattle.dg_model.proofs.Ports.{inputs_are_sources}
use Rattle.dg_tables.proofs.Ground.{HasWidths, HasLists}
use Rattle.dg_tables.proofs.Edges.{edges_length, edge_at, source_at}
use Rattle.std.proofs.lemmas.List.{length-map}

-- a list by its entries
pub listed : (xs : List ℕ) → map (λ port. slice_index_or xs (port - 1) 0) (numbers_from 1 (length xs)) ≡ xs
listed xs = same_places (map (λ port. slice_index_or xs (port - 1) 0) (numbers_from 1 (length xs))) xs (length_mapped (λ port. slice_index_or xs (port - 1) 0) 1 (length xs)) here
  where
    here : (k : ℕ) → k < length (map (λ port. slice_index_or xs (port - 1) 0) (numbers_from 1 (length xs)))
        → slice_get (map (λ port. slice_index_or xs (port - 1) 0) (numbers_from 1 (length xs))) k ≡ slice_get xs k
    here k below =
        let within : k < length xs = subst (λ (n : ℕ). k < n) (length_mapped (λ port. slice_index_or xs (port - 1) 0) 1 (length xs)) below in
        let same : 1 + k - 1 ≡ k = omega arith in
        mapped_at (λ port. slice_index_or xs (port - 1) 0) 1 (length xs) k within ∙ ap (λ (n : ℕ). Some (slice_index_or xs n 0)) same ∙ sym (slice_get-get_or xs k 0 within)

-- a width below the cut isn't cut
uncut : (s : ℕ) → min most_width s ≤ 1024 → min most_width s ≡ s
uncut s small = go (cases_lt most_width s)
  where
    go : (most_width < s) ⊎ (s ≤ most_width) → min most_width s ≡ s
    go (inl l) = let cut : min most_width s ≡ most_width = min-eq_left {n = most_width} {m = s} (omega (arith, l)) in absurd (omega (arith, small, cut))
    go (inr h) = min-eq_right {n = s} {m = most_width} h

module _ (diagram : Diagram) (wired : IsWired diagram) (dimensions : KeepsDimensions diagram) (block : ℕ) (b : Block) (block_is : slice_get diagram.blocks block ≡ Some b) where
  keeps : KeepsDimension diagram (widths_of diagram) block b
  keeps = dimensions.blocks block b block_is

  abbrev own : List ℕ
  own = slice_index_or (widths_of diagram) block []

  abbrev inputs : List ℕ
  inputs = input_widths diagram (widths_of diagram) block

  inputs_length : length inputs ≡ b.inputs
  inputs_length = length-map (edges_into diagram block) (λ (edge : Edge). width_at (widths_of diagram) edge.from edge.from_port) ∙ edges_length diagram wired block b block_is

  -- the width into a port stands in the list
  width_into_at : (i : ℕ) → i < b.inputs → width_into diagram (attributes_of diagram) block (suc i) ≡ slice_index_or inputs i 0
  width_into_at i below =
      let edge = edge_at diagram wired block b block_is i below in
      source_at diagram wired block b block_is 0 (width_at (widths_of diagram)) i edge.0 edge.2
      ∙ sym (get_or_from_slice_get inputs i (width_at (widths_of diagram) edge.0.from edge.0.from_port) 0
      (there_map (λ (edge : Edge). width_at (widths_of diagram) edge.from edge.from_port) (edges_into diagram block) i edge.0 edge.1))

  widths_listed : widths_into diagram (attributes_of diagram) block b.inputs ≡ inputs
  widths_listed = inputs_are_sources 0 (width_at (widths_of diagram)) diagram block b wired block_is

  -- one more round changes nothing
  abbrev Settled : Shape → Kind → Type 0
  Settled shape kind = map (min most_width) (taken shape (list_length kind) (width_at (widths_of diagram) block 1) inputs) ≡ own

  settled : Settled (row_of b.kind).signal.shape b.kind
  settled = subst (λ (o : Option Block). next_of o (width_at (widths_of diagram) block 1) inputs ≡ own) block_is keeps.settled

  repeated_at : All (IsRepeated (slice_index_or own 0 0)) inputs → (input : ℕ) → 1 ≤ input → input ≤ b.inputs
      → IsRepeated (slice_index_or own 0 0) (width_into diagram (attributes_of diagram) block input)
  repeated_at all input from to =
      let below : input - 1 < b.inputs = omega (arith, from, to) in
      let port : suc (input - 1) ≡ input = omega (arith, from) in
      subst (IsRepeated (slice_index_or own 0 0)) (sym (width_into_at (input - 1) below) ∙ ap (λ (n : ℕ). width_into diagram (attributes_of diagram) block n) port)
      (all (input - 1) 0 (subst (λ (n : ℕ). input - 1 < n) (sym inputs_length) below))

  one_output : All (IsRepeated (slice_index_or own 0 0)) inputs → ((output : ℕ) → 1 ≤ output → output ≤ b.outputs → output ≡ 1)
      → (input output : ℕ) → 1 ≤ input → input ≤ b.inputs → 1 ≤ output → output ≤ b.outputs
      → IsRepeated (width_at (widths_of diagram) block output)
      (width_into diagram (attributes_of diagram) block input)
  one_output all one input output from to output_from output_to =
      subst (λ (n : ℕ). IsRepeated (width_at (widths_of diagram) block n)
      (width_into diagram (attributes_of diagram) block input)) (sym (one output output_from output_to))
      (repeated_at all input from to)

  first_own : (xs : List ℕ) → xs ≡ own → slice_index_or xs 0 0 ≡ width_at (widths_of diagram) block 1
  first_own xs e = ap (λ (list : List ℕ). slice_index_or list 0 0) e

  joined : (sizes : List ℕ) → 1 ≤ b.outputs → map (min most_width) (sum inputs ∷ []) ≡ own → width_at (widths_of diagram) block 1 ≡ sum (widths_into diagram (attributes_of diagram) block b.inputs)
  joined sizes some e =
      let first : min most_width (sum inputs) ≡ width_at (widths_of diagram) block 1 = first_own (min most_width (sum inputs) ∷ []) e in
      let long : 0 < length own = subst (λ (list : List ℕ). 0 < length list) e (omega arith) in
      let small : width_at (widths_of diagram) block 1 ≤ 1024 = keeps.within some 0 0 long in
      sym first ∙ uncut (sum inputs) (omega (arith, first, small)) ∙ ap (λ (list : List ℕ). sum list) (sym widths_listed)

  parts_length : (sizes : List ℕ) (kind : Kind) → Settled (Shape.Parted sizes) kind → length own ≡ length sizes
  parts_length sizes kind e = sym (ap (λ (list : List ℕ). length list) e)
      ∙ length-map (taken (Shape.Parted sizes) (list_length kind) (width_at (widths_of diagram) block 1) inputs)
      (min most_width) ∙ go (are_open sizes)
    where
      go : (open_sizes : Bool) → length (if open_sizes then map (share (slice_index_or inputs 0 0) (length sizes)) (numbers_from 0 (length sizes)) else sizes) ≡ length sizes
      go true = length_mapped (share (slice_index_or inputs 0 0) (length sizes)) 0 (length sizes)
      go false = refl

  parted : (sizes : List ℕ) → b.inputs ≡ 1 → length own ≡ b.outputs → slice_index_or inputs 0 0 ≡ sum own
      → width_into diagram (attributes_of diagram) block 1 ≡ sum (map (width_at (widths_of diagram) block) (numbers_from 1 b.outputs))
  parted sizes one size e =
      width_into_at 0 (omega (arith, one)) ∙ e
      ∙ ap (λ (list : List ℕ). sum list) (sym (subst (λ (n : ℕ). map (width_at (widths_of diagram) block) (numbers_from 1 n) ≡ own) size (listed own)))

  fits : (kind : Kind) → HasPorts kind b.inputs b.outputs → Agrees (row_of kind).signal.shape own inputs
      → Settled (row_of kind).signal.shape kind
      → HasWidths diagram (attributes_of diagram) block kind b.inputs b.outputs
  fits (Outport number) ports agrees e = λ input output from to output_from output_to.
      let one : 1 ≡ input = omega (arith, ports.0, from, to) in inr (ap (λ (n : ℕ). width_into diagram (attributes_of diagram) block n) (sym one))
  fits (Mux sizes) ports agrees e = joined sizes (omega (arith, ports.1)) e
  fits (Demux sizes) ports agrees e = parted sizes ports.0 (parts_length sizes (Demux sizes) e ∙ sym ports.1) agrees.1
  fits EnableTest ports agrees e = sym (first_own (min most_width 1 ∷ []) e)
  fits _ ports agrees e = one_output agrees (λ output from to. omega (arith, ports.1, from, to))

  pub widths_fit : HasWidths diagram (attributes_of diagram) block b.kind b.inputs b.outputs
  widths_fit = fits b.kind (held IsReadable diagram.blocks block b wired.blocks block_is).ports keeps.agrees settled

  pub lists_fit : HasLists b.kind ((attributes_of diagram).width_at block 1)
  lists_fit = keeps.lists

  -- it has a width for each of its output ports
  outputs_by : (kind : Kind) → HasPorts kind b.inputs b.outputs → Settled (row_of kind).signal.shape kind → b.outputs ≤ length own
  outputs_by (Demux sizes) ports e = omega (arith, parts_length sizes (Demux sizes) e, ports.1)
  outputs_by _ ports e = let one = ap (λ (list : List ℕ). length list) e in omega (arith, one, ports.1)

  pub outputs_there : b.outputs ≤ length (slice_index_or (widths_of diagram) block [])
  outputs_there = outputs_by b.kind (held IsReadable diagram.blocks block b wired.blocks block_is).ports settled
