-- Each output port of a checked diagram has a width, and each block one of its own.
use Rattle.std.proofs.Common.{◌≡◌, ℕ, ◌-◌, ◌<◌, ◌≤◌, min, Bool, true, false, cond, List, length, map, sym, ap, subst, ◌∙◌, arith}
use Rattle.std.specs.Prelude.{slice_get, slice_index_or, [], Option, Some}
use Rattle.std.proofs.lemmas.List.{length-map}
use Rattle.std.proofs.lemmas.Option.{slice_get_within}
use Rattle.math_list.specs.Numbers.{numbers_from}
use Rattle.math_list.proofs.Numbers.{length_numbers}
use Rattle.dg_model.specs.declared.diagram.Diagram.{Diagram}
use Rattle.dg_model.specs.declared.diagram.Block.{Block}
use Rattle.dg_model.specs.declared.diagram.Edge.{Edge}
use Rattle.dg_model.specs.declared.kind.Kind.{Kind}
use Rattle.dg_model.specs.declared.kind.Kind.TheVariants.{Demux}
use Rattle.dg_model.specs.Checked.{IsChecked}
use Rattle.dg_model.specs.Library.{row_of}
use Rattle.dg_model.specs.Readable.{HasPorts}
use Rattle.dg_model.specs.Wires.{driver_of, enters}
use Rattle.dg_model.specs.Widths.{width_at, input_widths, are_open, share, list_length, taken, most_width, next_of, widths_of}
use Rattle.dg_model.proofs.Ports.{joins}
use Rattle.dg_sort.proofs.Lines.{matched, from_there, to_there, control_there}
use Rattle.hw_sched.specs.inner.Counts.{IsThere}
use Rattle.hw_sched.proofs.Edges.{found_there}
use Rattle.hw_sched.proofs.Periods.{readable_at}
use Rattle.math_list.proofs.Places.{get_some}

parts_length : (sizes : List ℕ) (width : ℕ) (are_even : Bool) → length (map (min most_width) (cond are_even (map (share width (length sizes)) (numbers_from 0 (length sizes))) sizes)) ≡ length sizes
parts_length sizes width true =
    length-map (map (share width (length sizes)) (numbers_from 0 (length sizes))) (min most_width)
    ∙ length-map (numbers_from 0 (length sizes)) (share width (length sizes)) ∙ length_numbers 0 (length sizes)
parts_length sizes width false = length-map sizes (min most_width)

widths_by : (kind : Kind) (inputs outputs lists width : ℕ) (sources own : List ℕ) → HasPorts kind inputs outputs
    → (row_of kind).parameters → map (min most_width) (taken (row_of kind).signal.shape lists width sources) ≡ own
    → (outputs ≤ length own) × (0 < length own)
widths_by (Demux sizes) inputs outputs lists width sources own ports has settled =
    let size : length own ≡ length sizes = ap (λ (list : List ℕ). length list) (sym settled) ∙ parts_length sizes (slice_index_or sources 0 0) (are_open sizes) in
    let low = has.0.0 in
    let many = ports.1 in
    (omega (arith, size, many), omega (arith, size, low))
widths_by _ inputs outputs lists width sources own ports has settled =
    let one = ap (λ (list : List ℕ). length list) settled in
    let many = ports.1 in
    (omega (arith, one, many), omega (arith, one))

module _ (diagram : Diagram) (checked : IsChecked diagram) where
  abbrev own : ℕ → List ℕ
  own place = slice_index_or (widths_of diagram) place []

  pub widths_at : (place : ℕ) (b : Block) → slice_get diagram.blocks place ≡ Some b → (b.outputs ≤ length (own place)) × (0 < length (own place))
  widths_at place b at =
      let readable = readable_at diagram checked.wired place b at in
      let settled = subst (λ (o : Option Block). next_of o (width_at (widths_of diagram) place 1)
      (input_widths diagram (widths_of diagram) place) ≡ own place) at
      (checked.dimensions.blocks place b at).settled in
      widths_by b.kind b.inputs b.outputs (list_length b.kind) (width_at (widths_of diagram) place 1)
      (input_widths diagram (widths_of diagram) place) (own place) readable.ports readable.parameters settled

  -- the first width of a block
  pub first_there : (place : ℕ) → place < length diagram.blocks → 1 - 1 < length (own place)
  first_there place inside = let block = get_some diagram.blocks place inside in (widths_at place block.0 block.1).1

  -- the source of a line
  pub source_there : (k : ℕ) (line : Edge) → slice_get diagram.edges k ≡ Some line → (1 ≤ line.from_port) × (line.from_port - 1 < length (own line.from))
  source_there k line at =
      let source = matched (slice_get diagram.blocks line.from) (λ (b : Block). (1 ≤ line.from_port) × (line.from_port ≤ b.outputs)) (joins diagram k line checked.wired at).source in
      let many = (widths_at line.from source.0 source.1).0 in
      let low = source.2.0 in
      let high = source.2.1 in
      (low, omega (arith, many, low, high))

  -- the driver of a port
  pub driver_there : (place port : ℕ) (line : Edge) → Some line ≡ driver_of diagram place port → line.from < length diagram.blocks
  driver_there place port line is = let found = (found_there (enters place port) diagram.edges line (sym is)).0 in from_there diagram found.place line checked.wired found.at

  pub driver_width : (place port : ℕ) (line : Edge) → Some line ≡ driver_of diagram place port → (1 ≤ line.from_port) × (line.from_port - 1 < length (own line.from))
  driver_width place port line is = let found = (found_there (enters place port) diagram.edges line (sym is)).0 in source_there found.place line found.at

  -- a line as the code has it
  pub line_there : (k : ℕ) (line : Edge) → slice_get diagram.edges k ≡ Some line → IsThere diagram (record { from = line.from; from_port = line.from_port; to = line.to })
  line_there k line at = record {
    from = from_there diagram k line checked.wired at;
    to = to_there diagram k line checked.wired at;
    port = (source_there k line at).0;
    width = (source_there k line at).1;
  }

  -- the line from a control
  pub control_line_there : (place control : ℕ) (b : Block) → slice_get diagram.blocks place ≡ Some b → b.enable ≡ Some control → IsThere diagram (record { from = control; from_port = 1; to = place })
  control_line_there place control b at is =
      let from = control_there diagram place control b checked.wired at is in
      record {
        from = from;
        to = slice_get_within diagram.blocks place b at;
        port = omega arith;
        width = first_there control from;
      }
