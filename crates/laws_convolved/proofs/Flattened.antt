-- A filter of blocks and lines is one in their flat diagram.
use Rattle.std.proofs.Common.{◌≡◌, ℕ, zero, suc, ◌+◌, ◌-◌, ◌*◌, ◌<◌, ◌≤◌, Bool, true, false, true≢false, cond}
use Rattle.std.proofs.Common.{List, [], ◌∷◌, length, filter_map, Option, Some, None}
use Rattle.std.proofs.Common.{slice_get, option_map, codes, ◌==◌, refl, sym, ◌∙◌, ap, subst, arith}
use Rattle.std.proofs.lemmas.List.FromFn.{length-map-range_with_len}
use Rattle.std.proofs.lemmas.List.Sorted.{Contains-permutation}
use Rattle.std.proofs.lemmas.Option.{same_Some, slice_get_within}
use Rattle.fx_type.specs.declared.decimal.Decimal.{Decimal}
use Rattle.math_list.proofs.Places.{get_some}
use Rattle.dg_model.specs.declared.diagram.Block.{Block}
use Rattle.dg_model.specs.declared.diagram.Diagram.{Diagram}
use Rattle.dg_model.specs.declared.diagram.Edge.{Edge}
use Rattle.dg_model.specs.declared.kind.Kind.TheVariants.{Delay}
use Rattle.dg_model.specs.declared.nested.Nested.{Nested}
use Rattle.dg_model.specs.declared.nested.NestedBlock.{NestedBlock}
use Rattle.dg_model.specs.declared.nested.Part.{Part}
use Rattle.dg_model.specs.Convolution.{IsFilter}
use Rattle.dg_model.specs.Wired.{IsWired}
use Rattle.dg_model.specs.Wires.{driver_of}
use Rattle.dg_tables.proofs.Drivers.{driver_is}
use Rattle.dg_flat.specs.Flat.{IsFlatOf, flat_place, flat_block, flat_blocks, placed, resets_under, edge_of, joined}
use Rattle.dg_flat.specs.Flat.{first_port, port_at, source_of, end_at}
use Rattle.dg_flat.specs.Parts.{is_subsystem, control_of, in_number, out_number, is_number, first_in}
use Rattle.fir_block.specs.declared.filter.Fir.{Fir}
use Rattle.fir_block.specs.declared.filter.FirBlock.{FirBlock}
use Rattle.fir_block.specs.Expanded.{blocks_of, delay_block, gain_block, sum_block, port_block, initial_of, line}
use Rattle.fir_block.specs.Expanded.{lines_of, extent}
use Rattle.fir_block.specs.Laws.{BlocksAreCounted}
use Rattle.mdl_build.specs.Expanded.{inner_part, inner_block, inner_line}
use Rattle.mdl_build.specs.Filters.{HasFilter}
use Rattle.laws_convolved.specs.Laws.{taps_of, first_of, IsFilterOf, FiltersAreFlat}
use Rattle.laws_convolved.proofs.FirBlocks.{range_at, delay_at, gain_at, sum_at, out_at, chain_among, tap_among}
use Rattle.laws_convolved.proofs.FirBlocks.{term_among, last_among}
use Rattle.laws_convolved.proofs.FlatPlaces.{mapped_among, among_contains, contains_among, kept_at, next_place}

module _ (other : Decimal) (nested : Nested) (diagram : Diagram) (place : ℕ) (fir : Fir)
    (has : HasFilter other nested place fir) (flat : IsFlatOf nested diagram) (wired : IsWired diagram)
    (counted : BlocksAreCounted) where
  abbrev blocks : List NestedBlock
  blocks = nested.blocks

  abbrev count : ℕ
  count = length fir.coefficients

  abbrev all : ℕ
  all = length (blocks_of other fir)

  abbrev control : Option ℕ
  control = control_of nested.blocks (Some place)

  abbrev enable : Option ℕ
  enable = option_map (flat_place nested.blocks) (control_of nested.blocks (Some place))

  abbrev reset : Bool
  reset = resets_under nested.blocks (control_of nested.blocks (Some place))

  some : 2 ≤ length fir.coefficients
  some = has.readable.is_fir.coefficients.0

  all_is : suc (length (blocks_of other fir)) ≡ extent (length fir.coefficients)
  all_is = counted other fir has.readable.is_fir

  -- a part of a filter is a block
  part_plain : (number many : ℕ) (block : Block) → is_subsystem (inner_part many number block) ≡ false
  part_plain number many block = by (number == 0) (number + 1 == many)
    where
      by : (one last : Bool)
          → is_subsystem (cond one (Part.In block 1) (cond last (Part.Out block 1) (Part.Plain block))) ≡ false
      by true last = refl
      by false true = refl
      by false false = refl

  part_flat : (number many at : ℕ) (block : Block)
      → flat_block nested.blocks at (control_of nested.blocks (Some place)) (inner_part many number block)
      ≡ Some (placed nested.blocks at (control_of nested.blocks (Some place)) block)
  part_flat number many at block = by (number == 0) (number + 1 == many)
    where
      by : (one last : Bool) → flat_block nested.blocks at control
          (cond one (Part.In block 1) (cond last (Part.Out block 1) (Part.Plain block)))
          ≡ Some (placed nested.blocks at control block)
      by true last = refl
      by false true = refl
      by false false = refl

  -- ---- blocks

  abbrev f : ℕ × NestedBlock → Option Block
  f entry = flat_block nested.blocks entry.0 (control_of nested.blocks entry.1.parent) entry.1.part

  none_of : (p : ℕ) (x : NestedBlock) → is_subsystem x.part ≡ true → f (p, x) ≡ None
  none_of p x is = by x.part is
    where
      by : (part : Part) → is_subsystem part ≡ true
          → flat_block nested.blocks p (control_of nested.blocks x.parent) part ≡ None
      by Part.SubSystem is = refl
      by (Part.Plain block) is = absurd (true≢false (sym is))
      by (Part.In block number) is = absurd (true≢false (sym is))
      by (Part.Out block number) is = absurd (true≢false (sym is))
      by (Part.Enable own) is = absurd (true≢false (sym is))

  some_of : (p : ℕ) (x : NestedBlock) → is_subsystem x.part ≡ false → (b : Block) × (f (p, x) ≡ Some b)
  some_of p x is = by x.part is
    where
      by : (part : Part) → is_subsystem part ≡ false
          → (b : Block) × (flat_block nested.blocks p (control_of nested.blocks x.parent) part ≡ Some b)
      by Part.SubSystem is = absurd (true≢false is)
      by (Part.Plain block) is = (_, refl)
      by (Part.In block number) is = (_, refl)
      by (Part.Out block number) is = (_, refl)
      by (Part.Enable own) is = (_, refl)

  first : ℕ
  first = first_of nested place

  -- the blocks of the filter follow one another
  places : (number : ℕ) → number < length (blocks_of other fir)
      → flat_place nested.blocks (suc (place + number)) ≡ first_of nested place + number
  places zero below = let same : place + 0 ≡ place = omega arith in
      let zero_on : first_of nested place ≡ first_of nested place + 0 =
      omega arith in ap (λ (n : ℕ). flat_place nested.blocks (suc n)) same ∙ zero_on
  places (suc number) below =
      let inner = get_some (blocks_of other fir) number (omega (arith, below)) in
      let there = has.blocks number inner.0 inner.1 in
      let next = next_place nested.blocks (suc (place + number)) (inner_block place all number inner.0) there
      (part_plain number all inner.0.block) in
      let before = places number (omega (arith, below)) in
      let same : suc (suc (place + number)) ≡ suc (place + suc number) = omega arith in
      let end : suc (first_of nested place + number) ≡ first_of nested place + suc number = omega arith in
      sym (ap (flat_place nested.blocks) same) ∙ next ∙ ap suc before ∙ end

  block_at : (number : ℕ) (inner : FirBlock) → slice_get (blocks_of other fir) number ≡ Some inner
      → slice_get diagram.blocks (first_of nested place + number)
      ≡ Some (placed nested.blocks (suc (place + number)) (control_of nested.blocks (Some place)) inner.block)
  block_at number inner at =
      let there = has.blocks number inner at in
      let zero_on : 0 + suc (place + number) ≡ suc (place + number) = omega arith in
      let kept_there = kept_at f none_of some_of 0 nested.blocks (suc (place + number))
      (inner_block place all number inner) (placed nested.blocks (suc (place + number)) control inner.block) there
      (ap (λ (p : ℕ). f (p, inner_block place all number inner)) zero_on
      ∙ part_flat number all (suc (place + number)) inner.block) in
      ap (λ (list : List Block). slice_get list (first_of nested place + number)) flat.blocks
      ∙ sym (ap (slice_get (flat_blocks nested.blocks))
      (places number (slice_get_within (blocks_of other fir) number inner at))) ∙ kept_there

  -- ---- lines

  port_there : (number port : ℕ) (numbers : Part → Option ℕ) (inner : FirBlock)
      → slice_get (blocks_of other fir) number ≡ Some inner
      → port_at nested.blocks (suc (place + number)) port numbers (slice_get nested.blocks (suc (place + number)))
      ≡ Some (record { block = first_of nested place + number; port = port })
  port_there number port numbers inner at =
      ap (λ (o : Option NestedBlock). port_at nested.blocks (suc (place + number)) port numbers o)
      (has.blocks number inner at)
      ∙ ap (λ (t : Bool). cond t (option_map (first_port nested.blocks)
      (first_in nested.blocks (Some (suc (place + number))) (λ part. is_number port (numbers part))))
      (Some (record { block = flat_place nested.blocks (suc (place + number)); port = port })))
      (part_plain number all inner.block)
      ∙ ap (λ (n : ℕ). Some (record { block = n; port = port }))
      (places number (slice_get_within (blocks_of other fir) number inner at))

  fed : (from to port : ℕ) → from < length (blocks_of other fir) → to < length (blocks_of other fir)
      → (k : ℕ) × (slice_get (lines_of (place + 1) (length fir.coefficients)) k
      ≡ Some (line (place + 1 + from) (place + 1 + to) port))
      → driver_of diagram (first_of nested place + to) port
      ≡ Some (record {
        from = first_of nested place + from;
        from_port = 1;
        to =
            first_of nested place + to;
        to_port = port;
      })
  fed from to port from_below to_below among =
      let source = get_some (blocks_of other fir) from from_below in
      let goal = get_some (blocks_of other fir) to to_below in
      let there = has.lines among.0 (line (place + 1 + from) (place + 1 + to) port) among.1 in
      let from_is : place + 1 + from ≡ suc (place + from) = omega arith in
      let to_is : place + 1 + to ≡ suc (place + to) = omega arith in
      let edge : Edge = record {
        from = first_of nested place + from;
        from_port = 1;
        to =
            first_of nested place + to;
        to_port = port;
      } in
      let start : source_of nested.blocks (inner_line (line (place + 1 + from) (place + 1 + to) port))
      ≡ Some (record { block = first_of nested place + from; port = 1 }) =
      ap (λ (n : ℕ). port_at nested.blocks n 1 out_number (slice_get nested.blocks n)) from_is
      ∙ port_there from 1 out_number source.0 source.1 in
      let end : port_at nested.blocks (place + 1 + to) port in_number (slice_get nested.blocks (place + 1 + to))
      ≡ Some (record { block = first_of nested place + to; port = port }) =
      ap (λ (n : ℕ). port_at nested.blocks n port in_number (slice_get nested.blocks n)) to_is
      ∙ port_there to port in_number goal.0 goal.1 in
      let joins : edge_of nested.blocks (inner_line (line (place + 1 + from) (place + 1 + to) port))
      ≡ Some (record {
        from = first_of nested place + from;
        from_port = 1;
        to =
            first_of nested place + to;
        to_port = port;
      }) =
      ap (λ o. joined o (end_at nested.blocks (place + 1 + to)
      (inner_line (line (place + 1 + from) (place + 1 + to) port)).target)) start
      ∙ ap (λ o. joined (Some (record { block = first_of nested place + from; port = 1 })) o) end in
      let mapped = mapped_among (edge_of nested.blocks) nested.lines there.0
      (inner_line (line (place + 1 + from) (place + 1 + to) port))
      (record {
        from = first_of nested place + from;
        from_port =
            1;
        to = first_of nested place + to;
        to_port = port;
      }) there.1 joins in
      let contained = Contains-permutation (filter_map (edge_of nested.blocks) nested.lines) diagram.edges
      (record {
        from = first_of nested place + from;
        from_port =
            1;
        to = first_of nested place + to;
        to_port = port;
      }) flat.edges
      (among_contains (filter_map (edge_of nested.blocks) nested.lines) mapped.0
      (record {
        from = first_of nested place + from;
        from_port =
            1;
        to = first_of nested place + to;
        to_port = port;
      }) mapped.1) in
      let among_edges = contains_among diagram.edges
      (record {
        from = first_of nested place + from;
        from_port =
            1;
        to = first_of nested place + to;
        to_port = port;
      }) contained in
      driver_is diagram wired among_edges.0
      (record {
        from = first_of nested place + from;
        from_port =
            1;
        to = first_of nested place + to;
        to_port = port;
      }) among_edges.1

  -- ---- the filter

  is_filter : IsFilter diagram (first_of nested place) (taps_of other fir)
      (placed nested.blocks (suc (place + 2 * length fir.coefficients)) (control_of nested.blocks (Some place))
      (sum_block fir).block) enable reset
  is_filter = record {
    some = some;
    values = (let long = length-map-range_with_len (initial_of other fir) 1 (count - 1) in omega (arith, long, some));
    input = (
      placed nested.blocks (suc (place + 0)) control (port_block (codes "in")).block,
      record {
        block_is = (let zero_on : first_of nested place ≡ first_of nested place + 0 = omega arith in
            ap (slice_get diagram.blocks) zero_on ∙ block_at 0 (port_block (codes "in")) refl);
        kind_is = refl;
      },
    );
    delays = λ k value at.
        let below : k < count - 1 = subst (λ (n : ℕ). k < n)
        (length-map-range_with_len (initial_of other fir) 1 (count - 1))
        (slice_get_within (taps_of other fir).initial k value at) in
        let inside : suc k < count = omega (arith, below) in
        let own = block_at (suc k) (delay_block other fir (suc k)) (delay_at other fir some k inside) in
        let one_on : 1 + k ≡ suc k = omega arith in
        let value_is : initial_of other fir (suc k) ≡ value =
        same_Some (initial_of other fir (suc k)) value
        (sym (range_at (initial_of other fir) 1 (count - 1) k below
        ∙ ap (λ (n : ℕ). Some (initial_of other fir n)) one_on) ∙ at) in (
          placed nested.blocks (suc (place + suc k)) control (delay_block other fir (suc k)).block,
          record { block_is = own; kind_is = ap (λ (v : Decimal). Delay 1 (v ∷ []) reset) value_is },
          refl,
          fed k (suc k) 1 (omega (arith, all_is, inside)) (omega (arith, all_is, inside))
              (chain_among (place + 1) count some k inside),
        );
    products = λ k coefficient at.
        let inside : k < count = slice_get_within fir.coefficients k coefficient at in (
          placed nested.blocks (suc (place + (count + k))) control (gain_block fir k coefficient).block,
          record {
            block_is = block_at (count + k) (gain_block fir k coefficient)
                (gain_at other fir some k coefficient at);
            kind_is = refl;
          },
          refl,
          fed k (count + k) 1 (omega (arith, all_is, inside)) (omega (arith, all_is, inside))
              (tap_among (place + 1) count some k inside),
          fed (count + k) (2 * count) (suc k) (omega (arith, all_is, inside)) (omega (arith, all_is))
              (term_among (place + 1) count some k inside),
        );
    total = record { block_is = block_at (2 * count) (sum_block fir) (sum_at other fir some); kind_is = refl };
  }

  filter_of : IsFilterOf other diagram (first_of nested place) fir
  filter_of = record {
    sum = placed nested.blocks (suc (place + 2 * length fir.coefficients)) (control_of nested.blocks (Some place))
        (sum_block fir).block;
    enable = enable;
    reset = reset;
    blocks = is_filter;
    rounding = refl;
    saturate = refl;
    result = refl;
    out = placed nested.blocks (suc (place + suc (2 * length fir.coefficients)))
        (control_of nested.blocks (Some place)) (port_block (codes "out")).block;
    output = record {
      block = record {
        block_is = block_at (suc (2 * count)) (port_block (codes "out")) (out_at other fir some);
        kind_is = refl;
      };
      fed = fed (2 * count) (suc (2 * count)) 1 (omega (arith, all_is)) (omega (arith, all_is))
          (last_among (place + 1) count some);
    };
  }

pub filters_flat : BlocksAreCounted → FiltersAreFlat
filters_flat counted other nested diagram place fir has flat wired =
    filter_of other nested diagram place fir has flat wired counted
