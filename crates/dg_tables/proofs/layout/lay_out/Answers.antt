use Rattle.std.proofs.Common.{◌≡◌, ◌≤◌, ◌<◌, ◌^◌, ℕ, List, Some, length, slice_get, get_or, ap, sym, ◌∙◌, subst, arith}
use Rattle.std.proofs.lemmas.Option.{slice_get-get_or}
use Rattle.dg_model.specs.declared.diagram.Block.{Block}
use Rattle.dg_model.specs.declared.diagram.Diagram.{Diagram}
use Rattle.math_list.proofs.Places.{held}
use Rattle.dg_tables.proofs.EntryLayout.{laid_none, laid_more, laid_entries, laid_finds}
use Rattle.dg_tables.proofs.layout.lay_out.Goals as goal

pub loop-block-init : goal.loop-block-init
loop-block-init c =
    laid_none c.args.checked.now c.keeps_rules.ensures.ordered c.in_ok-starts.starts c.new-places.result c.new-places.ensures c.in_ok-starts.ensures.lines c.in_ok-starts.ensures.ports

pub put_block-requires : goal.put_block-requires
put_block-requires c =
    let checked = c.args.checked.now in
    let diagram : Diagram = checked.diagram in
    let index : ℕ = c.loop-block.block-index in
    let block : ℕ = get_or c.order-block-items.result.now index 0 in
    let turn : slice_get checked.order index ≡ Some block =
    ap (λ (xs : List ℕ). slice_get xs index) (sym c.order-block-items.ensures)
    ∙ slice_get-get_or c.order-block-items.result.now index 0 c.loop-block-test.true in
    let list : c.as_slice.result.now ≡ diagram.blocks = c.as_slice.ensures ∙ ap (λ (d : Diagram). d.blocks) c.diagram.ensures in
    let there : block < length diagram.blocks = held (λ (place : ℕ). place < length diagram.blocks) checked.order index block c.keeps_rules.ensures.ordered.there turn in
    let within : block < length c.as_slice.result.now = subst (λ (bs : List Block). block < length bs) (sym list) there in
    record {
      lines = c.loop-block.invariant.lines;
      block = ap (λ (bs : List Block). slice_get bs block) (sym list) ∙ slice_get-get_or c.as_slice.result.now block _ within ∙ ap (λ (b : Block). Some b) (sym c.index-as_slice-block.is);
      size = c.loop-block.invariant.size;
    }

pub returns-clause-entries : goal.returns-clause-entries
returns-clause-entries c = laid_entries c.args.checked.now c.keeps_rules.ensures.ordered c.loop-block.block-index c.loop-block.starts c.loop-block.places c.loop-block.invariant

pub loop-block-preserved : goal.loop-block-preserved
loop-block-preserved c =
    let checked = c.args.checked.now in
    let diagram : Diagram = checked.diagram in
    let index : ℕ = c.loop-block.block-index in
    let block : ℕ = get_or c.order-block-items.result.now index 0 in
    let one : Block = c.index-as_slice-block.result in
    let new = c.in_ok-put_block.ensures in
    let turn : slice_get checked.order index ≡ Some block =
    ap (λ (xs : List ℕ). slice_get xs index) (sym c.order-block-items.ensures)
    ∙ slice_get-get_or c.order-block-items.result.now index 0 c.loop-block-test.true in
    let list : c.as_slice.result.now ≡ diagram.blocks = c.as_slice.ensures ∙ ap (λ (d : Diagram). d.blocks) c.diagram.ensures in
    let there : block < length diagram.blocks = held (λ (place : ℕ). place < length diagram.blocks) checked.order index block c.keeps_rules.ensures.ordered.there turn in
    let within : block < length c.as_slice.result.now = subst (λ (bs : List Block). block < length bs) (sym list) there in
    let block_is : slice_get diagram.blocks block ≡ Some one =
    ap (λ (bs : List Block). slice_get bs block) (sym list)
    ∙ slice_get-get_or c.as_slice.result.now block _ within
    ∙ ap (λ (b : Block). Some b) (sym c.index-as_slice-block.is) in
    laid_more checked c.keeps_rules.ensures.ordered index block one c.loop-block.starts c.put_block.new.starts
    c.loop-block.places c.put_block.new.places turn block_is new.put c.loop-block.invariant new.ports new.lines

pub returns-clause-finds : goal.returns-clause-finds
returns-clause-finds c =
    let checked = c.args.checked.now in
    let all : length checked.order ≤ c.loop-block.block-index = subst (λ (xs : List ℕ). length xs ≤ c.loop-block.block-index) c.order-block-items.ensures c.loop-block-test.false in
    let size = ap length c.as_slice-2.ensures in
    let few : length c.loop-block.places < 2 ^ 32 = omega (arith, size, c.in-Ok.ensures.1) in
    laid_finds checked c.keeps_rules.ensures.ordered c.loop-block.block-index c.loop-block.starts c.loop-block.places all few c.loop-block.invariant
