use Rattle.std.proofs.Common.{◌≡◌, Bool, Some, refl, ap, sym, ◌∙◌, arith}
use Rattle.std.specs.Prelude.{slice_get}
use Rattle.std.proofs.lemmas.Option.{slice_get_read}
use Rattle.dg_model.specs.declared.diagram.Block.{Block}
use Rattle.dg_model.specs.Instant.{is_now}
use Rattle.dg_model.specs.Library.{row_of}
use Rattle.dg_sort.proofs.rows.is_instant.Goals as goal

pub bounds-periods-edge-2 : goal.bounds-periods-edge-2
bounds-periods-edge-2 c = omega (arith, c.requires.to, c.requires.timed)

pub returns : goal.returns
returns c =
    let blocks = c.args.blocks.now in
    let place = c.args.edge.to in
    let block = c.index-blocks-edge.result in
    let at : slice_get blocks place ≡ Some block = slice_get_read blocks _ place block refl c.requires.to c.index-blocks-edge.is in
    rw at
    (c.reads_now.ensures ∙ ap (λ (b : Block). is_now (row_of b.kind).timing.reads c.is_slow_to_fast-slower.result) (sym c.index-blocks-edge.is)
    ∙ ap (λ (slower : Bool). is_now (row_of block.kind).timing.reads slower) c.is_slow_to_fast-slower.ensures)
