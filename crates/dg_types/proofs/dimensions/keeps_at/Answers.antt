use Rattle.std.proofs.Common.{◌≡◌, ◌∙◌}
use Rattle.std.proofs.lemmas.Option.{get_or_from_slice_get}
use Rattle.dg_types.proofs.DimensionTests.{looked_at_decides}
use Rattle.dg_types.proofs.dimensions.keeps_at.Goals as goal

pub returns : goal.returns
returns c block at =
    let diagram = c.args.diagram.now in
    let place = c.args.place in
    let here : c.index-as_slice-place.result ≡ block = rw c.as_slice.ensures at c.index-as_slice-place.is ∙ get_or_from_slice_get diagram.blocks place block _ at in
    rw (c.keeps.ensures, here, c.row_at-widths.ensures, c.row_at-again.ensures, c.row_at.ensures) (looked_at_decides diagram c.args.scan.now place block c.requires.scan c.requires.there)
