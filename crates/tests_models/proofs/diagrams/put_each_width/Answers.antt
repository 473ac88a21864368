use Rattle.std.proofs.Common.{◌≡◌, ◌≤◌, ℕ, List, [], length, get_or, Some, sym, subst}
use Rattle.std.specs.Prelude.{slice_get, slice_index_or}
use Rattle.std.proofs.lemmas.Option.{slice_get-get_or}
use Rattle.dg_model.specs.declared.diagram.Block.{Block}
use Rattle.dg_tables.proofs.Widths.{outputs_there}
use Rattle.tests_models.proofs.diagrams.put_each_width.Goals as goal

pub put_outputs-requires : goal.put_outputs-requires
put_outputs-requires g l =
    let place = l.loop-place.place in
    let block = get_or l.as_slice-blocks.result.now l.loop-place.place l.index-blocks-place.result in
    let here = slice_get-get_or l.as_slice-blocks.result.now place l.index-blocks-place.result l.loop-place-test.true in
    let there = outputs_there l.args.diagram.now l.requires.wired l.requires.dimensions place block
    (subst (λ (blocks : List Block). slice_get blocks place ≡ Some block) l.as_slice-blocks.ensures here) in
    subst (λ (widths : List (List ℕ)). block.outputs ≤ length (slice_index_or widths place [])) (sym l.requires.widths) there
