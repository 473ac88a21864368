use Rattle.std.proofs.Common.{◌≡◌, ◌≤◌, length, get_or, sym, ◌∙◌, arith}
use Rattle.std.proofs.lemmas.Result.{IfOk-weaker}
use Rattle.dg_flat.specs.inner.Slots.{slot_of}
use Rattle.dg_flat.proofs.Firsts.{slot_within}
use Rattle.dg_flat.proofs.PathTable.{path_is}
use Rattle.dg_flat.proofs.flattening.path_at.Goals as goal

pub returns : goal.returns
returns c =
    let blocks = c.args.blocks.now in
    let block = c.index-blocks-place.result in
    let at : get_or blocks c.args.place block ≡ block = sym c.index-blocks-place.is in
    let reaches : slot_of block.parent ≤ length blocks = omega (arith, slot_within blocks c.args.place block c.requires.parents c.requires.there at, c.requires.there) in
    let is = c.in_ok-path.ensures ∙ path_is blocks (length blocks) c.args.place block c.args.paths.now c.requires.parents c.requires.paths reaches c.requires.there at in
    IfOk-weaker c.text-text.result _ _ (λ text same. same ∙ is) c.text-text.ensures
