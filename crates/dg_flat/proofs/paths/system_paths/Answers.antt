use Rattle.std.proofs.Common.{◌≡◌, ◌<◌, ℕ, List, [], length, get_or, sym, ap, ◌∙◌, arith}
use Rattle.dg_model.specs.Naming.{escaped}
use Rattle.dg_flat.specs.Parts.{below}
use Rattle.dg_flat.proofs.PathTable.{path_is, paths_more}
use Rattle.dg_flat.proofs.Firsts.{slot_within}
use Rattle.dg_flat.proofs.paths.system_paths.Goals as goal

pub loop-block-preserved : goal.loop-block-preserved
loop-block-preserved c =
    let blocks = c.args.blocks.now in
    let i = c.loop-block.block-index in
    let block = c.block-item.result in
    let at : get_or blocks i block ≡ block = sym c.block-item.is in
    let inside : i < length blocks = c.loop-block-test.true in
    let slice = c.as_slice.ensures in
    let known = path_is blocks i i block c.loop-block.paths c.requires c.loop-block.invariant (slot_within blocks i block c.requires inside at) inside at in
    rw c.in_ok-push.ensures.appended
    (paths_more blocks i block c.loop-block.paths c.in_ok-path.path inside at
    (λ is. c.in_ok-path.ensures is ∙ ap (λ (paths : List (List ℕ)). below (λ k. get_or paths k []) (escaped block.name) block.parent) slice ∙ known) c.loop-block.invariant)

pub system_path-requires : goal.system_path-requires
system_path-requires c =
    let within = slot_within c.args.blocks.now c.loop-block.block-index c.block-item.result c.requires c.loop-block-test.true (sym c.block-item.is) in
    let size = ap length c.as_slice.ensures in
    omega (arith, within, size, c.loop-block.invariant.size)
