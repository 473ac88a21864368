use Rattle.std.proofs.Common.{ℕ, List, get_or, [], ◌∷◌, ◌++◌, map, ap, sym, ◌∙◌}
use Rattle.std.proofs.lemmas.List.{map_more, take_all}
use Rattle.dg_tables.specs.declared.roots.Root.{Root}
use Rattle.dg_tables.proofs.listing.blocks_of.Goals as goal

pub loop-root-preserved : goal.loop-root-preserved
loop-root-preserved c =
    let none : Root = record { number = 0; block = 0; element = 0 } in
    let root = get_or c.args.roots.now c.loop-root.root-index none in
    c.in_ok-push.ensures.appended
    ∙ ap (λ (blocks : List ℕ). blocks ++ root.block ∷ []) c.loop-root.invariant
    ∙ sym (map_more (λ (root : Root). root.block) c.args.roots.now c.loop-root.root-index none c.loop-root-test.true)

pub returns : goal.returns
returns c = c.loop-root.invariant ∙ ap (map (λ (root : Root). root.block)) (take_all c.loop-root.root-index c.args.roots.now c.loop-root-test.false)
