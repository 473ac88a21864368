use Rattle.std.proofs.Common.{◌++◌, ◌∷◌, [], ℕ, List, map, take, sym, ap, ◌∙◌, arith}
use Rattle.std.proofs.lemmas.List.{map_more, take_all}
use Rattle.hw_rules.specs.Times.{timing_in}
use Rattle.cmd_check.specs.Gathered.{clocks_at}
use Rattle.cmd_check.proofs.gathering.clocks_of_all.Goals as goal

pub clocks_of-requires-clause-there : goal.clocks_of-requires-clause-there
clocks_of-requires-clause-there c = c.requires.there c.loop-block.block-index 0 c.loop-block-test.true

pub clocks_of-requires-clause-times : goal.clocks_of-requires-clause-times
clocks_of-requires-clause-times c = c.requires.times

pub loop-block-preserved : goal.loop-block-preserved
loop-block-preserved c =
    let clocks = clocks_at c.args.checked.now.diagram c.args.planned.now.resolved (timing_in c.args.planned.now.times) in
    let k = c.loop-block.block-index in
    let blocks = c.args.blocks.now in
    c.in_ok-push.ensures.items ∙ ap (λ (front : List ℕ). front ++ c.in_ok-clocks_of.field-0 ∷ []) c.loop-block.invariant
    ∙ ap (λ (last : ℕ). map clocks (take k blocks) ++ last ∷ []) c.in_ok-clocks_of.ensures ∙ sym (map_more clocks blocks k 0 c.loop-block-test.true)

pub returns : goal.returns
returns c =
    let clocks = clocks_at c.args.checked.now.diagram c.args.planned.now.resolved (timing_in c.args.planned.now.times) in
    c.loop-block.invariant ∙ ap (map clocks) (take_all c.loop-block.block-index c.args.blocks.now (omega (arith, c.loop-block-test.false)))
