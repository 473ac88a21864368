use Rattle.std.proofs.Common.{count_by, is_some, ap, ◌∙◌}
use Rattle.std.proofs.lemmas.List.{take_all}
use Rattle.dg_model.specs.declared.diagram.Block.{Block}
use Rattle.dg_model.specs.RootElements.{number_in}
use Rattle.dg_tables.specs.inner.Ports.{root_on}
use Rattle.dg_tables.proofs.roots.count_on.Goals as goal

pub returns : goal.returns
returns c =
    c.loop-block.invariant.1 ∙ ap (count_by (λ (block : Block). is_some (number_in (root_on c.args.side) block))) (take_all c.loop-block.block-index c.args.blocks.now c.loop-block-test.false)
