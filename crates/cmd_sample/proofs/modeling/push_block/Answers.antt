use Rattle.std.proofs.Common.{◌∙◌}
use Rattle.std.proofs.lemmas.Result.{on_ok_weaker}
use Rattle.cmd_sample.proofs.Texts.{block_put}
use Rattle.cmd_sample.proofs.modeling.push_block.Goals as goal

pub returns : goal.returns
returns c =
    on_ok_weaker c.push_each.result
    (block_put c.args.text.now.items c.word.result.now c.bytes.result.now c.parameters.result.now _ c.args.link.place c.args.link.kind
    c.word.ensures (c.bytes.ensures ∙ c.in_ok-name.ensures) c.parameters.ensures)
    c.push_each.ensures
