use Rattle.std.proofs.lemmas.Result.{on_ok_weaker}
use Rattle.cmd_sample.proofs.Texts.{ends_put}
use Rattle.cmd_sample.proofs.modeling.push_ends.Goals as goal

pub returns : goal.returns
returns c = on_ok_weaker c.push_each.result (ends_put c.args.text.now.items _) c.push_each.ensures
