use Rattle.std.proofs.lemmas.Result.{on_ok_weaker}
use Rattle.cmd_sample.proofs.Texts.{start_put}
use Rattle.cmd_sample.proofs.modeling.push_start.Goals as goal

pub returns : goal.returns
returns c = on_ok_weaker c.push_each.result (start_put c.args.text.now.items _) c.push_each.ensures
