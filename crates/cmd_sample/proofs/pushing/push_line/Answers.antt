use Rattle.std.proofs.Common.{◌≡◌, rules}
use Rattle.std.specs.Prelude.{decimal}
use Rattle.std.proofs.lemmas.Result.{on_ok_weaker}
use Rattle.cmd_sample.proofs.Texts.{line_put}
use Rattle.cmd_sample.proofs.pushing.push_line.Goals as goal

pub returns : goal.returns
returns c =
    let number : c.as_bytes.result.now ≡ decimal c.args.port = search rules in
    on_ok_weaker c.push_each.result (line_put c.args.text.now.items c.args.source.now c.args.target.now c.as_bytes.result.now _ c.args.port number) c.push_each.ensures
