use Rattle.std.proofs.lemmas.Result.{on_ok_weaker}
use Rattle.cmd_sample.proofs.Texts.{end_lines_appended}
use Rattle.cmd_sample.proofs.modeling.push_end_lines.Goals as goal

pub returns : goal.returns
returns c =
    on_ok_weaker c.push_line-3.result
    (end_lines_appended c.args.text.now.items c.args.last.now _ _ _ c.in_ok-push_line.ensures c.in_ok-push_line-2.ensures)
    c.push_line-3.ensures
