use Rattle.cmd_check.proofs.PieceBytes.{took_behind}
use Rattle.fx_top.proofs.answer.put_two.Goals as goal

pub returns-in-Err-clause-cut : goal.returns-in-Err-clause-cut
returns-in-Err-clause-cut g c = took_behind (g.E.Sink.taken c.args.err.now) (g.E.Sink.taken c.put_all.new.sink)
    (g.E.Sink.taken c.put_all-2.new.sink) c.args.first.now c.args.second.now c.in_ok-put_all.ensures.whole
    c.in-Err.ensures.cut
