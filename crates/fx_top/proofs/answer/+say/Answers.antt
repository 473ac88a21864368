use Rattle.std.specs.List.{flat_map}
use Rattle.fx_top.proofs.Sayings.{said-more}
use Rattle.fx_top.proofs.answer.+say.Goals as goal

pub returns-in-Ok-clause-said : goal.returns-in-Ok-clause-said
returns-in-Ok-clause-said g t c =
    rw c.in-Some.ensures.cases.0 (said-more (g.E.Sink.taken c.args.err.now) (g.E.Sink.taken c.put_all.new.sink) (g.E.Sink.taken c.say.new.err)
    (g.E.Sink.faults c.args.err.now) (g.E.Sink.faults c.put_all.new.sink) (g.E.Sink.faults c.say.new.err)
    c.in-Some.piece.now.now (flat_map (λ piece. piece.now) c.in-Some.more.now) c.in-Ok.ensures.whole c.in-Ok.ensures.later c.say.ensures.said)
