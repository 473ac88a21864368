use Rattle.cmd_replay.specs.Benched.{IsTold, told_by}
use Rattle.fx_top.specs.Call.{stream_in}
use Rattle.fx_top.proofs.Samples.{written-summed}
use Rattle.fx_top.proofs.top.replayed_sample.Goals as goal

pub returns-clause-written : goal.returns-clause-written
returns-clause-written g c =
    written-summed IsTold c.args.number (told_by c.sample.new.bench) (stream_in g.K.Sink.taken g.K.Sink.faults c.args.out.now c.sample.new.out) c.sample.result c.sample.ensures.written
