use Rattle.vl_replay.proofs.Further.{few-further, met-most, most-further}
use Rattle.vl_replay.proofs.playing.delay_of.Goals as goal

pub loop-sampler-preserved : goal.loop-sampler-preserved
loop-sampler-preserved c =
    let samplers = c.args.samplers.now in
    let i = c.loop-sampler.sampler-index in
    let old = c.loop-sampler.invariant in
    record {
      few = few-further samplers i _ c.loop-sampler.delay c.max-delay.result c.max-delay.ensures c.loop-sampler-test.true c.requires.late old.few;
      most = most-further samplers i _ c.loop-sampler.delay c.max-delay.result c.max-delay.ensures old.most;
      met = met-most samplers i _ c.loop-sampler.delay c.max-delay.result c.max-delay.ensures c.loop-sampler-test.true old.met;
    }
