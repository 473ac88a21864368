use Rattle.std.proofs.Common.{arith}
use Rattle.vl_replay.proofs.Further.{least-further, met-least}
use Rattle.vl_replay.proofs.playing.window_of.Goals as goal

pub loop-sampler-preserved : goal.loop-sampler-preserved
loop-sampler-preserved c =
    let old = c.loop-sampler.invariant in
    let less = c.min-earliest.ensures in
    record {
      most = (let most = old.most in omega (arith, most, less));
      least = least-further c.args.samplers.now c.loop-sampler.sampler-index _ c.loop-sampler.earliest c.min-earliest.result less old.least;
      met = met-least c.args.samplers.now c.loop-sampler.sampler-index _ c.args.delay c.loop-sampler.earliest c.min-earliest.result less c.loop-sampler-test.true old.met;
    }
