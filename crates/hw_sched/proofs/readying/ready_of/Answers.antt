use Rattle.hw_sched.specs.Answer.{timing_of}
use Rattle.hw_sched.proofs.Outputs.{ready_none, ready_more, ready_end}
use Rattle.std.proofs.Common.{◌≡◌, length, arith}
use Rattle.hw_sched.proofs.readying.ready_of.Goals as goal

pub loop-place-init : goal.loop-place-init
loop-place-init c = λ plan bases. ready_none c.args.checked.now.diagram plan (timing_of c.args.latencies.now c.args.depths.now) c.new-ready.result c.new-ready.ensures

pub ready_at-requires-clause-there : goal.ready_at-requires-clause-there
ready_at-requires-clause-there c = omega (arith, c.loop-place-test.true, c.requires.depths)

pub loop-place-preserved : goal.loop-place-preserved
loop-place-preserved c =
    λ plan bases.
    let timing = timing_of c.args.latencies.now c.args.depths.now in
    rw c.in_ok-push.ensures.appended (ready_more c.args.checked.now.diagram plan timing c.loop-place.place
    c.ready_at.result c.loop-place.ready (c.ready_at.ensures plan bases) (c.loop-place.invariant plan bases))

pub returns : goal.returns
returns c =
    λ plan bases.
    let timing = timing_of c.args.latencies.now c.args.depths.now in
    let done : c.loop-place.place ≡ length c.args.checked.now.diagram.blocks = omega (arith, c.loop-place.auto.place-end, c.loop-place-test.false, c.requires.depths) in
    ready_end c.args.checked.now.diagram plan timing c.loop-place.place c.loop-place.ready done (c.loop-place.invariant plan bases)
