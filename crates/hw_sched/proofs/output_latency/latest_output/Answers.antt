use Rattle.dg_model.specs.Attributes.{attributes_of}
use Rattle.hw_sched.specs.inner.Counts.{output_latency}
use Rattle.hw_sched.proofs.RegisterCounts.{greatest_more}
use Rattle.hw_sched.proofs.output_latency.latest_output.Goals as goal

pub loop-place-preserved : goal.loop-place-preserved
loop-place-preserved c =
    greatest_more (output_latency c.args.checked.now.diagram
    (attributes_of c.args.checked.now.diagram) c.args.plan.now c.args.latencies.now.lat c.args.ready.now)
    c.loop-place.latest c.output_latency-clocks.result c.max-latest.result c.loop-place.place
    c.output_latency-clocks.ensures c.max-latest.ensures c.loop-place.invariant
