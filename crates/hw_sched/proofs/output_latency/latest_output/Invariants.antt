use Rattle.std.proofs.Common.{◌≡◌}
use Rattle.dg_model.specs.Attributes.{attributes_of}
use Rattle.hw_sched.specs.inner.Counts.{capped, output_latency}
use Rattle.hw_sched.proofs.RegisterCounts.{greatest_below}
use Rattle.hw_sched.proofs.output_latency.latest_output.Given as goal

abbrev pub invariant-loop-place : goal.invariant-loop-place
invariant-loop-place l = l.latest ≡ capped (greatest_below (output_latency l.checked.diagram (attributes_of l.checked.diagram) l.plan l.latencies.lat l.ready) l.place)
