use Rattle.std.specs.Prelude.{◌≡◌, ◌+◌}
use Rattle.hw_build.specs.inner.PipelineNets.{stage_labels, stage_nets}
use Rattle.hw_build.proofs.Stages.{with_labels, with_nets}
use Rattle.hw_build.proofs.pipelines.put_stages.Given as goal

abbrev pub invariant-loop-stage : goal.invariant-loop-stage
invariant-loop-stage l = (l.end ≡ l.begin + l.stage)
    × (l.net ≡ with_labels (with_nets l.fn.net
    (stage_nets l.stages.kind l.stages.frame l.stages.slot l.begin l.stage))
    (stage_labels l.begin l.stages.block l.stages.element l.stage))
