use Rattle.std.proofs.Common.{◌≡◌, ◌+◌}
use Rattle.hw_build.specs.Pipelined.{stage_name}
use Rattle.hw_build.proofs.Stages.{stage_next, stage_number}
use Rattle.hw_build.proofs.pipelines.put_stages.Goals as goal

pub loop-stage-preserved : goal.loop-stage-preserved
loop-stage-preserved c =
    let next : c.in_ok-end.end ≡ c.args.begin + (c.loop-stage.stage + 1) =
    rw (c.in_ok-end.ensures.number, c.loop-stage.invariant.1)
    (stage_number c.args.net.now c.args.stages.kind c.args.stages.frame c.args.stages.slot c.args.begin
    c.loop-stage.stage c.requires) in
    let name : c.in_ok-name.name ≡ stage_name c.args.stages.block c.args.stages.element (c.loop-stage.stage + 1) = c.in_ok-name.ensures in (
      next,
      stage_next c.args.net.now c.loop-stage.net c.add.new.self c.add_label.new.self c.args.stages.kind
          c.args.stages.frame c.args.stages.slot c.args.stages.block c.args.stages.element c.args.begin
          c.loop-stage.stage c.loop-stage.end c.loop-stage.invariant.0 c.loop-stage.invariant.1
          (rw c.register-one.ensures at c.in_ok-end.ensures.grown) (rw (name, next) at c.in_ok-add_label.ensures.grown),
    )
