use Rattle.std.proofs.Common.{refl}
use Rattle.fx_top.proofs.Checks.{check-put}
use Rattle.fx_top.proofs.check.check.Goals as goal

pub returns-in-Err : goal.returns-in-Err
returns-in-Err g c = (c.of_design.ensures.design c.args.model.now c.args.plan.now c.in-Err.ensures.refused, refl)

pub returns-in-Ok-gather : goal.returns-in-Ok-gather
returns-in-Ok-gather g c =
    check-put c.args.model.now c.args.plan.now c.in-Ok.designed c.in-Ok.ensures.designed g.K.Sink.taken
    g.K.Sink.faults c.args.out.now c.put_check-put.new.out c.put_check-put.result c.put_check-put.ensures
