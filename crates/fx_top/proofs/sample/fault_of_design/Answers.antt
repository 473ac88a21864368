use Rattle.fx_top.proofs.Samples.{no-bad-plan, no-design-syntax}
use Rattle.fx_top.proofs.sample.fault_of_design.Goals as goal

pub unreachable-requires : goal.unreachable-requires
unreachable-requires c = no-design-syntax c.args.number c.in-NotMdl.line c.args.fault (c.models_stand.ensures c.args.number c.requires.few) c.in-NotMdl.is c.requires.cause

pub unreachable-requires-in-BadPlan : goal.unreachable-requires-in-BadPlan
unreachable-requires-in-BadPlan c = no-bad-plan c.args.number c.in-BadPlan.line c.in-BadPlan.cause c.args.fault c.plan_is_good.ensures c.in-BadPlan.is c.requires.cause
