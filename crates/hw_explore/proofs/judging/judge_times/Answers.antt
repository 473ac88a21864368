use Rattle.std.proofs.Common.{subst, IfErr, Result}
use Rattle.dg_model.specs.declared.fault.CheckFault.{CheckFault}
use Rattle.dg_model.specs.Faults.{IsRefusal}
use Rattle.hw_rules.specs.declared.times.Times.{Times}
use Rattle.hw_rules.specs.Rules.{BreaksTimes}
use Rattle.hw_explore.proofs.Worth.{is_bad}
use Rattle.hw_explore.proofs.judging.judge_times.Goals as goal

pub returns-in-Err-Broken : goal.returns-in-Err-Broken
returns-in-Err-Broken c =
    let refusal = IsRefusal (BreaksTimes c.args.checked.now.diagram c.args.plan.now) in
    let refused = subst (λ (times : Result Times CheckFault). IfErr times refusal) c.in-Err-Broken.is c.requires.refused in
    is_bad c.args.checked.now.diagram c.args.plan.now c.in-Err-Broken.field-0-0 (subst refusal c.in-Err-Broken.field-0-is refused)
