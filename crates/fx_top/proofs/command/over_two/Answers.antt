use Rattle.std.proofs.Common.{sym, ap, ◌∙◌}
use Rattle.std.specs.Option.{option_map}
use Rattle.fx_top.specs.inner.FileCommands.{over_files}
use Rattle.fx_top.proofs.command.over_two.Goals as goal

pub returns-in-Some-clause-is : goal.returns-in-Some-clause-is
returns-in-Some-clause-is c = ap (option_map (over_files c.args.first.now c.args.second.now)) (sym c.in-Some.is) ∙ c.task_of.ensures.is c.args.first.now

pub returns-in-None-clause-is : goal.returns-in-None-clause-is
returns-in-None-clause-is c = ap (option_map (over_files c.args.first.now c.args.second.now)) (sym c.in-None.is) ∙ c.task_of.ensures.is c.args.first.now
