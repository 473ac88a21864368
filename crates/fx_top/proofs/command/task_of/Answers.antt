use Rattle.std.proofs.Common.{sym, ap, ◌∙◌}
use Rattle.cmd_explore.specs.RangeWord.{range_of}
use Rattle.mdl_values.specs.Words.{value_beside}
use Rattle.fx_top.proofs.Commands.{explored-asked, plain-asked, plain-task, plain_tasks}
use Rattle.fx_top.proofs.command.task_of.Goals as goal

pub returns-in-Some-clause-is : goal.returns-in-Some-clause-is
returns-in-Some-clause-is c = λ first. explored-asked c.args.verb.now first c.args.second.now
    (sym c.eq.ensures ∙ c.if-eq.true) _
    (sym c.in-Some.is ∙ c.read_range.ensures.is ∙ ap range_of c.as_bytes.ensures.value)

pub returns-in-Some-clause-range : goal.returns-in-Some-clause-range
returns-in-Some-clause-range c = c.in-Some.ensures.range

pub returns-in-None-clause-is : goal.returns-in-None-clause-is
returns-in-None-clause-is c = λ first. explored-asked c.args.verb.now first c.args.second.now
    (sym c.eq.ensures ∙ c.if-eq.true) _
    (sym c.in-None.is ∙ c.read_range.ensures.is ∙ ap range_of c.as_bytes.ensures.value)

pub returns-clause-is : goal.returns-clause-is
returns-clause-is c = λ first. plain-asked c.args.verb.now first c.args.second.now
    (sym c.eq.ensures ∙ c.if-eq.false) c.value_beside.result
    (c.value_beside.ensures ∙ ap (value_beside plain_tasks) c.as_bytes-word.ensures.value)

pub returns-clause-range : goal.returns-clause-range
returns-clause-range c = plain-task c.args.verb.now c.value_beside.result (c.value_beside.ensures ∙ ap (value_beside plain_tasks) c.as_bytes-word.ensures.value)
