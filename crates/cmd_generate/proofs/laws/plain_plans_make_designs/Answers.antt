use Rattle.cmd_generate.proofs.PlainPlans.{designs-are-at-once, empty-makes-designs, make-designs}
use Rattle.cmd_generate.proofs.laws.plain_plans_make_designs.Goals as goal

pub returns-clause-times : goal.returns-clause-times
returns-clause-times c = designs-are-at-once c.plain_plans_are_at_once.ensures

pub returns-clause-designs : goal.returns-clause-designs
returns-clause-designs c = make-designs c.plain_plans_break_storage.ensures

pub returns-clause-empty : goal.returns-clause-empty
returns-clause-empty c = empty-makes-designs c.plain_plans_break_storage.ensures
