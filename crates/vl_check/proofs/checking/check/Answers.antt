use Rattle.std.proofs.Common.{ap, ◌∙◌}
use Rattle.vl_check.specs.inner.Mentions.{shown}
use Rattle.vl_check.proofs.checking.check.Goals as goal

pub order_of-requires : goal.order_of-requires
order_of-requires c = c.in_ok-known.ensures c.args.source.now (ap shown c.as_slice-text.ensures.value ∙ c.in_ok-mentions.ensures)

pub returns-clause-scope : goal.returns-clause-scope
returns-clause-scope c = (c.in_ok-known.ensures c.args.source.now (ap shown c.as_slice-text.ensures.value ∙ c.in_ok-mentions.ensures)).scope
