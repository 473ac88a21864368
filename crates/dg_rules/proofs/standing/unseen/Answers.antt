use Rattle.std.proofs.Common.{rules}
use Rattle.dg_rules.proofs.standing.unseen.Goals as goal

pub returns : goal.returns
returns c = c.in_ok-standings.ensures.items_if_clones_equal (search rules)
