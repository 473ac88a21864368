use Rattle.dg_rules.proofs.OneRule.{not_broken}
use Rattle.dg_rules.proofs.laws.checked_is_not_broken.Goals as goal

pub returns : goal.returns
returns c = not_broken
