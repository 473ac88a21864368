use Rattle.mdl_text.proofs.Complete.{one_tree}
use Rattle.mdl_text.proofs.reading.unique.Goals as goal

pub returns : goal.returns
returns c = one_tree
