use Rattle.vl_inner.proofs.Same.{item-same}
use Rattle.vl_inner.proofs.laws.renamed_is_same.Goals as goal

pub returns : goal.returns
returns c = item-same
