use Rattle.vl_inner.proofs.Meanings.{means}
use Rattle.vl_inner.proofs.laws.renamed_means.Goals as goal

pub returns : goal.returns
returns c = means
