use Rattle.vl_inner.proofs.Products.{item-alike}
use Rattle.vl_inner.proofs.laws.renamed_multiplies.Goals as goal

pub returns : goal.returns
returns c = item-alike
