use Rattle.vl_inner.proofs.Shallow.{item-renamed}
use Rattle.vl_inner.proofs.laws.renamed_is_of_grammar.Goals as goal

pub returns : goal.returns
returns c = item-renamed
