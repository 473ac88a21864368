use Rattle.vl_ast.proofs.StallFree.{are-thinned}
use Rattle.vl_ast.proofs.laws.counted_rows_run.Goals as goal

pub returns : goal.returns
returns c m window start inputs rows acyclic clocked stallable keeps last runs =
    are-thinned c.meaning_by_layer.ensures.value m acyclic clocked stallable keeps window start inputs rows last runs
