use Rattle.vl_ast.proofs.PlainRows.{are-ungated}
use Rattle.vl_ast.proofs.laws.gated_rows_run.Goals as goal

pub returns : goal.returns
returns c m window start inputs rows acyclic clocked stallable last runs = are-ungated c.meaning_by_layer.ensures.value m acyclic clocked stallable window start inputs rows last runs
