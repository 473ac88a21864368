use Rattle.vl_ast.proofs.Parts.{part-runs}
use Rattle.vl_ast.proofs.laws.parts_run.Goals as goal

pub returns : goal.returns
returns c m whole count start inputs rows small large has runs = part-runs c.meaning_by_layer.ensures.value m whole small large has count start inputs rows runs
