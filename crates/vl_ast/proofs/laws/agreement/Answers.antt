use Rattle.vl_ast.proofs.Agree.{values-agree}
use Rattle.vl_ast.proofs.laws.agreement.Goals as goal

pub returns : goal.returns
returns c = values-agree c.meaning_by_layer.ensures.value
