use Rattle.vl_ast.proofs.Layers.{value_by_layer}
use Rattle.vl_ast.proofs.Values.{own_length-roll, is_signed-roll}
use Rattle.vl_ast.proofs.laws.meaning_by_layer.Goals as goal

pub returns-clause-length : goal.returns-clause-length
returns-clause-length c = own_length-roll

pub returns-clause-sign : goal.returns-clause-sign
returns-clause-sign c = is_signed-roll

pub returns-clause-value : goal.returns-clause-value
returns-clause-value c = value_by_layer
