use Rattle.vl_ast.proofs.TokenForms.{number-writable, based-writable}
use Rattle.vl_ast.proofs.laws.numbers_are_writable.Goals as goal

pub returns : goal.returns
returns c = record { plain = number-writable; based = based-writable }
