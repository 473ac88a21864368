use Rattle.vl_ast.proofs.Copies.{name-copied, name-multiplies-none}
use Rattle.vl_ast.proofs.laws.name_is_copied.Goals as goal

pub returns-clause-copied : goal.returns-clause-copied
returns-clause-copied c = name-copied

pub returns-clause-bare : goal.returns-clause-bare
returns-clause-bare c nets to from = name-multiplies-none nets _ _ from
