use Rattle.vl_ast.specs.Spelling.{spelling}
use Rattle.vl_read.proofs.Complete.{one_module}
use Rattle.vl_read.proofs.laws.spelling_spells_alone.Goals as goal

pub returns-clause-spells : goal.returns-clause-spells
returns-clause-spells c = c.spelling_spells.ensures

pub returns-clause-alone : goal.returns-clause-alone
returns-clause-alone c text m other spells others = one_module (spelling m) other m others (c.spelling_spells.ensures text m spells)
