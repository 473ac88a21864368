use Rattle.vl_ast.proofs.ModuleLayouts.{spelling_spells}
use Rattle.vl_ast.proofs.laws.spelling_spells.Goals as goal

pub returns : goal.returns
returns c = spelling_spells
