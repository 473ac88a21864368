use Rattle.vl_ast.proofs.ModuleLayouts.{tokens_spell}
use Rattle.vl_ast.proofs.laws.tokens_spell.Goals as goal

pub returns : goal.returns
returns c = tokens_spell
