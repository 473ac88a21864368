use Rattle.vl_ast.proofs.ModuleTokens.{module-spells}
use Rattle.vl_ast.proofs.laws.sound_modules_spell.Goals as goal

pub returns : goal.returns
returns c = module-spells c.meaning_by_layer.ensures.value
