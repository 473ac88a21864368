use Rattle.std.proofs.Common.{sym, ◌∙◌}
use Rattle.mdl_values.proofs.TypeLemmas.{type_found}
use Rattle.mdl_values.proofs.types.read_type.Goals as goal

pub returns-in-None : goal.returns-in-None
returns-in-None c = type_found c.args.text.now c.fixdt.result (sym c.named_type.ensures ∙ c.in-None.is) c.fixdt.ensures
