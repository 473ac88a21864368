use Rattle.mdl_values.specs.Signs.{IsCount, AreSigns}
use Rattle.mdl_values.proofs.EitherLemmas.{other_found}
use Rattle.mdl_values.proofs.SignLemmas.{no_count}
use Rattle.mdl_values.proofs.signs.read_signs.Goals as goal

pub returns-in-None : goal.returns-in-None
returns-in-None c = other_found (IsCount c.args.text.now) (AreSigns c.args.text.now) c.few_signs.result (no_count c.args.text.now c.in-None.ensures) c.few_signs.ensures
