use Rattle.mdl_values.proofs.TypeLemmas.{frac_found}
use Rattle.mdl_values.proofs.types.frac_part.Goals as goal

pub returns-in-Some : goal.returns-in-Some
returns-in-Some c = frac_found c.args.part.now c.in-Some.word.now c.read_frac.result c.in-Some.ensures c.read_frac.ensures
