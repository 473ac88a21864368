use Rattle.mdl_values.specs.Numbers.{IsNumberText}
use Rattle.mdl_values.specs.Periods.{IsBracketedNumber}
use Rattle.mdl_values.proofs.EitherLemmas.{other_found}
use Rattle.mdl_values.proofs.periods.width_number.Goals as goal

pub returns-in-None : goal.returns-in-None
returns-in-None c = other_found (IsNumberText 1 1024 c.args.text.now) (IsBracketedNumber c.args.text.now) c.bracketed_number.result c.in-None.ensures c.bracketed_number.ensures
