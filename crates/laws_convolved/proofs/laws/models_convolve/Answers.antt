use Rattle.laws_convolved.proofs.Models.{models_convolve}
use Rattle.laws_convolved.proofs.laws.models_convolve.Goals as goal

pub returns : goal.returns
returns c = models_convolve c.all_are_known.ensures c.filters_are_flat.ensures c.filters_stand.ensures
