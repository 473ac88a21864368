use Rattle.laws_filters.proofs.FilterFits.{filters_convolve}
use Rattle.laws_filters.proofs.laws.filters_convolve.Goals as goal

pub returns : goal.returns
returns c = filters_convolve c.filters_fit.ensures c.fitting_convolve.ensures
