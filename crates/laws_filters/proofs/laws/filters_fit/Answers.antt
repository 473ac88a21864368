use Rattle.laws_filters.proofs.FilterFits.{filters_fit}
use Rattle.laws_filters.proofs.laws.filters_fit.Goals as goal

pub returns : goal.returns
returns c = filters_fit c.periods_are_above.ensures.moving c.operations_prepare.ensures.fit c.full_product_is_one.ensures
