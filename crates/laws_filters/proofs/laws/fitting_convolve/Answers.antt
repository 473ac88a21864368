use Rattle.laws_filters.proofs.Convolution.{fitting_convolve}
use Rattle.laws_filters.proofs.laws.fitting_convolve.Goals as goal

pub returns : goal.returns
returns c =
    fitting_convolve c.solved_is_in_range.ensures c.same_type_is_identity.ensures c.storing_gives_one.ensures c.operations_prepare.ensures.types c.full_product_is_one.ensures c.taps_are_held.ensures
