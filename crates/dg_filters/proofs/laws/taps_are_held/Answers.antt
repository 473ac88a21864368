use Rattle.dg_filters.proofs.Taps.{taps_held}
use Rattle.dg_filters.proofs.laws.taps_are_held.Goals as goal

pub returns : goal.returns
returns c = taps_held
