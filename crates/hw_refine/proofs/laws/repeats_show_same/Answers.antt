use Rattle.hw_refine.proofs.Alike.{repeats}
use Rattle.hw_refine.proofs.laws.repeats_show_same.Goals as goal

pub returns : goal.returns
returns c = repeats
