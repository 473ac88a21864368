use Rattle.hw_refine.proofs.Alike.{copies}
use Rattle.hw_refine.proofs.laws.copies_show_same.Goals as goal

pub returns : goal.returns
returns c = copies
