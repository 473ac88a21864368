use Rattle.vl_read.proofs.Complete.{read_back}
use Rattle.vl_read.proofs.laws.reads_back.Goals as goal

pub returns : goal.returns
returns c = read_back
