use Rattle.cmd_sample.proofs.SampleTree.{sample_stands}
use Rattle.cmd_sample.proofs.laws.models_stand.Goals as goal

pub returns : goal.returns
returns c = sample_stands
