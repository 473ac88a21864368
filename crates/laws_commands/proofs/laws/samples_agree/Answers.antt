use Rattle.laws_commands.proofs.FirstSample.{first-has-columns}
use Rattle.laws_commands.proofs.SampleEquals.{samples-are-equal}
use Rattle.laws_commands.proofs.Samples.{samples-agree}
use Rattle.laws_commands.proofs.laws.samples_agree.Goals as goal

pub returns-clause-agree : goal.returns-clause-agree
returns-clause-agree c = samples-agree c.all_are_known.ensures

pub returns-clause-equal : goal.returns-clause-equal
returns-clause-equal c = samples-are-equal c.all_are_known.ensures

pub returns-clause-columns : goal.returns-clause-columns
returns-clause-columns c = first-has-columns
