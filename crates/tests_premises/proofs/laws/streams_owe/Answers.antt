use Rattle.tests_premises.proofs.WholeStreams.{streams-owe}
use Rattle.tests_premises.proofs.laws.streams_owe.Goals as goal

pub returns : goal.returns
returns c = streams-owe
