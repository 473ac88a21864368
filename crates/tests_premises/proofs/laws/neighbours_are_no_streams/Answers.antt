use Rattle.tests_premises.proofs.Streams.{are_no_streams}
use Rattle.tests_premises.proofs.laws.neighbours_are_no_streams.Goals as goal

pub returns : goal.returns
returns c = are_no_streams
