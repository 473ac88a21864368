use Rattle.tests_premises.proofs.WholeDesign.{designed}
use Rattle.tests_premises.proofs.WholePlan.{scheduled, shared}
use Rattle.tests_premises.proofs.WholeTable.{in_range, solves}
use Rattle.tests_premises.proofs.laws.whole_model.Goals as goal

pub returns : goal.returns
returns c = record { design = designed; scheduled = scheduled; shared = shared; in_range = in_range; solves = solves }
