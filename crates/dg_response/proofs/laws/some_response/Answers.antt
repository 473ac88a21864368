use Rattle.dg_response.proofs.SampleSteps.{has-response}
use Rattle.dg_response.proofs.laws.some_response.Goals as goal

pub returns : goal.returns
returns c = has-response c.columns_are_a_stimulus.ensures.made c.some_table_solves.ensures
