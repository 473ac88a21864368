use Rattle.dg_model.specs.Wires.{width_into}
use Rattle.dg_model.specs.Wired.{root_input, root_output}
use Rattle.dg_model.proofs.Roots.{are_root_elements}
use Rattle.dg_model.proofs.laws.root_elements_are_listed.Goals as goal

pub returns-clause-inputs : goal.returns-clause-inputs
returns-clause-inputs c diagram attributes wired = are_root_elements root_input (λ block. attributes.width_at block 1) diagram attributes wired.inports

pub returns-clause-outputs : goal.returns-clause-outputs
returns-clause-outputs c diagram attributes wired = are_root_elements root_output (λ block. width_into diagram attributes block 1) diagram attributes wired.outports
