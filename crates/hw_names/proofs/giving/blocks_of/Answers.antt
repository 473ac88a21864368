use Rattle.hw_names.proofs.giving.blocks_of.Goals as goal

pub returns-in-Inputs : goal.returns-in-Inputs
returns-in-Inputs c = rw c.in-Inputs.is c.input_blocks.ensures

pub returns-in-Outputs : goal.returns-in-Outputs
returns-in-Outputs c = rw c.in-Outputs.is c.output_blocks.ensures
