use Rattle.laws_commands.proofs.Stimuli.{diagrams-are-ordered, simulations-are-stimulated}
use Rattle.laws_commands.proofs.laws.simulations_are_stimulated.Goals as goal

pub returns-clause-ordered : goal.returns-clause-ordered
returns-clause-ordered c = diagrams-are-ordered

pub returns-clause-stimulated : goal.returns-clause-stimulated
returns-clause-stimulated c = simulations-are-stimulated c.all_are_known.ensures
