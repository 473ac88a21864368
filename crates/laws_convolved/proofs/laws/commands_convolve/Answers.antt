use Rattle.laws_convolved.proofs.Commands.{simulations_convolve, generated_convolve}
use Rattle.laws_convolved.proofs.laws.commands_convolve.Goals as goal

pub returns-clause-simulated : goal.returns-clause-simulated
returns-clause-simulated c =
    simulations_convolve c.all_are_known.ensures c.simulations_are_stimulated.ensures.ordered
    c.simulations_are_stimulated.ensures.stimulated c.models_convolve.ensures

pub returns-clause-generated : goal.returns-clause-generated
returns-clause-generated c =
    generated_convolve c.all_are_known.ensures c.simulations_are_stimulated.ensures.ordered
    c.simulations_are_stimulated.ensures.stimulated c.models_convolve.ensures
