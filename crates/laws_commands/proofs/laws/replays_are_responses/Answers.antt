use Rattle.laws_commands.proofs.Replays.{replays-are-responses, replays-are-simulations, simulations-are-replays}
use Rattle.laws_commands.proofs.laws.replays_are_responses.Goals as goal

pub returns-clause-same : goal.returns-clause-same
returns-clause-same c = replays-are-responses c.all_are_known.ensures

pub returns-clause-replays : goal.returns-clause-replays
returns-clause-replays c = replays-are-simulations c.all_are_known.ensures

pub returns-clause-simulations : goal.returns-clause-simulations
returns-clause-simulations c = simulations-are-replays c.all_are_known.ensures
