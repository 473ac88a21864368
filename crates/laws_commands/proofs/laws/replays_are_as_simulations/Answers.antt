use Rattle.laws_commands.proofs.Replays.{bad-replayed-is-simulated, bad-simulated-is-replayed, replayed-is-simulated, simulated-is-replayed}
use Rattle.laws_commands.proofs.laws.replays_are_as_simulations.Goals as goal

pub returns-clause-replayed : goal.returns-clause-replayed
returns-clause-replayed c = replayed-is-simulated c.all_are_known.ensures

pub returns-clause-simulated : goal.returns-clause-simulated
returns-clause-simulated c = simulated-is-replayed c.all_are_known.ensures

pub returns-clause-bad_replayed : goal.returns-clause-bad_replayed
returns-clause-bad_replayed c = bad-replayed-is-simulated c.all_are_known.ensures

pub returns-clause-bad_simulated : goal.returns-clause-bad_simulated
returns-clause-bad_simulated c = bad-simulated-is-replayed c.all_are_known.ensures
