use Rattle.laws_commands.proofs.Held.{bad-simulated-of-files, held-are-read, simulated-of-files, simulations-of-files}
use Rattle.laws_commands.proofs.laws.files_are_replayed.Goals as goal

pub returns-clause-few : goal.returns-clause-few
returns-clause-few c = held-are-read

pub returns-clause-simulations : goal.returns-clause-simulations
returns-clause-simulations c = simulations-of-files c.all_are_known.ensures

pub returns-clause-simulated : goal.returns-clause-simulated
returns-clause-simulated c = simulated-of-files c.all_are_known.ensures

pub returns-clause-bad_simulated : goal.returns-clause-bad_simulated
returns-clause-bad_simulated c = bad-simulated-of-files c.all_are_known.ensures
