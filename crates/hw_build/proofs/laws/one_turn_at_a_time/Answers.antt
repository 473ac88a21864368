use Rattle.hw_build.proofs.Turns.{one_turn}
use Rattle.hw_build.proofs.laws.one_turn_at_a_time.Goals as goal

pub returns : goal.returns
returns c = one_turn c.operations_are_served.ensures.served c.slots_differ.ensures.slots c.ready_fits.ensures
