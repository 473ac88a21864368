use Rattle.dg_sim.specs.inner.ProgramSteps.{AreRooms}
use Rattle.dg_sim.proofs.sim.pasts_of.Given as goal

abbrev pub invariant-loop-memory : goal.invariant-loop-memory
invariant-loop-memory l = AreRooms l.memories l.pasts.items l.memory-index
