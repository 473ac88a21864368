use Rattle.dg_sim.specs.inner.ProgramSteps.{AreShown}
use Rattle.dg_sim.proofs.building.shown_of.Given as goal

abbrev pub invariant-loop-root : goal.invariant-loop-root
invariant-loop-root l = AreShown l.places l.roots l.shown l.root-index
