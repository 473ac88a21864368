use Rattle.dg_sim.specs.Ready.{AreReady}
use Rattle.dg_sim.proofs.readying.prepare.Given as goal

abbrev pub invariant-loop-cell : goal.invariant-loop-cell
invariant-loop-cell l = AreReady l.program l.prepared.items l.cell-index
