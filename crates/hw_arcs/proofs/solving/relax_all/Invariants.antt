use Rattle.std.proofs.Common.{length}
use Rattle.hw_arcs.specs.inner.State.{IsRelaxing, seen, work_of}
use Rattle.hw_arcs.proofs.solving.relax_all.Given as goal

abbrev pub invariant-relax : goal.invariant-relax
invariant-relax l = IsRelaxing l.arcs (length l.fn.state.lat.items) l.limit (seen l.state)

abbrev pub decreases-relax : goal.decreases-relax
decreases-relax l = work_of l.limit (seen l.state)
