use Rattle.hw_arcs.specs.inner.State.{AreRowsOf}
use Rattle.hw_arcs.proofs.solving.rows_of.Given as goal

abbrev pub invariant-loop-number : goal.invariant-loop-number
invariant-loop-number l = AreRowsOf l.arcs l.count l.number l.rows.items
