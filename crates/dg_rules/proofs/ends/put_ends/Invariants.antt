use Rattle.dg_rules.proofs.PathEnds.{ArePut}
use Rattle.dg_rules.proofs.ends.put_ends.Given as goal

abbrev pub invariant-loop-size : goal.invariant-loop-size
invariant-loop-size l = ArePut l.fn.ends.entries l.ends.entries l.path l.size
