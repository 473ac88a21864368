use Rattle.dg_tables.specs.inner.Ports.{ArePortsTo, root_on}
use Rattle.dg_tables.proofs.roots.ports_on.Given as goal

abbrev pub invariant-loop-i : goal.invariant-loop-i
invariant-loop-i l = ArePortsTo (root_on l.side) l.blocks l.i l.ports.items
