use Rattle.std.proofs.Common.{take}
use Rattle.dg_rules.specs.inner.Lines.{AreNumbered}
use Rattle.dg_rules.proofs.lines.Lines.of.Given as goal

abbrev pub invariant-loop-number : goal.invariant-loop-number
invariant-loop-number l = AreNumbered (take l.number l.pipelines) l.by_path.entries
