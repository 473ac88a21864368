use Rattle.std.proofs.Common.{take}
use Rattle.vl_eval.specs.inner.Order.{AreEntered}
use Rattle.vl_eval.proofs.arranging.entries.Given as goal

abbrev pub invariant-loop-number : goal.invariant-loop-number
invariant-loop-number l = AreEntered l.base (take l.number l.ops) l.levels.items l.entries.items
