use Rattle.std.proofs.Common.{take}
use Rattle.vl_check.specs.inner.CycleMarks.{AreMarked}
use Rattle.vl_check.proofs.ordering.marks_of.Given as goal

abbrev pub invariant-loop-number : goal.invariant-loop-number
invariant-loop-number l = AreMarked (take l.number-index l.numbers) l.count l.marks.items
