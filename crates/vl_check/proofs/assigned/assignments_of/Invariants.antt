use Rattle.std.proofs.Common.{take}
use Rattle.vl_check.specs.inner.Assignments.{IsNoted}
use Rattle.vl_check.proofs.assigned.assignments_of.Given as goal

abbrev pub invariant-loop-at : goal.invariant-loop-at
invariant-loop-at l = IsNoted l.scope (take l.at l.items) l.places.items l.reads.items
