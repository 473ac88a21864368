use Rattle.hw_build.specs.inner.Wants.{AreIndexed, AreSeated}
use Rattle.hw_build.proofs.wants.seats_of.Given as goal

abbrev pub invariant-loop-want : goal.invariant-loop-want
invariant-loop-want l = AreSeated l.wants l.classes.list.items l.seats.items l.want-index × AreIndexed l.classes.list.items l.classes.numbers.entries
