use Rattle.hw_build.specs.inner.Wants.{AreAnswered}
use Rattle.hw_build.proofs.chains.put_classes.Given as goal

abbrev pub invariant-loop-class : goal.invariant-loop-class
invariant-loop-class l = AreAnswered l.fn.net l.net l.classes l.answers.items l.class-index
