use Rattle.tests_hardware.specs.inner.OperationTests.{AreUsed}
use Rattle.tests_hardware.proofs.shared.are_used.Given as goal

abbrev pub invariant-loop-unit : goal.invariant-loop-unit
invariant-loop-unit l = AreUsed l.operations l.unit
