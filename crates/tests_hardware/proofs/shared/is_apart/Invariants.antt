use Rattle.tests_hardware.specs.inner.OperationTests.{IsApartAt}
use Rattle.tests_hardware.proofs.shared.is_apart.Given as goal

abbrev pub invariant-loop-k : goal.invariant-loop-k
invariant-loop-k l = IsApartAt l.net l.operations l.j l.k
