use Rattle.std.proofs.Common.{ℕ, ◌<◌, length}
use Rattle.tests_hardware.specs.inner.OperationTests.{IsApartAt}
use Rattle.tests_hardware.proofs.shared.can_share.Given as goal

abbrev pub invariant-loop-j : goal.invariant-loop-j
invariant-loop-j l = (i : ℕ) → i < l.j → IsApartAt l.net l.operations i (length l.operations)
