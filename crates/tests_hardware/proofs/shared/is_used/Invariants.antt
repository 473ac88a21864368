use Rattle.std.specs.Prelude.{⊤}
use Rattle.tests_hardware.proofs.shared.is_used.Given as goal

abbrev pub invariant-loop-k : goal.invariant-loop-k
invariant-loop-k l = ⊤
