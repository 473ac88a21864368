use Rattle.hw_build.specs.inner.Controls.{PutsAny}
use Rattle.hw_build.proofs.controls.some_above.Given as goal

abbrev pub invariant-loop-operand : goal.invariant-loop-operand
invariant-loop-operand l = PutsAny l.fn.net l.net l.fn.operands l.operand-index l.zero l.some
