use Rattle.hw_lower.specs.inner.Spread.{BeginsWith}
use Rattle.hw_lower.proofs.lowering.inputs_of.Given as goal

abbrev pub invariant-loop-input : goal.invariant-loop-input
invariant-loop-input l = BeginsWith l.plan l.types l.input
