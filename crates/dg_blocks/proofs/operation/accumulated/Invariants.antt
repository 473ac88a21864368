use Rattle.dg_model.specs.Operation.{operation_of}
use Rattle.dg_blocks.proofs.Steps.{AreAdded}
use Rattle.dg_blocks.proofs.operation.accumulated.Given as goal

abbrev pub invariant-loop-input : goal.invariant-loop-input
invariant-loop-input l = AreAdded (operation_of l.call) l.accum l.inputs l.input l.total
