use Rattle.std.proofs.Common.{take}
use Rattle.cmd_check.specs.CheckText.{steps_text}
use Rattle.cmd_check.specs.Handed.{Adds}
use Rattle.cmd_check.proofs.outputs.put_steps.Given as goal

abbrev pub invariant-loop-block : goal.invariant-loop-block
invariant-loop-block g l = Adds g.K.Sink.taken g.K.Sink.faults l.initial.out l.initial.pending l.out l.pending (steps_text l.checked.diagram (take l.block-index l.path))
