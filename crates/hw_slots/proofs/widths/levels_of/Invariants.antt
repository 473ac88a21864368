use Rattle.std.proofs.Common.{take}
use Rattle.hw_slots.specs.Slots.{level_after}
use Rattle.hw_slots.proofs.Steps.{AreGreatest, at_first}
use Rattle.hw_slots.proofs.widths.levels_of.Given as goal

abbrev pub invariant-loop-operation : goal.invariant-loop-operation
invariant-loop-operation l = AreGreatest (take l.operation-index l.operations) (at_first level_after) l.levels
