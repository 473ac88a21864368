use Rattle.std.proofs.Common.{take}
use Rattle.hw_slots.specs.Slots.{needed}
use Rattle.hw_slots.proofs.Steps.{AreGreatest}
use Rattle.hw_slots.proofs.widths.widths_of.Given as goal

abbrev pub invariant-loop-operation : goal.invariant-loop-operation
invariant-loop-operation l = AreGreatest (take l.operation-index l.operations) (needed l.operations l.multipliers) l.widths
