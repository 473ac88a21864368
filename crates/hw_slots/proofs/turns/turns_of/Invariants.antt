use Rattle.std.proofs.Common.{take}
use Rattle.hw_slots.specs.inner.Counts.{AreCounts, AreTurns}
use Rattle.hw_slots.proofs.turns.turns_of.Given as goal

abbrev pub invariant-loop-operation : goal.invariant-loop-operation
invariant-loop-operation l = record {
  turns : AreTurns l.operations l.operation-index l.turns;
  counts : AreCounts (take l.operation-index l.operations) l.counts;
}
