use Rattle.std.proofs.Common.{◌≡◌}
use Rattle.hw_slots.specs.inner.Counts.{AreFirstBy, first_by}
use Rattle.hw_slots.proofs.firsts.firsts_of.Given as goal

abbrev pub invariant-loop-kind : goal.invariant-loop-kind
invariant-loop-kind l = record {
  firsts : AreFirstBy l.most l.multipliers l.kind l.firsts;
  first : l.first ≡ first_by l.most l.multipliers l.kind;
}
