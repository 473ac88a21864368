use Rattle.std.proofs.Common.{◌≡◌}
use Rattle.hw_slots.specs.inner.Counts.{AreBasesBy, IsElsewhere, base_by}
use Rattle.hw_slots.proofs.laying.lay_out.Given as goal

abbrev pub invariant-loop-level : goal.invariant-loop-level
invariant-loop-level l = record {
  bases : AreBasesBy l.widths l.start l.period l.level l.bases;
  slot : l.slot ≡ base_by l.widths l.start l.period l.level;
  elsewhere : IsElsewhere l.period l.fn.bases l.bases;
}
