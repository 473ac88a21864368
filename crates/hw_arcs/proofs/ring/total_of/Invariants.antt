use Rattle.std.proofs.Common.{◌≡◌, ◌*◌, ◌≤◌, take}
use Rattle.hw_arcs.specs.inner.Walk.{gains_of, slacks_of}
use Rattle.hw_arcs.proofs.ring.total_of.Given as goal

abbrev pub invariant-loop-block : goal.invariant-loop-block
invariant-loop-block l = record {
  gains : l.gains ≡ gains_of l.arcs l.tight (take l.block-index l.ring);
  slacks : l.slacks ≡ slacks_of l.arcs l.tight (take l.block-index l.ring);
  small : l.gains ≤ l.block-index * 279172874240;
  room : l.slacks ≤ l.block-index * 18446744073709551616;
}
