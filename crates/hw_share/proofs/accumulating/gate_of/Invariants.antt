use Rattle.hw_share.specs.inner.Gates.{IsGated}
use Rattle.hw_share.proofs.accumulating.gate_of.Given as goal

abbrev pub invariant-loop-slot : goal.invariant-loop-slot
invariant-loop-slot l = IsGated l.fn.net l.net l.frame l.slots l.slot-index l.known
