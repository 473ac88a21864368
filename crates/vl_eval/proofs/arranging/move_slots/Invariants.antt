use Rattle.std.proofs.Common.{◌≡◌, ◌++◌, drop, map, take}
use Rattle.vl_eval.specs.inner.Order.{moved}
use Rattle.vl_eval.proofs.arranging.move_slots.Given as goal

abbrev pub invariant-loop-k : goal.invariant-loop-k
invariant-loop-k l = l.slots ≡ map (moved l.base l.places) (take l.k l.fn.slots) ++ drop l.k l.fn.slots
