use Rattle.std.proofs.Common.{◌≡◌, ◌++◌, drop, map, take}
use Rattle.vl_eval.specs.inner.Order.{moved, moved_capture}
use Rattle.vl_eval.proofs.arranging.move_captures.Given as goal

abbrev pub invariant-loop-k : goal.invariant-loop-k
invariant-loop-k l = l.captures ≡ map (moved_capture (moved l.base l.places)) (take l.k l.fn.captures) ++ drop l.k l.fn.captures
