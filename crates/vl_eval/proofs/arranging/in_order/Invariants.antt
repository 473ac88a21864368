use Rattle.std.proofs.Common.{◌≡◌, map, take}
use Rattle.vl_eval.specs.inner.Order.{op_at}
use Rattle.vl_eval.proofs.arranging.in_order.Given as goal

abbrev pub invariant-loop-entry : goal.invariant-loop-entry
invariant-loop-entry l = l.arranged ≡ map (op_at l.base l.places l.ops) (take l.entry-index l.entries)
