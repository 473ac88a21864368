use Rattle.std.proofs.Common.{◌≡◌, length}
use Rattle.hw_order.proofs.order.empty_lists.Given as goal

abbrev pub invariant-loop-k : goal.invariant-loop-k
invariant-loop-k l = length l.lists.items ≡ l.k
