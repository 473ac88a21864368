use Rattle.std.proofs.Common.{length, ◌≤◌, ◌-◌}
use Rattle.hw_order.specs.inner.NetOrder.{IsGrowing, IsClosed}
use Rattle.hw_order.proofs.order.spread.Given as goal

abbrev pub invariant-loop-done : goal.invariant-loop-done
invariant-loop-done l = record {
  growing : IsGrowing l.nets l.order.items l.ranks;
  closed : IsClosed l.nets l.ranks l.done (length l.nets);
  within : l.done ≤ length l.order.items;
}

abbrev pub decreases-loop-done : goal.decreases-loop-done
decreases-loop-done l = length l.nets - l.done
