use Rattle.hw_order.specs.inner.NetOrder.{IsGrowing, IsClosed}
use Rattle.hw_order.proofs.order.begin.Given as goal

abbrev pub invariant-loop-k : goal.invariant-loop-k
invariant-loop-k l = record {
  growing : IsGrowing l.nets l.order.items l.ranks;
  closed : IsClosed l.nets l.ranks 0 l.k;
}
