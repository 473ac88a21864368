use Rattle.hw_order.specs.Order.{IsOrder}
use Rattle.hw_fold.specs.inner.Roots.{ArePinned, IsFolding, fold_of}
use Rattle.hw_fold.proofs.folding.settle_all.Given as goal

abbrev pub invariant-loop-k : goal.invariant-loop-k
invariant-loop-k l = record {
  folding : (ordered : IsOrder l.nets l.order) → IsFolding ordered.rank l.k-index (fold_of l.nets l.alone l.roots l.done);
  pinned : ArePinned l.own (fold_of l.nets l.alone l.roots l.done);
}
