use Rattle.hw_order.specs.inner.NetOrder.{IsLinked}
use Rattle.hw_order.proofs.order.link_nets.Given as goal

abbrev pub invariant-loop-k : goal.invariant-loop-k
invariant-loop-k l = IsLinked l.nets l.readers l.k
