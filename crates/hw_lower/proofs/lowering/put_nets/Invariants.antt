use Rattle.std.proofs.Common.{length}
use Rattle.hw_lower.specs.inner.PlanNets.{AreNumbers, AreNets}
use Rattle.hw_lower.proofs.lowering.put_nets.Given as goal

abbrev pub invariant-loop-place : goal.invariant-loop-place
invariant-loop-place l = record {
  numbers : AreNumbers l.args (length l.fn.net.nets) l.place l.numbers.items;
  nets : AreNets l.fn.net l.net l.args l.steps l.place;
}
