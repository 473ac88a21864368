use Rattle.std.proofs.Common.{◌≡◌, length}
use Rattle.vl_check.specs.Scope.{names_in}
use Rattle.vl_eval.specs.inner.PlanOperations.{IsWired}
use Rattle.vl_eval.specs.inner.PlaceBits.{IfFine}
use Rattle.vl_eval.proofs.plan.wires.Given as goal

abbrev pub invariant-loop-number : goal.invariant-loop-number
invariant-loop-number l = record {
  long : length l.slots.items ≡ length (names_in l.scope);
  wired : IfFine l.fn.ops l.ops (IsWired l.source l.scope l.order l.places l.number-index l.slots.items l.ops.code);
}
