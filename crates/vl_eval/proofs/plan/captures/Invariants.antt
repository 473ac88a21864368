use Rattle.std.proofs.Common.{take}
use Rattle.vl_eval.specs.inner.PlanOperations.{AreCaptured}
use Rattle.vl_eval.specs.inner.PlaceBits.{IfFine}
use Rattle.vl_eval.proofs.plan.captures.Given as goal

abbrev pub invariant-loop-item : goal.invariant-loop-item
invariant-loop-item l = IfFine l.fn.ops l.ops (AreCaptured l.source l.site.scope.now l.site.slots.now (take l.item-index l.source.items) l.fn.ops.code l.ops.code l.captures.items)
