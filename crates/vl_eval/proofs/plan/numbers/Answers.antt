use Rattle.std.proofs.Common.{◌+◌, sym, subst}
use Rattle.vl_eval.specs.inner.PlanOperations.{AreNumbers}
use Rattle.vl_eval.proofs.LoopLists.{numbers-more, numbers-none}
use Rattle.vl_eval.proofs.plan.numbers.Goals as goal

pub loop-number-init : goal.loop-number-init
loop-number-init c = subst (AreNumbers 0) (sym c.new-numbers.ensures.items) numbers-none

pub loop-number-preserved : goal.loop-number-preserved
loop-number-preserved c =
    let number = c.loop-number.number in
    subst (AreNumbers (number + 1)) (sym c.in_ok-push.ensures.items) (numbers-more number c.loop-number.numbers.items c.loop-number.invariant)
