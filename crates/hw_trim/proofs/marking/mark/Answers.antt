use Rattle.std.proofs.Common.{ℕ, List, set, true, subst, sym}
use Rattle.hw_trim.specs.inner.Marks.{Marks}
use Rattle.hw_trim.proofs.Marks.{marks-one}
use Rattle.hw_trim.proofs.marking.mark.Goals as goal

pub returns-clause-marks : goal.returns-clause-marks
returns-clause-marks c =
    subst (λ (xs : List ℕ). Marks c.args.marks.now (set c.args.marks.now c.args.k true) c.args.order.now.items xs) (sym c.in_ok-push.ensures.items)
    (marks-one c.args.marks.now c.args.order.now.items c.args.k c.requires.there c.requires.marking c.if-marks-k.false)
