use Rattle.hw_sched.proofs.CellNumbers.{cells_more}
use Rattle.hw_sched.proofs.cells.Cells.put.Goals as goal

pub returns : goal.returns
returns c = λ diagram plan timing o rest is before.
    cells_more diagram plan timing o rest c.args.sort c.in_ok-kind.kind c.args.self.now _ is c.in_ok-kind.ensures.is c.in_ok-kind.ensures.kinds c.in_ok-push.ensures.items before
