use Rattle.std.proofs.Common.{arith}
use Rattle.dg_model.proofs.Propagation.{length_periods}
use Rattle.dg_model.proofs.checked.Checked.period.Goals as goal

pub bounds-as_slice-block : goal.bounds-as_slice-block
bounds-as_slice-block c =
    let within = rw (← c.self.view_is) at c.requires in
    rw (c.as_slice.ensures, c.self.invariant.1.periods) (omega (arith, within, length_periods c.self.inside.diagram))
