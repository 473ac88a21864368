use Rattle.std.proofs.Common.{arith}
use Rattle.dg_model.proofs.Propagation.{param_stands, length_params}
use Rattle.dg_model.proofs.checked.Checked.param.Goals as goal

pub bounds-as_slice-block : goal.bounds-as_slice-block
bounds-as_slice-block c =
    let within = rw (← c.self.view_is) at c.requires in
    rw (c.as_slice.ensures, c.self.invariant.1.params) (omega (arith, within, length_params c.self.inside.diagram))

pub returns : goal.returns
returns c =
    let within = rw (← c.self.view_is) at c.requires in
    rw (c.as_slice.ensures, c.self.invariant.1.params, ← c.self.view_is) (param_stands c.self.inside.diagram c.args.block _ within)
