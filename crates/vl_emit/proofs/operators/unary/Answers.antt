use Rattle.vl_emit.proofs.operators.unary.Goals as goal

pub returns : goal.returns
returns c = c.unary.ensures _ c.at_width.ensures
