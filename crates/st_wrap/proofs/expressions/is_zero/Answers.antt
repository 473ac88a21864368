use Rattle.st_wrap.proofs.expressions.is_zero.Goals as goal

pub returns : goal.returns
returns c = c.unary.ensures _ c.name_of.ensures
