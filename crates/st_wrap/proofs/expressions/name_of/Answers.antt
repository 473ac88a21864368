use Rattle.st_wrap.proofs.expressions.name_of.Goals as goal

pub returns : goal.returns
returns c = c.named.ensures _ c.copy.ensures
