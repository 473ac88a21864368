use Rattle.st_wrap.proofs.expressions.binary_of_names.Goals as goal

pub returns : goal.returns
returns c = c.binary.ensures _ _ c.name_of.ensures c.name_of-2.ensures
