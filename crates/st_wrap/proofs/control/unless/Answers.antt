use Rattle.st_wrap.proofs.control.unless.Goals as goal

pub returns : goal.returns
returns c = c.binary.ensures _ _ c.is_zero-other.ensures c.name_of.ensures
