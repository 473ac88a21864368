use Rattle.st_wrap.proofs.control.with_number.Goals as goal

pub returns : goal.returns
returns c = c.binary.ensures _ _ c.name_of.ensures c.number.ensures
