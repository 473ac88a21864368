use Rattle.mdl_build.proofs.plain_readers.type_alone.Goals as goal

pub returns-in-None : goal.returns-in-None
returns-in-None c = λ value given. c.in-None.ensures given.0 given.1
