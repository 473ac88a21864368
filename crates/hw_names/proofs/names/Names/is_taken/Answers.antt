use Rattle.hw_names.proofs.NameSets.{taken_is}
use Rattle.hw_names.proofs.names.Names.is_taken.Goals as goal

pub returns : goal.returns
returns c list are = taken_is c.args.self.now list c.args.name.now c.contains.result are c.contains.ensures
