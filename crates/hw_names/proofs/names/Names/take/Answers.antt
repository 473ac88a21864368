use Rattle.std.proofs.Common.{refl}
use Rattle.hw_names.proofs.NameSets.{more_taken}
use Rattle.hw_names.proofs.names.Names.take.Goals as goal

pub returns : goal.returns
returns c list are = rw c.in_ok-own.ensures.items at (more_taken _ _ list c.in_ok-own.own c.in_ok-insert.ensures.updates refl are)
