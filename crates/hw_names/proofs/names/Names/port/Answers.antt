use Rattle.hw_names.proofs.names.Names.port.Goals as goal

pub returns : goal.returns
returns c = rw (c.in_ok-name.ensures, c.in_ok-own.ensures) at c.give.ensures
