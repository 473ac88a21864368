use Rattle.st_wrap.proofs.control.declare_net.Goals as goal

pub returns : goal.returns
returns c = c.put_declaration.ensures _ c.copy.ensures
