use Rattle.vl_emit.proofs.conditions.enable.Goals as goal

pub returns : goal.returns
returns c = c.named.ensures _ c.copy.ensures
