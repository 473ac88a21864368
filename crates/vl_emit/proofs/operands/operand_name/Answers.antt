use Rattle.vl_emit.proofs.operands.operand_name.Goals as goal

pub returns : goal.returns
returns c = c.named.ensures _ c.text_of.ensures
