use Rattle.vl_ast.proofs.making.put_bit_port.Goals as goal

pub returns : goal.returns
returns c = c.put.ensures _ (c.port.ensures _ _ c.copy-own.ensures c.new.ensures)
