use Rattle.vl_ast.proofs.making.binary.Goals as goal

pub returns : goal.returns
returns c one other left right = c.binary_of.ensures one other (c.in_box.ensures one left) (c.in_box-2.ensures other right)
