use Rattle.vl_ast.proofs.making.put_expression.Goals as goal

pub returns : goal.returns
returns c is made = c.put.ensures is made
