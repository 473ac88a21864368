use Rattle.vl_ast.proofs.making.put_assignment.Goals as goal

pub returns : goal.returns
returns c text shown name value = c.put.ensures _ (c.assignment.ensures text shown name value)
