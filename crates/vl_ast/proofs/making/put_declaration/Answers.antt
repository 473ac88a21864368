use Rattle.vl_ast.proofs.making.put_declaration.Goals as goal

pub returns : goal.returns
returns c text name = c.put.ensures _ (c.net.ensures text name)
