use Rattle.vl_ast.proofs.making.put_register.Goals as goal

pub returns : goal.returns
returns c text number test taken is name condition value = c.put_clocked.ensures text number _ taken is name (c.some_condition.ensures test condition) value
