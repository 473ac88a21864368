use Rattle.vl_ast.proofs.making.begin.Goals as goal

pub returns : goal.returns
returns g c = record { whole = λ enough. c.new.ensures }
