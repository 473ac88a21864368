use Rattle.vl_ast.proofs.making.choose.Goals as goal

pub returns : goal.returns
returns c first second third test chosen other =
    c.choose_of.ensures first second third (c.in_box.ensures first test) (c.in_box-2.ensures second chosen) (c.in_box-3.ensures third other)
