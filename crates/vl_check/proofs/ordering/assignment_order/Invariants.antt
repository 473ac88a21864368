use Rattle.vl_check.proofs.ordering.assignment_order.Given as goal

abbrev pub ghost-beginning : goal.ghost-beginning
ghost-beginning g a = g.of
