use Rattle.vl_check.proofs.checking.order_of.Given as goal

abbrev pub ghost-assignment_order : goal.ghost-assignment_order
ghost-assignment_order a = a.source.now
