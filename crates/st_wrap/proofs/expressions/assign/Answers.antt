use Rattle.st_wrap.proofs.expressions.assign.Goals as goal

pub returns : goal.returns
returns c taken value = c.put_assignment.ensures _ taken c.copy.ensures value
