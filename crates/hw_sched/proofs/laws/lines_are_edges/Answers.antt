use Rattle.hw_sched.proofs.Edges.{lines_are_edges, controls_are_edges}
use Rattle.hw_sched.proofs.laws.lines_are_edges.Goals as goal

pub returns-clause-lines : goal.returns-clause-lines
returns-clause-lines c = lines_are_edges

pub returns-clause-controls : goal.returns-clause-controls
returns-clause-controls c = controls_are_edges
