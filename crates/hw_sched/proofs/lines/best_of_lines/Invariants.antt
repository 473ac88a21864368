use Rattle.std.proofs.Common.{◌+◌}
use Rattle.hw_sched.specs.inner.Greatest.{IsGreatest, IsLineFrom}
use Rattle.hw_sched.proofs.lines.best_of_lines.Given as goal

abbrev pub invariant-loop-edge : goal.invariant-loop-edge
invariant-loop-edge l = IsGreatest (IsLineFrom l.checked.diagram (l.first + l.edge-index) l.place) l.depths l.best
