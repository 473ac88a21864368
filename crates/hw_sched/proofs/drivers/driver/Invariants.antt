use Rattle.std.proofs.Common.{◌+◌}
use Rattle.hw_sched.proofs.PortLines.{NoneEnters}
use Rattle.hw_sched.proofs.drivers.driver.Given as goal

abbrev pub invariant-loop-edge : goal.invariant-loop-edge
invariant-loop-edge l = NoneEnters l.checked.diagram.edges (l.first + l.edge-index) l.place l.port
