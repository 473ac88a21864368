use Rattle.std.proofs.Common.{◌≡◌, filter, not, ◌&&◌, codes, bytes_eq, drop, ◌++◌}
use Rattle.vl_eval.specs.Given.{driven_ports}
use Rattle.vl_replay.specs.inner.Drivers.{drivers_from}
use Rattle.vl_replay.proofs.drivers.drivers_of.Given as goal

abbrev pub invariant-loop-port : goal.invariant-loop-port
invariant-loop-port l = l.drivers.items
    ++ drivers_from l.stalls l.place (filter (λ port. port.input && not (bytes_eq port.name (codes "clk")))
    (drop l.port-index l.source.ports)) ≡ drivers_from l.stalls 0 (driven_ports l.source)
