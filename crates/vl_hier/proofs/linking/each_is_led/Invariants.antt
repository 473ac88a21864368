use Rattle.std.proofs.Common.{◌≡◌, take}
use Rattle.std.specs.List.{list_all}
use Rattle.vl_hier.specs.inner.Tables.{is_led}
use Rattle.vl_hier.proofs.linking.each_is_led.Given as goal

abbrev pub invariant-loop-port : goal.invariant-loop-port
invariant-loop-port l = l.led ≡ list_all (is_led l.nets l.by_port l.links) (take l.port-index l.ports)
