use Rattle.std.proofs.Common.{◌≡◌, ◌<◌, ℕ, true, slice_get, Some}
use Rattle.hw_net.specs.declared.netlist.NetPort.{NetPort}
use Rattle.hw_trim.specs.inner.Marks.{is_marked, Marks}
use Rattle.hw_trim.proofs.marking.mark_ports.Given as goal

abbrev pub invariant-loop-port : goal.invariant-loop-port
invariant-loop-port l = record {
  marks : Marks l.fn.marks l.marks l.fn.order.items l.order.items;
  marked : (j : ℕ) (port : NetPort) → j < l.port-index → slice_get l.ports j ≡ Some port → is_marked l.marks port.net ≡ true;
}
