use Rattle.std.proofs.Common.{◌≡◌, ◌<◌, ℕ, Some, slice_get}
use Rattle.hw_net.specs.declared.netlist.NetPort.{NetPort}
use Rattle.hw_net.specs.Netlist.{IsInput}
use Rattle.hw_run.proofs.checking.are_inputs.Given as goal

abbrev pub invariant-loop-k : goal.invariant-loop-k
invariant-loop-k l = (k : ℕ) (port : NetPort) → k < l.k → slice_get l.inputs k ≡ Some port → IsInput l.nets port.net k
