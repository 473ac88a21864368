use Rattle.hw_build.specs.inner.PortSteps.{AddsInputPorts}
use Rattle.hw_build.proofs.ports.put_inputs.Given as goal

abbrev pub invariant-loop-column : goal.invariant-loop-column
invariant-loop-column l = AddsInputPorts l.checked.diagram l.fn.names l.names l.fn.net l.net l.column
