use Rattle.hw_build.specs.inner.HubPlaces.{AddsInputs}
use Rattle.hw_build.proofs.hubs.put_inputs.Given as goal

abbrev pub invariant-loop-column : goal.invariant-loop-column
invariant-loop-column l = AddsInputs l.checked.diagram l.fn.net l.net l.inputs l.column
