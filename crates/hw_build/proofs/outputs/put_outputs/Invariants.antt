use Rattle.hw_build.specs.inner.RootOutputs.{AddsOutputs}
use Rattle.hw_build.proofs.outputs.put_outputs.Given as goal

abbrev pub invariant-loop-column : goal.invariant-loop-column
invariant-loop-column l = AddsOutputs l.design l.firsts l.fn.names l.names l.fn.net l.net l.column
