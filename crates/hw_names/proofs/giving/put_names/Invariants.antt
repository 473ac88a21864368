use Rattle.hw_names.specs.inner.Sides.{AddsNames}
use Rattle.hw_names.proofs.giving.put_names.Given as goal

abbrev pub invariant-loop-column : goal.invariant-loop-column
invariant-loop-column l = AddsNames l.checked.diagram l.side l.fn.names l.names l.fn.texts l.texts l.column
