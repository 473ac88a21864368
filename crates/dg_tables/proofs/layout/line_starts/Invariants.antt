use Rattle.dg_tables.specs.inner.Layout.{AreLinesTo}
use Rattle.dg_tables.proofs.layout.line_starts.Given as goal

abbrev pub invariant-loop-place : goal.invariant-loop-place
invariant-loop-place l = AreLinesTo l.checked.diagram l.place l.firsts.items
