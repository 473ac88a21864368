use Rattle.dg_tables.specs.inner.Layout.{AreLaid}
use Rattle.dg_tables.proofs.layout.lay_out.Given as goal

abbrev pub invariant-loop-block : goal.invariant-loop-block
invariant-loop-block l = AreLaid l.checked l.block-index l.starts l.places
