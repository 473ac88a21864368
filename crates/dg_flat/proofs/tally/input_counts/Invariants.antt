use Rattle.dg_flat.specs.inner.Ports.{inputs_at}
use Rattle.dg_flat.specs.inner.Tables.{IsTable}
use Rattle.dg_flat.proofs.tally.input_counts.Given as goal

abbrev pub invariant-loop-place : goal.invariant-loop-place
invariant-loop-place l = IsTable l.place (inputs_at l.blocks) l.counts.items
