use Rattle.dg_flat.specs.inner.Ports.{inputs_at}
use Rattle.dg_flat.proofs.Tables.{table_push}
use Rattle.dg_flat.proofs.tally.input_counts.Goals as goal

pub loop-place-preserved : goal.loop-place-preserved
loop-place-preserved c = rw c.in_ok-push.ensures.items (table_push c.loop-place.place (inputs_at c.args.blocks.now) c.loop-place.counts.items c.ports.result c.ports.ensures c.loop-place.invariant)
