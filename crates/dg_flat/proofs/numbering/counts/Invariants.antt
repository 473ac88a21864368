use Rattle.std.proofs.Common.{suc, length, take}
use Rattle.dg_flat.specs.inner.PortNumbers.{count_at}
use Rattle.dg_flat.specs.inner.Tables.{IsTable}
use Rattle.dg_flat.proofs.numbering.counts.Given as goal

abbrev pub invariant-loop-block : goal.invariant-loop-block
invariant-loop-block l = IsTable (suc (length l.blocks)) (count_at (take l.block-index l.blocks) l.side) l.counts.items
