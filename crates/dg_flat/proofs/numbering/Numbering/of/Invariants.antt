use Rattle.std.proofs.Common.{take}
use Rattle.dg_flat.specs.inner.PortNumbers.{numbered_at}
use Rattle.dg_flat.specs.inner.Tables.{IsRowTable}
use Rattle.dg_flat.proofs.numbering.Numbering.of.Given as goal

abbrev pub invariant-loop-place : goal.invariant-loop-place
invariant-loop-place l = IsRowTable l.rows.lengths.items (numbered_at (take l.place l.blocks) l.side) l.ports.items
