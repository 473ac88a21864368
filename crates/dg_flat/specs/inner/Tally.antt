-- What the lines drive (own).
use Rattle.std.specs.Prelude.{◌<◌, List, length, All}
use Rattle.dg_model.specs.declared.nested.NestedBlock.{NestedBlock}
use Rattle.dg_model.specs.declared.nested.NestedLine.{NestedLine}
use Rattle.dg_flat.specs.declared.tally.Tally.{Tally}
use Rattle.dg_flat.specs.inner.Tables.{IsTable, IsRowTable, AreRows}
use Rattle.dg_flat.specs.inner.Ports.{inputs_at, is_lacking, port_drivers, control_drivers}

-- both ends of each line are blocks
abbrev pub HaveEnds : List NestedBlock → List NestedLine → Type 0
HaveEnds blocks lines = All (λ line. (line.from < length blocks) × (line.to < length blocks)) lines

-- the tally of the lines
pub record IsTally (blocks : List NestedBlock) (lines : List NestedLine)
    (tally : Tally) : Type 0 where
  pub rows : AreRows tally.rows
  pub lengths : IsTable (length blocks) (inputs_at blocks) tally.rows.lengths.items
  pub drivers : IsRowTable tally.rows.lengths.items (port_drivers lines) tally.drivers.items
  pub enables : IsTable (length blocks) (control_drivers lines) tally.enables.items
  pub lacks : IsTable (length blocks) (is_lacking blocks lines) tally.lacks.items
