-- Rows of what blocks read, while they are made (own).
use Rattle.std.specs.Prelude.{Bool, false, List, slice_get, Option, Some, None}
use Rattle.dg_model.specs.declared.diagram.Block.{Block}
use Rattle.dg_model.specs.declared.diagram.Edge.{Edge}
use Rattle.dg_model.specs.Hits.{is_slow_to_fast}
use Rattle.dg_model.specs.Instant.{is_now}
use Rattle.dg_model.specs.Library.{row_of}
use Rattle.dg_model.specs.Periods.{Period, period_at}

-- a line is read in the sample of its source, by the block that it ends at and whether that is the
-- faster
abbrev pub is_read_now : Option Block → Bool → Bool
is_read_now None slower = false
is_read_now (Some block) slower = is_now (row_of block.kind).timing.reads slower

-- the same of an edge
abbrev pub is_line_instant : List Block → List Period → Edge → Bool
is_line_instant blocks periods edge =
    is_read_now (slice_get blocks edge.to)
    (is_slow_to_fast (period_at periods edge.from) (period_at periods edge.to))
