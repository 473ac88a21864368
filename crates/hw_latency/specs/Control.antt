-- Which control a block asks (own).
use Rattle.std.specs.Prelude.{ℕ, Option, None, if◌then◌else◌}
use Rattle.dg_model.specs.declared.diagram.Block.{Block}
use Rattle.dg_model.specs.LatencyEdges.{asks_ever}
use Rattle.dg_model.specs.Library.{row_of}

-- the control that a block asks at some time
abbrev pub control_ever : Block → Option ℕ
control_ever block = if asks_ever (row_of block.kind).timing.asks then block.enable else None
