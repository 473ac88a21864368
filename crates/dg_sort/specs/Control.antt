-- Which control a block asks in its own sample (own).
use Rattle.std.specs.Prelude.{ℕ, Option, None, if◌then◌else◌}
use Rattle.dg_model.specs.declared.diagram.Block.{Block}
use Rattle.dg_model.specs.Instant.{asks_now}

-- the control that a block asks in its own sample
abbrev pub control_now : Block → Option ℕ
control_now block = if asks_now block.kind then block.enable else None
