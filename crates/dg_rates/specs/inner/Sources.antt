-- The sources that a block's period is held against, as the code takes them (own).
use Rattle.std.specs.Prelude.{ℕ, ◌-◌, List, length, take, Option, Some, None}
use Rattle.dg_model.specs.Periods.{Period}

-- the sources without the control of the enabled subsystem, which is the last one
abbrev pub without_control : Option ℕ → List ℕ → List ℕ
without_control None sources = sources
without_control (Some control) sources = take (length sources - 1) sources

-- a block whose value never changes isn't asked for its control
abbrev pub asked_among : Period → Option ℕ → List ℕ → List ℕ
asked_among None enable sources = without_control enable sources
asked_among (Some own) enable sources = sources
