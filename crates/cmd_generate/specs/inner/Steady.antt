-- A root port that hasn't a number in every base sample, and how it is told.
use Rattle.std.specs.Prelude.{ℕ, ◌&&◌, ◌==◌, not, Bool, false, Option, Some, None, slice_get, unwrap_or}
use Rattle.dg_model.specs.declared.diagram.Block.{Block}
use Rattle.dg_model.specs.declared.diagram.Diagram.{Diagram}
use Rattle.dg_model.specs.declared.fault.RuleFault.{RuleFault}
use Rattle.dg_model.specs.declared.fault.Shown.TheVariants.{Periods}
use Rattle.dg_model.specs.declared.rule.Rule.{Rule}
use Rattle.dg_model.specs.Attributes.{attributes_of}
use Rattle.dg_model.specs.Faults.{fault_of, path_of}
use Rattle.cmd_generate.specs.Streamed.{is_root_port}

-- it is that of the base sample
abbrev pub is_base : Option ℕ → Bool
is_base None = false
is_base (Some period) = period == 1

abbrev pub is_port_at : Option Block → Bool
is_port_at None = false
is_port_at (Some block) = is_root_port block

abbrev pub is_slow : Diagram → ℕ → Bool
is_slow diagram place =
    is_port_at (slice_get diagram.blocks place)
    && not (is_base ((attributes_of diagram).period_at place))

abbrev pub slow_fault : Diagram → ℕ → RuleFault
slow_fault diagram place =
    fault_of Rule.Stream (path_of diagram place)
    (Periods (unwrap_or ((attributes_of diagram).period_at place) 0) 1)
