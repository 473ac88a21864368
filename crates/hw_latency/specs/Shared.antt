-- Which multiplications share multipliers by a plan (own; HDL Coder, resource sharing).
use Rattle.std.specs.Prelude.{ℕ, ◌*◌, ◌&&◌, nat_lt, Bool, false, Option, Some, None, slice_get}
use Rattle.dg_model.specs.declared.diagram.Diagram.{Diagram}
use Rattle.dg_model.specs.declared.diagram.Block.{Block}
use Rattle.dg_model.specs.declared.resolved.Resolved.{Resolved}
use Rattle.dg_model.specs.Library.{row_of}
use Rattle.dg_model.specs.Signals.{Attributes}

-- each element of the block is a multiplication
abbrev pub multiplies_if : Option Block → Bool
multiplies_if None = false
multiplies_if (Some block) = (row_of block.kind).hardware.multiplies

abbrev pub multiplies : Diagram → ℕ → Bool
multiplies diagram place = multiplies_if (slice_get diagram.blocks place)

-- multiplications of this period are shared: there are multipliers, and a period has at least two
-- clocks
abbrev pub shares : Resolved → Option ℕ → Bool
shares plan None = false
shares plan (Some period) = nat_lt 0 plan.multipliers && nat_lt 1 (period * plan.cycles)

-- the elements of the block are shared operations
abbrev pub is_shared : Diagram → Attributes → Resolved → ℕ → Bool
is_shared diagram attributes plan place =
    multiplies diagram place && shares plan (attributes.period_at place)
