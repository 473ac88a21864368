-- When a plan whose paths are found is one of a diagram: its numbers are in range, and it sets
-- registers only where they may stand (own; HDL Coder's output pipelines).
use Rattle.std.specs.Prelude.{◌≡◌, ℕ, ◌<◌, ◌≤◌, length, All, Some, slice_get, slice_index}
use Rattle.dg_model.specs.declared.diagram.Diagram.{Diagram}
use Rattle.dg_model.specs.declared.diagram.Block.{Block}
use Rattle.dg_model.specs.declared.resolved.Resolved.{Resolved}
use Rattle.dg_model.specs.Attributes.{attributes_of}
use Rattle.dg_model.specs.Limits.{most_cycles, most_multipliers, most_stages}
use Rattle.dg_model.specs.PlanNames.{MayBePipelined}

-- how many registers a plan sets behind a block
abbrev pub stages_at : Resolved → ℕ → ℕ
stages_at plan place = slice_index plan.stages place

-- only behind blocks behind which registers may stand
pub record StagesAreAllowed (diagram : Diagram) (plan : Resolved) : Type 0 where
  pub each : (place : ℕ) (b : Block) → slice_get diagram.blocks place ≡ Some b
      → 0 < stages_at plan place → MayBePipelined (attributes_of diagram) place b

-- 1 to 1024 clocks, at most 64 multipliers, and for each block a count of at most 64 registers
pub record IsPlanOf (diagram : Diagram) (plan : Resolved) : Type 0 where
  pub some_clocks : 1 ≤ plan.cycles
  pub few_clocks : plan.cycles ≤ most_cycles
  pub few_multipliers : plan.multipliers ≤ most_multipliers
  pub size : length plan.stages ≡ length diagram.blocks
  pub stages : All (λ stages. stages ≤ most_stages) plan.stages
  pub allowed : StagesAreAllowed diagram plan
