-- What a plan may say, whichever diagram it is for (own).
use Rattle.std.specs.Prelude.{◌≢◌, ◌≤◌, List, [], ◌∷◌}
use Rattle.std.specs.List.{AllByRecursion}
use Rattle.dg_model.specs.declared.plan.Plan.{Plan}
use Rattle.dg_model.specs.declared.plan.Pipeline.{Pipeline}
use Rattle.dg_model.specs.Limits.{most_cycles, most_multipliers, most_stages}

-- no two of them are behind one block
abbrev pub AreDifferent : List Pipeline → Type 0
AreDifferent [] = Unit {0}
AreDifferent (first ∷ later) =
    AllByRecursion (λ other. first.path ≢ other.path) later × AreDifferent later

-- 1 to 64 registers stand behind a block
abbrev pub IsRegisterCount : Pipeline → Type 0
IsRegisterCount pipeline = (1 ≤ pipeline.count) × (pipeline.count ≤ most_stages)

-- 1 to 1024 clocks, at most 64 multipliers, 1 to 64 registers behind a block, no block twice
pub record IsPlanInRange (plan : Plan) : Type 0 where
  pub some_clocks : 1 ≤ plan.cycles
  pub few_clocks : plan.cycles ≤ most_cycles
  pub few_multipliers : plan.multipliers ≤ most_multipliers
  pub counts : AllByRecursion IsRegisterCount plan.pipelines
  pub different : AreDifferent plan.pipelines
