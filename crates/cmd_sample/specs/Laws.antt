-- What the definitions of samples say together (own).
use Rattle.std.specs.Prelude.{ℕ, ◌≤◌}
use Rattle.fx_tables.specs.declared.table.TableFault.{TableFault}
use Rattle.fx_tables.specs.Plan.{IsPlanFault}
use Rattle.mdl_text.specs.Prefix.{IsMdl}
use Rattle.cmd_sample.specs.ModelText.{sample_model}
use Rattle.cmd_sample.specs.Numbers.{greatest_sample}
use Rattle.cmd_sample.specs.Stimulus.{sample_plan}

-- the text of each sample's model stands for a tree
abbrev pub ModelsStand : Type 0
ModelsStand = (count : ℕ) → count ≤ greatest_sample → IsMdl (sample_model count)

-- no line of the plan is bad
abbrev pub PlanIsGood : Type 0
PlanIsGood = (fault : TableFault) → IsPlanFault sample_plan fault → ⊥
