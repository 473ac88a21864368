-- How the faults of a model and of a plan are told.
use Rattle.std.specs.Prelude.{◌≡◌, ⊤, ℕ, ◌⊎◌, List, map}
use Rattle.dg_model.specs.declared.diagram.Diagram.{Diagram}
use Rattle.dg_model.specs.declared.fault.RuleFault.{RuleFault}
use Rattle.dg_model.specs.declared.plan.Plan.{Plan}
use Rattle.dg_model.specs.PlanOf.{IsPlanOf}
use Rattle.dg_model.specs.PlanRange.{IsPlanInRange}
use Rattle.cmd_design.specs.declared.designing.DesignFault.{DesignFault}
use Rattle.cmd_design.specs.declared.designing.DesignFault.TheVariants as design
use Rattle.cmd_design.specs.declared.refusal.ModelRefusal.{ModelRefusal}
use Rattle.cmd_design.specs.declared.refusal.ModelRefusal.TheVariants.{NotMdl, BreaksRule, OutOfMemory}
use Rattle.cmd_design.specs.Design.{TellsOnDiagram}
use Rattle.cmd_model.specs.declared.accepting.ModelFault.{ModelFault}
use Rattle.cmd_model.specs.declared.accepting.ModelFault.TheVariants as model
use Rattle.cmd_model.specs.RuleLine.{rule_line}
use Rattle.fx_tables.specs.declared.table.TableFault.TheVariants.{Bad}
use Rattle.fx_tables.specs.Plan.{IsPlan, IsPlanFault}
use Rattle.hw_rules.specs.declared.planned.Planned.{Planned}
use Rattle.hw_rules.specs.Times.{ArePlanned}

-- the fault of a model is told: a broken rule by its line, but for want of memory
abbrev pub IsTold : ModelFault → ModelRefusal → Type 0
IsTold (model.NotMdl line) told = told ≡ NotMdl line
IsTold (model.Broken fault blocks) told =
    (told ≡ OutOfMemory) ⊎ (told ≡ BreaksRule (rule_line (map (λ block. block.path) blocks) fault))
IsTold model.OutOfMemory told = told ≡ OutOfMemory

-- what a fault says of a plan's text
abbrev pub IsRefusedText : List ℕ → DesignFault → Type 0
IsRefusedText text (design.NotMdl line) = ⊥
IsRefusedText text (design.BreaksRule line) = ⊥
IsRefusedText text (design.BadPlan line cause) = IsPlanFault text (Bad line cause)
IsRefusedText text design.OutOfMemory = ⊤

-- the fault of a rule is told by its line, but for want of memory
abbrev pub IsRefusedBy : Diagram → RuleFault → DesignFault → Type 0
IsRefusedBy diagram fault told =
    (told ≡ design.OutOfMemory)
    ⊎ (told ≡ design.BreaksRule (rule_line (map (λ block. block.path) diagram.blocks) fault))

-- what a fault says of a plan on a diagram
abbrev pub IsRefusedPlan : Diagram → Plan → DesignFault → Type 0
IsRefusedPlan diagram plan (design.NotMdl line) = ⊥
IsRefusedPlan diagram plan (design.BreaksRule line) = TellsOnDiagram diagram plan line
IsRefusedPlan diagram plan (design.BadPlan line cause) = ⊥
IsRefusedPlan diagram plan design.OutOfMemory = ⊤

-- the plan that a text says, which is in range
pub record IsPlanSaid (text : List ℕ) (plan : Plan) : Type 0 where
  pub says : IsPlan text plan
  pub in_range : IsPlanInRange plan

-- the plan's numbers and times on a diagram
pub record IsPlannedSo (diagram : Diagram) (plan : Plan) (planned : Planned) : Type 0 where
  pub are : ArePlanned diagram plan planned
  pub of_diagram : IsPlanOf diagram planned.resolved
