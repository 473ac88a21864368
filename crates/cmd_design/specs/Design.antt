-- What the texts of a model and of a plan make: a diagram with the plan's numbers and the times of
-- its blocks, or a fault (own).
use Rattle.std.specs.Prelude.{◌≡◌, ℕ, List, map}
use Rattle.dg_model.specs.declared.diagram.Diagram.{Diagram}
use Rattle.dg_model.specs.declared.fault.RuleFault.{RuleFault}
use Rattle.dg_model.specs.declared.plan.Plan.{Plan}
use Rattle.dg_model.specs.declared.resolved.Resolved.{Resolved}
use Rattle.cmd_model.specs.Model.{IsModelOf}
use Rattle.cmd_model.specs.RuleLine.{rule_line}
use Rattle.fx_tables.specs.declared.table.TableCause.{TableCause}
use Rattle.fx_tables.specs.declared.table.TableFault.TheVariants.{Bad}
use Rattle.fx_tables.specs.Plan.{IsPlan, IsPlanFault}
use Rattle.hw_rules.specs.Rules.{IsPlanned, BreaksPlanRule}
use Rattle.hw_sched.specs.Slots.{Timing}

-- the model keeps the rules of models, the text is that of a plan, and the plan keeps its rules on
-- the model's diagram
pub record IsDesignOf (model text : List ℕ) (diagram : Diagram) (resolved : Resolved)
    (timing : Timing) : Type 0 where
  pub accepted : IsModelOf model diagram
  pub plan : Plan
  pub says : IsPlan text plan
  pub planned : IsPlanned diagram plan resolved timing

-- the model keeps its rules, and the text has its first bad line there
pub record IsBadPlan (model text : List ℕ) (line : ℕ) (cause : TableCause) : Type 0 where
  pub diagram : Diagram
  pub accepted : IsModelOf model diagram
  pub bad : IsPlanFault text (Bad line cause)

-- a plan breaks a rule on a diagram, and this line tells the first of them
pub record TellsOnDiagram (diagram : Diagram) (plan : Plan) (line : List ℕ) : Type 0 where
  pub fault : RuleFault
  pub broken : BreaksPlanRule diagram plan fault
  pub line_is : line ≡ rule_line (map (λ block. block.path) diagram.blocks) fault

-- the model keeps its rules, the text is that of a plan, and the plan breaks a rule on the model's
-- diagram, the first of them told by this line
pub record TellsPlanRule (model text line : List ℕ) : Type 0 where
  pub diagram : Diagram
  pub accepted : IsModelOf model diagram
  pub plan : Plan
  pub says : IsPlan text plan
  pub told : TellsOnDiagram diagram plan line
