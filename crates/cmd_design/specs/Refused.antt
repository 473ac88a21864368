-- What a design is as it is given, and what each fault says of the texts (own).
use Rattle.std.specs.Prelude.{◌⊎◌, ⊤, ℕ, List}
use Rattle.cmd_design.specs.declared.designing.DesignFault.{DesignFault}
use Rattle.cmd_design.specs.declared.designing.DesignFault.TheVariants as design
use Rattle.cmd_design.specs.declared.designing.Designed.{Designed}
use Rattle.cmd_design.specs.declared.refusal.ModelRefusal.{ModelRefusal}
use Rattle.cmd_design.specs.declared.refusal.ModelRefusal.TheVariants.{NotMdl, BreaksRule, OutOfMemory}
use Rattle.cmd_design.specs.Design.{IsDesignOf, IsBadPlan, TellsPlanRule}
use Rattle.cmd_model.specs.Model.{IsNotMdl}
use Rattle.cmd_model.specs.RuleLine.{TellsRule}
use Rattle.hw_rules.specs.Times.{timing_in}

-- what is given is the design of the texts
abbrev pub IsDesigned : List ℕ → List ℕ → Designed → Type 0
IsDesigned model text designed =
    IsDesignOf model text designed.checked.diagram designed.planned.resolved
    (timing_in designed.planned.times)

-- what a refusal says of a model's bytes
abbrev pub IsRefusedModel : List ℕ → ModelRefusal → Type 0
IsRefusedModel model (NotMdl line) = IsNotMdl model line
IsRefusedModel model (BreaksRule line) = TellsRule model line
IsRefusedModel model OutOfMemory = ⊤

-- what a fault says of the bytes of a model and of a plan
abbrev pub IsRefusedDesign : List ℕ → List ℕ → DesignFault → Type 0
IsRefusedDesign model text (design.NotMdl line) = IsNotMdl model line
IsRefusedDesign model text (design.BreaksRule line) =
    TellsRule model line ⊎ TellsPlanRule model text line
IsRefusedDesign model text (design.BadPlan line cause) = IsBadPlan model text line cause
IsRefusedDesign model text design.OutOfMemory = ⊤
