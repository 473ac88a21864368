-- A plan on a diagram, and a text that is written of a diagram with its times.
use Rattle.std.specs.Prelude.{◌≡◌, ℕ, List, Result, Ok, Err}
use Rattle.dg_model.specs.declared.diagram.Diagram.{Diagram}
use Rattle.dg_model.specs.declared.resolved.Resolved.{Resolved}
use Rattle.dg_model.specs.PlanOf.{IsPlanOf}
use Rattle.cmd_design.specs.declared.designing.DesignFault.{DesignFault}
use Rattle.cmd_design.specs.Refused.{IsRefusedDesign}
use Rattle.cmd_generate.specs.Generated.{IsVerilogOf, IsWritten}
use Rattle.hw_module.specs.Design.{IsModuleOf}
use Rattle.hw_rules.specs.declared.planned.Planned.{Planned}
use Rattle.hw_rules.specs.declared.times.Times.{Times}
use Rattle.hw_rules.specs.Times.{AreTimes, timing_in}
use Rattle.vl_ast.specs.declared.modules.Module.{Module}
use Rattle.vl_ast.specs.Grammar.{Spells}
use Rattle.vl_ast.specs.Spelling.{spelling}

-- the plan is one on a diagram, and the times are those by it
pub record IsPlanOn (diagram : Diagram) (planned : Planned) : Type 0 where
  pub plan : IsPlanOf diagram planned.resolved
  pub times : AreTimes diagram planned.resolved planned.times

-- it spells alone a module that owes the diagram nothing
abbrev pub IsWrittenOf : Diagram → Resolved → Times → List ℕ → Type 0
IsWrittenOf diagram plan times text =
    IsWritten (λ made. IsModuleOf made diagram plan (timing_in times)) text

-- the text is the written one of this module, and it spells it alone
abbrev pub IsTextOf : Module → List ℕ → Type 0
IsTextOf made text = IsWritten (λ own. own ≡ made) text

-- some text spells the module, whose written one is so, or there is none
abbrev pub IsModuleFor : (List ℕ → Type 0) → (DesignFault → Type 0) → Result Module DesignFault
    → Type 0
IsModuleFor IsSo Refused (Ok made) =
    Spells (spelling made) made × ((text : List ℕ) → IsTextOf made text → IsSo text)
IsModuleFor IsSo Refused (Err why) = Refused why

-- that of a model and a plan
abbrev pub IsVerilogModule : List ℕ → List ℕ → Result Module DesignFault → Type 0
IsVerilogModule model plan made =
    IsModuleFor (IsVerilogOf model plan) (IsRefusedDesign model plan) made
