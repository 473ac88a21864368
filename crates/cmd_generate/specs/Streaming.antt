-- The parts of a text with valid and ready, and what refuses it.
use Rattle.std.specs.Prelude.{◌≡◌, ◌⊎◌, ⊤, ℕ, List, Result, map}
use Rattle.dg_model.specs.declared.diagram.Diagram.{Diagram}
use Rattle.dg_model.specs.declared.fault.CheckFault.{CheckFault}
use Rattle.dg_model.specs.declared.fault.CheckFault.TheVariants.{Broken, OutOfMemory}
use Rattle.dg_model.specs.declared.resolved.Resolved.{Resolved}
use Rattle.cmd_design.specs.declared.designing.DesignFault.{DesignFault}
use Rattle.cmd_design.specs.declared.designing.DesignFault.TheVariants as design
use Rattle.cmd_design.specs.Design.{IsBadPlan, TellsPlanRule}
use Rattle.cmd_model.specs.Model.{IsNotMdl}
use Rattle.cmd_model.specs.RuleLine.{TellsRule, rule_line}
use Rattle.cmd_generate.specs.Streamed.{IsStreamedOf, TellsStreamRule}
use Rattle.cmd_generate.specs.Generating.{IsModuleFor}
use Rattle.hw_module.specs.Design.{IsModuleOf}
use Rattle.hw_rules.specs.declared.times.Times.{Times}
use Rattle.hw_rules.specs.Times.{timing_in}
use Rattle.vl_ast.specs.declared.modules.Module.{Module}
use Rattle.vl_ast.specs.Grammar.{Spells}
use Rattle.vl_ast.specs.Spelling.{spelling}
use Rattle.vl_ast.specs.Stalls.{KeepsBits}

-- the module of a diagram, whose registers keep their bits in a stall, and which some text spells
pub record IsCoreOf (diagram : Diagram) (plan : Resolved) (times : Times)
    (core : Module) : Type 0 where
  pub owed : IsModuleOf core diagram plan (timing_in times)
  pub keeps : KeepsBits core
  pub spelled : Spells (spelling core) core

-- what is told of a fault of ports
abbrev pub IsRefusedOnPorts : Diagram → CheckFault → DesignFault → Type 0
IsRefusedOnPorts diagram (Broken rule) (design.NotMdl line) = ⊥
IsRefusedOnPorts diagram (Broken rule) (design.BreaksRule line) =
    line ≡ rule_line (map (λ block. block.path) diagram.blocks) rule
IsRefusedOnPorts diagram (Broken rule) (design.BadPlan line cause) = ⊥
IsRefusedOnPorts diagram (Broken rule) design.OutOfMemory = ⊤
IsRefusedOnPorts diagram OutOfMemory (design.NotMdl line) = ⊥
IsRefusedOnPorts diagram OutOfMemory (design.BreaksRule line) = ⊥
IsRefusedOnPorts diagram OutOfMemory (design.BadPlan line cause) = ⊥
IsRefusedOnPorts diagram OutOfMemory design.OutOfMemory = ⊤

-- what a fault says of the bytes of a model and of a plan
abbrev pub IsRefusedStream : List ℕ → List ℕ → DesignFault → Type 0
IsRefusedStream model text (design.NotMdl line) = IsNotMdl model line
IsRefusedStream model text (design.BreaksRule line) =
    TellsRule model line ⊎ (TellsPlanRule model text line ⊎ TellsStreamRule model text line)
IsRefusedStream model text (design.BadPlan line cause) = IsBadPlan model text line cause
IsRefusedStream model text design.OutOfMemory = ⊤

-- the module with valid and ready of a model and a plan, or none
abbrev pub IsStreamModule : List ℕ → List ℕ → Result Module DesignFault → Type 0
IsStreamModule model plan made =
    IsModuleFor (IsStreamedOf model plan) (IsRefusedStream model plan) made
