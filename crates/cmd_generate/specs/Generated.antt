-- The headline: what is generated of a model and a plan, and when they make a design (own).
use Rattle.std.specs.Prelude.{◌≡◌, ℕ, List}
use Rattle.dg_model.specs.declared.diagram.Diagram.{Diagram}
use Rattle.dg_model.specs.declared.resolved.Resolved.{Resolved}
use Rattle.cmd_design.specs.Design.{IsDesignOf, IsBadPlan, TellsPlanRule}
use Rattle.hw_module.specs.Design.{IsModuleOf}
use Rattle.hw_sched.specs.Slots.{Timing}
use Rattle.vl_ast.specs.declared.modules.Module.{Module}
use Rattle.vl_ast.specs.Grammar.{Spells}
use Rattle.vl_ast.specs.Spelling.{spelling}
use Rattle.dg_model.specs.declared.plan.Plan.{Plan}
use Rattle.cmd_model.specs.Model.{IsAccepted}
use Rattle.fx_tables.specs.declared.table.TableCause.{TableCause}
use Rattle.fx_tables.specs.Plan.{IsPlan}

-- the text spells this module and no other
pub record SpellsAlone (text : List ℕ) (made : Module) : Type 0 where
  pub spells : Spells text made
  pub alone : (other : Module) → Spells text other → other ≡ made

-- the text is the written one of a module that is so, and it spells this module alone
pub record IsWritten (IsSo : Module → Type 0) (text : List ℕ) : Type 0 where
  pub made : Module
  pub spelled : text ≡ spelling made
  pub alone : SpellsAlone text made
  pub so : IsSo made

-- of the bytes of a model and of a plan the text is the written one of a module that owes their
-- design nothing, and it spells this module alone
pub record IsVerilogOf (model plan text : List ℕ) : Type 0 where
  pub diagram : Diagram
  pub resolved : Resolved
  pub timing : Timing
  pub design : IsDesignOf model plan diagram resolved timing
  pub written : IsWritten (λ made. IsModuleOf made diagram resolved timing) text

-- nothing is broken: neither a rule of the model, nor a line of the plan, nor a rule of the plan on
-- the model's diagram
pub record CanBeDesigned (model plan : List ℕ) : Type 0 where
  pub accepted : IsAccepted model
  pub good : (line : ℕ) (cause : TableCause) → IsBadPlan model plan line cause → ⊥
  pub kept : (line : List ℕ) → TellsPlanRule model plan line → ⊥

-- the model keeps its rules, and the text is that of no plan
pub record HasNoPlan (model plan : List ℕ) : Type 0 where
  pub accepted : IsAccepted model
  pub none : (own : Plan) → IsPlan plan own → ⊥

-- the model keeps its rules, no line of the plan is bad, and the two make no design
pub record IsWithoutDesign (model plan : List ℕ) : Type 0 where
  pub accepted : IsAccepted model
  pub good : (line : ℕ) (cause : TableCause) → IsBadPlan model plan line cause → ⊥
  pub none : (diagram : Diagram) (resolved : Resolved) (timing : Timing)
      → IsDesignOf model plan diagram resolved timing → ⊥
