-- The module of a diagram under a plan: all that is owed of it (own).
use Rattle.dg_model.specs.declared.diagram.Diagram.{Diagram}
use Rattle.dg_model.specs.declared.resolved.Resolved.{Resolved}
use Rattle.vl_ast.specs.declared.modules.Module.{Module}
use Rattle.hw_module.specs.Carries.{Carries}
use Rattle.hw_module.specs.Serves.{MultipliesAlone, MultipliesAsOwed, NamesMultiplications, Serves}
use Rattle.hw_module.specs.Pipelined.{Pipelined, HasFewRegisters}
use Rattle.hw_sched.specs.Slots.{Timing}

pub record IsModuleOf (m : Module) (diagram : Diagram) (plan : Resolved)
    (timing : Timing) : Type 0 where
  pub carries : Carries m diagram plan timing
  pub serves : Serves m diagram plan timing
  pub owed : MultipliesAsOwed m diagram plan timing
  pub named : NamesMultiplications m diagram plan
  pub alone : MultipliesAlone m diagram plan
  pub pipelined : Pipelined m diagram plan timing
  pub few : HasFewRegisters m diagram plan timing
