-- What a check makes of a model and a plan (own).
use Rattle.std.specs.Prelude.{ℕ, List}
use Rattle.dg_model.specs.declared.diagram.Diagram.{Diagram}
use Rattle.dg_model.specs.declared.resolved.Resolved.{Resolved}
use Rattle.cmd_check.specs.CheckText.{IsCheckText}
use Rattle.cmd_design.specs.Design.{IsDesignOf}
use Rattle.hw_sched.specs.Slots.{Timing}

-- the text tells the periods, latencies and types of the blocks of the design of the bytes of a
-- model and of a plan, and why its outputs are so late
pub record IsCheckOf (model plan text : List ℕ) : Type 0 where
  pub diagram : Diagram
  pub resolved : Resolved
  pub timing : Timing
  pub design : IsDesignOf model plan diagram resolved timing
  pub told : IsCheckText diagram resolved timing text
