-- What the whole model meets of the headline's premises (own).
use Rattle.dg_model.specs.Attributes.{attributes_of}
use Rattle.dg_model.specs.Solves.{IsStimulus, Solves}
use Rattle.cmd_design.specs.Design.{IsDesignOf}
use Rattle.hw_sched.specs.Scheduled.{IsScheduled}
use Rattle.tests_premises.specs.Sharing.{AreSharedByOne}
use Rattle.tests_premises.specs.Whole.{diagram, model_text, plan_text, resolved, stimulus, table, timing}

-- The texts are those of the design: the model and the plan keep their rules. One multiplier serves
-- two operations, and the table solves the diagram.
pub record MeetsPremises : Type 0 where
  pub design : IsDesignOf model_text plan_text diagram resolved timing
  pub scheduled : IsScheduled diagram resolved timing
  pub shared : AreSharedByOne (attributes_of diagram)
  pub in_range : IsStimulus diagram (attributes_of diagram) stimulus 3
  pub solves : Solves diagram (attributes_of diagram) stimulus 3 table
