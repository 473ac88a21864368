-- The text of the whole model's plan says the plan, and both texts are those of the design.
use Rattle.std.proofs.Common.{refl}
use Rattle.fx_tables.specs.Plan.{IsPlan}
use Rattle.fx_tables.proofs.PlanText.{plan_said}
use Rattle.cmd_design.specs.Design.{IsDesignOf}
use Rattle.tests_premises.specs.Whole.{model_text, plan_text, diagram, plan, resolved, timing}
use Rattle.tests_premises.proofs.WholePlan.{planned}
use Rattle.tests_premises.proofs.WholeText.{is_model}

says : IsPlan plan_text plan
says = plan_said plan_text plan (record { no_fault = refl; clocks = refl; shared = refl; registers = refl })

pub designed : IsDesignOf model_text plan_text diagram resolved timing
designed = record { accepted = is_model; plan = plan; says = says; planned = planned }
