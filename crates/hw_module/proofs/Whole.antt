-- The module of a netlist that is built for a diagram is all that is owed of it.
use Rattle.std.proofs.Common.{ap, ◌∙◌}
use Rattle.dg_model.specs.declared.diagram.Diagram.{Diagram}
use Rattle.dg_model.specs.declared.resolved.Resolved.{Resolved}
use Rattle.dg_model.specs.Attributes.{attributes_of}
use Rattle.dg_model.specs.Laws.{StimulusGivesColumns, InputsAreListed, OutputsAreListed}
use Rattle.dg_model.specs.RootElements.{RootElement}
use Rattle.vl_ast.specs.Drivers.{OneDriver}
use Rattle.hw_sched.specs.Laws.{MovingHavePeriods, OperationsAreServed, OperationsHavePeriods, SlotsDiffer, ReadyFits}
use Rattle.hw_sched.specs.Scheduled.{IsScheduled}
use Rattle.hw_sched.specs.Slots.{Timing}
use Rattle.hw_module.specs.Laws.{BuiltModulesAreOf, RefinedModulesAreOf}
use Rattle.hw_module.proofs.Carries.{InputsHavePeriods, carries}
use Rattle.hw_module.proofs.LoneProducts.{multiplies-alone}
use Rattle.hw_module.proofs.MultiplicationNames.{names-multiplications}
use Rattle.hw_module.proofs.Offers.{offers}
use Rattle.hw_module.proofs.Refinement.{multiplied-still, offers-still}
use Rattle.hw_module.proofs.Services.{owed, serves}
use Rattle.hw_module.proofs.Pipelines.{pipelined, few-registers}
use Rattle.hw_build.proofs.Delivery.{input_moves}

inputs-have-periods : InputsAreListed → MovingHavePeriods → {diagram : Diagram} {plan : Resolved} {timing : Timing} → IsScheduled diagram plan timing → InputsHavePeriods diagram
inputs-have-periods listed moving {diagram} scheduled place e is =
    let own = (listed diagram (attributes_of diagram) scheduled.checked.wired).elements_of place e is in
    let p = moving diagram e.block own.0 scheduled.checked own.1 (input_moves own.0.kind e.number own.2) in
    (p.0, ap (λ (x : RootElement). x.period) own.4 ∙ p.1)

module _ (columns : StimulusGivesColumns) (listed : InputsAreListed) (outputs : OutputsAreListed)
    (moving : MovingHavePeriods) (served : OperationsAreServed) (have_periods : OperationsHavePeriods)
    (differ : SlotsDiffer) (fits : ReadyFits) (one_driver : OneDriver) where
  pub built-modules : BuiltModulesAreOf
  built-modules netlist diagram plan timing m scheduled built made =
      let periods = inputs-have-periods listed moving scheduled in
      let offered = offers outputs moving have_periods scheduled periods built in
      record {
        carries = carries offered made columns periods built.ports.names;
        serves = serves offered made served have_periods differ fits columns periods scheduled;
        owed = owed offered made;
        named = names-multiplications built.multiplied made;
        alone = multiplies-alone one_driver built.multiplied made (names-multiplications built.multiplied made);
        pipelined = pipelined offered made columns periods;
        few = few-registers offered made;
      }

  -- the proof goes on from what the built netlist offers, which what stands in its place offers, too
  pub refined-modules : RefinedModulesAreOf
  refined-modules netlist diagram plan timing m scheduled refined made =
      let periods = inputs-have-periods listed moving scheduled in
      let multiplied = multiplied-still refined.runs refined.emittable refined.refines refined.is_built.multiplied in
      let offered = offers-still refined.runs refined.emittable refined.refines (offers outputs moving have_periods scheduled periods refined.is_built) in
      record {
        carries = carries offered made columns periods refined.is_built.ports.names;
        serves = serves offered made served have_periods differ fits columns periods scheduled;
        owed = owed offered made;
        named = names-multiplications multiplied made;
        alone = multiplies-alone one_driver multiplied made (names-multiplications multiplied made);
        pipelined = pipelined offered made columns periods;
        few = few-registers offered made;
      }
