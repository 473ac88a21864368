use Rattle.std.proofs.Common.{List, subst}
use Rattle.hw_slots.specs.declared.operation.Operation.{Operation as Cell}
use Rattle.hw_slots.specs.declared.operation.Span.{Span}
use Rattle.hw_slots.specs.Answer.{AreSlots as AreMade, IsSlotFault}
use Rattle.hw_sched.specs.Answer.{IsBudgetFault, timing_of}
use Rattle.hw_sched.specs.inner.Service.{IsServed}
use Rattle.std.proofs.lemmas.Result.{IfOk-weaker, IfErr-weaker}
use Rattle.hw_sched.proofs.DiagramSlots.{is_served, fault_told}
use Rattle.hw_sched.proofs.slots.slots_by_depths.Goals as goal

pub returns-clause-slots : goal.returns-clause-slots
returns-clause-slots c =
    let many = c.multipliers_of-multipliers.result in
    let kinds = c.count-kinds.result in
    IfOk-weaker c.slots_of-made.result (AreMade c.as_slice.result.now many c.as_slice-2.result.now kinds)
    (IsServed c.args.checked.now.diagram c.args.plan.now (timing_of c.args.latencies.now c.args.depths.now))
    (λ made by.
    is_served c.args.checked.now.diagram c.args.plan.now
    (timing_of c.args.latencies.now c.args.depths.now) many c.multipliers_of-multipliers.ensures.is
    c.in_ok-cells.cells c.in_ok-cells.ensures c.in_ok-spans.spans.items c.in_ok-spans.ensures kinds made
    c.count-kinds.ensures
    (subst (λ (cells : List Cell). AreMade cells many c.in_ok-spans.spans.items kinds made) c.as_slice.ensures.value
    (subst (λ (spans : List Span). AreMade c.as_slice.result.now many spans kinds made) c.as_slice-2.ensures.value by)))
    c.slots_of-made.ensures.slots

pub returns-clause-short : goal.returns-clause-short
returns-clause-short c =
    let many = c.multipliers_of-multipliers.result in
    IfErr-weaker c.slots_of-made.result (IsSlotFault c.as_slice.result.now many c.as_slice-2.result.now) (IsBudgetFault c.args.checked.now.diagram c.args.plan.now c.args.latencies.now)
    (λ fault by.
    fault_told c.args.checked.now.diagram c.args.plan.now c.args.latencies.now c.args.depths.now c.requires.timed
    many c.multipliers_of-multipliers.ensures.is c.in_ok-cells.cells c.in_ok-cells.ensures
    c.in_ok-spans.spans.items c.in_ok-spans.ensures fault
    (subst (λ (cells : List Cell). IsSlotFault cells many c.in_ok-spans.spans.items fault) c.as_slice.ensures.value
    (subst (λ (spans : List Span). IsSlotFault c.as_slice.result.now many spans fault) c.as_slice-2.ensures.value by)))
    c.slots_of-made.ensures.short

pub cells_of-requires : goal.cells_of-requires
cells_of-requires c = record { plan = c.requires.plan; lat = c.requires.timed.size; depths = c.requires.timed.depths.size }
