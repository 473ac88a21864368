use Rattle.std.proofs.Common.{◌≡◌, List, sym, subst, ◌∙◌}
use Rattle.hw_share.specs.declared.operation.Operation.{Operation}
use Rattle.hw_share.specs.Operations.{CanShare}
use Rattle.hw_build.specs.inner.DesignTimes.{times_for}
use Rattle.hw_build.specs.inner.MultiplierStep.{AddsProducts}
use Rattle.hw_build.specs.inner.Operands.{offered_at}
use Rattle.hw_build.specs.inner.ResultNets.{AreProducts}
use Rattle.hw_build.proofs.Owed.{can-share}
use Rattle.hw_build.proofs.Factors.{are_made}
use Rattle.hw_build.proofs.ProductStep.{products_put}
use Rattle.hw_build.proofs.products.products_of.Goals as goal

pub units-requires-clause-can : goal.units-requires-clause-can
units-requires-clause-can c =
    let diagram = c.args.design.checked.now.diagram in
    let plan = c.args.design.plan.now in
    let times = times_for c.args.design in
    let cycles : c.gather.new.net.cycles ≡ plan.cycles = c.in_ok-firsts.ensures.more.adds.appends.extends.cycles ∙ c.requires.cycles in
    let made = are_made c.storing_gives_one.ensures c.operations_prepare.ensures.operations
    c.operations_prepare.ensures.types diagram c.args.design.checked.now.order
    (record { checked = c.keeps_rules.ensures.checked; ordered = c.keeps_rules.ensures.ordered }) plan times
    (offered_at diagram c.args.operands.now)
    c.args.net.now c.gather.new.net c.requires.words c.gather.new.operations.items c.in_ok-firsts.ensures.more in
    subst (λ (operations : List Operation). CanShare c.gather.new.net operations) (sym c.as_slice.ensures.value)
    (can-share c.periods_are_above.ensures.above c.periods_are_above.ensures.short
    c.operations_are_served.ensures.served c.operations_are_served.ensures.periods c.slots_differ.ensures.slots
    c.slots_differ.ensures.units c.units_are_used.ensures c.ready_fits.ensures
    diagram plan times c.gather.new.net c.gather.new.operations.items c.requires.can.designed.scheduled cycles made)

both : (c : goal.After-drop-operations-2) → AreProducts c.args.design.checked.now.diagram c.args.design.plan.now (record { firsts = c.in_ok-firsts.firsts; results = c.in_ok-shared.shared.results })
    × AddsProducts c.args.design.checked.now.diagram c.args.design.plan.now (times_for c.args.design)
    (offered_at c.args.design.checked.now.diagram c.args.operands.now) c.args.net.now c.units.new.net
    (record { firsts = c.in_ok-firsts.firsts; results = c.in_ok-shared.shared.results })
both c =
    let diagram = c.args.design.checked.now.diagram in
    let shared = rw c.as_slice.ensures.value at c.in_ok-shared.ensures.owed in
    products_put c.storing_gives_one.ensures c.operations_prepare.ensures.operations
    c.operations_prepare.ensures.types c.operations_are_served.ensures.periods c.slots_differ.ensures.units
    c.units_are_used.ensures c.edges_stand_by_port.ensures.widths
    diagram c.args.design.checked.now.order
    (record { checked = c.keeps_rules.ensures.checked; ordered = c.keeps_rules.ensures.ordered })
    c.args.design.plan.now (times_for c.args.design) (offered_at diagram c.args.operands.now)
    c.args.net.now c.gather.new.net c.units.new.net c.requires.words c.gather.new.operations.items
    (record { firsts = c.in_ok-firsts.firsts; results = c.in_ok-shared.shared.results }) c.in_ok-firsts.ensures.more
    c.in_ok-firsts.ensures.firsts shared c.requires.cycles

pub returns-clause-which : goal.returns-clause-which
returns-clause-which c = (both c).0

pub returns-clause-adds : goal.returns-clause-adds
returns-clause-adds c = (both c).1
