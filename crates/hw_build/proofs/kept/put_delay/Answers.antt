use Rattle.std.proofs.Common.{◌≡◌, sym, subst, ◌∙◌, ap, arith, ℕ, Option, None, Some, refl}
use Rattle.dg_model.specs.declared.kind.Kind.{Kind}
use Rattle.dg_model.specs.Attributes.{attributes_of}
use Rattle.dg_model.specs.Readable.{HasPorts}
use Rattle.dg_model.specs.Wires.{period_into}
use Rattle.hw_build.specs.inner.Entries.{hands_on}
use Rattle.hw_build.specs.inner.Sites.{HasOperands}
use Rattle.hw_build.proofs.StateEntries.{second_operand}
use Rattle.hw_build.proofs.Parameters.{readable}
use Rattle.hw_build.proofs.kept.put_delay.Goals as goal

pub bounds-site-1 : goal.bounds-site-1
bounds-site-1 c =
    let operands = subst (λ (kind : Kind). HasOperands c.args.net.now c.args.site kind) c.requires.kind c.requires.operands in
    (second_operand c.args.site.design.checked.now.diagram c.args.net.now
    ((attributes_of c.args.site.design.checked.now.diagram).type_at c.args.site.place.block
    c.args.site.place.port) c.args.site.operands.now c.args.site.one.now.enable
    (rw c.in-Some.is refl) operands).0

pub keep-requires-clause-operands : goal.keep-requires-clause-operands
keep-requires-clause-operands c = subst (λ (kind : Kind). HasOperands c.args.net.now c.args.site kind) c.requires.kind c.requires.operands

pub keep-requires-clause-enabled : goal.keep-requires-clause-enabled
keep-requires-clause-enabled c = (rw c.in-Some.is refl, refl)

pub driver_period-requires-clause-is : goal.driver_period-requires-clause-is
driver_period-requires-clause-is c = c.requires.can.shown.block_is

pub driver_period-requires-clause-some : goal.driver_period-requires-clause-some
driver_period-requires-clause-some c =
    let ports = subst (λ (kind : Kind). HasPorts kind c.args.site.one.now.inputs c.args.site.one.now.outputs)
    c.requires.kind (readable c.args.site.design.checked.now.diagram c.args.site.place.block c.args.site.one.now
    c.requires.can.designed.scheduled.checked c.requires.can.shown.block_is).ports in
    omega (arith, ports.0)

pub offered_entry-requires-clause-hands : goal.offered_entry-requires-clause-hands
offered_entry-requires-clause-hands c =
    let diagram = c.args.site.design.checked.now.diagram in
    let period = c.in-Some-driver_period.field-0 in
    let driver : period_into diagram (attributes_of diagram) c.args.site.place.block 1 ≡ Some period = sym c.driver_period.ensures ∙ c.in-Some-driver_period.is in
    ap (λ (period : Option ℕ). hands_on c.args.site.one.now.enable period c.args.site.one.now.kind) driver
    ∙ ap (λ (enable : Option ℕ). hands_on enable (Some period) c.args.site.one.now.kind) c.in-None.is
    ∙ ap (λ (kind : Kind). hands_on None (Some period) kind) c.requires.kind

pub keep-requires-in-None-driver_period-clause-operands : goal.keep-requires-in-None-driver_period-clause-operands
keep-requires-in-None-driver_period-clause-operands c = subst (λ (kind : Kind). HasOperands c.args.net.now c.args.site kind) c.requires.kind c.requires.operands

pub keep-requires-in-None-driver_period-clause-enabled : goal.keep-requires-in-None-driver_period-clause-enabled
keep-requires-in-None-driver_period-clause-enabled c = (c.in-None.is, sym c.driver_period.ensures ∙ c.in-None-driver_period.is)
