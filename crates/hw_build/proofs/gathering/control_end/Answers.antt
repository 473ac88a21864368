use Rattle.std.proofs.Common.{◌≡◌, None, Some, ap, sym, ◌∙◌, ℕ, List, length, refl, arith}
use Rattle.dg_model.specs.Attributes.{attributes_of}
use Rattle.hw_latency.specs.Control.{control_ever}
use Rattle.hw_latency.specs.Weight.{samples}
use Rattle.hw_build.proofs.ControlWants.{control_feeds, control_put, control_inside, control_there, control_behind, control_period, still_control, moving_control}
use Rattle.std.proofs.lemmas.Result.{on_ok_weaker}
use Rattle.hw_build.proofs.gathering.control_end.Goals as goal

pub at-hub-requires-clause-there : goal.at-hub-requires-clause-there
at-hub-requires-clause-there c = control_there c.ends_are_lawful.ensures c.args.block c.in-Some.control
    c.block_at.result.now c.block_at.ensures
    (control_feeds c.args.ends.design.checked.now.diagram c.args.block c.block_at.result.now c.in-Some.control
    (sym c.control_of.ensures ∙ c.in-Some.is))

pub period-requires : goal.period-requires
period-requires c = control_inside c.ends_are_lawful.ensures c.args.block c.in-Some.control c.block_at.result.now
    c.block_at.ensures (control_feeds c.args.ends.design.checked.now.diagram c.args.block c.block_at.result.now
    c.in-Some.control (sym c.control_of.ensures ∙ c.in-Some.is))

pub returns-in_default-period : goal.returns-in_default-period
returns-in_default-period c =
    let is : control_ever c.block_at.result.now ≡ Some c.in-Some.control = sym c.control_of.ensures ∙ c.in-Some.is in
    let feeds = control_feeds c.args.ends.design.checked.now.diagram c.args.block c.block_at.result.now c.in-Some.control is in
    on_ok_weaker c.ask_signal.result
    (λ put. control_put c.ends_are_lawful.ensures c.args.block c.block_at.result.now c.block_at.ensures c.args.asks.now c.ask_signal.new.asks (Some c.in-Some.control) is
    (still_control c.ends_are_lawful.ensures c.args.block c.in-Some.control c.block_at.result.now c.block_at.ensures
    feeds c.args.asks.now.list.items c.ask_signal.new.asks.list.items c.args.asks.now.wants.items
    c.ask_signal.new.asks.wants.items c.at-hub.result
    (sym c.period.ensures ∙ c.in_default-period.is) c.at-hub.ensures put))
    c.ask_signal.ensures

pub frame_after-frame-requires-clause-there : goal.frame_after-frame-requires-clause-there
frame_after-frame-requires-clause-there c =
    control_inside c.ends_are_lawful.ensures c.args.block c.in-Some.control c.block_at.result.now c.block_at.ensures
    (control_feeds c.args.ends.design.checked.now.diagram c.args.block c.block_at.result.now c.in-Some.control
    (sym c.control_of.ensures ∙ c.in-Some.is))

pub overflow_sub-to : goal.overflow_sub-to
overflow_sub-to c =
    let feeds = control_feeds c.args.ends.design.checked.now.diagram c.args.block c.block_at.result.now c.in-Some.control (sym c.control_of.ensures ∙ c.in-Some.is) in
    rw (c.frame_after-frame.ensures, c.as_slice.ensures)
    (control_behind c.ends_are_lawful.ensures c.args.block c.in-Some.control c.block_at.result.now c.block_at.ensures feeds c.in-Some-period.period (sym c.period.ensures ∙ c.in-Some-period.is))

pub returns : goal.returns
returns c =
    let is : control_ever c.block_at.result.now ≡ Some c.in-Some.control = sym c.control_of.ensures ∙ c.in-Some.is in
    let feeds = control_feeds c.args.ends.design.checked.now.diagram c.args.block c.block_at.result.now c.in-Some.control is in
    let moves : (attributes_of c.args.ends.design.checked.now.diagram).period_at c.in-Some.control ≡ Some c.in-Some-period.period = sym c.period.ensures ∙ c.in-Some-period.is in
    let own = control_period c.ends_are_lawful.ensures c.args.block c.in-Some.control c.block_at.result.now
    c.block_at.ensures feeds c.in-Some-period.period moves c.samples.result
    (c.samples.ensures ∙ ap samples c.period-2.ensures) in
    on_ok_weaker c.ask_plain.result
    (λ put. control_put c.ends_are_lawful.ensures c.args.block c.block_at.result.now c.block_at.ensures c.args.asks.now c.ask_plain.new.asks (Some c.in-Some.control) is
    (moving_control c.ends_are_lawful.ensures c.args.block c.in-Some.control c.block_at.result.now
    c.block_at.ensures feeds c.in-Some-period.period moves c.args.asks.now.list.items
    c.ask_plain.new.asks.list.items c.args.asks.now.wants.items c.ask_plain.new.asks.wants.items
    c.at-hub.result c.samples.result own c.at-hub.ensures put))
    (rw (c.frame_after-frame.ensures, c.as_slice.ensures) at c.ask_plain.ensures)

pub ends_are_lawful-requires : goal.ends_are_lawful-requires
ends_are_lawful-requires c = c.requires.can

pub block_at-requires : goal.block_at-requires
block_at-requires c = c.requires.there

pub period-requires-2 : goal.period-requires-2
period-requires-2 c = c.requires.there

pub frame_after-frame-requires-clause-designed : goal.frame_after-frame-requires-clause-designed
frame_after-frame-requires-clause-designed c = c.requires.can.designed

pub frame_after-frame-requires-clause-period : goal.frame_after-frame-requires-clause-period
frame_after-frame-requires-clause-period c = sym c.period.ensures ∙ c.in-Some-period.is

pub bounds-as_slice-block : goal.bounds-as_slice-block
bounds-as_slice-block c =
    let same = ap (λ (xs : List ℕ). length xs) c.as_slice.ensures in
    omega (arith, c.requires.there, same, c.requires.can.designed.scheduled.timed.size)

pub offset_bounds-as_slice-block : goal.offset_bounds-as_slice-block
offset_bounds-as_slice-block c =
    let same = ap (λ (xs : List ℕ). length xs) c.as_slice.ensures in
    omega (arith, c.requires.there, same, c.requires.can.designed.scheduled.timed.size)

pub returns-in_default : goal.returns-in_default
returns-in_default c =
    control_put c.ends_are_lawful.ensures c.args.block c.block_at.result.now c.block_at.ensures c.args.asks.now c.args.asks.now None (sym c.control_of.ensures ∙ c.in_default.is) (refl, refl)
