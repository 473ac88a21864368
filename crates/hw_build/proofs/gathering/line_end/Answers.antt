use Rattle.std.proofs.Common.{◌≡◌, ap, sym, ◌∙◌, arith}
use Rattle.std.proofs.lemmas.Option.{slice_get_within}
use Rattle.dg_model.specs.LatencyEdges.{signal_edge}
use Rattle.dg_model.specs.Solves.{shown_ports}
use Rattle.dg_sort.proofs.Lines.{from_there, to_there}
use Rattle.hw_sched.proofs.Widths.{source_there}
use Rattle.hw_latency.specs.Weight.{samples}
use Rattle.hw_build.proofs.LineEnds.{still_line, plain_end, late_end, asked, late_fits, line_put, hub_there, hubs_fit}
use Rattle.hw_build.proofs.EndAsks.{nothing_put}
use Rattle.std.proofs.lemmas.Result.{on_ok_weaker}
use Rattle.hw_build.proofs.gathering.line_end.Goals as goal

pub returns-then-shown_ports-eq0 : goal.returns-then-shown_ports-eq0
returns-then-shown_ports-eq0 c =
    let none : shown_ports c.block_at-one.result.now.kind c.block_at-one.result.now.outputs ≡ 0 = sym c.shown_ports.ensures ∙ c.if-shown_ports-eq0.true in
    line_put c.ends_are_lawful.ensures c.args.edge c.block_at-one.result.now c.block_at-one.ensures c.args.asks.now c.args.asks.now
    (nothing_put c.ends_are_lawful.ensures c.args.asks.now.list.items c.args.asks.now.wants.items c.block_at-one.result.now (signal_edge c.args.edge) none c.block_at-one.ensures)

pub at-first-requires-clause-there : goal.at-first-requires-clause-there
at-first-requires-clause-there c =
    hub_there c.ends_are_lawful.ensures c.requires.line.0 c.args.edge c.block_at-one.result.now c.requires.line.1
    c.block_at-one.ensures (omega (arith, c.if-shown_ports-eq0.false, c.shown_ports.ensures))

pub width-width-requires-clause-port : goal.width-width-requires-clause-port
width-width-requires-clause-port c = (source_there c.args.ends.design.checked.now.diagram c.requires.can.designed.scheduled.checked c.requires.line.0 c.args.edge c.requires.line.1).0

pub width-width-requires-clause-there : goal.width-width-requires-clause-there
width-width-requires-clause-there c = (source_there c.args.ends.design.checked.now.diagram c.requires.can.designed.scheduled.checked c.requires.line.0 c.args.edge c.requires.line.1).1

pub period-requires : goal.period-requires
period-requires c = from_there c.args.ends.design.checked.now.diagram c.requires.line.0 c.args.edge c.requires.can.designed.scheduled.checked.wired c.requires.line.1

pub ask_signal-requires : goal.ask_signal-requires
ask_signal-requires c =
    hubs_fit c.ends_are_lawful.ensures c.requires.line.0 c.args.edge c.block_at-one.result.now c.requires.line.1
    c.block_at-one.ensures (omega (arith, c.if-shown_ports-eq0.false, c.shown_ports.ensures)) c.at-first.result
    c.width-width.result c.at-first.ensures c.width-width.ensures c.at-first.type_inv

pub returns-in_default : goal.returns-in_default
returns-in_default c =
    on_ok_weaker c.ask_signal.result
    (λ put. line_put c.ends_are_lawful.ensures c.args.edge c.block_at-one.result.now c.block_at-one.ensures c.args.asks.now c.ask_signal.new.asks
    (still_line c.ends_are_lawful.ensures c.requires.line.0 c.args.edge c.block_at-one.result.now c.requires.line.1
    c.block_at-one.ensures (omega (arith, c.if-shown_ports-eq0.false, c.shown_ports.ensures))
    c.args.asks.now.list.items c.ask_signal.new.asks.list.items c.args.asks.now.wants.items
    c.ask_signal.new.asks.wants.items c.at-first.result c.width-width.result
    (sym c.period.ensures ∙ c.in_default.is) c.at-first.ensures c.width-width.ensures put))
    c.ask_signal.ensures

pub period-requires-2 : goal.period-requires-2
period-requires-2 c = slice_get_within c.args.ends.design.checked.now.diagram.blocks c.args.edge.to c.block_at-one.result.now c.block_at-one.ensures

pub frame_after-frame-requires-clause-there : goal.frame_after-frame-requires-clause-there
frame_after-frame-requires-clause-there c = from_there c.args.ends.design.checked.now.diagram c.requires.line.0 c.args.edge c.requires.can.designed.scheduled.checked.wired c.requires.line.1

pub line_use-to-requires-clause-behind : goal.line_use-to-requires-clause-behind
line_use-to-requires-clause-behind c =
    rw c.frame_after-frame.ensures (asked c.ends_are_lawful.ensures c.requires.line.0 c.args.edge
    c.block_at-one.result.now c.requires.line.1 c.block_at-one.ensures
    (omega (arith, c.if-shown_ports-eq0.false, c.shown_ports.ensures)) c.in-Some.period
    (sym c.period.ensures ∙ c.in-Some.is)).late

pub line_use-to-requires-clause-near : goal.line_use-to-requires-clause-near
line_use-to-requires-clause-near c =
    (asked c.ends_are_lawful.ensures c.requires.line.0 c.args.edge c.block_at-one.result.now c.requires.line.1
    c.block_at-one.ensures (omega (arith, c.if-shown_ports-eq0.false, c.shown_ports.ensures)) c.in-Some.period
    (sym c.period.ensures ∙ c.in-Some.is)).near

pub ask_late-requires-clause-fits : goal.ask_late-requires-clause-fits
ask_late-requires-clause-fits c =
    λ element below. late_fits c.ends_are_lawful.ensures c.requires.line.0 c.args.edge c.block_at-one.result.now
    c.requires.line.1 c.block_at-one.ensures
    (omega (arith, c.if-shown_ports-eq0.false, c.shown_ports.ensures)) c.in-Some.period c.samples-own.result
    c.at-first.result c.width-width.result element (sym c.period.ensures ∙ c.in-Some.is)
    (c.samples-own.ensures ∙ ap samples c.period-2.ensures)
    (sym c.is_registered.ensures ∙ c.if-is_registered.true) c.at-first.ensures
    c.width-width.ensures below

pub ask_plain-requires : goal.ask_plain-requires
ask_plain-requires c =
    hubs_fit c.ends_are_lawful.ensures c.requires.line.0 c.args.edge c.block_at-one.result.now c.requires.line.1
    c.block_at-one.ensures (omega (arith, c.if-shown_ports-eq0.false, c.shown_ports.ensures)) c.at-first.result
    c.width-width.result c.at-first.ensures c.width-width.ensures c.at-first.type_inv

pub returns-then-is_registered : goal.returns-then-is_registered
returns-then-is_registered c =
    on_ok_weaker c.ask_late.result (λ put. late_end c.ends_are_lawful.ensures c.requires.line.0 c.args.edge
    c.block_at-one.result.now c.requires.line.1 c.block_at-one.ensures
    (omega (arith, c.if-shown_ports-eq0.false, c.shown_ports.ensures)) c.in-Some.period
    (sym c.period.ensures ∙ c.in-Some.is) c.samples-own.result c.at-first.result c.width-width.result
    c.args.asks.now c.ask_late.new.asks (c.samples-own.ensures ∙ ap samples c.period-2.ensures)
    (sym c.is_registered.ensures ∙ c.if-is_registered.true) c.at-first.ensures
    c.width-width.ensures put)
    (rw (c.line_use-to.ensures, c.frame_after-frame.ensures) at c.ask_late.ensures)

pub returns-else-is_registered : goal.returns-else-is_registered
returns-else-is_registered c =
    on_ok_weaker c.ask_plain.result (λ put. plain_end c.ends_are_lawful.ensures c.requires.line.0 c.args.edge
    c.block_at-one.result.now c.requires.line.1 c.block_at-one.ensures
    (omega (arith, c.if-shown_ports-eq0.false, c.shown_ports.ensures)) c.in-Some.period
    (sym c.period.ensures ∙ c.in-Some.is) c.samples-own.result c.at-first.result c.width-width.result
    c.args.asks.now c.ask_plain.new.asks (c.samples-own.ensures ∙ ap samples c.period-2.ensures)
    (sym c.is_registered.ensures ∙ c.if-is_registered.false) c.at-first.ensures
    c.width-width.ensures put)
    (rw (c.line_use-to.ensures, c.frame_after-frame.ensures) at c.ask_plain.ensures)

pub ends_are_lawful-requires : goal.ends_are_lawful-requires
ends_are_lawful-requires c = c.requires.can

pub block_at-one-requires : goal.block_at-one-requires
block_at-one-requires c = to_there c.args.ends.design.checked.now.diagram c.requires.line.0 c.args.edge c.requires.can.designed.scheduled.checked.wired c.requires.line.1

pub at-first-requires-clause-port : goal.at-first-requires-clause-port
at-first-requires-clause-port c = (source_there c.args.ends.design.checked.now.diagram c.requires.can.designed.scheduled.checked c.requires.line.0 c.args.edge c.requires.line.1).0

pub frame_after-frame-requires-clause-designed : goal.frame_after-frame-requires-clause-designed
frame_after-frame-requires-clause-designed c = c.requires.can.designed

pub frame_after-frame-requires-clause-period : goal.frame_after-frame-requires-clause-period
frame_after-frame-requires-clause-period c = sym c.period.ensures ∙ c.in-Some.is

pub line_use-to-requires-clause-designed : goal.line_use-to-requires-clause-designed
line_use-to-requires-clause-designed c = c.requires.can.designed

pub line_use-to-requires-clause-from : goal.line_use-to-requires-clause-from
line_use-to-requires-clause-from c = from_there c.args.ends.design.checked.now.diagram c.requires.line.0 c.args.edge c.requires.can.designed.scheduled.checked.wired c.requires.line.1

pub line_use-to-requires-clause-to : goal.line_use-to-requires-clause-to
line_use-to-requires-clause-to c = slice_get_within c.args.ends.design.checked.now.diagram.blocks c.args.edge.to c.block_at-one.result.now c.block_at-one.ensures

pub ask_late-requires-clause-is : goal.ask_late-requires-clause-is
ask_late-requires-clause-is c = c.block_at-one.ensures
