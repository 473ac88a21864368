use Rattle.std.proofs.Common.{◌+◌, ap, sym, ◌∙◌, arith}
use Rattle.dg_model.specs.declared.diagram.Diagram.{Diagram}
use Rattle.dg_model.specs.declared.diagram.Edge.{Edge}
use Rattle.hw_sched.proofs.Items.{rest_past, rest_read, first_as}
use Rattle.hw_sched.proofs.PortLines.{enters_none, enters_more, enters_at, enters_end, enters_stop}
use Rattle.hw_sched.proofs.drivers.driver.Goals as goal

abbrev none : Edge
none = record { from = 0; from_port = 0; to = 0; to_port = 0 }

pub loop-edge-init : goal.loop-edge-init
loop-edge-init c =
    let es = c.as_slice-edges.ensures ∙ ap (λ (d : Diagram). d.edges) c.diagram.ensures in
    enters_none c.args.checked.now.diagram.edges c.first_into-first.result c.args.place c.args.port
    (first_as c.args.checked.now.diagram.edges c.as_slice-edges.result.now c.args.place
    c.first_into-first.result es c.first_into-first.ensures)

pub returns-then-edge-place : goal.returns-then-edge-place
returns-then-edge-place c =
    let es = c.as_slice-edges.ensures ∙ ap (λ (d : Diagram). d.edges) c.diagram.ensures in
    let at = rest_read c.args.checked.now.diagram.edges c.as_slice-edges.result.now c.first_into-first.result c.loop-edge.edge-index none es c.loop-edge-test.true in
    let found = enters_stop c.args.checked.now.diagram.edges c.first_into-first.result
    (c.first_into-first.result + c.loop-edge.edge-index) c.args.place c.args.port _
    c.keeps_rules.ensures.checked.wired.ordered
    (first_as c.args.checked.now.diagram.edges c.as_slice-edges.result.now c.args.place c.first_into-first.result es
    c.first_into-first.ensures) (omega arith) at
    (λ e. let differs = c.if-edge-place.true in omega (arith, e, differs)) c.loop-edge.invariant in
    sym found

pub returns-then-edge-port : goal.returns-then-edge-port
returns-then-edge-port c =
    let es = c.as_slice-edges.ensures ∙ ap (λ (d : Diagram). d.edges) c.diagram.ensures in
    let at = rest_read c.args.checked.now.diagram.edges c.as_slice-edges.result.now c.first_into-first.result c.loop-edge.edge-index none es c.loop-edge-test.true in
    let found = enters_at c.args.checked.now.diagram.edges
    (c.first_into-first.result + c.loop-edge.edge-index) c.args.place c.args.port _ at
    (let same = c.if-edge-place.false in omega (arith, same)) c.if-edge-port.true c.loop-edge.invariant in
    sym found

pub loop-edge-preserved : goal.loop-edge-preserved
loop-edge-preserved c =
    let es = c.as_slice-edges.ensures ∙ ap (λ (d : Diagram). d.edges) c.diagram.ensures in
    let at = rest_read c.args.checked.now.diagram.edges c.as_slice-edges.result.now c.first_into-first.result c.loop-edge.edge-index none es c.loop-edge-test.true in
    enters_more c.args.checked.now.diagram.edges c.first_into-first.result c.loop-edge.edge-index c.args.place
    c.args.port _ at
    (λ e. let differs = c.if-edge-port.false in omega (arith, e, differs)) c.loop-edge.invariant

pub returns : goal.returns
returns c =
    let es = c.as_slice-edges.ensures ∙ ap (λ (d : Diagram). d.edges) c.diagram.ensures in
    let past = rest_past c.args.checked.now.diagram.edges c.as_slice-edges.result.now c.first_into-first.result
    c.loop-edge.edge-index es c.first_into-first.ensures.within (omega (arith, c.loop-edge-test.false)) in
    sym (enters_end c.args.checked.now.diagram.edges (c.first_into-first.result + c.loop-edge.edge-index) c.args.place c.args.port past c.loop-edge.invariant)
