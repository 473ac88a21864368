use Rattle.std.proofs.Common.{rules, ◌≡◌, ◌≤◌, [], List, Some, length, ap, sym, ◌∙◌, subst, arith}
use Rattle.std.specs.Prelude.{slice_get, slice_index_or}
use Rattle.std.proofs.lemmas.Option.{slice_get-get_or}
use Rattle.dg_model.specs.declared.diagram.Diagram.{Diagram}
use Rattle.dg_model.specs.declared.diagram.Edge.{Edge}
use Rattle.hw_build.specs.declared.asks.Ask.{Ask}
use Rattle.hw_build.specs.declared.operands.Span.{Span}
use Rattle.hw_build.specs.declared.wants.Want.{Want}
use Rattle.hw_build.specs.inner.DesignTimes.{times_for}
use Rattle.hw_build.specs.inner.EndAsks.{AreEnds, IsSpan, lines_left}
use Rattle.hw_build.proofs.AllEnds.{line_longer, ends_begin, lines_more, lines_end}
use Rattle.hw_build.proofs.gathering.gather_lines.Goals as goal

abbrev no_edge : Edge
no_edge = record { from = 0; from_port = 0; to = 0; to_port = 0 }

pub loop-edge-init : goal.loop-edge-init
loop-edge-init c =
    subst (λ (xs : List Ask). AreEnds c.args.ends.design.checked.now.diagram c.args.ends.design.plan.now
    (times_for c.args.ends.design) c.args.ends.hubs.now xs c.args.asks.now.wants.items c.args.lines.now [] 0 0
    (lines_left c.args.ends.design.checked.now.diagram 0)) (sym c.requires.list)
    (subst (λ (xs : List Want). AreEnds c.args.ends.design.checked.now.diagram c.args.ends.design.plan.now
    (times_for c.args.ends.design) c.args.ends.hubs.now [] xs c.args.lines.now [] 0 0
    (lines_left c.args.ends.design.checked.now.diagram 0)) (sym c.requires.wants)
    (subst (λ (xs : List Span). AreEnds c.args.ends.design.checked.now.diagram c.args.ends.design.plan.now
    (times_for c.args.ends.design) c.args.ends.hubs.now [] [] xs [] 0 0
    (lines_left c.args.ends.design.checked.now.diagram 0)) (sym c.requires.lines)
    (ends_begin c.args.ends.design.checked.now.diagram c.args.ends.design.plan.now
    (times_for c.args.ends.design) c.args.ends.hubs.now)))

pub line_end-requires-clause-line : goal.line_end-requires-clause-line
line_end-requires-clause-line c =
    let es : c.as_slice-edge-items.result.now ≡ c.args.ends.design.checked.now.diagram.edges = c.as_slice-edge-items.ensures ∙ ap (λ (d : Diagram). d.edges) c.diagram.ensures in
    let edge : Edge = slice_index_or c.as_slice-edge-items.result.now c.loop-edge.edge-index no_edge in
    let at : slice_get c.args.ends.design.checked.now.diagram.edges c.loop-edge.edge-index ≡ Some edge =
    ap (λ (xs : List Edge). slice_get xs c.loop-edge.edge-index) (sym es)
    ∙ slice_get-get_or c.as_slice-edge-items.result.now c.loop-edge.edge-index no_edge
    c.loop-edge-test.true in
    (c.loop-edge.edge-index, at)

pub put_span-requires : goal.put_span-requires
put_span-requires c =
    let es : c.as_slice-edge-items.result.now ≡ c.args.ends.design.checked.now.diagram.edges = c.as_slice-edge-items.ensures ∙ ap (λ (d : Diagram). d.edges) c.diagram.ensures in
    let edge : Edge = slice_index_or c.as_slice-edge-items.result.now c.loop-edge.edge-index no_edge in
    let at : slice_get c.args.ends.design.checked.now.diagram.edges c.loop-edge.edge-index ≡ Some edge =
    ap (λ (xs : List Edge). slice_get xs c.loop-edge.edge-index) (sym es)
    ∙ slice_get-get_or c.as_slice-edge-items.result.now c.loop-edge.edge-index no_edge
    c.loop-edge-test.true in
    let before : c.len-first.result ≡ length c.loop-edge.asks.list.items = search rules in
    let behind : c.len.result ≡ length c.line_end.new.asks.list.items = search rules in
    let longer = line_longer c.args.ends.design.checked.now.diagram c.args.ends.design.plan.now
    (times_for c.args.ends.design) c.args.ends.hubs.now c.loop-edge.asks c.line_end.new.asks
    c.loop-edge.edge-index edge c.requires.can.designed.scheduled.checked.wired at
    c.in_ok-line_end.ensures in
    omega (arith, before, behind, longer)

pub loop-edge-preserved : goal.loop-edge-preserved
loop-edge-preserved c =
    let es : c.as_slice-edge-items.result.now ≡ c.args.ends.design.checked.now.diagram.edges = c.as_slice-edge-items.ensures ∙ ap (λ (d : Diagram). d.edges) c.diagram.ensures in
    let edge : Edge = slice_index_or c.as_slice-edge-items.result.now c.loop-edge.edge-index no_edge in
    let at : slice_get c.args.ends.design.checked.now.diagram.edges c.loop-edge.edge-index ≡ Some edge =
    ap (λ (xs : List Edge). slice_get xs c.loop-edge.edge-index) (sym es)
    ∙ slice_get-get_or c.as_slice-edge-items.result.now c.loop-edge.edge-index no_edge
    c.loop-edge-test.true in
    let before : c.len-first.result ≡ length c.loop-edge.asks.list.items = search rules in
    let behind : c.len.result ≡ length c.line_end.new.asks.list.items = search rules in
    let put = c.in_ok-put_span.ensures in
    let span : IsSpan (length c.loop-edge.asks.list.items) (length c.line_end.new.asks.list.items) put.0 = rw (before, behind) at put.1.0 in
    rw put.1.1 (lines_more c.args.ends.design.checked.now.diagram c.args.ends.design.plan.now
    (times_for c.args.ends.design) c.args.ends.hubs.now c.requires.can.designed.scheduled.checked.wired
    c.loop-edge.asks c.line_end.new.asks c.loop-edge.lines put.0 c.loop-edge.edge-index edge
    c.loop-edge.invariant at c.in_ok-line_end.ensures span)

pub returns : goal.returns
returns c =
    let es : c.as_slice-edge-items.result.now ≡ c.args.ends.design.checked.now.diagram.edges = c.as_slice-edge-items.ensures ∙ ap (λ (d : Diagram). d.edges) c.diagram.ensures in
    let size = ap (λ (xs : List Edge). length xs) es in
    let low : c.loop-edge.edge-index ≤ length c.args.ends.design.checked.now.diagram.edges = (let end = c.loop-edge.auto.edge-index-end in omega (arith, end, size)) in
    let high : length c.args.ends.design.checked.now.diagram.edges ≤ c.loop-edge.edge-index = (let end = c.loop-edge-test.false in omega (arith, end, size)) in
    lines_end c.args.ends.design.checked.now.diagram c.args.ends.design.plan.now
    (times_for c.args.ends.design) c.args.ends.hubs.now c.loop-edge.asks c.loop-edge.lines
    c.loop-edge.edge-index low high c.loop-edge.invariant
