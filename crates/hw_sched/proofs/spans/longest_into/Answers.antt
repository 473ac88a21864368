use Rattle.std.proofs.Common.{◌≡◌, ◌≤◌, ℕ, List, length, replicate, ap, sym, subst, ◌∙◌, rules}
use Rattle.std.specs.Prelude.{slice_index}
use Rattle.std.proofs.lemmas.List.{length-replicate}
use Rattle.dg_model.specs.declared.diagram.Diagram.{Diagram}
use Rattle.dg_model.specs.declared.diagram.Edge.{Edge}
use Rattle.hw_sched.specs.inner.Spans.{AreCounted}
use Rattle.hw_sched.proofs.Lists.{zero_at}
use Rattle.hw_sched.proofs.Items.{item_read}
use Rattle.hw_sched.proofs.SpanLines.{longest_none, longest_more, longest_end}
use Rattle.dg_sort.proofs.Lines.{from_there, to_there}
use Rattle.hw_sched.proofs.spans.longest_into.Goals as goal

abbrev none : Edge
none = record { from = 0; from_port = 0; to = 0; to_port = 0 }

pub loop-edge-init : goal.loop-edge-init
loop-edge-init c =
    let count : ℕ = c.count_of.result in
    let zeros : c.in_ok-longest.longest.items ≡ replicate count 0 = c.in_ok-longest.ensures.items_if_clones_equal (search rules) in
    let size = ap (λ (xs : List ℕ). length xs) zeros ∙ length-replicate count 0 in
    longest_none c.args.checked.now.diagram c.in_ok-longest.longest.items
    (subst (AreCounted c.args.checked.now.diagram) (sym size) c.count_of.ensures)
    (λ period. ap (λ (xs : List ℕ). slice_index xs period) zeros ∙ zero_at count period)

pub loop-edge-preserved : goal.loop-edge-preserved
loop-edge-preserved c =
    let es = c.as_slice-edge-items.ensures ∙ ap (λ (d : Diagram). d.edges) c.diagram.ensures in
    longest_more c.args.checked.now.diagram c.loop-edge.edge-index _ c.loop-edge.longest.items c.raise.new.longest.items
    (item_read c.args.checked.now.diagram.edges c.as_slice-edge-items.result.now c.loop-edge.edge-index none es c.loop-edge-test.true)
    c.raise.ensures.size c.raise.ensures.raised c.loop-edge.invariant

pub returns : goal.returns
returns c =
    longest_end c.args.checked.now.diagram c.loop-edge.edge-index c.loop-edge.longest.items c.keeps_rules.ensures.checked
    (subst (λ (es : List Edge). length es ≤ c.loop-edge.edge-index) (c.as_slice-edge-items.ensures ∙ ap (λ (d : Diagram). d.edges) c.diagram.ensures) c.loop-edge-test.false) c.loop-edge.invariant

pub raise-requires-clause-from : goal.raise-requires-clause-from
raise-requires-clause-from c =
    let es = c.as_slice-edge-items.ensures ∙ ap (λ (d : Diagram). d.edges) c.diagram.ensures in
    let at = item_read c.args.checked.now.diagram.edges c.as_slice-edge-items.result.now c.loop-edge.edge-index none es c.loop-edge-test.true in
    from_there c.args.checked.now.diagram c.loop-edge.edge-index _ c.keeps_rules.ensures.checked.wired at

pub raise-requires-clause-to : goal.raise-requires-clause-to
raise-requires-clause-to c =
    let es = c.as_slice-edge-items.ensures ∙ ap (λ (d : Diagram). d.edges) c.diagram.ensures in
    let at = item_read c.args.checked.now.diagram.edges c.as_slice-edge-items.result.now c.loop-edge.edge-index none es c.loop-edge-test.true in
    to_there c.args.checked.now.diagram c.loop-edge.edge-index _ c.keeps_rules.ensures.checked.wired at

pub raise-requires-clause-counted : goal.raise-requires-clause-counted
raise-requires-clause-counted c = c.loop-edge.invariant.counted
