use Rattle.std.proofs.Common.{◌≡◌, ◌≤◌, ◌+◌, ℕ, List, length, Some, slice_get, get_or, ap, sym, ◌∙◌, subst, arith}
use Rattle.std.proofs.lemmas.List.{length-replicate}
use Rattle.std.proofs.lemmas.Option.{slice_get_within, slice_get-get_or}
use Rattle.dg_model.specs.declared.diagram.Diagram.{Diagram}
use Rattle.dg_model.specs.declared.diagram.Edge.{Edge}
use Rattle.dg_tables.specs.inner.Layout.{AreLinesTo}
use Rattle.dg_tables.proofs.Lines.{target, lines_more, lines_all}
use Rattle.dg_tables.proofs.layout.line_starts.Goals as goal

pub loop-place-init : goal.loop-place-init
loop-place-init c =
    let diagram : Diagram = c.args.checked.now.diagram in
    let items = c.in_ok-firsts.ensures.items_if_clones_equal (λ y same. same) in
    let count = ap length (c.as_slice-count.ensures ∙ ap (λ (d : Diagram). d.blocks) c.diagram.ensures) in
    record {
      size = ap length items ∙ length-replicate (length c.as_slice-count.result.now) 0 ∙ count;
      first = λ k edge below at port. absurd (omega (arith, below));
    }

pub put_line-requires : goal.put_line-requires
put_line-requires c =
    let diagram : Diagram = c.args.checked.now.diagram in
    let place : ℕ = c.loop-place.place in
    let edges : c.as_slice-edge-items.result.now ≡ diagram.edges = c.as_slice-edge-items.ensures ∙ ap (λ (d : Diagram). d.edges) c.diagram-2.ensures in
    let edge : Edge = get_or c.as_slice-edge-items.result.now place (record { from = 0; from_port = 0; to = 0; to_port = 0 }) in
    let at : slice_get diagram.edges place ≡ Some edge =
    ap (λ (xs : List Edge). slice_get xs place) (sym edges)
    ∙ slice_get-get_or c.as_slice-edge-items.result.now place
    (record { from = 0; from_port = 0; to = 0; to_port = 0 }) c.loop-place-test.true in
    let there = target diagram c.keeps_rules.ensures.checked.wired place edge at in
    let inside = slice_get_within diagram.blocks edge.to there.0 there.1 in
    let size = c.loop-place.invariant.size in
    omega (arith, inside, size)

pub loop-place-preserved : goal.loop-place-preserved
loop-place-preserved c =
    let diagram : Diagram = c.args.checked.now.diagram in
    let place : ℕ = c.loop-place.place in
    let edges : c.as_slice-edge-items.result.now ≡ diagram.edges = c.as_slice-edge-items.ensures ∙ ap (λ (d : Diagram). d.edges) c.diagram-2.ensures in
    let at = ap (λ (xs : List Edge). slice_get xs place) (sym edges) ∙ slice_get-get_or c.as_slice-edge-items.result.now place _ c.loop-place-test.true in
    subst (λ (firsts : List ℕ). AreLinesTo diagram (place + 1) firsts) (sym c.put_line.ensures)
    (lines_more diagram c.keeps_rules.ensures.checked.wired c.loop-place.firsts.items place _ at c.loop-place.invariant)

pub returns-clause-lines : goal.returns-clause-lines
returns-clause-lines c =
    let diagram : Diagram = c.args.checked.now.diagram in
    let edges : c.as_slice-edge-items.result.now ≡ diagram.edges = c.as_slice-edge-items.ensures ∙ ap (λ (d : Diagram). d.edges) c.diagram-2.ensures in
    lines_all diagram c.keeps_rules.ensures.checked.wired c.loop-place.firsts.items c.loop-place.place
    (subst (λ (xs : List Edge). length xs ≤ c.loop-place.place) edges c.loop-place-test.false) c.loop-place.invariant

pub returns-clause-ports : goal.returns-clause-ports
returns-clause-ports c =
    let items = c.in_ok-ports.ensures.items_if_clones_equal (λ y same. same) in
    ap length items ∙ length-replicate (length c.as_slice-count.result.now) 0 ∙ ap length (c.as_slice-count.ensures ∙ ap (λ (d : Diagram). d.blocks) c.diagram.ensures)
