use Rattle.std.proofs.Common.{◌≡◌, ◌+◌, ◌-◌, ◌≤◌, ◌<◌, ℕ, List, Some, length, slice_get, slice_index_or, ap, sym, ◌∙◌, arith}
use Rattle.std.proofs.lemmas.Option.{slice_get-get_or, same_Some}
use Rattle.dg_model.specs.declared.diagram.Diagram.{Diagram}
use Rattle.dg_model.specs.declared.diagram.Edge.{Edge}
use Rattle.dg_model.specs.Wires.{enters}
use Rattle.dg_tables.proofs.Lines.{found_line, no_line, past_lines}
use Rattle.dg_tables.proofs.reading.driver.Goals as goal
use Rattle.dg_tables.proofs.reading.driver.Goals.{After-saturating_sub-at}

edges_are : (c : After-saturating_sub-at) → c.as_slice-edges.result.now ≡ c.args.checked.now.diagram.edges
edges_are c = c.as_slice-edges.ensures ∙ ap (λ (d : Diagram). d.edges) c.diagram.ensures

-- a line into the port stands at the place that is looked at
here : (c : After-saturating_sub-at) (k : ℕ) → k < length c.args.checked.now.diagram.edges
    → k ≡ slice_index_or c.args.starts.now.lines.items c.args.block 0 + c.args.port - 1
    → k ≡ c.saturating_sub-at.result
here c k within is =
    let first : c.place_of.result ≡ slice_index_or c.args.starts.now.lines.items c.args.block 0 =
    c.place_of.ensures ∙ ap (λ (xs : List ℕ). slice_index_or xs c.args.block 0) c.as_slice.ensures.value in
    omega (arith, is, within, first, ap (λ (xs : List Edge). length xs) (edges_are c), c.saturating_add.ensures, c.saturating_sub-at.ensures)

there : (c : After-saturating_sub-at) (default : Edge) → c.saturating_sub-at.result < length c.as_slice-edges.result.now
    → slice_get c.args.checked.now.diagram.edges c.saturating_sub-at.result ≡ Some (slice_index_or c.as_slice-edges.result.now c.saturating_sub-at.result default)
there c default within = ap (λ (xs : List Edge). slice_get xs c.saturating_sub-at.result) (sym (edges_are c)) ∙ slice_get-get_or c.as_slice-edges.result.now c.saturating_sub-at.result default within

pub returns-then-at-edges : goal.returns-then-at-edges
returns-then-at-edges c =
    let diagram : Diagram = c.args.checked.now.diagram in
    let at = (goal.at.returns-then-at-edges c).After-saturating_sub-at in
    let past : length diagram.edges ≤ c.saturating_sub-at.result = omega (arith, ap (λ (xs : List Edge). length xs) (edges_are at), c.if-at-edges.true) in
    past_lines diagram c.keeps_rules.ensures.checked.wired c.args.starts.now.lines.items c.requires c.args.block c.args.port c.saturating_sub-at.result (here at) past

pub returns-then-is_into : goal.returns-then-is_into
returns-then-is_into c =
    let at = (goal.at.returns-then-is_into c).After-saturating_sub-at in
    found_line c.args.checked.now.diagram c.keeps_rules.ensures.checked.wired c.args.starts.now.lines.items
    c.requires c.args.block c.args.port c.saturating_sub-at.result (here at) _
    (there at _ (omega (arith, c.if-at-edges.false))) (sym c.is_into.ensures ∙ c.if-is_into.true)

pub returns-else-is_into : goal.returns-else-is_into
returns-else-is_into c =
    let at = (goal.at.returns-else-is_into c).After-saturating_sub-at in
    no_line c.args.checked.now.diagram c.keeps_rules.ensures.checked.wired c.args.starts.now.lines.items c.requires c.args.block c.args.port c.saturating_sub-at.result (here at)
    (λ edge is. ap (enters c.args.block c.args.port) (same_Some edge _ (sym is ∙ there at _ (omega (arith, c.if-at-edges.false)))) ∙ sym c.is_into.ensures ∙ c.if-is_into.false)
