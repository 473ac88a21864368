use Rattle.std.proofs.Common.{ℕ, List, [], ◌∷◌, ◌++◌, map, take, sym, ap, ◌∙◌}
use Rattle.std.specs.List.{flat_map}
use Rattle.std.proofs.lemmas.List.{flat_map_more, take_more, take_all}
use Rattle.dg_model.specs.declared.diagram.Block.{Block}
use Rattle.hw_explore.specs.declared.finding.Finding.{Finding}
use Rattle.cmd_explore.specs.FindingsText.{finding_line}
use Rattle.cmd_explore.proofs.writing.push_lines.Goals as goal

pub loop-row-preserved : goal.loop-row-preserved
loop-row-preserved c =
    let line = finding_line (map (λ (block : Block). block.path) c.args.blocks.now) in
    let rows = c.args.rows.now in
    let i = c.loop-row.row-index in
    let row = c.row-item.result in
    let before = c.args.text.now.items in
    c.in_ok-push_line.ensures ∙ ap (λ (front : List ℕ). front ++ line row) c.loop-row.invariant
    ∙ flat_map_more line before (take i rows) row
    ∙ ap (λ (last : Finding). before ++ flat_map line (take i rows ++ last ∷ [])) c.row-item.is
    ∙ ap (λ (done : List Finding). before ++ flat_map line done) (sym (take_more rows i row c.loop-row-test.true))

pub returns : goal.returns
returns c =
    let line = finding_line (map (λ (block : Block). block.path) c.args.blocks.now) in
    c.loop-row.invariant
    ∙ ap (λ (done : List Finding). c.args.text.now.items ++ flat_map line done) (take_all c.loop-row.row-index c.args.rows.now c.loop-row-test.false)
