use Rattle.std.proofs.Common.{rules, ◌<◌, ap, sym, ◌∙◌, Some, length}
use Rattle.std.proofs.lemmas.Option.{slice_get_within, get_or_from_slice_get}
use Rattle.dg_model.specs.declared.diagram.Diagram.{Diagram}
use Rattle.dg_model.specs.declared.diagram.Edge.{Edge}
use Rattle.hw_build.proofs.LineSearch.{line_read}
use Rattle.hw_build.proofs.operands.line_into.Goals as goal

pub offset_bounds-edges-line_number : goal.offset_bounds-edges-line_number
offset_bounds-edges-line_number c =
    let line = line_read c.args.checked.now.diagram c.args.block c.args.port c.args.one.now
    c.as_slice-edges.result.now c.line_number.result c.keeps_rules.ensures.checked.wired c.requires.is
    c.requires.from c.requires.to (c.as_slice-edges.ensures
    ∙ ap (λ (d : Diagram). d.edges) c.diagram.ensures) c.line_number.ensures in
    let inside : c.line_number.result < length c.as_slice-edges.result.now = slice_get_within c.as_slice-edges.result.now c.line_number.result line.0 line.2 in
    search rules

pub bounds-edges-line_number : goal.bounds-edges-line_number
bounds-edges-line_number c =
    let line = line_read c.args.checked.now.diagram c.args.block c.args.port c.args.one.now
    c.as_slice-edges.result.now c.line_number.result c.keeps_rules.ensures.checked.wired c.requires.is
    c.requires.from c.requires.to (c.as_slice-edges.ensures
    ∙ ap (λ (d : Diagram). d.edges) c.diagram.ensures) c.line_number.ensures in
    slice_get_within c.as_slice-edges.result.now c.line_number.result line.0 line.2

pub returns : goal.returns
returns c =
    let line = line_read c.args.checked.now.diagram c.args.block c.args.port c.args.one.now
    c.as_slice-edges.result.now c.line_number.result c.keeps_rules.ensures.checked.wired c.requires.is
    c.requires.from c.requires.to (c.as_slice-edges.ensures
    ∙ ap (λ (d : Diagram). d.edges) c.diagram.ensures) c.line_number.ensures in
    line.1 ∙ ap (λ (e : Edge). Some e) (sym (get_or_from_slice_get c.as_slice-edges.result.now c.line_number.result line.0 _ line.2))
