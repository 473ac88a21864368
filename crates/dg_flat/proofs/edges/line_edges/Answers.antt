use Rattle.std.proofs.Common.{◌≡◌, ◌<◌, [], ◌∷◌, ◌++◌, length, get_or, sym, ap, ◌∙◌, Option}
use Rattle.std.specs.List.{filter_map}
use Rattle.std.proofs.lemmas.List.{take_all}
use Rattle.dg_model.specs.declared.nested.NestedLine.{NestedLine}
use Rattle.dg_model.specs.declared.nested.Target.TheVariants.{Port}
use Rattle.dg_flat.specs.declared.edges.FlatPort.{FlatPort}
use Rattle.dg_flat.specs.Flat.{edge_of, source_of, joined}
use Rattle.dg_flat.proofs.EdgeOrder.{gathered_some, gathered_none}
use Rattle.dg_flat.proofs.edges.line_edges.Goals as goal
use Rattle.dg_flat.proofs.edges.line_edges.Goals.{in-Some+in_ok-push, in_default}

abbrev none : NestedLine
none = record { from = 0; from_port = 0; to = 0; target = Port 0 }

pub loop-line-preserved : goal.loop-line-preserved
loop-line-preserved c =
    let blocks = c.args.blocks.now in
    let lines = c.args.lines.now in
    let i = c.loop-line.line-index in
    let line = get_or lines i none in
    let inside : i < length lines = c.loop-line-test.true in
    let is : c.edge_of_ports.result ≡ edge_of blocks line =
    c.edge_of_ports.ensures ∙ ap (λ (o : Option FlatPort). joined o c.end_of-end.result) c.source_of-source.ensures ∙ ap (joined (source_of blocks line)) c.end_of-end.ensures in
    elim c.match-edge_of_ports.branch [
      | in-Some+in_ok-push w ↦
          ap (λ v. v.items) w.edges-is ∙ w.in_ok-push.ensures.items ∙ ap (λ edges. edges ++ w.in-Some.edge ∷ []) c.loop-line.invariant
          ∙ sym (gathered_some (edge_of blocks) lines i none w.in-Some.edge inside (sym is ∙ w.in-Some.is))
      | in_default w ↦
          ap (λ v. v.items) w.edges-is ∙ c.loop-line.invariant ∙ sym (gathered_none (edge_of blocks) lines i none inside (sym is ∙ w.in_default.is))
    ]

pub returns : goal.returns
returns c = c.loop-line.invariant ∙ ap (filter_map (edge_of c.args.blocks.now)) (take_all c.loop-line.line-index c.args.lines.now c.loop-line-test.false)
