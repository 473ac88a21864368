use Rattle.std.proofs.Common.{[], ◌<◌, ◌≤◌, List, length, ap, subst, ◌∙◌, arith}
use Rattle.dg_model.specs.declared.diagram.Block.{Block}
use Rattle.dg_model.specs.declared.diagram.Diagram.{Diagram}
use Rattle.dg_model.specs.declared.diagram.Edge.{Edge}
use Rattle.dg_model.specs.Attributes.{attributes_of}
use Rattle.hw_sched.specs.Answer.{timing_of}
use Rattle.hw_sched.proofs.RegisterCounts.{beside_control, beside_line, beside_lines, beside_none}
use Rattle.hw_sched.proofs.Items.{item_read}
use Rattle.hw_sched.proofs.Widths.{line_there}
use Rattle.math_list.proofs.Places.{get_some}
use Rattle.hw_sched.proofs.edge_lines.lines_in_all.Goals as goal

abbrev none : Edge
none = record { from = 0; from_port = 0; to = 0; to_port = 0 }

pub line_registers-requires : goal.line_registers-requires
line_registers-requires c =
    let es = c.as_slice-edges.ensures ∙ ap (λ (d : Diagram). d.edges) c.diagram-diagram.ensures in
    record {
      timed = c.requires;
      there = line_there c.args.checked.now.diagram c.keeps_rules.ensures.checked c.loop-edge.edge-index _
          (item_read c.args.checked.now.diagram.edges c.as_slice-edges.result.now c.loop-edge.edge-index none es
          c.loop-edge-test.true);
    }

pub loop-place-preserved : goal.loop-place-preserved
loop-place-preserved c =
    let bs = c.as_slice-blocks.ensures ∙ ap (λ (d : Diagram). d.blocks) c.diagram-diagram.ensures in
    let block = get_some c.args.checked.now.diagram.blocks c.loop-place.place (subst (λ (blocks : List Block). c.loop-place.place < length blocks) bs c.loop-place-test.true) in
    beside_control c.args.checked.now.diagram (attributes_of c.args.checked.now.diagram) c.args.plan.now
    (timing_of c.args.latencies.now []) c.loop-place.all c.controls_line.result c.saturating_add-all.result
    c.loop-place.place block.0 block.1
    c.controls_line.ensures c.saturating_add-all.ensures c.loop-place.invariant

pub loop-edge-init : goal.loop-edge-init
loop-edge-init c = record { sum_is = omega arith; fits = omega arith }

pub loop-edge-preserved : goal.loop-edge-preserved
loop-edge-preserved c =
    let es = c.as_slice-edges.ensures ∙ ap (λ (d : Diagram). d.edges) c.diagram-diagram.ensures in
    beside_line c.args.checked.now.diagram (attributes_of c.args.checked.now.diagram) c.args.plan.now
    (timing_of c.args.latencies.now []) c.loop-edge.lines c.line_registers.result c.saturating_add-lines.result
    c.loop-edge.edge-index _
    (item_read c.args.checked.now.diagram.edges c.as_slice-edges.result.now c.loop-edge.edge-index none es c.loop-edge-test.true)
    c.line_registers.ensures c.saturating_add-lines.ensures c.loop-edge.invariant

pub loop-place-init : goal.loop-place-init
loop-place-init c =
    let es = c.as_slice-edges.ensures ∙ ap (λ (d : Diagram). d.edges) c.diagram-diagram.ensures in
    beside_lines c.args.checked.now.diagram (attributes_of c.args.checked.now.diagram) c.args.plan.now (timing_of c.args.latencies.now []) c.loop-edge.lines c.loop-edge.edge-index
    (subst (λ (edges : List Edge). length edges ≤ c.loop-edge.edge-index) es c.loop-edge-test.false) c.loop-edge.invariant

pub controls_line-requires-clause-there : goal.controls_line-requires-clause-there
controls_line-requires-clause-there c =
    let bs = c.as_slice-blocks.ensures ∙ ap (λ (d : Diagram). d.blocks) c.diagram-diagram.ensures in
    subst (λ (blocks : List Block). c.loop-place.place < length blocks) bs c.loop-place-test.true

pub returns : goal.returns
returns c =
    let bs = c.as_slice-blocks.ensures ∙ ap (λ (d : Diagram). d.blocks) c.diagram-diagram.ensures in
    beside_none c.args.checked.now.diagram (attributes_of c.args.checked.now.diagram) c.args.plan.now (timing_of c.args.latencies.now []) c.loop-place.all c.loop-place.place
    (subst (λ (blocks : List Block). length blocks ≤ c.loop-place.place) bs c.loop-place-test.false) c.loop-place.invariant
