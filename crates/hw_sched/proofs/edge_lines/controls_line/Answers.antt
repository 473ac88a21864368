use Rattle.std.proofs.Common.{[], refl, sym, ap, ◌∙◌}
use Rattle.dg_model.specs.Attributes.{attributes_of}
use Rattle.dg_model.specs.LatencyEdges.{LatencyEdge, asks_ever}
use Rattle.dg_model.specs.Library.{row_of}
use Rattle.hw_sched.specs.Answer.{timing_of}
use Rattle.hw_sched.proofs.BlockDepths.{control_parts}
use Rattle.hw_sched.specs.inner.Counts.{capped, edge_of, line_at}
use Rattle.hw_sched.proofs.RegisterCounts.{control_none, control_some}
use Rattle.hw_sched.proofs.Widths.{control_line_there}
use Rattle.hw_sched.proofs.edge_lines.controls_line.Goals as goal

pub line_registers-requires : goal.line_registers-requires
line_registers-requires c =
    let block = c.block_at.result.now in
    let control = control_parts (asks_ever (row_of block.kind).timing.asks) block.enable c.in-Some.control (sym c.control_of.ensures ∙ c.in-Some.is) in
    record {
      timed = c.requires.timed;
      there = control_line_there c.args.checked.now.diagram c.keeps_rules.ensures.checked c.args.place c.in-Some.control block c.block_at.ensures control.1;
    }

pub returns-in_default : goal.returns-in_default
returns-in_default c =
    ap capped (control_none c.args.checked.now.diagram (attributes_of c.args.checked.now.diagram) c.args.plan.now
    (timing_of c.args.latencies.now []) c.args.place c.block_at.result.now c.control_of.result
    c.block_at.ensures c.control_of.ensures c.in_default.is)

pub returns : goal.returns
returns c =
    let diagram = c.args.checked.now.diagram in
    let attributes = attributes_of diagram in
    let timing = timing_of c.args.latencies.now [] in
    let edge : LatencyEdge = edge_of (record { from = c.in-Some.control; from_port = 1; to = c.args.place }) in
    c.line_registers.ensures
    ∙ ap capped (control_some diagram attributes c.args.plan.now timing c.args.place c.in-Some.control
    (line_at diagram attributes c.args.plan.now timing edge) c.block_at.result.now c.control_of.result edge
    c.block_at.ensures c.control_of.ensures c.in-Some.is refl refl)
