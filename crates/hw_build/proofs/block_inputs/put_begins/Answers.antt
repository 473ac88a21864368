use Rattle.std.proofs.Common.{arith}
use Rattle.dg_model.specs.Attributes.{attributes_of}
use Rattle.dg_model.specs.Solves.{shown_width}
use Rattle.math_list.proofs.Sums.{sum_last}
use Rattle.hw_build.proofs.MuxNets.{begins_more}
use Rattle.hw_build.proofs.block_inputs.put_begins.Goals as goal

pub loop-port-preserved : goal.loop-port-preserved
loop-port-preserved c =
    let diagram = c.args.checked.now.diagram in
    let last = sum_last (shown_width diagram (attributes_of diagram) c.args.one.now.kind c.args.block) c.loop-port.port in
    let width = c.shown_width-width.ensures in
    let next = c.in-Some.ensures in
    let total = c.loop-port.invariant.1 in (
      begins_more diagram c.args.block c.args.one.now c.loop-port.port c.loop-port.total c.loop-port.begins
          c.push.new.self total c.in_ok-push.ensures.appended c.loop-port.invariant.0,
      omega (arith, last, width, next, total),
    )
