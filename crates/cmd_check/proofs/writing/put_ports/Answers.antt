use Rattle.std.proofs.Common.{◌+◌, arith}
use Rattle.std.proofs.lemmas.Option.{slice_get_within}
use Rattle.hw_sched.proofs.Widths.{widths_at}
use Rattle.cmd_check.specs.CheckText.{port_text}
use Rattle.cmd_check.proofs.PieceBytes.{adds_as, both}
use Rattle.cmd_check.proofs.PieceTexts.{next_number, port_is}
use Rattle.cmd_check.proofs.writing.put_ports.Goals as goal

pub width-width-requires-clause-there : goal.width-width-requires-clause-there
width-width-requires-clause-there g c =
    let many = (widths_at c.args.checked.now.diagram c.keeps_rules.ensures.checked c.args.place c.args.block.now c.requires).0 in
    let there = c.loop-port-test.true in
    omega (arith, many, there)

pub result-requires : goal.result-requires
result-requires g c = slice_get_within c.args.checked.now.diagram.blocks c.args.place c.args.block.now c.requires

pub loop-port-preserved : goal.loop-port-preserved
loop-port-preserved g c =
    let port = c.loop-port.port + 1 in
    adds_as (next_number (port_text c.args.checked.now.diagram c.args.place) 1 c.loop-port.port port (omega arith))
    (both c.loop-port.invariant
    (adds_as (port_is c.args.checked.now.diagram c.args.place port c.result.result c.width-width.result c.from.result (c.result.ensures port) c.width-width.ensures c.from.ensures)
    (both c.put_type.ensures c.put_named.ensures)))
