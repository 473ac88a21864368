use Rattle.cmd_design.specs.Refused.{IsRefusedDesign}
use Rattle.fx_top.specs.Call.{stream_in}
use Rattle.cmd_generate.specs.Generated.{IsVerilogOf}
use Rattle.cmd_generate.specs.Streamed.{IsStreamedOf}
use Rattle.cmd_generate.specs.Streaming.{IsRefusedStream}
use Rattle.fx_top.proofs.Tasks.{done-by}
use Rattle.cmd_generate.proofs.Verilogs.{spelled-for}
use Rattle.fx_top.proofs.task.put_output.Goals as goal

pub returns-in-Generate : goal.returns-in-Generate
returns-in-Generate g c = done-by c.args.task _ c.args.first.now c.args.second.now (stream_in g.K.Sink.taken g.K.Sink.faults c.args.out.now c.put_design.new.out) c.put_design.result c.in-Generate.is
    (c.put_design.ensures.plain c.args.first.now c.args.second.now c.verilog_of.ensures)

pub put_design-requires-clause-spelled : goal.put_design-requires-clause-spelled
put_design-requires-clause-spelled g c =
    λ lives within. spelled-for (IsVerilogOf c.args.first.now c.args.second.now)
    (IsRefusedDesign c.args.first.now c.args.second.now) c.verilog_of.result c.verilog_of.ensures

pub returns-in-Replay : goal.returns-in-Replay
returns-in-Replay g c = done-by c.args.task _ c.args.first.now c.args.second.now
    (stream_in g.K.Sink.taken g.K.Sink.faults c.args.out.now c.replay.new.out) c.replay.result c.in-Replay.is
    c.replay.ensures

pub returns-in-Simulate : goal.returns-in-Simulate
returns-in-Simulate g c = done-by c.args.task _ c.args.first.now c.args.second.now
    (stream_in g.K.Sink.taken g.K.Sink.faults c.args.out.now c.simulate.new.out) c.simulate.result c.in-Simulate.is
    c.simulate.ensures

pub returns-in-Explore : goal.returns-in-Explore
returns-in-Explore g c = done-by c.args.task _ c.args.first.now c.args.second.now
    (stream_in g.K.Sink.taken g.K.Sink.faults c.args.out.now c.explore.new.out) c.explore.result c.in-Explore.is
    c.explore.ensures

pub returns-in-Check : goal.returns-in-Check
returns-in-Check g c = done-by c.args.task _ c.args.first.now c.args.second.now (stream_in g.K.Sink.taken g.K.Sink.faults c.args.out.now c.check.new.out) c.check.result c.in-Check.is c.check.ensures

pub returns-in-Stream : goal.returns-in-Stream
returns-in-Stream g c = done-by c.args.task _ c.args.first.now c.args.second.now
    (stream_in g.K.Sink.taken g.K.Sink.faults c.args.out.now c.put_design-in-Stream.new.out)
    c.put_design-in-Stream.result c.in-Stream.is
    (c.put_design-in-Stream.ensures.streams c.args.first.now c.args.second.now c.streamed_of.ensures)

pub put_design-requires-in-Stream-clause-spelled : goal.put_design-requires-in-Stream-clause-spelled
put_design-requires-in-Stream-clause-spelled g c =
    λ lives within. spelled-for (IsStreamedOf c.args.first.now c.args.second.now)
    (IsRefusedStream c.args.first.now c.args.second.now) c.streamed_of.result c.streamed_of.ensures
