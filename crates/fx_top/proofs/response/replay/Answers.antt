use Rattle.std.proofs.Common.{refl}
use Rattle.fx_tables.specs.Response.{response as response_lines}
use Rattle.fx_tables.specs.RowText.{periods_of}
use Rattle.fx_top.specs.Call.{stream_in}
use Rattle.cmd_replay.specs.Replayed.{IsReplayOf}
use Rattle.fx_top.proofs.Tasks.{put-text}
use Rattle.fx_top.proofs.response.replay.Goals as goal

pub returns-in-Ok : goal.returns-in-Ok
returns-in-Ok g c =
    let response = c.in-Ok.response in
    let made = c.in-Ok.ensures.made in
    put-text (IsReplayOf c.args.verilog.now c.args.stimulus.now)
    (stream_in g.K.Sink.taken g.K.Sink.faults c.args.out.now c.put_response.new.out)
    (response_lines (periods_of response.text) made.table response.samples) made.replay
    c.put_response.result
    (c.put_response.ensures.whole made.table made.sampled) (c.put_response.ensures.cut made.table made.sampled) c.put_response.ensures.cause

pub returns-in-Err : goal.returns-in-Err
returns-in-Err g c = (c.of_replay.ensures c.args.verilog.now c.args.stimulus.now c.in-Err.ensures.refused, refl)
