use Rattle.std.proofs.Common.{refl}
use Rattle.fx_top.specs.Call.{stream_in}
use Rattle.fx_top.specs.Explored.{IsExplorationOf}
use Rattle.fx_top.proofs.Tasks.{put-text}
use Rattle.fx_top.proofs.explore.explore.Goals as goal

pub returns-in-Ok : goal.returns-in-Ok
returns-in-Ok g c =
    put-text (IsExplorationOf c.args.model.now c.args.range)
    (stream_in g.K.Sink.taken g.K.Sink.faults c.args.out.now c.put_text.new.out) c.in-Ok.text
    c.in-Ok.ensures.made c.put_text.result c.put_text.ensures.whole c.put_text.ensures.cut
    c.put_text.ensures.cause

pub returns-in-Err : goal.returns-in-Err
returns-in-Err g c = (c.of_model.ensures.model c.args.model.now c.in-Err.ensures.refused, refl)
