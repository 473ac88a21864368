use Rattle.std.proofs.Common.{refl}
use Rattle.std.specs.List.{flat_map}
use Rattle.fx_top.specs.Call.{stream_in}
use Rattle.fx_top.proofs.Flat.{put-flat}
use Rattle.fx_top.proofs.flatten.put_flat.Goals as goal

pub returns-in-Err : goal.returns-in-Err
returns-in-Err g c = (c.in-Err.ensures.refused, refl)

pub returns-in-Ok-parts : goal.returns-in-Ok-parts
returns-in-Ok-parts g c =
    put-flat c.args.verilog.now (flat_map (λ part. part.items) c.in-Ok-parts.parts.items)
    (stream_in g.K.Sink.taken g.K.Sink.faults c.args.out.now c.put_parts-put.new.out) c.in-Ok.made
    c.in-Ok.ensures.made c.in-Ok-parts.ensures.text c.put_parts-put.result
    (rw c.as_slice.ensures.value at c.put_parts-put.ensures.whole) (rw c.as_slice.ensures.value at c.put_parts-put.ensures.cut) c.put_parts-put.ensures.cause
