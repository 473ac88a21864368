use Rattle.std.proofs.Common.{List, ℕ, subst}
use Rattle.fx_io.specs.Sink.{TookProperPrefix}
use Rattle.fx_io.proofs.SinkBytes.{took-split}
use Rattle.fx_top.proofs.Sayings.{parts-split}
use Rattle.fx_top.proofs.parts.put_parts.Goals as goal

pub returns-in-Err-clause-cut : goal.returns-in-Err-clause-cut
returns-in-Err-clause-cut g c =
    let mid = g.K.Sink.taken c.loop-part.out in
    let now = g.K.Sink.taken c.put_all.new.sink in
    let cut = subst (λ (bytes : List ℕ). TookProperPrefix mid now bytes) c.as_slice.ensures.value c.in-Err.ensures.cut in
    took-split (g.K.Sink.taken c.args.out.now) mid now _ c.part-item.result.items
    (parts-split c.args.parts.now c.loop-part.part-index c.part-item.result c.loop-part-test.true
    c.part-item.is) c.loop-part.invariant.taken cut
