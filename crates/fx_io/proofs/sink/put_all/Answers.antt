use Rattle.std.proofs.Common.{◌-◌, ◌∙◌, ap, length, take, drop, arith, length-drop}
use Rattle.fx_io.specs.Sink.{also_took}
use Rattle.fx_io.proofs.SinkBytes.{also_took-rest, rest-whole}
use Rattle.fx_io.proofs.sink.put_all.Goals as goal

pub loop-done-preserved : goal.loop-done-preserved
loop-done-preserved g c =
    let within = rw (rest-whole c.args.bytes.now c.loop-done.done, length-drop c.loop-done.done c.args.bytes.now) at c.in-Ok.ensures.within in
    record {
      within = omega arith;
      taken = c.in-Ok.ensures.took
          ∙ ap (λ told. also_took told (take c.in-Ok.count (take (length c.args.bytes.now - c.loop-done.done) (drop c.loop-done.done c.args.bytes.now)))) c.loop-done.invariant.taken
          ∙ also_took-rest (g.K.Sink.taken c.args.sink.now) c.args.bytes.now c.loop-done.done c.in-Ok.count;
      faultless = (c.in-Ok.ensures.moved (omega arith)).0 ∙ c.loop-done.invariant.faultless;
      unstalled = (c.in-Ok.ensures.moved (omega arith)).1 ∙ c.loop-done.invariant.unstalled;
      later = omega arith;
    }
