use Rattle.std.proofs.Common.{◌≡◌, ◌≤◌, take}
use Rattle.std.specs.List.{flat_map}
use Rattle.fx_io.specs.Sink.{also_took}
use Rattle.fx_top.proofs.parts.put_parts.Given as goal

abbrev pub invariant-loop-part : goal.invariant-loop-part
invariant-loop-part g l = record {
  taken : g.K.Sink.taken l.out ≡ also_took (g.K.Sink.taken l.initial.out) (flat_map (λ part. part.items) (take l.part-index l.parts));
  later : g.K.Sink.faults l.initial.out ≤ g.K.Sink.faults l.out;
}
