use Rattle.std.proofs.Common.{◌≡◌, ◌≤◌, ◌∷◌, take}
use Rattle.std.specs.List.{flat_map}
use Rattle.fx_io.specs.Sink.{also_took}
use Rattle.fx_top.proofs.answer.say_names.Given as goal

abbrev pub invariant-loop-name : goal.invariant-loop-name
invariant-loop-name g l = record {
  taken : g.E.Sink.taken l.err ≡ also_took (g.E.Sink.taken l.initial.err) (flat_map (λ name. 32 ∷ name) (take l.name-index l.names));
  later : g.E.Sink.faults l.initial.err ≤ g.E.Sink.faults l.err;
}
