use Rattle.std.proofs.Common.{◌≡◌, map, filter, take}
use Rattle.vl_ast.specs.Control.{is_number_output}
use Rattle.vl_replay.specs.inner.Samplers.{sampler_of}
use Rattle.vl_replay.proofs.samplers.samplers_of.Given as goal

abbrev pub invariant-loop-port : goal.invariant-loop-port
invariant-loop-port l = l.samplers.items ≡ map (sampler_of l.cycles) (filter (is_number_output l.stalls) (take l.port-index l.source.ports))
