use Rattle.std.proofs.Common.{◌≡◌, ◌++◌, take, map}
use Rattle.hw_renumber.specs.Renumbered.{moved_port, place_in}
use Rattle.hw_renumber.proofs.renumbering.put_inputs.Given as goal

abbrev pub invariant-loop-port : goal.invariant-loop-port
invariant-loop-port l = l.made ≡ record l.initial.made { inputs = l.initial.made.inputs ++ map (moved_port (place_in l.places)) (take l.port-index l.ports) }
