use Rattle.std.proofs.Common.{◌≡◌, ◌++◌, take}
use Rattle.hw_renumber.specs.Renumbered.{moved_nets, place_in}
use Rattle.hw_renumber.proofs.renumbering.put_nets.Given as goal

abbrev pub invariant-loop-k : goal.invariant-loop-k
invariant-loop-k l = l.made ≡ record l.initial.made { nets = l.initial.made.nets ++ moved_nets l.nets (place_in l.places) (take l.k-index l.kept) }
