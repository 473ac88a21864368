use Rattle.std.proofs.Common.{◌≡◌, take, map}
use Rattle.hw_renumber.specs.Renumbered.{place_in}
use Rattle.hw_renumber.proofs.moving.moved_reads.Given as goal

abbrev pub invariant-loop-read : goal.invariant-loop-read
invariant-loop-read l = l.made ≡ map (place_in l.places) (take l.read-index l.list)
