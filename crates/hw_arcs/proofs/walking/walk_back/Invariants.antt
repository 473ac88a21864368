use Rattle.std.proofs.Common.{◌-◌, length}
use Rattle.hw_arcs.proofs.WayBack.{IsWalking}
use Rattle.hw_arcs.proofs.walking.walk_back.Given as goal

abbrev pub invariant-walk : goal.invariant-walk
invariant-walk l = IsWalking l.arcs l.tight l.first l.path.items l.at l.met.items

abbrev pub decreases-walk : goal.decreases-walk
decreases-walk l = length l.tight - length l.path.items
