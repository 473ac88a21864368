use Rattle.std.proofs.Common.{ℕ, ◌<◌, ◌≤◌, length, get_or}
use Rattle.hw_arcs.proofs.ring.least_place.Given as goal

abbrev pub invariant-loop-k : goal.invariant-loop-k
invariant-loop-k l = record {
  there : l.place < length l.blocks;
  least : (j : ℕ) → j < l.k → get_or l.blocks l.place 0 ≤ get_or l.blocks j 0;
}
