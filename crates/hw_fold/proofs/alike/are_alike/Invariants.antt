use Rattle.std.proofs.Common.{ℕ, ◌<◌, ◌≡◌, slice_index}
use Rattle.hw_renumber.specs.Renumbered.{place_in}
use Rattle.hw_fold.proofs.alike.are_alike.Given as goal

abbrev pub invariant-loop-i : goal.invariant-loop-i
invariant-loop-i l = (j : ℕ) → j < l.i → place_in l.roots (slice_index l.one j) ≡ place_in l.roots (slice_index l.other j)
