use Rattle.std.proofs.Common.{◌≡◌, ◌<◌, ◌≤◌, ◌-◌, ℕ, length, slice_index}
use Rattle.vl_check.proofs.sorting.place_of.Given as goal

abbrev pub invariant-loop-at : goal.invariant-loop-at
invariant-loop-at l = (k : ℕ) × (l.at ≤ k) × (k < length l.stack) × (slice_index l.stack k ≡ l.x)

abbrev pub decreases-loop-at : goal.decreases-loop-at
decreases-loop-at l = length l.stack - l.at
