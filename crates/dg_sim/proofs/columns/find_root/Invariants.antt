use Rattle.std.proofs.Common.{◌≡◌, ◌≤◌, ◌-◌, ℕ, Some, length, slice_get}
use Rattle.dg_sim.proofs.columns.find_root.Given as goal

abbrev pub invariant-loop-low : goal.invariant-loop-low
invariant-loop-low l = (l.high ≤ length l.roots) × ((place : ℕ) → slice_get l.roots place ≡ Some l.root → (l.low ≤ place) × (place ≤ l.high))

abbrev pub decreases-loop-low : goal.decreases-loop-low
decreases-loop-low l = l.high - l.low
