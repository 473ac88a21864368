use Rattle.std.proofs.Common.{◌≡◌, ℕ, ◌<◌, ◌≤◌, length, get_or}
use Rattle.mdl_build.specs.inner.Layout.{end_of}
use Rattle.mdl_build.proofs.layout.ends_of.Given as goal

abbrev pub invariant-loop-place : goal.invariant-loop-place
invariant-loop-place l = (l.place ≤ length l.items) × (length l.ends.items ≡ length l.items) × ((k : ℕ) → l.place ≤ k → k < length l.items → get_or l.ends.items k 0 ≡ end_of l.items k)

abbrev pub decreases-loop-place : goal.decreases-loop-place
decreases-loop-place l = l.place
