use Rattle.std.proofs.Common.{◌≡◌, ◌≤◌}
use Rattle.mdl_build.specs.Sections.{last_above}
use Rattle.mdl_build.proofs.layout.holder_at.Given as goal

abbrev pub invariant-loop-behind : goal.invariant-loop-behind
invariant-loop-behind l = (l.behind ≤ l.place) × (last_above l.items l.depth l.behind ≡ last_above l.items l.depth l.place)

abbrev pub decreases-loop-behind : goal.decreases-loop-behind
decreases-loop-behind l = l.behind
