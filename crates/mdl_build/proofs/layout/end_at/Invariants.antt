use Rattle.std.proofs.Common.{length, ◌-◌, ◌≡◌, suc, ◌<◌, ◌≤◌}
use Rattle.mdl_build.specs.inner.Layout.{end_behind}
use Rattle.mdl_build.proofs.layout.end_at.Given as goal

abbrev pub invariant-loop-end : goal.invariant-loop-end
invariant-loop-end l = (l.place < l.end) × (l.end ≤ length l.items) × (end_behind l.items l.depth l.end ≡ end_behind l.items l.depth (suc l.place))

abbrev pub decreases-loop-end : goal.decreases-loop-end
decreases-loop-end l = length l.items - l.end
