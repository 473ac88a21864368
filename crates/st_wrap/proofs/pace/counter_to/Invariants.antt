use Rattle.std.proofs.Common.{◌-◌, ◌^◌, ◌<◌, ◌≤◌}
use Rattle.st_wrap.proofs.pace.counter_to.Given as goal

abbrev pub invariant-loop-width : goal.invariant-loop-width
invariant-loop-width l =
    (1 ≤ l.width) × (l.width ≤ 64) × (1 < l.width → 2 ^ (l.width - 1) ≤ l.most)

abbrev pub decreases-loop-width : goal.decreases-loop-width
decreases-loop-width l = 64 - l.width
