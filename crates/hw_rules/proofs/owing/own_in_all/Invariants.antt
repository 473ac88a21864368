use Rattle.std.proofs.Common.{◌≡◌}
use Rattle.hw_rules.specs.inner.Own.{own_at}
use Rattle.math_list.proofs.Sums.{sum_below}
use Rattle.hw_rules.proofs.owing.own_in_all.Given as goal

abbrev pub invariant-loop-place : goal.invariant-loop-place
invariant-loop-place l = l.count ≡ sum_below (own_at l.checked.diagram l.plan) l.place
