use Rattle.std.proofs.Common.{◌≡◌, ◌+◌}
use Rattle.dg_model.specs.Attributes.{attributes_of}
use Rattle.hw_sched.specs.inner.Counts.{capped, results_at}
use Rattle.math_list.proofs.Sums.{sum_below}
use Rattle.hw_sched.proofs.RegisterCounts.{kept_at}
use Rattle.hw_sched.proofs.block_registers.blocks_in_all.Given as goal

abbrev pub invariant-loop-place : goal.invariant-loop-place
invariant-loop-place l =
    l.all ≡ capped (sum_below (kept_at l.checked.diagram (attributes_of l.checked.diagram) l.plan) l.place + sum_below (results_at l.checked.diagram (attributes_of l.checked.diagram) l.plan) l.place)
