use Rattle.std.proofs.Common.{rules, ◌+◌, ◌*◌, ◌≤◌, slice_index_or}
use Rattle.hw_build.specs.inner.DesignTimes.{times_for}
use Rattle.hw_build.proofs.Limits.{most_late, little_behind}
use Rattle.hw_build.proofs.design.frame_after.Goals as goal

pub overflow_add-result : goal.overflow_add-result
overflow_add-result c =
    let most = little_behind c.latencies_are_small.ensures c.periods_are_above.ensures.short
    c.args.design.checked.now.diagram c.args.design.plan.now
    (times_for c.args.design) c.requires.designed.scheduled c.args.block c.args.period c.requires.period in
    let few : slice_index_or c.as_slice.result.now c.args.block 0 + c.from.result * c.from-2.result
    ≤ most_late + 64 * 4096 =
    rw (c.from.ensures, c.from-2.ensures, c.as_slice.ensures, c.as_slice-2.ensures) most in
    search (rules, few)
