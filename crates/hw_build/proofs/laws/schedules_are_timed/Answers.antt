use Rattle.hw_build.proofs.ScheduleTimes.{schedules_are_timed}
use Rattle.hw_build.proofs.laws.schedules_are_timed.Goals as goal

pub returns : goal.returns
returns c =
    schedules_are_timed c.unasked_blocks_are_zero.ensures c.periods_are_above.ensures.moving
    c.lines_are_edges.ensures.lines c.lines_are_edges.ensures.controls c.edges_join_periods.ensures
    c.edges_are_in_time.ensures
    c.operations_are_served.ensures.served c.operations_are_served.ensures.periods c.root_inputs_are_first.ensures.none c.root_inputs_are_first.ensures.ready
    c.ready_fits.ensures c.ready_rises.ensures.outputs c.ready_rises.ensures.operands
