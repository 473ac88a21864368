use Rattle.hw_build.specs.inner.DesignTimes.{times_for}
use Rattle.hw_build.proofs.Widths.{late_are_wide}
use Rattle.hw_build.proofs.gathering.ends_are_lawful.Goals as goal

pub returns : goal.returns
returns c = record {
  scheduled = c.requires.designed.scheduled;
  timed = c.schedules_are_timed.ensures c.args.ends.design.checked.now.diagram c.args.ends.design.plan.now (times_for c.args.ends.design) c.requires.designed.scheduled;
  lines = c.lines_are_edges.ensures.lines;
  joins = c.edges_join_periods.ensures;
  little = c.latencies_are_small.ensures;
  short = c.periods_are_above.ensures.short;
  wide = late_are_wide c.edges_stand_by_port.ensures.widths c.args.ends.design.checked.now.diagram c.requires.designed.scheduled.checked;
  valid = c.operations_prepare.ensures.types;
  fit = c.operations_prepare.ensures.fit;
  stored = c.stored_is_one.ensures;
  storing = c.storing_gives_one.ensures;
  ordered = record { checked = c.keeps_rules.ensures.checked; ordered = c.keeps_rules.ensures.ordered };
  hubs = c.requires.hubs;
}
