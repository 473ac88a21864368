use Rattle.std.proofs.Common.{◌≡◌, ◌≤◌}
use Rattle.vl_eval.specs.Given.{driven_ports, given}
use Rattle.vl_eval.specs.Machine.{IsReady, row_of, source_of}
use Rattle.vl_replay.specs.inner.Rest.{IsSince}
use Rattle.vl_replay.proofs.resting.come_back.Given as goal

abbrev pub invariant-loop-clock : goal.invariant-loop-clock
invariant-loop-clock l = record {
  ready : IsReady l.machine;
  source : source_of l.machine ≡ source_of l.fn.machine;
  few : l.since ≤ l.clock;
  is : IsSince (source_of l.fn.machine) (given (driven_ports (source_of l.fn.machine)) l.bits) (row_of l.fn.machine) l.clock l.since l.machine l.kept;
}
