use Rattle.std.proofs.Common.{◌≡◌, ◌+◌, ◌-◌}
use Rattle.vl_eval.specs.Given.{driven_ports, given}
use Rattle.vl_eval.specs.Machine.{IsReady, row_of, source_of}
use Rattle.vl_replay.specs.inner.Rest.{Leads}
use Rattle.vl_replay.proofs.resting.rest.Given as goal

abbrev pub invariant-loop-clock : goal.invariant-loop-clock
invariant-loop-clock l = record {
  ready : IsReady l.machine;
  source : source_of l.machine ≡ source_of l.fn.machine;
  leads : Leads (source_of l.fn.machine) (given (driven_ports (source_of l.fn.machine)) l.bits) (row_of l.fn.machine) (l.clocks - l.left + l._clock) (row_of l.machine);
}
