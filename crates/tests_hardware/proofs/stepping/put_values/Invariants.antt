use Rattle.std.proofs.Common.{◌≡◌}
use Rattle.hw_run.specs.State.{IsStateOf}
use Rattle.tests_hardware.proofs.stepping.put_values.Given as goal

abbrev pub invariant-loop-clock : goal.invariant-loop-clock
invariant-loop-clock l = record {
  state : IsStateOf l.net l.state;
  clocks : l.state.clocks ≡ l._clock;
}
