use Rattle.std.proofs.Common.{◌≡◌}
use Rattle.hw_run.specs.State.{IsStateOf}
use Rattle.tests_built.proofs.stepping.tally_of.Given as goal

abbrev pub invariant-loop-clock : goal.invariant-loop-clock
invariant-loop-clock l = record {
  state : IsStateOf l.netlist l.state;
  clocks : l.state.clocks ≡ l.clock;
}
