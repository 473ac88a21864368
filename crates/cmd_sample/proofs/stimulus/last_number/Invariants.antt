use Rattle.std.proofs.Common.{◌≡◌}
use Rattle.cmd_sample.specs.Numbers.{sample_number}
use Rattle.cmd_sample.proofs.stimulus.last_number.Given as goal

abbrev pub invariant-loop : goal.invariant-loop
invariant-loop l = l.number ≡ sample_number l.count l.counter
