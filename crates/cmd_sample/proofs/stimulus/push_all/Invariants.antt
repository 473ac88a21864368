use Rattle.std.proofs.Common.{◌≡◌, ◌+◌, ◌++◌}
use Rattle.std.specs.List.{flat_map, range_with_len}
use Rattle.cmd_sample.specs.Numbers.{sample_number}
use Rattle.cmd_sample.specs.Stimulus.{stimulus_at}
use Rattle.cmd_sample.proofs.stimulus.push_all.Given as goal

abbrev pub invariant-loop : goal.invariant-loop
invariant-loop l =
    (l.number ≡ sample_number l.count (l.count + l.counter)) × (l.text.items ≡ l.initial.text.items ++ flat_map (stimulus_at l.count) (range_with_len (l.count + 1) l.counter))
