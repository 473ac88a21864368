use Rattle.std.proofs.Common.{◌≡◌, ◌++◌}
use Rattle.std.specs.List.{flat_map, range_with_len}
use Rattle.cmd_sample.specs.Numbers.{sample_number}
use Rattle.cmd_sample.specs.inner.Parts.{part_at}
use Rattle.cmd_sample.proofs.modeling.push_chain.Given as goal

abbrev pub invariant-loop-before : goal.invariant-loop-before
invariant-loop-before l =
    (l.number ≡ sample_number l.count l.before) × (l.text.items ≡ l.initial.text.items ++ flat_map (part_at l.part l.count) (range_with_len 1 l.before))
