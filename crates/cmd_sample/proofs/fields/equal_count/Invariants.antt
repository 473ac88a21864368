use Rattle.std.proofs.Common.{◌≡◌, ◌≤◌, ◌*◌}
use Rattle.std.specs.List.{range_with_len, sum_by}
use Rattle.cmd_sample.specs.Summary.{equal_in}
use Rattle.cmd_sample.proofs.fields.equal_count.Given as goal

abbrev pub invariant-loop-sample : goal.invariant-loop-sample
invariant-loop-sample l = (l.equal ≡ sum_by (equal_in l.response l.told) (range_with_len 0 l.sample)) × (l.equal ≤ 2 * l.sample)
