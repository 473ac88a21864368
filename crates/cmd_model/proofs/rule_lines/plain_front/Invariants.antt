use Rattle.std.proofs.Common.{◌≡◌, ◌-◌, ◌≤◌, length, take}
use Rattle.std.specs.List.{flat_map}
use Rattle.cmd_model.specs.RuleLine.{quoted_byte}
use Rattle.cmd_model.proofs.rule_lines.plain_front.Given as goal

abbrev pub invariant-loop-count : goal.invariant-loop-count
invariant-loop-count l = record {
  within : l.count ≤ length l.name;
  plain : flat_map quoted_byte (take l.count l.name) ≡ take l.count l.name;
}

abbrev pub decreases-loop-count : goal.decreases-loop-count
decreases-loop-count l = length l.name - l.count
