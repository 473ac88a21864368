use Rattle.std.proofs.Common.{◌≡◌, ◌++◌, map, take}
use Rattle.cmd_model.specs.RuleLine.{cycle_text}
use Rattle.cmd_model.proofs.rule_lines.push_cycle.Given as goal

abbrev pub invariant-loop-number : goal.invariant-loop-number
invariant-loop-number l = l.line.items ≡ l.initial.line.items ++ cycle_text (map (λ block. block.path) l.blocks) (take l.number-index l.numbers)
