use Rattle.std.proofs.Common.{◌≡◌, ◌++◌, map}
use Rattle.std.specs.Prelude.{take}
use Rattle.std.specs.List.{flat_map}
use Rattle.cmd_explore.specs.FindingsText.{finding_line}
use Rattle.cmd_explore.proofs.writing.push_lines.Given as goal

abbrev pub invariant-loop-row : goal.invariant-loop-row
invariant-loop-row l = l.text.items ≡ l.initial.text.items ++ flat_map (finding_line (map (λ block. block.path) l.blocks)) (take l.row-index l.rows)
