use Rattle.std.proofs.Common.{◌≡◌, ◌++◌}
use Rattle.std.specs.Prelude.{codes}
use Rattle.std.specs.List.{flat_map, range_with_len}
use Rattle.cmd_sample.specs.ModelText.{line_text}
use Rattle.cmd_sample.proofs.modeling.push_lines_to.Given as goal

abbrev pub invariant-loop-port : goal.invariant-loop-port
invariant-loop-port l = l.text.items ≡ l.initial.text.items ++ flat_map (line_text (codes "In") l.name) (range_with_len 2 l.port)
