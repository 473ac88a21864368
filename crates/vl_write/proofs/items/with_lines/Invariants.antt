use Rattle.std.proofs.Common.{◌≡◌, ◌+◌, ◌++◌, take}
use Rattle.std.specs.List.{flat_map}
use Rattle.vl_ast.specs.Spelling.{item_text}
use Rattle.vl_write.proofs.Puts.{Has}
use Rattle.vl_write.proofs.items.with_lines.Given as goal

abbrev pub invariant-loop-item : goal.invariant-loop-item
invariant-loop-item g l = Has l.out (l.fn.text.items ++ flat_map item_text (take l.item-index l.items)) × (l.place ≡ l.initial.first + l.item-index)
