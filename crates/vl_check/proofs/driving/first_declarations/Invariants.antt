use Rattle.std.proofs.Common.{◌≡◌, length, map, take}
use Rattle.vl_ast.specs.Conditions.{mentioned}
use Rattle.vl_check.specs.inner.Mentions.{shown}
use Rattle.vl_check.specs.inner.Marks.{AreFirst}
use Rattle.vl_check.proofs.driving.first_declarations.Given as goal

abbrev pub invariant-loop-i : goal.invariant-loop-i
invariant-loop-i l = record {
  long : length l.first.items ≡ l.count;
  first : AreFirst (map mentioned (shown l.text)) l.numbers l.first.items (take l.i (shown l.text));
}
