use Rattle.std.proofs.Common.{◌≡◌, length, map, take}
use Rattle.vl_ast.specs.Conditions.{is_driver_of, mentioned}
use Rattle.vl_check.specs.inner.Mentions.{shown}
use Rattle.vl_check.specs.inner.Marks.{Marks}
use Rattle.vl_check.proofs.driving.driven_names.Given as goal

abbrev pub invariant-loop-i : goal.invariant-loop-i
invariant-loop-i l = record {
  long : length l.driven.items ≡ l.count;
  marks : Marks is_driver_of (map mentioned (shown l.text)) l.numbers l.driven.items (take l.i (shown l.text));
}
