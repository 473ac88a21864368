use Rattle.std.proofs.Common.{◌≡◌, [], length, map, take, drop}
use Rattle.vl_ast.specs.Conditions.{first_fault, is_declaration_of, is_undriven, mentioned}
use Rattle.vl_check.specs.inner.Mentions.{shown}
use Rattle.vl_check.specs.inner.Marks.{Marks}
use Rattle.vl_check.proofs.driving.first_undriven.Given as goal

abbrev pub invariant-loop-i : goal.invariant-loop-i
invariant-loop-i l = record {
  long : length l.declared.items ≡ l.count;
  marks : Marks is_declaration_of (map mentioned (shown l.text)) l.numbers l.declared.items (take l.i (shown l.text));
  fault : first_fault (is_undriven (shown l.text)) (take l.i (shown l.text)) (drop l.i (shown l.text)) ≡ first_fault (is_undriven (shown l.text)) [] (shown l.text);
}
