use Rattle.std.proofs.Common.{◌≡◌, [], length, map, take, drop}
use Rattle.vl_ast.specs.declared.modules.Module.{Module}
use Rattle.vl_ast.specs.Nets.{mentions}
use Rattle.vl_ast.specs.Conditions.{first_fault, is_declaration_of, is_double, is_driver_of, mentioned}
use Rattle.vl_check.specs.inner.Mentions.{shown}
use Rattle.vl_check.specs.inner.Marks.{Marks}
use Rattle.vl_check.proofs.driving.first_double.Given as goal

abbrev pub invariant-loop-i : goal.invariant-loop-i
invariant-loop-i l = record {
  long : length l.declared.items ≡ length l.first;
  driven_long : length l.driven.items ≡ length l.first;
  marks : Marks is_declaration_of (map mentioned (shown l.text)) l.numbers l.declared.items (take l.i (shown l.text));
  driven_marks : Marks is_driver_of (map mentioned (shown l.text)) l.numbers l.driven.items (take l.i (shown l.text));
  fault : (m : Module) → shown l.text ≡ mentions m → first_fault (is_double m) (take l.i (shown l.text)) (drop l.i (shown l.text)) ≡ first_fault (is_double m) [] (shown l.text);
}
