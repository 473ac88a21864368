use Rattle.std.proofs.Common.{◌≡◌, bytes_eq, drop, find}
use Rattle.vl_ast.specs.Operators.{shift_of, shift_text}
use Rattle.vl_ast.proofs.expressions.ShiftOp.of_text.Given as goal

abbrev pub invariant-loop-op : goal.invariant-loop-op
invariant-loop-op l = find (λ op. bytes_eq l.text (shift_text op)) (drop l.op-index l.ops) ≡ shift_of l.text
