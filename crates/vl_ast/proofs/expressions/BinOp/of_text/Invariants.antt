use Rattle.std.proofs.Common.{◌≡◌, bytes_eq, drop, find}
use Rattle.vl_ast.specs.Operators.{infix_of, binary_text}
use Rattle.vl_ast.proofs.expressions.BinOp.of_text.Given as goal

abbrev pub invariant-loop-op : goal.invariant-loop-op
invariant-loop-op l = find (λ op. bytes_eq l.text (binary_text op)) (drop l.op-index l.ops) ≡ infix_of l.text
