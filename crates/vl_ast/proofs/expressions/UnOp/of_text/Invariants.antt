use Rattle.std.proofs.Common.{◌≡◌, bytes_eq, drop, find}
use Rattle.vl_ast.specs.Operators.{unary_of, unary_text}
use Rattle.vl_ast.proofs.expressions.UnOp.of_text.Given as goal

abbrev pub invariant-loop-op : goal.invariant-loop-op
invariant-loop-op l = find (λ op. bytes_eq l.text (unary_text op)) (drop l.op-index l.ops) ≡ unary_of l.text
