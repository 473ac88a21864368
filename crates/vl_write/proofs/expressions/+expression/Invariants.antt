use Rattle.std.proofs.Common.{codes}
use Rattle.vl_ast.specs.Spelling.{expr_text}
use Rattle.vl_write.proofs.Joins.{AreJoined}
use Rattle.vl_write.proofs.expressions.+expression.Given as goal

abbrev pub invariant-put_parts-loop-part : goal.invariant-put_parts-loop-part
invariant-put_parts-loop-part l = AreJoined (codes ", ") expr_text l.parts l.initial.out l.out l.before l.part-index
