use Rattle.std.proofs.Common.{◌≡◌, ◌+◌, ◌*◌, map, max, sum, take}
use Rattle.vl_ast.specs.declared.expressions.Expr.TheViews.{size-Expr}
use Rattle.vl_ast.proofs.Agree.{ByLayer}
use Rattle.vl_ast.specs.Context.{own_length}
use Rattle.vl_check.specs.Scope.{nets_in}
use Rattle.vl_eval.specs.inner.PlaceBits.{Grows, IfFine}
use Rattle.vl_eval.proofs.SideBySide.{Copied, Joined}
use Rattle.vl_eval.proofs.building.+build.Given as goal

abbrev pub invariant-build_parts-loop-part : goal.invariant-build_parts-loop-part
invariant-build_parts-loop-part l = record {
  long : l.length ≡ sum (map (own_length (nets_in l.site.scope.now)) (take l.part-index l.parts));
  joined : IfFine l.fn.ops l.ops ((b : ByLayer) → Joined b l.site.base l.site.scope.now l.site.slots.now l.fn.ops.code l.ops.code l.joined l.length (take l.part-index l.parts) l.parts);
}

abbrev pub invariant-build_copies-loop-copy : goal.invariant-build_copies-loop-copy
invariant-build_copies-loop-copy l = record {
  long : l.length ≡ l._copy * own_length (nets_in l.site.scope.now) l.part;
  later : IfFine l.initial.ops l.ops (Grows l.site.base l.initial.ops.code l.ops.code);
  copied : IfFine l.fn.ops l.ops ((b : ByLayer) → Copied b l.site.base l.site.scope.now l.site.slots.now l.fn.ops.code l.ops.code l.joined l.length l._copy l.part);
}

abbrev pub decreases-build : goal.decreases-build
decreases-build l = 4 * size-Expr l.e.now

abbrev pub decreases-build_unary : goal.decreases-build_unary
decreases-build_unary l = 4 * size-Expr l.part.now + 3

abbrev pub decreases-build_binary : goal.decreases-build_binary
decreases-build_binary l = 4 * max (size-Expr l.left.now) (size-Expr l.right.now) + 3

abbrev pub decreases-build_shift : goal.decreases-build_shift
decreases-build_shift l = 4 * size-Expr l.part.now + 3

abbrev pub decreases-build_choice : goal.decreases-build_choice
decreases-build_choice l = 4 * max (size-Expr l.test.now) (max (size-Expr l.chosen.now) (size-Expr l.other.now)) + 3

abbrev pub decreases-build_as_signed : goal.decreases-build_as_signed
decreases-build_as_signed l = 4 * size-Expr l.part.now + 3

abbrev pub decreases-build_as_unsigned : goal.decreases-build_as_unsigned
decreases-build_as_unsigned l = 4 * size-Expr l.part.now + 3

abbrev pub decreases-build_parts : goal.decreases-build_parts
decreases-build_parts l = 4 * goal.size-build_parts l + 3

abbrev pub decreases-build_copies : goal.decreases-build_copies
decreases-build_copies l = 4 * size-Expr l.part.now + 3

abbrev pub decreases-build_alone : goal.decreases-build_alone
decreases-build_alone l = 4 * size-Expr l.e.now + 1
