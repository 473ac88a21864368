use Rattle.std.proofs.Common.{◌∙◌, ℕ, List, ap, bytes_eq, sym}
use Rattle.vl_ast.specs.Operators.{binary_operators, binary_text, infix_of}
use Rattle.vl_ast.proofs.Searches.{found_later}
use Rattle.vl_ast.proofs.expressions.BinOp.of_text.Goals as goal

pub loop-op-preserved : goal.loop-op-preserved
loop-op-preserved c =
    let text = c.args.text.now in
    let compared = c.eq.ensures ∙ ap (λ (other : List ℕ). bytes_eq text other) c.text.ensures in
    found_later (λ op. bytes_eq text (binary_text op)) binary_operators c.loop-op.op-index (infix_of text) c.loop-op.invariant _ c.loop-op-test.true (sym compared ∙ c.if-eq.false)
