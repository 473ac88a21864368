use Rattle.std.proofs.Common.{◌≡◌, ◌++◌, codes, map, append-nil, ap, sym, ◌∙◌}
use Rattle.vl_ast.specs.declared.expressions.Expr.{Expr}
use Rattle.vl_ast.specs.declared.expressions.Expr.TheVariants.{Name, Bit, Part, Concat, Repeat, AsSigned, AsUnsigned, Unary, Binary, Shift, Choose}
use Rattle.vl_ast.specs.Spelling.{expr_text, joined}
use Rattle.vl_write.proofs.Joins.{all_joined, none-joined, one_more}
use Rattle.vl_write.proofs.Puts.{both}
use Rattle.vl_write.proofs.FormTexts.{wrote-name, wrote-bit, wrote-part, wrote-literal, wrote-signed, wrote-unsigned, wrote-concat, wrote-repeat, wrote-unary, wrote-binary, wrote-shift, wrote-choose}
use Rattle.vl_write.proofs.expressions.+expression.Goals as goal

pub put_expr-returns-in-Name : goal.put_expr-returns-in-Name
put_expr-returns-in-Name t c = wrote-name c.bytes.result.now c.args.e.now (c.in-Name.is ∙ ap Name (sym c.bytes.ensures)) c.put.ensures

pub put_expr-returns-in-Bit : goal.put_expr-returns-in-Bit
put_expr-returns-in-Bit t c =
    wrote-bit c.bytes-in-Bit.result.now c.in-Bit.place c.args.e.now (c.in-Bit.is ∙ ap (λ name. Bit name c.in-Bit.place) (sym c.bytes-in-Bit.ensures)) c.put_bit.ensures

pub put_expr-returns-in-Part : goal.put_expr-returns-in-Part
put_expr-returns-in-Part t c =
    wrote-part c.bytes-in-Part.result.now c.in-Part.high c.in-Part.low c.args.e.now
    (c.in-Part.is ∙ ap (λ name. Part name c.in-Part.high c.in-Part.low) (sym c.bytes-in-Part.ensures))
    c.put_part.ensures

pub put_expr-returns-in-Literal : goal.put_expr-returns-in-Literal
put_expr-returns-in-Literal t c = wrote-literal c.in-Literal.number c.args.e.now c.in-Literal.is c.put_sized.ensures

pub put_expr-returns-in-Concat : goal.put_expr-returns-in-Concat
put_expr-returns-in-Concat t c = wrote-concat c.as_slice.result.now c.args.e.now (c.in-Concat.is ∙ ap Concat (sym c.as_slice.ensures)) (both c.put-in-Concat.ensures c.put_parts.ensures)

pub put_expr-returns-in-Repeat : goal.put_expr-returns-in-Repeat
put_expr-returns-in-Repeat t c =
    wrote-repeat c.in-Repeat.count c.get.result.now c.args.e.now (c.in-Repeat.is ∙ ap (Repeat c.in-Repeat.count) (sym c.get.ensures)) (both c.put_between.ensures c.put_within.ensures)

pub put_expr-returns-in-AsSigned : goal.put_expr-returns-in-AsSigned
put_expr-returns-in-AsSigned t c = wrote-signed c.get-in-AsSigned.result.now c.args.e.now (c.in-AsSigned.is ∙ ap AsSigned (sym c.get-in-AsSigned.ensures)) c.put_within-in-AsSigned.ensures

pub put_expr-returns-in-AsUnsigned : goal.put_expr-returns-in-AsUnsigned
put_expr-returns-in-AsUnsigned t c =
    wrote-unsigned c.get-in-AsUnsigned.result.now c.args.e.now (c.in-AsUnsigned.is ∙ ap AsUnsigned (sym c.get-in-AsUnsigned.ensures)) c.put_within-in-AsUnsigned.ensures

pub put_expr-returns-in-Unary : goal.put_expr-returns-in-Unary
put_expr-returns-in-Unary t c =
    wrote-unary c.in-Unary.op c.text.result.now c.get-in-Unary.result.now c.args.e.now (c.in-Unary.is ∙ ap (Unary c.in-Unary.op) (sym c.get-in-Unary.ensures)) c.text.ensures
    (both c.put-in-Unary.ensures (both c.put-in-Unary-2.ensures c.put_within-in-Unary.ensures))

pub put_expr-returns-in-Binary : goal.put_expr-returns-in-Binary
put_expr-returns-in-Binary t c =
    wrote-binary c.in-Binary.op c.text-in-Binary.result.now c.get-in-Binary.result.now c.get-in-Binary-2.result.now c.args.e.now
    (c.in-Binary.is ∙ (λ i. Binary c.in-Binary.op (sym c.get-in-Binary.ensures i) (sym c.get-in-Binary-2.ensures i))) c.text-in-Binary.ensures
    (both c.put_within-in-Binary.ensures (both c.put-in-Binary.ensures c.put_within-in-Binary-2.ensures))

pub put_expr-returns-in-Shift : goal.put_expr-returns-in-Shift
put_expr-returns-in-Shift t c =
    wrote-shift c.in-Shift.op c.text-in-Shift.result.now c.get-in-Shift.result.now c.in-Shift.amount c.args.e.now
    (c.in-Shift.is ∙ ap (λ part. Shift c.in-Shift.op part c.in-Shift.amount) (sym c.get-in-Shift.ensures)) c.text-in-Shift.ensures
    (both c.put_within-in-Shift.ensures c.put_amount.ensures)

pub put_expr-returns-in-Choose : goal.put_expr-returns-in-Choose
put_expr-returns-in-Choose t c =
    wrote-choose c.get-in-Choose.result.now c.get-in-Choose-2.result.now c.get-in-Choose-3.result.now c.args.e.now
    (c.in-Choose.is ∙ (λ i. Choose (sym c.get-in-Choose.ensures i) (sym c.get-in-Choose-2.ensures i) (sym c.get-in-Choose-3.ensures i)))
    (both c.put_within-in-Choose.ensures (both c.put_within-in-Choose-2.ensures c.put_within-in-Choose-3.ensures))

pub put_parts-loop-part-init : goal.put_parts-loop-part-init
put_parts-loop-part-init t c = none-joined (codes ", ") expr_text c.args.parts.now c.args.out.now

pub put_parts-loop-part-preserved : goal.put_parts-loop-part-preserved
put_parts-loop-part-preserved t c =
    one_more (codes ", ") expr_text c.args.parts.now c.loop-part.part-index c.part-item.result c.loop-part-test.true c.part-item.is c.loop-part.invariant
    (ap (λ text. c.loop-part.before.now ++ text) (append-nil (expr_text c.part-item.result))) c.put_within.ensures

pub put_parts-returns : goal.put_parts-returns
put_parts-returns t c =
    both (all_joined (codes ", ") expr_text c.args.parts.now c.loop-part.part-index c.loop-part.invariant c.loop-part-test.false) c.put.ensures

pub put_within-returns : goal.put_within-returns
put_within-returns t c = both c.put.ensures (both c.put_expr.ensures c.put-2.ensures)
