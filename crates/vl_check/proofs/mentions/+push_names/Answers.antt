use Rattle.std.proofs.Common.{◌≡◌, ⊎_elim, ℕ, ap, sym, ◌∙◌}
use Rattle.vl_ast.specs.declared.expressions.Expr.TheVariants.{Name, Bit, Part, Binary, Choose}
use Rattle.vl_check.proofs.ExpressionNames.{none-put, part-more, reads-binary, reads-choose, reads-concat, reads-literal, reads-name, reads-bit, reads-part}
use Rattle.vl_check.proofs.mentions.+push_names.Goals as goal

pub returns-in-Name : goal.returns-in-Name
returns-in-Name t c =
    let name = c.bytes-in-Name.result.now in
    ⊎_elim
    (λ is. reads-name name c.args.e.now (is ∙ ap Name (sym c.bytes-in-Name.ensures)) c.push-in-Name.ensures)
    (λ (bit : (place : ℕ) × (c.args.e.now ≡ Bit c.in-Name.name place)).
    reads-bit name bit.0 c.args.e.now (bit.1 ∙ ap (λ text. Bit text bit.0) (sym c.bytes-in-Name.ensures)) c.push-in-Name.ensures)
    c.in-Name.is

pub returns-in-Part : goal.returns-in-Part
returns-in-Part t c =
    reads-part c.bytes.result.now c.in-Part._high c.in-Part._low c.args.e.now (c.in-Part.is ∙ ap (λ name. Part name c.in-Part._high c.in-Part._low) (sym c.bytes.ensures)) c.push.ensures

pub returns-in-Literal : goal.returns-in-Literal
returns-in-Literal t c = reads-literal c.args.mentions.now c.in-Literal._number c.args.e.now c.in-Literal.is

pub returns-in-Binary : goal.returns-in-Binary
returns-in-Binary t c =
    reads-binary c.in-Binary._op c.get.result.now c.get-in-Binary.result.now c.args.e.now (c.in-Binary.is ∙ (λ i. Binary c.in-Binary._op (sym c.get.ensures i) (sym c.get-in-Binary.ensures i)))
    c.push_names-in-Binary.ensures c.push_names-in-Binary-2.ensures

pub returns-in-Choose : goal.returns-in-Choose
returns-in-Choose t c =
    reads-choose c.get-in-Choose.result.now c.get-in-Choose-2.result.now c.get-in-Choose-3.result.now c.args.e.now
    (c.in-Choose.is ∙ (λ i. Choose (sym c.get-in-Choose.ensures i) (sym c.get-in-Choose-2.ensures i) (sym c.get-in-Choose-3.ensures i)))
    c.push_names-in-Choose.ensures c.push_names-in-Choose-2.ensures c.push_names-in-Choose-3.ensures

pub loop-part-init : goal.loop-part-init
loop-part-init t c = none-put c.args.mentions.now

pub loop-part-preserved : goal.loop-part-preserved
loop-part-preserved t c =
    part-more c.as_slice-part-items.result.now c.loop-part.part-index c.part-item.result c.part-item.result
    c.loop-part-test.true c.part-item.is (λ i. c.part-item.result) c.loop-part.invariant c.push_names.ensures

pub returns-after-loop-part : goal.returns-after-loop-part
returns-after-loop-part t c =
    reads-concat c.in-Concat.parts c.as_slice-part-items.result.now c.loop-part.part-index c.args.e.now c.in-Concat.is c.as_slice-part-items.ensures c.loop-part-test.false c.loop-part.invariant
