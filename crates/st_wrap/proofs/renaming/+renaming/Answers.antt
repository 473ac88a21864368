use Rattle.std.proofs.Common.{◌≡◌, ◌∙◌, IfOk, ap, inl, inr, ℕ, List, map, subst}
use Rattle.std.proofs.lemmas.List.{take_all}
use Rattle.vl_ast.specs.declared.expressions.Expr.{Expr}
use Rattle.vl_ast.specs.declared.expressions.Expr.TheViews.{out-Expr}
use Rattle.vl_ast.proofs.Listings.{holds-as, one-held}
use Rattle.st_wrap.specs.inner.Names.{inner_name}
use Rattle.st_wrap.specs.inner.CoreNames.{renamed, with_name, with_part}
use Rattle.st_wrap.proofs.Forms.{of-name, of-bit, of-part, of-literal, of-concat, of-repeat, of-signed, of-unsigned, of-unary, of-binary, of-shift, of-choose, over-bit, over-name, over-part}
use Rattle.st_wrap.proofs.Forms.{over-repeat, over-shift, over-signed, over-unary, over-unsigned}
use Rattle.st_wrap.proofs.renaming.+renaming.Goals as goal

pub renamed_expr-returns-in-Name : goal.renamed_expr-returns-in-Name
renamed_expr-returns-in-Name t c =
    let name = c.in-Name.name in
    let e = c.args.e.now in
    let text = inner_name name in
    let is : with_name (out-Expr e) text ≡ renamed e = elim c.in-Name.is [
      | inl here ↦ over-name name text e here ∙ of-name name e here
      | inr more ↦ elim more [
        | inl here ↦ over-bit name text here.0 e here.1 ∙ of-bit name here.0 e here.1
        | inr here ↦ over-part name text here.0 here.1 e here.2 ∙ of-part name here.0 here.1 e here.2
      ]
    ] in
    let made = subst (λ (name : List ℕ). IfOk c.inner_name.result (λ made. made ≡ inner_name name)) c.bytes.ensures c.inner_name.ensures in
    subst (λ (e : Expr). IfOk c.over_name.result (λ made. made ≡ e)) is (c.over_name.ensures text made)

pub renamed_expr-returns-in-Literal : goal.renamed_expr-returns-in-Literal
renamed_expr-returns-in-Literal t c =
    of-literal c.in-Literal.number c.args.e.now c.in-Literal.is

pub renamed_expr-returns-in-Concat : goal.renamed_expr-returns-in-Concat
renamed_expr-returns-in-Concat t c =
    let parts = holds-as (ap (map renamed) c.as_slice.ensures) c.renamed_parts.ensures in
    subst (λ (e : Expr). IfOk c.concat.result (λ made. made ≡ e)) (of-concat c.in-Concat.parts c.args.e.now c.in-Concat.is) (c.concat.ensures _ parts)

pub renamed_expr-returns-in-Repeat : goal.renamed_expr-returns-in-Repeat
renamed_expr-returns-in-Repeat t c =
    let e = c.args.e.now in
    let old = c.in-Repeat.part in
    let part = renamed old in
    let is : with_part (out-Expr e) part ≡ renamed e = elim c.in-Repeat.is [
      | inl here ↦ over-repeat here.0 old part e here.1 ∙ of-repeat here.0 old e here.1
      | inr more ↦ elim more [
        | inl here ↦ over-signed old part e here ∙ of-signed old e here
        | inr more ↦ elim more [
          | inl here ↦ over-unsigned old part e here ∙ of-unsigned old e here
          | inr more ↦ elim more [
            | inl here ↦ over-unary here.0 old part e here.1 ∙ of-unary here.0 old e here.1
            | inr here ↦ over-shift here.0 old part here.1 e here.2 ∙ of-shift here.0 old here.1 e here.2
          ]
        ]
      ]
    ] in
    let made = subst (λ (e : Expr). IfOk c.renamed_expr-in-Repeat.result (λ made. made ≡ renamed e)) c.get-in-Repeat.ensures c.renamed_expr-in-Repeat.ensures in
    subst (λ (e : Expr). IfOk c.over_part.result (λ made. made ≡ e)) is (c.over_part.ensures part made)

pub renamed_expr-returns-in-Binary : goal.renamed_expr-returns-in-Binary
renamed_expr-returns-in-Binary t c =
    let left = subst (λ (e : Expr). IfOk c.renamed_expr-left.result (λ made. made ≡ renamed e)) c.get.ensures c.renamed_expr-left.ensures in
    let right = subst (λ (e : Expr). IfOk c.renamed_expr.result (λ made. made ≡ renamed e)) c.get-in-Binary.ensures c.renamed_expr.ensures in
    subst (λ (e : Expr). IfOk c.binary.result (λ made. made ≡ e)) (of-binary c.in-Binary.op c.in-Binary.left c.in-Binary.right c.args.e.now c.in-Binary.is)
    (c.binary.ensures (renamed c.in-Binary.left) (renamed c.in-Binary.right) left right)

pub renamed_expr-returns-in-Choose : goal.renamed_expr-returns-in-Choose
renamed_expr-returns-in-Choose t c =
    let test = subst (λ (e : Expr). IfOk c.renamed_expr-test.result (λ made. made ≡ renamed e)) c.get-in-Choose.ensures c.renamed_expr-test.ensures in
    let chosen = subst (λ (e : Expr). IfOk c.renamed_expr-chosen.result (λ made. made ≡ renamed e)) c.get-in-Choose-2.ensures c.renamed_expr-chosen.ensures in
    let other = subst (λ (e : Expr). IfOk c.renamed_expr-in-Choose.result (λ made. made ≡ renamed e)) c.get-in-Choose-3.ensures c.renamed_expr-in-Choose.ensures in
    subst (λ (e : Expr). IfOk c.choose.result (λ made. made ≡ e)) (of-choose c.in-Choose.test c.in-Choose.chosen c.in-Choose.other c.args.e.now c.in-Choose.is)
    (c.choose.ensures (renamed c.in-Choose.test) (renamed c.in-Choose.chosen) (renamed c.in-Choose.other) test chosen other)

pub renamed_parts-loop-part-init : goal.renamed_parts-loop-part-init
renamed_parts-loop-part-init t c = c.begin-out.ensures

pub renamed_parts-loop-part-preserved : goal.renamed_parts-loop-part-preserved
renamed_parts-loop-part-preserved t c =
    one-held c.args.parts.now c.loop-part.part-index c.part-item.result c.loop-part-test.true c.part-item.is renamed c.loop-part.invariant (c.put_expression.ensures _ c.renamed_expr.ensures)

pub renamed_parts-returns : goal.renamed_parts-returns
renamed_parts-returns t c =
    holds-as (ap (map renamed) (take_all c.loop-part.part-index c.args.parts.now c.loop-part-test.false)) c.loop-part.invariant
