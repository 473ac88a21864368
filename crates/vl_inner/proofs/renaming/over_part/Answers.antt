use Rattle.std.proofs.Common.{◌∙◌, ap, sym}
use Rattle.vl_ast.specs.declared.expressions.Expr.TheViews.{out-Expr}
use Rattle.vl_inner.specs.Renamed.{with_part}
use Rattle.vl_inner.proofs.Forms.{over-cast, over-repeat, over-shift, over-signed, over-unary}
use Rattle.vl_inner.proofs.renaming.over_part.Goals as goal

pub returns-in-Repeat : goal.returns-in-Repeat
returns-in-Repeat c is part = sym (over-repeat c.in-Repeat.count _ c.in_ok-part.part c.args.e.now c.in-Repeat.is) ∙ ap (with_part (out-Expr c.args.e.now)) (c.in_ok-part.ensures is part)

pub returns-in-AsSigned : goal.returns-in-AsSigned
returns-in-AsSigned c is part = sym (over-signed _ c.in_ok-part.part c.args.e.now c.in-AsSigned.is) ∙ ap (with_part (out-Expr c.args.e.now)) (c.in_ok-part.ensures is part)

pub returns-in-Unary : goal.returns-in-Unary
returns-in-Unary c is part = sym (over-unary c.in-Unary.op _ c.in_ok-part.part c.args.e.now c.in-Unary.is) ∙ ap (with_part (out-Expr c.args.e.now)) (c.in_ok-part.ensures is part)

pub returns-in-Shift : goal.returns-in-Shift
returns-in-Shift c is part = sym (over-shift c.in-Shift.op _ c.in_ok-part.part c.in-Shift.amount c.args.e.now c.in-Shift.is) ∙ ap (with_part (out-Expr c.args.e.now)) (c.in_ok-part.ensures is part)

pub returns-in_default : goal.returns-in_default
returns-in_default c is part =
    sym (over-cast c.in_ok-part.part c.args.e.now c.in_default.not-Repeat c.in_default.not-AsSigned
    c.in_default.not-Unary c.in_default.not-Shift)
    ∙ ap (with_part (out-Expr c.args.e.now)) (c.in_ok-part.ensures is part)
