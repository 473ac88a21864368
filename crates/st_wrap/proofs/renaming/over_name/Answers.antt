use Rattle.std.proofs.Common.{◌∙◌, ap, sym}
use Rattle.vl_ast.specs.declared.expressions.Expr.TheViews.{out-Expr}
use Rattle.st_wrap.specs.inner.CoreNames.{with_name}
use Rattle.st_wrap.proofs.Forms.{made-is, over-bit, over-else, over-part}
use Rattle.st_wrap.proofs.renaming.over_name.Goals as goal

pub returns-in-Bit : goal.returns-in-Bit
returns-in-Bit c text name =
    let e = c.args.e.now in
    sym (over-bit _ c.in_ok-name.name c.in-Bit.place e c.in-Bit.is) ∙ ap (with_name (out-Expr e)) (made-is c.args.name c.in_ok-name.name text c.in_ok-name.was name)

pub returns-in-Part : goal.returns-in-Part
returns-in-Part c text name =
    let e = c.args.e.now in
    sym (over-part _ c.in_ok-name.name c.in-Part.high c.in-Part.low e c.in-Part.is) ∙ ap (with_name (out-Expr e)) (made-is c.args.name c.in_ok-name.name text c.in_ok-name.was name)

pub returns-in_default : goal.returns-in_default
returns-in_default c text name =
    let e = c.args.e.now in
    sym (over-else c.in_ok-name.name e c.in_default.not-Bit c.in_default.not-Part) ∙ ap (with_name (out-Expr e)) (made-is c.args.name c.in_ok-name.name text c.in_ok-name.was name)
