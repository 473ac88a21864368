use Rattle.std.proofs.Common.{◌≡◌, IfOk, refl, subst, sym}
use Rattle.vl_ast.specs.declared.expressions.Expr.{Expr}
use Rattle.vl_ast.specs.declared.expressions.Expr.TheVariants.{rolls-Choose}
use Rattle.vl_read.proofs.pieces.choose.Goals as goal

pub returns : goal.returns
returns c =
    let made = c.choose_of.ensures c.args.test c.args.chosen c.args.other refl refl c.new.ensures in
    subst (λ (is : Expr). IfOk c.choose_of.result (λ e. e ≡ is)) (sym (rolls-Choose c.args.test c.args.chosen c.args.other)) made
