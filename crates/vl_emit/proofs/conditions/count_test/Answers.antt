use Rattle.std.proofs.Common.{rules, ◌≡◌, ◌∙◌, ap, IfOk, subst}
use Rattle.vl_ast.specs.declared.expressions.Expr.TheVariants.{Name, Literal}
use Rattle.vl_ast.specs.declared.expressions.Sized.{Sized}
use Rattle.vl_emit.specs.Names.{Wire}
use Rattle.vl_emit.specs.inner.NetItems.{plain_number}
use Rattle.vl_emit.specs.inner.Ready.{counter_in}
use Rattle.vl_emit.specs.inner.Spoken.{wire_at}
use Rattle.vl_emit.proofs.conditions.count_test.Goals as goal

pub returns : goal.returns
returns c =
    let own : wire_at c.operand-counter.result ≡ counter_in c.args.source c.args.frame = search rules in
    let name = subst (λ (w : Wire). IfOk c.operand_name.result (λ e. e ≡ Name w.name)) own c.operand_name.ensures in
    let number : c.plain.result ≡ plain_number (counter_in c.args.source c.args.frame).width c.args.number = c.plain.ensures ∙ (λ i. plain_number (own i).width (c.from.ensures i)) in
    c.binary.ensures _ _ name (ap (λ (number : Sized). Literal number) number)
