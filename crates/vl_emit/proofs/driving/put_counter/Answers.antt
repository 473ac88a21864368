use Rattle.std.proofs.Common.{rules, ◌≡◌, ◌∙◌, ◌+◌, ◌*◌, ◌-◌, ap, subst}
use Rattle.std.specs.Prelude.{IfOk}
use Rattle.vl_ast.specs.declared.expressions.Expr.TheVariants.{Name, Literal}
use Rattle.vl_ast.specs.declared.expressions.Sized.{Sized}
use Rattle.hw_net.specs.Products.{net_at}
use Rattle.vl_emit.specs.Names.{Wire}
use Rattle.vl_emit.specs.inner.NetItems.{plain_number}
use Rattle.vl_emit.specs.inner.Operators.{test_of}
use Rattle.vl_emit.specs.inner.Ready.{circuit_of, cycles_in}
use Rattle.vl_emit.proofs.driving.put_counter.Goals as goal

pub returns : goal.returns
returns c =
    let source = c.args.source in
    let frame = c.args.frame in
    let width = (net_at (circuit_of source).nets c.args.own).width in
    let cycles = cycles_in source in
    let own = c.operand-net.ensures.wire in
    let first : c.plain-3.result ≡ plain_number width (frame.latency * cycles + (frame.period * cycles - 1)) = search rules in
    let greatest : c.plain-2.result ≡ plain_number width (frame.period * cycles - 1) = search rules in
    let one : c.plain.result ≡ plain_number width 1 = c.plain.ensures ∙ ap (λ (w : Wire). plain_number w.width 1) own in
    let name = subst (λ (w : Wire). IfOk c.text_of.result (λ text. text ≡ w.name)) own c.text_of.ensures in
    let counted = subst (λ (w : Wire). IfOk c.operand_name.result (λ e. e ≡ Name w.name)) own c.operand_name.ensures in
    let less = c.binary-less.ensures _ _ counted (ap (λ (n : Sized). Literal n) one) in
    let test = subst (λ (w : Wire). IfOk c.test_of.result (λ e. e ≡ test_of w)) own c.test_of.ensures in
    c.put_register.ensures _ _ _ _ first name c.enable.ensures (c.choose.ensures _ _ _ test less (ap (λ (n : Sized). Literal n) greatest))
