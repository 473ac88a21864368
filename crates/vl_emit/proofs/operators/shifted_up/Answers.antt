use Rattle.std.proofs.Common.{◌∙◌, ◌<◌, ap, arith, sym}
use Rattle.std.specs.Prelude.{nat_lt}
use Rattle.std.proofs.lemmas.Bool.{cond-true, lt-ltb}
use Rattle.vl_ast.specs.declared.expressions.ShiftOp.TheVariants.{Left}
use Rattle.vl_ast.specs.declared.expressions.Expr.TheVariants.{Shift}
use Rattle.vl_emit.specs.inner.NetItems.{plain_number}
use Rattle.vl_emit.specs.inner.Pieces.{zeros, at_width}
use Rattle.vl_emit.specs.inner.Spoken.{wire_at}
use Rattle.vl_emit.proofs.operators.shifted_up.Goals as goal

pub returns : goal.returns
returns c =
    let part = c.in_ok-part.ensures _ c.at_width.ensures in
    let amount = c.plain-amount.ensures ∙ ap (plain_number 8) c.from-2.ensures in
    let within : c.args.places < c.args.width = omega (arith, c.if-width-from.false, c.from.ensures) in
    (λ i. Shift Left (part i) (amount i))
    ∙ sym (cond-true (nat_lt c.args.places c.args.width)
    (Shift Left (at_width c.args.width (wire_at c.args.operand)) (plain_number 8 c.args.places))
    (zeros c.args.width) (lt-ltb c.args.places c.args.width within))
