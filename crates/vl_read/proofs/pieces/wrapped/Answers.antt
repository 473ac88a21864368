use Rattle.std.proofs.Common.{◌≡◌, ap, sym, ◌∙◌}
use Rattle.vl_ast.specs.declared.expressions.Expr.{Expr}
use Rattle.vl_ast.specs.declared.expressions.Expr.TheVariants.{rolls-AsSigned, rolls-AsUnsigned, rolls-Repeat, rolls-Shift, rolls-Unary}
use Rattle.vl_read.specs.declared.pieces.Wrap.{Wrap}
use Rattle.vl_read.specs.declared.pieces.Wrap.TheVariants.{Cast}
use Rattle.vl_read.specs.inner.OperandForms.{wrapped_in}
use Rattle.vl_read.proofs.pieces.wrapped.Goals as goal

-- what is made of the operand in its box is the operand with this around it
boxed : {own wrap : Wrap} (part : Expr) {kept made : Expr} → wrap ≡ own → wrapped_in own kept ≡ made → kept ≡ part → made ≡ wrapped_in wrap part
boxed {own} {wrap} part is rolls same = sym rolls ∙ ap (wrapped_in own) same ∙ ap (λ (w : Wrap). wrapped_in w part) (sym is)

pub returns-in-Repeat : goal.returns-in-Repeat
returns-in-Repeat c = boxed c.args.part c.in-Repeat.is (rolls-Repeat c.in-Repeat.count c.in_ok-part.part) c.in_ok-part.ensures

pub returns-then-signed : goal.returns-then-signed
returns-then-signed c = boxed c.args.part (c.in-Cast.is ∙ ap Cast c.if-signed.true) (rolls-AsSigned c.in_ok-part.part) c.in_ok-part.ensures

pub returns-else-signed : goal.returns-else-signed
returns-else-signed c = boxed c.args.part (c.in-Cast.is ∙ ap Cast c.if-signed.false) (rolls-AsUnsigned c.in_ok-part.part) c.in_ok-part.ensures

pub returns-in-Unary : goal.returns-in-Unary
returns-in-Unary c = boxed c.args.part c.in-Unary.is (rolls-Unary c.in-Unary.op c.in_ok-part.part) c.in_ok-part.ensures

pub returns-in-Shift : goal.returns-in-Shift
returns-in-Shift c = boxed c.args.part c.in-Shift.is (rolls-Shift c.in-Shift.op c.in_ok-part.part c.in-Shift.amount) c.in_ok-part.ensures
