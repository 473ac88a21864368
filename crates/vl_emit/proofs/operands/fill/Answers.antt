use Rattle.std.proofs.Common.{◌∙◌, ◌-◌, ℕ, Bool, if◌then◌else◌, List, ap, refl, sym}
use Rattle.vl_ast.specs.declared.expressions.Expr.{Expr}
use Rattle.vl_ast.specs.declared.expressions.Expr.TheVariants.{Bit, Repeat}
use Rattle.vl_emit.specs.inner.Pieces.{zeros}
use Rattle.vl_emit.specs.inner.Spoken.{wire_at}
use Rattle.vl_emit.proofs.operands.fill.Goals as goal

pub returns-then-not-operand : goal.returns-then-not-operand
returns-then-not-operand c =
    let w = wire_at c.args.operand in
    c.zeros.ensures ∙ ap (λ (b : Bool). if b then Repeat c.args.count (Bit w.name (w.width - 1)) else zeros c.args.count) (sym c.if-not-operand.true)

pub returns : goal.returns
returns c =
    let w = wire_at c.args.operand in
    let sign : Bool → Expr = λ b. if b then Repeat c.args.count (Bit w.name (w.width - 1)) else zeros c.args.count in
    ap (λ (e : Expr). Repeat c.args.count e) (c.in_ok-in_box.ensures _ refl)
    ∙ ap (λ (name : List ℕ). Repeat c.args.count (Bit name (w.width - 1))) c.in_ok-text_of.ensures
    ∙ ap sign (sym c.if-not-operand.false)
