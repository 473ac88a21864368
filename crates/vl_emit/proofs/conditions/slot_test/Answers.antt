use Rattle.std.proofs.Common.{◌≡◌, ◌<◌, ◌-◌, ◌*◌, ℕ, IfOk, arith, subst, sym}
use Rattle.std.specs.Prelude.{nat_lt}
use Rattle.std.proofs.lemmas.Bool.{cond-true, lt-ltb}
use Rattle.vl_ast.specs.declared.expressions.Expr.{Expr}
use Rattle.vl_emit.specs.Names.{Wire}
use Rattle.vl_emit.specs.inner.NetItems.{counts}
use Rattle.vl_emit.specs.inner.Ready.{counter_in, cycles_in}
use Rattle.vl_emit.specs.inner.Pieces.{zeros}
use Rattle.vl_emit.proofs.conditions.slot_test.Goals as goal

pub returns : goal.returns
returns c =
    let counter : Wire = counter_in c.args.source c.args.frame in
    let clocks : ℕ = c.args.frame.period * cycles_in c.args.source in
    let within : c.args.slot < clocks = omega (arith, c.if-clocks-slot.false, c.clocks-clocks.ensures) in
    subst (λ (e : Expr). IfOk c.count_test.result (λ made. made ≡ e))
    (sym (cond-true (nat_lt c.args.slot clocks) (counts counter (clocks - 1 - c.args.slot)) (zeros 1)
    (lt-ltb c.args.slot clocks within)))
    (subst (λ (n : ℕ). IfOk c.count_test.result (λ made. made ≡ counts counter (n - 1 - c.args.slot))) c.clocks-clocks.ensures c.count_test.ensures)
