use Rattle.std.proofs.Common.{◌≡◌, ◌*◌, ◌-◌, ◌∙◌, ℕ, IfOk, subst}
use Rattle.vl_ast.specs.declared.expressions.BinOp.TheVariants.{GreaterEqual}
use Rattle.vl_emit.specs.inner.NetItems.{compares}
use Rattle.vl_emit.specs.inner.Ready.{counter_in, cycles_in}
use Rattle.vl_emit.proofs.conditions.live_test.Goals as goal

pub returns : goal.returns
returns c =
    let source = c.args.source in
    let frame = c.args.frame in
    let bound : c.from-left.result * c.from.result ≡ (frame.period - c.args.live) * cycles_in source =
    (λ i. (c.from-left.ensures ∙ c.saturating_sub.ensures) i * (c.from.ensures ∙ c.cycles.ensures) i) in
    subst (λ (n : ℕ). IfOk c.count_test.result (λ e. e ≡ compares GreaterEqual (counter_in source frame) n)) bound c.count_test.ensures
