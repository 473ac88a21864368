use Rattle.std.proofs.Common.{◌≡◌, suc, ◌+◌, List, length, ap, ◌∙◌, arith}
use Rattle.dg_model.specs.declared.diagram.Block.{Block}
use Rattle.dg_model.specs.declared.diagram.Diagram.{Diagram}
use Rattle.hw_rules.specs.inner.Own.{own_at}
use Rattle.hw_rules.proofs.Multipliers.{unshared_is}
use Rattle.math_list.proofs.Sums.{sum_below, sum_below_next}
use Rattle.hw_rules.proofs.owing.own_in_all.Goals as goal

pub loop-place-preserved : goal.loop-place-preserved
loop-place-preserved c =
    let one : c.loop-place.place + 1 ≡ suc c.loop-place.place = omega arith in
    let same = ap (sum_below (own_at c.args.checked.now.diagram c.args.plan.now)) one in
    let next = sum_below_next (own_at c.args.checked.now.diagram c.args.plan.now) c.loop-place.place in
    let all = c.in_ok-count.ensures in
    let own = c.own_multiplications-own.ensures in
    let before = c.loop-place.invariant in
    omega (arith, next, same, all, own, before)

pub returns : goal.returns
returns c =
    let many = ap (λ (blocks : List Block). length blocks) (c.as_slice-place-end.ensures ∙ ap (λ (d : Diagram). d.blocks) c.diagram.ensures) in
    let low = c.loop-place.auto.place-end in
    let high = c.loop-place-test.false in
    let end : c.loop-place.place ≡ length c.args.checked.now.diagram.blocks = omega (arith, many, low, high) in
    c.loop-place.invariant ∙ ap (sum_below (own_at c.args.checked.now.diagram c.args.plan.now)) end ∙ unshared_is c.args.checked.now.diagram c.args.plan.now
