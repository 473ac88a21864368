use Rattle.std.proofs.Common.{◌≡◌, ℕ, ◌+◌, ◌-◌, ◌<◌, length, get_or, drop, set, Some, arith, rules, subst}
use Rattle.hw_net.specs.declared.netlist.NetLabel.{NetLabel}
use Rattle.vl_emit.specs.inner.Ready.{label_at, IsIndexFrom}
use Rattle.vl_emit.proofs.Labels.{index-start, index-step}
use Rattle.std.proofs.lemmas.List.{get_or_default}
use Rattle.vl_emit.proofs.Lists.{at-contains}
use Rattle.vl_emit.proofs.source.label_places.Goals as goal

pub loop-left-init : goal.loop-left-init
loop-left-init c = (omega arith, index-start c.args.labels.now c.args.count c.in_ok-places.places.items (c.in_ok-places.ensures.items_if_clones_equal (search rules)))

pub index_mut-requires : goal.index_mut-requires
index_mut-requires c =
    let h : c.loop-left.left - 1 < length c.args.labels.now = omega (arith, c.loop-left.invariant.0, c.loop-left-test.true) in
    let e = c.requires (get_or c.args.labels.now (c.loop-left.left - 1) c.index-labels-left.result) (at-contains c.args.labels.now (c.loop-left.left - 1) c.index-labels-left.result h) in
    omega (arith, e, c.loop-left.invariant.1.size)

pub loop-left-preserved : goal.loop-left-preserved
loop-left-preserved c =
    let h : c.loop-left.left - 1 < length c.args.labels.now = omega (arith, c.loop-left.invariant.0, c.loop-left-test.true) in
    let back : c.loop-left.left ≡ c.loop-left.left - 1 + 1 = omega (arith, c.loop-left-test.true) in
    let is = subst (λ (n : ℕ). IsIndexFrom c.args.labels.now (drop n c.args.labels.now) c.args.count c.loop-left.places.items) back c.loop-left.invariant.1 in
    let within : (label_at c.args.labels.now (c.loop-left.left - 1)).net < c.args.count =
    c.requires (label_at c.args.labels.now (c.loop-left.left - 1)) (at-contains c.args.labels.now (c.loop-left.left - 1) _ h) in
    let step = index-step c.args.labels.now (c.loop-left.left - 1) c.args.count c.loop-left.places.items h within is in
    let same : label_at c.args.labels.now (c.loop-left.left - 1)
    ≡ get_or c.args.labels.now (c.loop-left.left - 1) c.index-labels-left.result =
    get_or_default c.args.labels.now (c.loop-left.left - 1) _ _ h in (
      omega (arith, h),
      subst (λ (label : NetLabel). IsIndexFrom c.args.labels.now
          (drop (c.loop-left.left - 1) c.args.labels.now) c.args.count
          (set c.loop-left.places.items label.net (Some (c.loop-left.left - 1)))) same step,
    )
