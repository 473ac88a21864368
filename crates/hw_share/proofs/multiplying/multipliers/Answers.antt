use Rattle.std.proofs.Common.{None, Some, slice_index_or, sym, ◌∙◌, ap, subst, refl, ◌≡◌, ℕ, length, arith}
use Rattle.std.proofs.lemmas.Option.{slice_get-get_or, same_Some}
use Rattle.hw_share.specs.inner.Steps.{CanMultiply, AreMultipliers}
use Rattle.hw_share.proofs.Multipliers.{multipliers-begun, multipliers-more, can-later}
use Rattle.hw_share.proofs.multiplying.multipliers.Goals as goal

pub unwrap-requires : goal.unwrap-requires
unwrap-requires c =
    let at = slice_get-get_or c.args.ends.now c.loop-known.known-index None c.loop-known-test.true in
    let ready = c.requires.each c.loop-known.known-index (slice_index_or c.args.ends.now c.loop-known.known-index None) at in
    rw ready.1 refl

pub multiply-requires : goal.multiply-requires
multiply-requires c =
    let at = slice_get-get_or c.args.ends.now c.loop-known.known-index None c.loop-known-test.true in
    let ready = c.requires.each c.loop-known.known-index (slice_index_or c.args.ends.now c.loop-known.known-index None) at in
    let same = same_Some ready.0 c.unwrap.result (sym ready.1 ∙ c.unwrap.ensures) in
    can-later c.args.net.now c.loop-known.net c.unwrap.result c.loop-known.invariant.grown.appends.extends (subst (CanMultiply c.args.net.now) same ready.2)

pub loop-known-init : goal.loop-known-init
loop-known-init c = rw c.new-numbers.ensures (multipliers-begun c.args.net.now c.args.ends.now)

pub loop-known-preserved : goal.loop-known-preserved
loop-known-preserved c =
    let at = slice_get-get_or c.args.ends.now c.loop-known.known-index None c.loop-known-test.true in
    rw c.in_ok-push.ensures.appended
    (multipliers-more c.args.net.now c.loop-known.net c.multiply.new.net c.args.ends.now c.loop-known.numbers c.loop-known.known-index c.in_ok-number.number c.unwrap.result c.loop-known.invariant
    (at ∙ ap Some c.unwrap.ensures) c.in_ok-number.ensures.number c.in_ok-number.ensures.is c.in_ok-number.ensures.long c.in_ok-number.ensures.grown)

pub returns : goal.returns
returns c =
    let low = c.loop-known-test.false in
    let high = c.loop-known.auto.known-index-end in
    let all : c.loop-known.known-index ≡ length c.args.ends.now = omega (arith, low, high) in
    subst (λ (count : ℕ). AreMultipliers c.args.net.now c.loop-known.net c.args.ends.now c.loop-known.numbers count) all c.loop-known.invariant
