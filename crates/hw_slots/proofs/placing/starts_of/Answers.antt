use Rattle.std.proofs.Common.{arith, ◌≡◌, ℕ, length, subst}
use Rattle.hw_slots.proofs.Totals.{starts_none, starts_more}
use Rattle.hw_slots.specs.Answer.{AreStarts}
use Rattle.hw_slots.proofs.placing.starts_of.Goals as goal

pub loop-place-init : goal.loop-place-init
loop-place-init c = starts_none c.args.operations.now c.args.multipliers c.args.periods.now c.new-starts.result c.new-starts.ensures

pub loop-place-preserved : goal.loop-place-preserved
loop-place-preserved c =
    rw c.in_ok-push.ensures.appended (starts_more c.args.operations.now c.args.multipliers c.args.periods.now
    c.args.bases.now c.args.turns.now c.loop-place.starts c.loop-place.place c.get-base.result _
    c.loop-place-test.true c.get-base.ensures c.in_ok-start.ensures c.requires.turns.are c.requires.bases
    c.loop-place.invariant)

pub returns : goal.returns
returns c =
    let low = c.loop-place-test.false in
    let high = c.loop-place.auto.place-end in
    let all : c.loop-place.place ≡ length c.args.operations.now = omega (arith, low, high) in
    subst (λ (count : ℕ). AreStarts c.args.operations.now c.args.multipliers c.args.periods.now count c.loop-place.starts) all c.loop-place.invariant
