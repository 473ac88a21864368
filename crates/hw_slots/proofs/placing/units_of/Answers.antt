use Rattle.std.proofs.Common.{arith, ◌≡◌, ℕ, length, subst}
use Rattle.hw_slots.proofs.Totals.{units_none, units_more}
use Rattle.hw_slots.specs.Answer.{AreUnits}
use Rattle.hw_slots.proofs.placing.units_of.Goals as goal

pub loop-place-init : goal.loop-place-init
loop-place-init c = units_none c.args.operations.now c.args.multipliers c.args.kinds c.new-units.result c.new-units.ensures

pub loop-place-preserved : goal.loop-place-preserved
loop-place-preserved c =
    rw c.in_ok-push.ensures.appended (units_more c.args.operations.now c.args.multipliers c.args.kinds
    c.args.firsts.now c.args.turns.now c.loop-place.units c.loop-place.place c.get-first.result _
    c.loop-place-test.true c.get-first.ensures c.in_ok-unit.ensures c.requires.turns.are c.requires.firsts
    c.loop-place.invariant)

pub returns : goal.returns
returns c =
    let low = c.loop-place-test.false in
    let high = c.loop-place.auto.place-end in
    let all : c.loop-place.place ≡ length c.args.operations.now = omega (arith, low, high) in
    subst (λ (count : ℕ). AreUnits c.args.operations.now c.args.multipliers c.args.kinds count c.loop-place.units) all c.loop-place.invariant
