use Rattle.std.proofs.Common.{◌≡◌, ℕ, Option, None, false, length, ◌∙◌, ap, subst, sym, arith}
use Rattle.std.proofs.lemmas.Option.{slice_get_within, get_or_from_slice_get}
use Rattle.dg_model.specs.Operation.{operation_of}
use Rattle.hw_lower.specs.Lowered.{IsTotalled, multiply_of}
use Rattle.hw_lower.specs.inner.PlanNets.{number_of}
use Rattle.hw_lower.specs.inner.PlanSteps.{IsStep}
use Rattle.hw_lower.specs.inner.Spread.{Spreads}
use Rattle.hw_lower.proofs.Arguments.{inputs-there}
use Rattle.hw_lower.proofs.PlanWaves.{IsPutDown, can-put, totalled, lowers}
use Rattle.hw_lower.proofs.lowering.lower_total.Goals as goal
use Rattle.hw_lower.proofs.lowering.lower_total.Goals.{After-index}

-- the inputs, and the plan that was made of them
spread_of : (c : After-index) → (c.inputs_of-plan.result.wanting ≡ false) × Spreads c.inputs_of-plan.result.steps c.in_ok-steps.steps None
spread_of c = rw (c.in_ok-steps.ensures.1) (c.plan_total-result.ensures.spreads c.in_ok-steps.ensures.0)

put_down : (c : After-index) → IsPutDown c.args.net.now c.put_nets.new.net c.args.types.now c.args.args.now c.inputs_of-plan.result.steps c.in_ok-steps.steps None
put_down c = record {
  are_args = c.requires.args;
  inputs = c.inputs_of-plan.ensures.are (spread_of c).0;
  spreads = (spread_of c).1;
  nets = rw c.as_slice.ensures at c.in_ok-numbers.ensures.nets;
}

result_at : (c : After-index) → IsStep c.in_ok-steps.steps c.plan_total-result.result
result_at c = rw (c.in_ok-steps.ensures.1) (c.plan_total-result.ensures.at.there c.in_ok-steps.ensures.0)

pub inputs_of-plan-requires : goal.inputs_of-plan-requires
inputs_of-plan-requires c = c.requires.can.few

pub plan_total-result-requires-clause-arguments : goal.plan_total-result-requires-clause-arguments
plan_total-result-requires-clause-arguments c = inputs-there c.inputs_of-plan.result c.args.types.now c.inputs_of-plan.ensures c.requires.can.valid

pub put_nets-requires : goal.put_nets-requires
put_nets-requires c =
    let spread = c.plan_total-result.ensures.spreads c.in_ok-steps.ensures.0 in
    rw (c.as_slice.ensures, c.in_ok-steps.ensures.1)
    (can-put c.args.net.now c.args.types.now c.args.args.now c.inputs_of-plan.result.steps
    c.plan_total-result.new.plan.steps None c.requires.args
    (c.inputs_of-plan.ensures.are spread.0) spread.1)

pub index-requires : goal.index-requires
index-requires c =
    let at = c.plan_total-result.ensures.at.there c.in_ok-steps.ensures.0 in
    let are = rw (c.as_slice.ensures, c.in_ok-steps.ensures.1) at c.in_ok-numbers.ensures.numbers in
    omega (arith, are.size, slice_get_within c.plan_total-result.new.plan.steps c.plan_total-result.result.place at.step at.is)

pub returns-clause-lowers : goal.returns-clause-lowers
returns-clause-lowers c =
    let here = (goal.at.returns-clause-lowers c).After-index in
    let none : None ≡ multiply_of c.args.call.now.op = sym (ap multiply_of c.requires.can.op) in
    lowers c.args.net.now c.put_nets.new.net c.args.args.now c.inputs_of-plan.result.steps c.in_ok-steps.steps (operation_of c.args.call.now) c.plan_total-result.result c.args.types.now
    (subst (λ (m : Option ℕ). IsPutDown c.args.net.now c.put_nets.new.net c.args.types.now c.args.args.now c.inputs_of-plan.result.steps c.in_ok-steps.steps m) none (put_down here)) (result_at here)

pub returns-clause-totalled : goal.returns-clause-totalled
returns-clause-totalled c =
    let here = (goal.at.returns-clause-totalled c).After-index in
    let at = result_at here in
    let base : ℕ = length c.args.net.now.nets in
    let made = c.plan_total-result.result in
    let are = rw c.as_slice.ensures at c.in_ok-numbers.ensures.numbers in
    let inside = slice_get_within c.in_ok-steps.steps made.place at.step at.is in
    let value = get_or_from_slice_get c.in_ok-numbers.numbers.items made.place (number_of c.args.args.now base made.place) c.index.result.now (are.each made.place inside) in
    let gives = rw (sym c.in_ok-steps.ensures.1) at (c.plan_total-result.ensures.gives.give c.in_ok-steps.ensures.0) in
    subst (λ (n : ℕ). IsTotalled c.args.net.now c.put_nets.new.net (operation_of c.args.call.now) c.args.full c.args.signs.now c.args.types.now c.args.args.now n) (sym (c.index.ensures ∙ value))
    (totalled c.args.net.now c.put_nets.new.net c.args.args.now c.inputs_of-plan.result.steps c.in_ok-steps.steps
    (operation_of c.args.call.now) c.args.full c.args.signs.now c.args.types.now made (put_down here) at c.plan_total-result.ensures.has_word gives)
