use Rattle.std.proofs.Common.{◌≡◌, ◌+◌, ◌<◌, ℕ, ℤ, List, length, take, arith}
use Rattle.dg_model.specs.Operation.{stored_truth}
use Rattle.hw_lower.specs.inner.Spread.{OfArguments, argument_of, truth_of}
use Rattle.hw_lower.proofs.PlanSteps.{at-later}
use Rattle.hw_lower.proofs.StepChains.{made-both, made-map}
use Rattle.hw_lower.proofs.GateArguments.{joined-first, joined-more, of-all}
use Rattle.hw_lower.proofs.gates.join_all.Goals as goal

pub truth-first-requires : goal.truth-first-requires
truth-first-requires c = rw c.argument_of-from.ensures (c.requires.arguments.each 0 (omega (arith, c.requires.some)))

pub loop-input-init : goal.loop-input-init
loop-input-init c =
    made-map (λ numbers. OfArguments c.args.types.now numbers (λ values. numbers c.truth-first.result.place ≡ stored_truth (truth_of c.args.joining (take 1 values)))) c.truth-first.ensures
    (λ numbers has p. joined-first c.args.types.now numbers c.args.joining (numbers c.truth-first.result.place) c.requires.some (rw c.argument_of-from.ensures at p))

pub join-bit-requires-clause-test : goal.join-bit-requires-clause-test
join-bit-requires-clause-test c =
    let inside : c.loop-input.input < length c.args.types.now = omega (arith, c.loop-input-test.true) in
    rw c.argument_of-one.ensures (at-later _ _ (argument_of c.args.types.now c.loop-input.input) c.loop-input.invariant.grows (c.requires.arguments.each c.loop-input.input inside))

pub loop-input-preserved : goal.loop-input-preserved
loop-input-preserved c =
    let i : ℕ = c.loop-input.input in
    let inside : i < length c.args.types.now = omega (arith, c.loop-input-test.true) in
    let chosen = rw c.argument_of-one.ensures at c.join-bit.ensures in
    made-map (λ numbers. OfArguments c.args.types.now numbers
    (λ values. numbers c.join-bit.result.place ≡ stored_truth (truth_of c.args.joining (take (i + 1) values))))
    (made-both c.loop-input.invariant chosen)
    (λ numbers has p. joined-more c.args.types.now numbers c.args.joining i (numbers c.loop-input.bit.place) (numbers c.join-bit.result.place) inside p.0 p.1)

pub returns : goal.returns
returns c =
    made-map (λ numbers. OfArguments c.args.types.now numbers (λ values. numbers c.loop-input.bit.place ≡ stored_truth (truth_of c.args.joining values))) c.loop-input.invariant
    (λ numbers has p. of-all c.args.types.now numbers
    (λ (values : List ℤ). numbers c.loop-input.bit.place ≡ stored_truth (truth_of c.args.joining values))
    c.loop-input.input (omega (arith, c.loop-input-test.false)) p)
