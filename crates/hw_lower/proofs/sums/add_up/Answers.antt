use Rattle.std.proofs.Common.{◌+◌, ◌<◌, ℕ, length, arith}
use Rattle.std.specs.Prelude.{zip}
use Rattle.std.specs.Int.{w16}
use Rattle.std.proofs.lemmas.Int.{to_z-of_z}
use Rattle.math_num.specs.Word.{IsWrapped}
use Rattle.dg_model.specs.Operation.{signed_sum}
use Rattle.hw_lower.specs.inner.Spread.{OfArguments, argument_of}
use Rattle.hw_lower.proofs.PlanSteps.{at-later}
use Rattle.hw_lower.proofs.StepChains.{made-both, made-map}
use Rattle.hw_lower.proofs.SumTerms.{IsTotal, total-more, total-cut}
use Rattle.hw_lower.proofs.sums.add_up.Goals as goal

pub first_term-first-requires-clause-above : goal.first_term-first-requires-clause-above
first_term-first-requires-clause-above c = rw (to_z-of_z w16 c.args.frac c.ranges.frac) c.requires.above

pub first_term-first-requires-clause-high : goal.first_term-first-requires-clause-high
first_term-first-requires-clause-high c = rw (to_z-of_z w16 c.args.frac c.ranges.frac) c.requires.high

pub loop-input-init : goal.loop-input-init
loop-input-init c =
    let f = to_z-of_z w16 c.args.frac c.ranges.frac in
    rw f (rw f at c.first_term-first.ensures)

pub add_term-total-requires-clause-can : goal.add_term-total-requires-clause-can
add_term-total-requires-clause-can c =
    let inside : c.loop-input.input < length c.args.types.now = omega (arith, c.loop-input-test.true) in
    rw (c.side_of-side.ensures, to_z-of_z w16 c.args.frac c.ranges.frac) (record {
      at = at-later _ _ (argument_of c.args.types.now c.loop-input.input) c.loop-input.invariant.grows (c.requires.terms.arguments.each c.loop-input.input inside);
      kind = c.requires.terms.valid c.loop-input.input _ inside;
      above = c.requires.above c.loop-input.input _ inside;
      high = c.requires.high;
      word = c.requires.word;
    })

pub loop-input-preserved : goal.loop-input-preserved
loop-input-preserved c =
    let f = to_z-of_z w16 c.args.frac c.ranges.frac in
    let i : ℕ = c.loop-input.input in
    let inside : i < length c.args.types.now = omega (arith, c.loop-input-test.true) in
    rw f (made-map (λ numbers. IsTotal c.args.frac c.args.signs.now c.args.types.now c.args.word.width c.args.word.signed numbers (i + 1) (numbers c.add_term-total.result.place))
    (made-both (rw f at c.loop-input.invariant) (rw (c.side_of-side.ensures, f) at c.add_term-total.ensures))
    (λ numbers has p. total-more c.args.frac c.args.signs.now c.args.types.now c.args.word.width c.args.word.signed numbers c.requires.terms.signed i (numbers c.loop-input.total.place)
    (numbers c.add_term-total.result.place) inside p.0 p.1))

pub returns : goal.returns
returns c =
    made-map (λ numbers. OfArguments c.args.types.now numbers
    (λ values. IsWrapped (signed_sum c.args.frac (zip c.args.signs.now c.args.types.now) values) c.args.word.width c.args.word.signed (numbers c.loop-input.total.place)))
    (rw (to_z-of_z w16 c.args.frac c.ranges.frac) at c.loop-input.invariant)
    (λ numbers has p. total-cut c.args.frac c.args.signs.now c.args.types.now c.args.word.width c.args.word.signed numbers c.loop-input.input (numbers c.loop-input.total.place) c.requires.terms.signed
    (omega (arith, c.loop-input-test.false)) p)
