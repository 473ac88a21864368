use Rattle.std.proofs.Common.{◌≡◌, subst, sym, arith}
use Rattle.std.specs.Int.{w128}
use Rattle.std.proofs.lemmas.Int.{to_z-of_z}
use Rattle.fx_type.specs.FxType.{InRange}
use Rattle.dg_model.specs.Operation.{operation_of, type_of, value_of}
use Rattle.hw_lower.specs.inner.PlanSteps.{word_of}
use Rattle.hw_lower.specs.inner.Spread.{OfArguments, IsScaled, argument_of}
use Rattle.hw_lower.proofs.Arguments.{range-at, scaled-at}
use Rattle.hw_lower.proofs.PlanSteps.{at-later, constant-made}
use Rattle.fx_type.proofs.Ranges.{type-word, range-word}
use Rattle.hw_lower.proofs.Multiplies.{made-behind}
use Rattle.hw_lower.proofs.planning.plan_gain.Goals as goal

pub convert_product-requires-clause-one : goal.convert_product-requires-clause-one
convert_product-requires-clause-one c =
    let own = to_z-of_z w128 c.args.coefficient c.ranges.coefficient in
    let put = rw (own, c.word_of.ensures) at c.put_alone-from.ensures in
    let made = constant-made _ _ c.args.coefficient (word_of c.args.param) c.put_alone-from.result
    (type-word c.args.param c.requires.param)
    (range-word c.args.param c.args.coefficient c.requires.coefficient) put in
    rw c.side_of-one.ensures (at-later _ _ (argument_of c.args.call.now.types.now 0) made.grows (c.requires.can.arguments.each 0 (omega (arith, c.requires.single))))

pub convert_product-requires-clause-other : goal.convert_product-requires-clause-other
convert_product-requires-clause-other c =
    let own = to_z-of_z w128 c.args.coefficient c.ranges.coefficient in
    let put = rw (own, c.word_of.ensures) at c.put_alone-from.ensures in
    (constant-made _ _ c.args.coefficient (word_of c.args.param) c.put_alone-from.result
    (type-word c.args.param c.requires.param)
    (range-word c.args.param c.args.coefficient c.requires.coefficient) put).at

pub convert_product-requires-clause-left : goal.convert_product-requires-clause-left
convert_product-requires-clause-left c = rw c.side_of-one.ensures (c.requires.can.prepared.types 0 _ (omega (arith, c.requires.single)))

pub convert_product-requires-clause-full : goal.convert_product-requires-clause-full
convert_product-requires-clause-full c = rw c.side_of-one.ensures c.requires.full

pub returns : goal.returns
returns c =
    let own = to_z-of_z w128 c.args.coefficient c.ranges.coefficient in
    let put = rw (own, c.word_of.ensures) at c.put_alone-from.ensures in
    let made = constant-made _ _ c.args.coefficient (word_of c.args.param) c.put_alone-from.result
    (type-word c.args.param c.requires.param)
    (range-word c.args.param c.args.coefficient c.requires.coefficient) put in
    made-behind (λ numbers. OfArguments c.args.call.now.types.now numbers
    (λ values. IsScaled (operation_of c.args.call.now) (type_of c.args.call.now.types.now 0) c.args.param
    (value_of values 0) c.args.coefficient (numbers c.convert_product.result.place)))
    made put (rw c.side_of-one.ensures at c.convert_product.ensures)
    (λ numbers p q values are.
    let one : numbers 0 ≡ value_of values 0 = are.each 0 (omega (arith, c.requires.single)) in
    let range : InRange c.args.param (numbers c.put_alone-from.result.place) = subst (InRange c.args.param) (sym p) c.requires.coefficient in
    scaled-at (operation_of c.args.call.now) (type_of c.args.call.now.types.now 0) c.args.param (numbers 0)
    (numbers c.put_alone-from.result.place) (value_of values 0) c.args.coefficient
    (numbers c.convert_product.result.place) one p
    (q (range-at c.args.call.now.types.now numbers values 0 are (omega (arith, c.requires.single))) range))

pub convert_product-requires-clause-result : goal.convert_product-requires-clause-result
convert_product-requires-clause-result c = c.requires.can.prepared.result
