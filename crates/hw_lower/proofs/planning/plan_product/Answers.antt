use Rattle.std.proofs.Common.{arith}
use Rattle.dg_model.specs.Operation.{operation_of, type_of, value_of}
use Rattle.hw_lower.specs.inner.Spread.{OfArguments, IsScaled}
use Rattle.hw_lower.proofs.Arguments.{range-at, scaled-at}
use Rattle.hw_lower.proofs.Multiplies.{planned-map}
use Rattle.hw_lower.proofs.planning.plan_product.Goals as goal

pub convert_product-requires-clause-one : goal.convert_product-requires-clause-one
convert_product-requires-clause-one c = rw c.side_of-one.ensures (c.requires.can.arguments.each 0 (omega (arith, c.requires.two)))

pub convert_product-requires-clause-other : goal.convert_product-requires-clause-other
convert_product-requires-clause-other c = rw c.side_of-other.ensures (c.requires.can.arguments.each 1 (omega (arith, c.requires.two)))

pub convert_product-requires-clause-left : goal.convert_product-requires-clause-left
convert_product-requires-clause-left c = rw c.side_of-one.ensures (c.requires.can.prepared.types 0 _ (omega (arith, c.requires.two)))

pub convert_product-requires-clause-right : goal.convert_product-requires-clause-right
convert_product-requires-clause-right c = rw c.side_of-other.ensures (c.requires.can.prepared.types 1 _ (omega (arith, c.requires.two)))

pub convert_product-requires-clause-full : goal.convert_product-requires-clause-full
convert_product-requires-clause-full c = rw (c.side_of-one.ensures, c.side_of-other.ensures) c.requires.full

pub returns : goal.returns
returns c =
    planned-map (λ numbers. OfArguments c.args.call.now.types.now numbers
    (λ values. IsScaled (operation_of c.args.call.now) (type_of c.args.call.now.types.now 0)
    (type_of c.args.call.now.types.now 1) (value_of values 0) (value_of values 1)
    (numbers c.convert_product.result.place)))
    (rw (c.side_of-one.ensures, c.side_of-other.ensures) at c.convert_product.ensures)
    (λ numbers q values are.
    scaled-at (operation_of c.args.call.now) (type_of c.args.call.now.types.now 0)
    (type_of c.args.call.now.types.now 1) (numbers 0) (numbers 1) (value_of values 0) (value_of values 1)
    (numbers c.convert_product.result.place)
    (are.each 0 (omega (arith, c.requires.two))) (are.each 1 (omega (arith, c.requires.two)))
    (q (range-at c.args.call.now.types.now numbers values 0 are (omega (arith, c.requires.two))) (range-at c.args.call.now.types.now numbers values 1 are (omega (arith, c.requires.two)))))

pub convert_product-requires-clause-result : goal.convert_product-requires-clause-result
convert_product-requires-clause-result c = c.requires.can.prepared.result
