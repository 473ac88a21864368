use Rattle.std.proofs.Common.{arith}
use Rattle.fx_type.specs.Conversion.{Converts}
use Rattle.dg_model.specs.Operation.{type_of, without_frac}
use Rattle.hw_lower.proofs.Arguments.{without-type, without-word, without-none}
use Rattle.hw_lower.proofs.StepChains.{made-map}
use Rattle.hw_lower.proofs.planning.plan_store.Goals as goal

pub convert-requires-clause-at : goal.convert-requires-clause-at
convert-requires-clause-at c = rw c.argument_of-from.ensures (c.requires.can.arguments.each 0 (omega (arith, c.requires.single)))

pub convert-requires-clause-to : goal.convert-requires-clause-to
convert-requires-clause-to c = rw c.without_frac-to.ensures (without-type c.args.call.now.result c.requires.can.prepared.result)

pub returns : goal.returns
returns c =
    made-map (λ numbers. Converts (numbers 0) (without_frac (type_of c.args.call.now.types.now 0))
    (without_frac c.args.call.now.result) c.args.call.now.rounding c.args.call.now.saturate
    (numbers c.convert.result.place)) (rw
    (c.without_frac-to.ensures, c.argument_of-from.ensures, without-word c.args.call.now.result) at
    c.convert.ensures)
    (λ numbers has p. p (without_frac (type_of c.args.call.now.types.now 0)) (without-none (type_of c.args.call.now.types.now 0)))
