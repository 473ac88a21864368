use Rattle.std.proofs.Common.{◌≡◌, ◌∙◌, to_z, of_z, refl}
use Rattle.std.specs.Int.{w16}
use Rattle.std.proofs.lemmas.Int.{to_z-of_z}
use Rattle.fx_type.specs.FxType.{frac_of}
use Rattle.fx_type.proofs.Ranges.{frac_bounds}
use Rattle.dg_model.specs.Operation.{operation_of, IsConverted, type_of}
use Rattle.hw_lower.proofs.StepChains.{made-map}
use Rattle.hw_lower.proofs.planning.convert_argument.Goals as goal
use Rattle.hw_lower.proofs.planning.convert_argument.Goals.{After-frac-frac}

-- the frac as 16 bits have it
frac_is : (c : After-frac-frac) → to_z w16 (of_z w16 c.frac-frac.result) ≡ frac_of (type_of c.args.call.now.types.now c.args.input)
frac_is c = to_z-of_z w16 c.frac-frac.result (record { sfits = c.frac-frac.type_inv }) ∙ c.frac-frac.ensures

pub convert_to_result-requires-clause-at : goal.convert_to_result-requires-clause-at
convert_to_result-requires-clause-at c = rw c.argument_of-from.ensures (c.requires.can.arguments.each c.args.input c.requires.inside)

pub convert_to_result-requires-clause-low : goal.convert_to_result-requires-clause-low
convert_to_result-requires-clause-low c =
    let f = frac_is (goal.at.convert_to_result-requires-clause-low c).After-frac-frac in
    rw f (frac_bounds (type_of c.args.call.now.types.now c.args.input) (c.requires.can.prepared.types c.args.input _ c.requires.inside)).0

pub convert_to_result-requires-clause-high : goal.convert_to_result-requires-clause-high
convert_to_result-requires-clause-high c =
    let f = frac_is (goal.at.convert_to_result-requires-clause-high c).After-frac-frac in
    rw f (frac_bounds (type_of c.args.call.now.types.now c.args.input) (c.requires.can.prepared.types c.args.input _ c.requires.inside)).1

pub returns : goal.returns
returns c =
    let f = frac_is (goal.at.returns c).After-frac-frac in
    made-map (λ numbers. IsConverted (operation_of c.args.call.now) (numbers c.args.input)
    (type_of c.args.call.now.types.now c.args.input) (numbers c.convert_to_result.result.place))
    (rw (c.argument_of-from.ensures, f) at c.convert_to_result.ensures)
    (λ numbers has p. p (type_of c.args.call.now.types.now c.args.input) refl)

pub convert_to_result-requires-clause-result : goal.convert_to_result-requires-clause-result
convert_to_result-requires-clause-result c = c.requires.can.prepared.result
