use Rattle.std.proofs.Common.{◌≡◌, ◌∙◌, ℤ, to_z, of_z, refl, subst}
use Rattle.std.specs.Prelude.{zip}
use Rattle.std.specs.Int.{w16}
use Rattle.std.proofs.lemmas.Int.{to_z-of_z}
use Rattle.fx_type.specs.declared.kind.FxType.{FxType}
use Rattle.fx_type.specs.FxType.{frac_of}
use Rattle.fx_type.specs.FullType.{IsFullSum}
use Rattle.dg_model.specs.Operation.{operation_of, IsConverted, signed_sum}
use Rattle.hw_lower.specs.inner.Spread.{OfArguments}
use Rattle.hw_lower.proofs.StepChains.{made-then}
use Rattle.hw_lower.proofs.SumTerms.{full-fracs}
use Rattle.hw_lower.proofs.planning.plan_sum.Goals as goal
use Rattle.hw_lower.proofs.planning.plan_sum.Goals.{After-frac}

-- the frac as 16 bits have it
frac_is : (c : After-frac) → to_z w16 (of_z w16 c.frac.result) ≡ frac_of c.sum_type-full.result
frac_is c = to_z-of_z w16 c.frac.result (record { sfits = c.frac.type_inv }) ∙ c.frac.ensures

pub convert_to_result-requires-clause-low : goal.convert_to_result-requires-clause-low
convert_to_result-requires-clause-low c =
    let f = frac_is (goal.at.convert_to_result-requires-clause-low c).After-frac in
    rw f (full-fracs (zip c.args.call.now.signs.now c.args.call.now.types.now) c.sum_type-full.result c.sum_type-full.ensures).0

pub convert_to_result-requires-clause-high : goal.convert_to_result-requires-clause-high
convert_to_result-requires-clause-high c =
    let f = frac_is (goal.at.convert_to_result-requires-clause-high c).After-frac in
    rw f (full-fracs (zip c.args.call.now.signs.now c.args.call.now.types.now) c.sum_type-full.result c.sum_type-full.ensures).1

pub returns : goal.returns
returns c =
    let f = frac_is (goal.at.returns c).After-frac in
    made-then (λ numbers. OfArguments c.args.call.now.types.now numbers
    (λ values. (full : FxType) × IsFullSum (zip c.args.call.now.signs.now c.args.call.now.types.now) full
    × IsConverted (operation_of c.args.call.now)
    (signed_sum (frac_of full) (zip c.args.call.now.signs.now c.args.call.now.types.now) values) full
    (numbers c.convert_to_result.result.place))) c.sum_arguments-exact.ensures
    (rw f at c.convert_to_result.ensures)
    (λ numbers has later p q values are. (
      c.sum_type-full.result,
      c.sum_type-full.ensures,
      subst (λ (z : ℤ). IsConverted (operation_of c.args.call.now) z c.sum_type-full.result (numbers c.convert_to_result.result.place)) (p values are) (q c.sum_type-full.result refl),
    ))

pub sum_arguments-exact-requires-clause-terms : goal.sum_arguments-exact-requires-clause-terms
sum_arguments-exact-requires-clause-terms c =
    record {
      arguments = c.requires.can.arguments;
      signed =
          c.requires.signs;
      some = c.requires.some;
      few = c.requires.few;
      valid = c.requires.can.prepared.types;
    }

pub convert_to_result-requires-clause-result : goal.convert_to_result-requires-clause-result
convert_to_result-requires-clause-result c = c.requires.can.prepared.result

pub sum_type-full-requires-clause-types : goal.sum_type-full-requires-clause-types
sum_type-full-requires-clause-types c = c.requires.can.prepared.types
