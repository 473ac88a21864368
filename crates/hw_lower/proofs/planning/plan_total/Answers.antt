use Rattle.std.proofs.Common.{◌≡◌, ◌∙◌, ℤ, to_z, of_z, refl, subst, sym}
use Rattle.std.specs.Prelude.{zip}
use Rattle.std.specs.Int.{w16}
use Rattle.std.proofs.lemmas.Int.{to_z-of_z}
use Rattle.fx_type.specs.FxType.{frac_of}
use Rattle.dg_model.specs.declared.op.Op.{Op}
use Rattle.dg_model.specs.Operation.{operation_of, Gives, IsConverted}
use Rattle.hw_lower.specs.Lowered.{GivesOfTotals}
use Rattle.hw_lower.specs.inner.Spread.{OfArguments}
use Rattle.hw_lower.proofs.Multiplies.{made-plain}
use Rattle.hw_lower.proofs.StepChains.{made-then}
use Rattle.hw_lower.proofs.SumTerms.{full-fracs, full-word, congruent-whole}
use Rattle.hw_lower.proofs.planning.plan_total.Goals as goal
use Rattle.hw_lower.proofs.planning.plan_total.Goals.{After-frac-frac}

frac_is : (c : After-frac-frac) → to_z w16 (of_z w16 c.frac-frac.result) ≡ frac_of c.args.full
frac_is c = to_z-of_z w16 c.frac-frac.result (record { sfits = c.frac-frac.type_inv }) ∙ c.frac-frac.ensures

pub add_up-exact-requires-clause-terms : goal.add_up-exact-requires-clause-terms
add_up-exact-requires-clause-terms c = record { arguments = c.requires.arguments; signed = c.requires.can.signed; some = c.requires.can.some; few = c.requires.can.few; valid = c.requires.can.valid }

pub add_up-exact-requires-clause-above : goal.add_up-exact-requires-clause-above
add_up-exact-requires-clause-above c = (let f = frac_is (goal.at.add_up-exact-requires-clause-above c).After-frac-frac in rw f c.requires.can.above)

pub add_up-exact-requires-clause-high : goal.add_up-exact-requires-clause-high
add_up-exact-requires-clause-high c = (let f = frac_is (goal.at.add_up-exact-requires-clause-high c).After-frac-frac in
    rw f (full-fracs (zip c.args.call.now.signs.now c.args.call.now.types.now) c.args.full c.requires.can.is_full).1)

pub add_up-exact-requires-clause-word : goal.add_up-exact-requires-clause-word
add_up-exact-requires-clause-word c = rw c.word_of.ensures (full-word (zip c.args.call.now.signs.now c.args.call.now.types.now) c.args.full c.requires.can.is_full)

pub convert_to_result-requires-clause-low : goal.convert_to_result-requires-clause-low
convert_to_result-requires-clause-low c = (let f = frac_is (goal.at.convert_to_result-requires-clause-low c).After-frac-frac in
    rw f (full-fracs (zip c.args.call.now.signs.now c.args.call.now.types.now) c.args.full c.requires.can.is_full).0)

pub convert_to_result-requires-clause-high : goal.convert_to_result-requires-clause-high
convert_to_result-requires-clause-high c = (let f = frac_is (goal.at.convert_to_result-requires-clause-high c).After-frac-frac in
    rw f (full-fracs (zip c.args.call.now.signs.now c.args.call.now.types.now) c.args.full c.requires.can.is_full).1)

pub convert_to_result-requires-clause-result : goal.convert_to_result-requires-clause-result
convert_to_result-requires-clause-result c = c.requires.can.result

pub convert_to_result-requires-clause-at : goal.convert_to_result-requires-clause-at
convert_to_result-requires-clause-at c = c.add_up-exact.ensures.at

pub returns : goal.returns
returns c =
    let f = frac_is (goal.at.returns c).After-frac-frac in
    made-plain (λ numbers. OfArguments c.args.types.now numbers (λ given. GivesOfTotals (operation_of c.args.call.now) c.args.full c.args.signs.now c.args.types.now given
    (numbers c.convert_to_result.result.place)))
    (made-then (λ numbers. OfArguments c.args.types.now numbers (λ given. GivesOfTotals (operation_of c.args.call.now) c.args.full c.args.signs.now c.args.types.now given
    (numbers c.convert_to_result.result.place)))
    (rw (c.word_of.ensures, f) at c.add_up-exact.ensures) (rw f at c.convert_to_result.ensures)
    (λ numbers has later p q given are values in_range near.
    let exact = congruent-whole c.args.call.now.signs.now c.args.call.now.types.now c.args.full values _
    (numbers c.add_up-exact.result.place) c.requires.can.own_signs c.requires.can.is_full in_range (p given are) near in
    subst (λ (o : Op). Gives o (operation_of c.args.call.now) c.args.call.now.types.now values (numbers c.convert_to_result.result.place)) (sym c.requires.can.op) (
      c.args.full,
      c.requires.can.is_full,
      subst (λ (z : ℤ). IsConverted (operation_of c.args.call.now) z c.args.full (numbers c.convert_to_result.result.place)) exact (q c.args.full refl),
    )))
    (λ numbers p. p)
