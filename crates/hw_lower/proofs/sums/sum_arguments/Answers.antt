use Rattle.std.proofs.Common.{◌≡◌, ◌∙◌, to_z, of_z}
use Rattle.std.specs.Prelude.{zip}
use Rattle.std.specs.Int.{w16}
use Rattle.std.proofs.lemmas.Int.{to_z-of_z}
use Rattle.fx_type.specs.FxType.{frac_of}
use Rattle.dg_model.specs.Operation.{signed_sum}
use Rattle.hw_lower.specs.inner.Spread.{OfArguments}
use Rattle.hw_lower.proofs.StepChains.{made-map}
use Rattle.hw_lower.proofs.SumTerms.{full-fracs, full-word, full-above, whole-is}
use Rattle.hw_lower.proofs.sums.sum_arguments.Goals as goal
use Rattle.hw_lower.proofs.sums.sum_arguments.Goals.{After-frac}

-- the frac of the full type, as 16 bits have it
own_frac : (c : After-frac) → to_z w16 (of_z w16 c.frac.result) ≡ frac_of c.args.full
own_frac c = to_z-of_z w16 c.frac.result (record { sfits = c.frac.type_inv }) ∙ c.frac.ensures

pub add_up-requires-clause-above : goal.add_up-requires-clause-above
add_up-requires-clause-above c =
    let f = own_frac (goal.at.add_up-requires-clause-above c).After-frac in
    rw f (full-above c.args.signs.now c.args.types.now c.args.full c.requires.terms.signed c.requires.full)

pub add_up-requires-clause-high : goal.add_up-requires-clause-high
add_up-requires-clause-high c =
    let f = own_frac (goal.at.add_up-requires-clause-high c).After-frac in
    rw f (full-fracs (zip c.args.signs.now c.args.types.now) c.args.full c.requires.full).1

pub add_up-requires-clause-word : goal.add_up-requires-clause-word
add_up-requires-clause-word c = rw c.word_of.ensures (full-word (zip c.args.signs.now c.args.types.now) c.args.full c.requires.full)

pub returns : goal.returns
returns c =
    let f = own_frac (goal.at.returns c).After-frac in
    made-map (λ numbers. OfArguments c.args.types.now numbers (λ values. numbers c.add_up.result.place ≡ signed_sum (frac_of c.args.full) (zip c.args.signs.now c.args.types.now) values))
    (rw (c.word_of.ensures, f) at c.add_up.ensures)
    (λ numbers has p values are. whole-is c.args.signs.now c.args.types.now c.args.full values (numbers c.add_up.result.place) c.requires.terms.signed c.requires.full are.in_range (p values are))
