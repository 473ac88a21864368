use Rattle.std.proofs.Common.{◌≡◌, ◌∷◌, [], ◌∙◌, ℤ, false, to_z, of_z, refl, subst, arith}
use Rattle.std.specs.Int.{w16}
use Rattle.std.proofs.lemmas.Int.{to_z-of_z}
use Rattle.fx_type.specs.FxType.{InRange, frac_of}
use Rattle.fx_type.specs.Conversion.{Converts}
use Rattle.dg_model.specs.Operation.{operation_of, IsStep}
use Rattle.hw_lower.proofs.StepChains.{made-then}
use Rattle.hw_lower.proofs.PlanSteps.{at-later}
use Rattle.hw_lower.proofs.SumTerms.{full-fracs, full-word, full-above, two-total}
use Rattle.hw_lower.proofs.planning.plan_step.Goals as goal
use Rattle.hw_lower.proofs.planning.plan_step.Goals.{After-frac-frac}

-- the frac as 16 bits have it
own_frac : (c : After-frac-frac) → to_z w16 (of_z w16 c.frac-frac.result) ≡ frac_of c.sum_type-full.result
own_frac c = to_z-of_z w16 c.frac-frac.result (record { sfits = c.frac-frac.type_inv }) ∙ c.frac-frac.ensures

pub align-total-requires : goal.align-total-requires
align-total-requires c =
    let full = c.sum_type-full.result in
    rw (c.word_of-word.ensures, own_frac (goal.at.align-total-requires c).After-frac-frac) (record {
      at = c.requires.before;
      kind = c.requires.accum;
      above = full-above (false ∷ c.args.negative ∷ []) (c.args.before.kind ∷ c.args.side.kind ∷ []) full refl c.sum_type-full.ensures 0 c.args.before.kind (omega arith);
      high = (full-fracs ((false, c.args.before.kind) ∷ (c.args.negative, c.args.side.kind) ∷ []) full c.sum_type-full.ensures).1;
      word = full-word ((false, c.args.before.kind) ∷ (c.args.negative, c.args.side.kind) ∷ []) full c.sum_type-full.ensures;
    })

pub add_term-exact-requires-clause-can : goal.add_term-exact-requires-clause-can
add_term-exact-requires-clause-can c =
    let full = c.sum_type-full.result in
    rw (c.word_of-word.ensures, own_frac (goal.at.add_term-exact-requires-clause-can c).After-frac-frac) (record {
      at = at-later _ _ c.args.side.from c.align-total.ensures.grows c.requires.at;
      kind = c.requires.kind;
      above = full-above (false ∷ c.args.negative ∷ []) (c.args.before.kind ∷ c.args.side.kind ∷ []) full refl c.sum_type-full.ensures 1 c.args.before.kind (omega arith);
      high = (full-fracs ((false, c.args.before.kind) ∷ (c.args.negative, c.args.side.kind) ∷ []) full c.sum_type-full.ensures).1;
      word = full-word ((false, c.args.before.kind) ∷ (c.args.negative, c.args.side.kind) ∷ []) full c.sum_type-full.ensures;
    })

pub returns : goal.returns
returns c =
    let full = c.sum_type-full.result in
    let f = own_frac (goal.at.returns c).After-frac-frac in
    let own = c.args.before.kind in
    let other = c.args.side.kind in
    let call = c.args.call.now in
    made-then (λ numbers. InRange own (numbers c.args.before.from.place) → InRange other (numbers c.args.side.from.place)
    → IsStep (operation_of call) own (c.args.negative, other) (numbers c.args.side.from.place) (numbers c.args.before.from.place) (numbers c.convert.result.place))
    (made-then (λ numbers. InRange own (numbers c.args.before.from.place) → InRange other (numbers c.args.side.from.place)
    → numbers c.add_term-exact.result.place ≡ _) (rw (c.word_of-word.ensures, f) at c.align-total.ensures) (rw (c.word_of-word.ensures, f) at c.add_term-exact.ensures)
    (λ numbers has later p q r0 r1. two-total own other c.args.negative full (numbers c.args.before.from.place)
    (numbers c.args.side.from.place) (numbers c.align-total.result.place)
    (numbers c.add_term-exact.result.place) c.sum_type-full.ensures r0 r1 p q))
    (rw f at c.convert.ensures)
    (λ numbers has later p q r0 r1. (full, c.sum_type-full.ensures, subst (λ (z : ℤ). Converts z full own call.rounding call.saturate (numbers c.convert.result.place)) (p r0 r1) (q full refl)))
