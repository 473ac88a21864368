-- An accumulator's type, step by step.
use Rattle.std.proofs.Common.{◌≡◌, ℕ, suc, add-one, ◌+◌, ◌<◌, ◌≤◌, Bool, true, false, List, [], ◌∷◌, length, drop, get_or, Option, Some, None, is_some, refl, sym, ap, ◌∙◌, arith}
use Rattle.std.proofs.lemmas.List.{drop_more, drop_all}
use Rattle.fx_type.specs.declared.kind.FxType.{FxType}
use Rattle.fx_type.specs.FullType.{Terms}
use Rattle.fx_type.specs.FullTypeOf.{full_sum_of}
use Rattle.dg_model.specs.TypeRounds.{stepped, stepped_first, with_known}

module _ (accum : FxType) (terms : Terms) (i : ℕ) (term : Bool × FxType) (inside : i < length terms) (o : Option FxType) (sum : o ≡ full_sum_of ((false, accum) ∷ get_or terms i term ∷ [])) where
  here : stepped accum (drop i terms) ≡ with_known o (λ full. stepped accum (drop (i + 1) terms))
  here =
      ap (stepped accum) (drop_more terms i term inside)
      ∙ sym (ap (λ (p : Option FxType). with_known p (λ full. stepped accum (drop (i + 1) terms))) sum)

  pub step_fails : is_some o ≡ false → stepped accum (drop i terms) ≡ stepped accum terms → None ≡ stepped accum terms
  step_fails none before = go o none here
    where
      go : (o : Option FxType) → is_some o ≡ false → stepped accum (drop i terms) ≡ with_known o (λ full. stepped accum (drop (i + 1) terms)) → None ≡ stepped accum terms
      go None none here = sym here ∙ before
      go (Some full) none here = cc

  pub step_goes : is_some o ≡ true → stepped accum (drop i terms) ≡ stepped accum terms → stepped accum (drop (i + 1) terms) ≡ stepped accum terms
  step_goes some before = go o some here
    where
      go : (o : Option FxType) → is_some o ≡ true → stepped accum (drop i terms) ≡ with_known o (λ full. stepped accum (drop (i + 1) terms)) → stepped accum (drop (i + 1) terms) ≡ stepped accum terms
      go None some here = cc
      go (Some full) some here = sym here ∙ before

pub step_ends : (accum : FxType) (terms : Terms) (i : ℕ) → length terms ≤ i → stepped accum (drop i terms) ≡ stepped accum terms → Some accum ≡ stepped accum terms
step_ends accum terms i past before = sym (ap (stepped accum) (drop_all i terms past)) ∙ before

pub first_steps : (terms : Terms) (term : Bool × FxType) (o : Option FxType) → 1 ≤ length terms → o ≡ stepped (get_or terms 0 term).1 terms → o ≡ stepped_first terms
first_steps [] term o some e = absurd (omega (arith, some))
first_steps (t ∷ terms) term o some e = e
