use Rattle.std.proofs.Common.{◌≡◌, ◌+◌, ◌-◌, ℕ, Bool, cond, ℤ, pos, ◌-ℤ◌, to_z, of_z, Some, ap, sym, ◌∙◌, arith}
use Rattle.std.specs.Int.{w16}
use Rattle.std.specs.List.{find, range_with_len}
use Rattle.std.proofs.lemmas.Int.{ints}
use Rattle.fx_type.specs.declared.kind.FxType.TheVariants.{Num}
use Rattle.fx_type.specs.StoredOf.{rounded_of, is_in_range}
use Rattle.dg_model.specs.GainParam.{frac_down}
use Rattle.dg_types.specs.inner.TypeFit.{at_step}
use Rattle.math_list.proofs.Places.{search_step}
use Rattle.dg_types.proofs.typed_param.fitting_step.Goals as goal
use Rattle.dg_types.proofs.typed_param.fitting_step.Goals.{After-fits_at}

abbrev test : After-fits_at → ℕ → Bool
test c = at_step c.args.decimal c.args.signed c.args.width

fits : (c : After-fits_at) → c.fits_at.result ≡ test c c.loop-k.k
fits c =
    let frac : to_z w16 (of_z w16 (pos 128 -ℤ to_z w16 (of_z w16 c.from.result))) ≡ frac_down c.loop-k.k = omega (arith, ints, c.from.ensures, c.loop-k-test.true) in
    c.fits_at.ensures ∙ ap (λ (z : ℤ). is_in_range (Num c.args.signed c.args.width z) (rounded_of c.args.decimal z)) frac

-- what is found from here on, by whether the step fits
found : (c : After-fits_at) (b : Bool) → c.fits_at.result ≡ b
    → find (test c) (range_with_len c.loop-k.k (193 - c.loop-k.k))
    ≡ cond b (Some c.loop-k.k) (find (test c) (range_with_len (c.loop-k.k + 1) (193 - (c.loop-k.k + 1))))
found c b is =
    let k = c.loop-k.k in
    search_step (test c) k 193 c.loop-k-test.true ∙ ap (λ (b : Bool). cond b (Some k) (find (test c) (range_with_len (k + 1) (193 - (k + 1))))) (sym (fits c) ∙ is)

pub returns-then-fits_at : goal.returns-then-fits_at
returns-then-fits_at c = sym (found (goal.at.returns-then-fits_at c).After-fits_at _ c.if-fits_at.true) ∙ c.loop-k.invariant

pub loop-k-preserved : goal.loop-k-preserved
loop-k-preserved c = sym (found (goal.at.loop-k-preserved c).After-fits_at _ c.if-fits_at.false) ∙ c.loop-k.invariant
