-- The function of a Gain's parameter type gives what the relation allows.
use Rattle.std.proofs.Common.{◌≡◌, ℕ, ◌+◌, ◌<◌, Bool, true, false, cond, List, Option, Some, None, ℤ, pos, negsuc, ◌-ℤ◌, ◌≤ℤ◌, MatchBool, ap, sym, ◌∙◌, refl, subst, arith, true≢false}
use Rattle.std.specs.Prelude.{◌↔◌}
use Rattle.std.specs.Bool.{Decides}
use Rattle.std.specs.List.{find, list_all, range_with_len}
use Rattle.std.specs.Option.{option_map}
use Rattle.std.proofs.lemmas.Bool.Decides.{Decides-by_and}
use Rattle.std.proofs.lemmas.Int.{ints, by_lt_z}
use Rattle.fx_type.specs.declared.kind.FxType.{FxType}
use Rattle.fx_type.specs.declared.kind.FxType.TheVariants.{Num}
use Rattle.fx_type.specs.declared.spec.TypeSpec.TheVariants.{Fixed, Internal, SameFirst, Auto}
use Rattle.fx_type.specs.declared.decimal.Decimal.{Decimal}
use Rattle.fx_type.specs.FxType.{InRange}
use Rattle.fx_type.specs.Conversion.{Stores}
use Rattle.fx_type.specs.StoredOf.{rounded_of, is_in_range}
use Rattle.std.proofs.lemmas.Option.{same_Some}
use Rattle.math_list.proofs.Searches.{Some≢None, one_answer, IsFirst, NonePasses, found, not_found}
use Rattle.fx_type.proofs.Decimals.{nearest_only, rounded_rounds, Decides-in_range}
use Rattle.dg_model.specs.GainParam.{is_zero, is_param_signed, param_width, FitsAt, IsGreatestFit, IsInternalParam, fits_at, frac_down, greatest_fit_of, internal_param_of, ParamTypeIsOne}

Decides-element : (s : Bool) (w : ℕ) (f : ℤ) (decimal : Decimal)
    → Decides (is_in_range (Num s w f) (rounded_of decimal f))
    ((r : ℤ) × (stored : Stores decimal (Num s w f) r) × InRange (Num s w f) stored.rounded)
Decides-element s w f decimal =
    let d = Decides-in_range (Num s w f) (rounded_of decimal f) in (
      (λ e.
          let i = d.0 e in (
            rounded_of decimal f,
            record {
              rounded = rounded_of decimal f;
              rounds = rounded_rounds decimal f;
              settles = record { inside = λ _. refl; below = λ h. absurd (omega (arith, ints, h, i.low)); above = λ h. absurd (omega (arith, ints, h, i.high)) };
            },
            i,
          )),
      (λ h. d.1 (subst (InRange (Num s w f)) (nearest_only _ _ h.1.rounded (rounded_of decimal f) h.1.rounds (rounded_rounds decimal f)) h.2)),
    )

Decides-fits_at : (value : List Decimal) (s : Bool) (w : ℕ) (f : ℤ) → Decides (fits_at value s w f) (FitsAt value s w f)
Decides-fits_at value s w f =
    Decides-by_and (λ decimal. is_in_range (Num s w f) (rounded_of decimal f))
    (λ decimal. (r : ℤ) × (stored : Stores decimal (Num s w f) r) × InRange (Num s w f) stored.rounded)
    (list_all (λ decimal. is_in_range (Num s w f) (rounded_of decimal f))) (Decides-element s w f) refl (λ _ _. refl) value

-- each frac of the range is so many steps down
steps_to : (frac : ℤ) → frac ≤ℤ pos 128 → (steps : ℕ) × (frac_down steps ≡ frac)
steps_to frac h = by_sign (pos 128 -ℤ frac) refl
  where
    by_sign : (z : ℤ) → pos 128 -ℤ frac ≡ z → (steps : ℕ) × (frac_down steps ≡ frac)
    by_sign (pos steps) e = (steps, omega (arith, ints, e))
    by_sign (negsuc n) e = absurd (omega (arith, ints, e, h))

module _ (value : List Decimal) (s : Bool) (w : ℕ) where
  not_at : (steps : ℕ) (frac : ℤ) → frac_down steps ≡ frac → fits_at value s w (frac_down steps) ≡ false → ¬ FitsAt value s w frac
  not_at steps frac e t fits = true≢false (sym ((Decides-fits_at value s w (frac_down steps)).1 (subst (FitsAt value s w) (sym e) fits)) ∙ t)

  greatest_here : (steps : ℕ) → IsFirst (λ k. fits_at value s w (frac_down k)) 0 193 steps → IsGreatestFit value s w (frac_down steps)
  greatest_here steps f = record {
    low = omega (arith, ints, f.high);
    high = omega (arith, ints);
    fits = (Decides-fits_at value s w (frac_down steps)).0 f.passes;
    greatest = λ other above most.
        let at = steps_to other most in
        let less : at.0 < steps = omega (arith, ints, at.1, above) in not_at at.0 other at.1 (f.first at.0 (omega arith) less);
  }

  nowhere : NonePasses (λ k. fits_at value s w (frac_down k)) 0 193 → (frac : ℤ) → ¬ IsGreatestFit value s w frac
  nowhere none frac g =
      let at = steps_to frac g.high in
      let inside : at.0 < 0 + 193 = omega (arith, ints, at.1, g.low) in not_at at.0 frac at.1 (none at.0 (omega arith) inside) g.fits

  greatest_only : (f g : ℤ) → IsGreatestFit value s w f → IsGreatestFit value s w g → f ≡ g
  greatest_only f g p q = by_lt_z f g (λ h. absurd (p.greatest g h q.high q.fits)) (λ k. by_lt_z g f (λ h. absurd (q.greatest f h p.high p.fits)) (λ l. omega (arith, ints, k, l)))

  by_search : (o : Option ℕ) → find (λ k. fits_at value s w (frac_down k)) (range_with_len 0 193) ≡ o → (frac : ℤ) → option_map frac_down o ≡ Some frac → IsGreatestFit value s w frac
  by_search None e frac m = absurd (Some≢None _ (sym m))
  by_search (Some steps) e frac m = subst (IsGreatestFit value s w) (same_Some (frac_down steps) frac m) (greatest_here steps (found (λ k. fits_at value s w (frac_down k)) 0 193 steps e))

  none_found : (o : Option ℕ) → find (λ k. fits_at value s w (frac_down k)) (range_with_len 0 193) ≡ o → option_map frac_down o ≡ None → (frac : ℤ) → ¬ IsGreatestFit value s w frac
  none_found None e m = nowhere (not_found (λ k. fits_at value s w (frac_down k)) 0 193 e)
  none_found (Some steps) e m = absurd (Some≢None _ m)

  greatest_one : (frac : ℤ) → IsGreatestFit value s w frac ↔ (greatest_fit_of value s w ≡ Some frac)
  greatest_one = one_answer (IsGreatestFit value s w) (greatest_fit_of value s w) (by_search _ refl) (none_found _ refl) greatest_only

  frac_one : (zero : Bool) (frac : ℤ) → MatchBool zero (frac ≡ pos 0) (IsGreatestFit value s w frac) ↔ (cond zero (Some (pos 0)) (greatest_fit_of value s w) ≡ Some frac)
  frac_one true frac = ((λ e. ap Some (sym e)), (λ m. sym (same_Some (pos 0) frac m)))
  frac_one false frac = greatest_one frac

internal_one : (value : List Decimal) (input param : FxType) → IsInternalParam value input param ↔ (internal_param_of value input ≡ Some param)
internal_one value input param = (
  (λ h. ap (option_map (Num s w)) ((frac_one value s w zero h.0).0 h.2) ∙ ap Some (sym h.1)),
  by_frac _ refl,
)
  where
    s : Bool
    s = is_param_signed value input

    w : ℕ
    w = param_width value input

    zero : Bool
    zero = list_all is_zero value

    by_frac : (o : Option ℤ) → cond (list_all is_zero value) (Some (pos 0)) (greatest_fit_of value (is_param_signed value input) (param_width value input)) ≡ o
        → option_map (Num (is_param_signed value input) (param_width value input)) o ≡ Some param → IsInternalParam value input param
    by_frac None e m = absurd (Some≢None _ (sym m))
    by_frac (Some f) e m = (f, sym (same_Some _ param m), (frac_one value (is_param_signed value input) (param_width value input) (list_all is_zero value) f).1 e)

pub param_type_one : ParamTypeIsOne
param_type_one value (Fixed type) input param = ((λ e. ap Some (sym e)), (λ m. sym (same_Some type param m)))
param_type_one value Internal input param = internal_one value input param
param_type_one value SameFirst input param = ((λ e. ap Some (sym e)), (λ m. sym (same_Some input param m)))
param_type_one value Auto input param = ((λ h. absurd h), (λ m. absurd (Some≢None param (sym m))))
