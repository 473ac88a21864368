-- Decimals that are 0, and those above it.
use Rattle.std.proofs.Common.{◌≡◌, ℕ, false, eqb, List, Option, None, Some, sym, ◌∙◌, ap, arith, true≢false, eqb-true, get_or, ◌∷◌, [], length, ap₂, subst}
use Rattle.std.specs.Prelude.{IsTrue, ◌↔◌}
use Rattle.fx_type.specs.declared.decimal.Decimal.{Decimal}
use Rattle.fx_round.specs.DecimalText.{IsDecimal}
use Rattle.dg_model.specs.KindRow.{IsPeriod}
use Rattle.mdl_values.specs.Reads.{Finds}
use Rattle.mdl_values.specs.Pieces.{bracket_elements}
use Rattle.mdl_values.specs.Numbers.{IsNumberText}
use Rattle.mdl_values.specs.Periods.{IsZeroText, IsAboveZero, IsWithOffset, IsBracketedNumber}
use Rattle.mdl_values.specs.inner.Sizes.{AreSized}
use Rattle.mdl_values.proofs.DecimalLemmas.{one_decimal}
use Rattle.mdl_values.proofs.OneValue.{first_same}
use Rattle.mdl_values.proofs.TypeLemmas.{only_same}

-- a decimal is 0 where its digits are
pub zero_known : (text : List ℕ) (d : Decimal) → IsDecimal text d → IsTrue (eqb d.digits 0) ↔ IsZeroText text
zero_known text d read = (
  λ test. record { decimal = d; read = read; zero = eqb-true d.digits 0 test },
  λ z. let same = one_decimal text d z.decimal read z.read in ap (λ (n : ℕ). eqb n 0) (same.1 ∙ z.zero),
)

-- a text that is none isn't 0
pub zero_unknown : (text : List ℕ) → ((d : Decimal) → ¬ IsDecimal text d) → IsTrue false ↔ IsZeroText text
zero_unknown text none = (λ test. absurd (true≢false (sym test)), λ z. absurd (none z.decimal z.read))

-- one that is negative, or 0, isn't above 0
pub not_above : (text : List ℕ) (d : Decimal) → IsDecimal text d → ¬ IsPeriod d → (period : Decimal) → ¬ IsAboveZero text period
not_above text d read small period above =
    let same = one_decimal text d period read above.read in
    let more = above.above.above in
    small (record { sign = same.0 ∙ above.above.sign; above = omega (arith, same.1, more) })

some_same : (xs ys : List (List ℕ)) → Some xs ≡ Some ys → xs ≡ ys
some_same xs ys e = cc

-- how many elements there are
pub count_of : {elements : Option (List (List ℕ))} {count : ℕ} {texts : List (List ℕ)} → AreSized elements count count texts → length texts ≡ count
count_of sized = omega (arith, sized.size)

-- a period with its offset, by the two elements
pub offset_found : (text : List ℕ) (texts : List (List ℕ)) (first second : List ℕ) (found : Option Decimal) → AreSized (bracket_elements text) 2 2 texts
    → get_or texts 0 [] ≡ first → get_or texts 1 [] ≡ second → IsZeroText second → Finds (IsAboveZero first) found → Finds (IsWithOffset text) found
offset_found text [] first second found sized f s zero read = absurd (omega (arith, sized.size))
offset_found text (a ∷ []) first second found sized f s zero read = absurd (omega (arith, sized.size))
offset_found text (a ∷ b ∷ c ∷ more) first second found sized f s zero read = absurd (omega (arith, sized.size))
offset_found text (a ∷ b ∷ []) first second None sized f s zero none = λ period is.
    none period (subst (λ (t : List ℕ). IsAboveZero t period) (sym (first_same a b is.first is.second (some_same (a ∷ b ∷ []) (is.first ∷ is.second ∷ []) (sym sized.are ∙ is.elements))) ∙ f) is.read)
offset_found text (a ∷ b ∷ []) first second (Some period) sized f s zero read = record {
  first = first;
  second = second;
  elements = sized.are ∙ ap₂ (λ (x y : List ℕ). Some (x ∷ y ∷ [])) f s;
  read = read;
  offset = zero;
}

-- a number in brackets, by the one element
pub bracketed_found : (text : List ℕ) (texts : List (List ℕ)) (element : List ℕ) (found : Option ℕ) → AreSized (bracket_elements text) 1 1 texts
    → get_or texts 0 [] ≡ element → Finds (IsNumberText 1 1024 element) found → Finds (IsBracketedNumber text) found
bracketed_found text [] element found sized f read = absurd (omega (arith, sized.size))
bracketed_found text (a ∷ b ∷ more) element found sized f read = absurd (omega (arith, sized.size))
bracketed_found text (a ∷ []) element None sized f none = λ number is.
    none number (subst (λ (t : List ℕ). IsNumberText 1 1024 t number) (sym (only_same a is.element (some_same (a ∷ []) (is.element ∷ []) (sym sized.are ∙ is.elements))) ∙ f) is.read)
bracketed_found text (a ∷ []) element (Some number) sized f read = record {
  element = element;
  elements = sized.are ∙ ap (λ (x : List ℕ). Some (x ∷ [])) f;
  read = read;
}
