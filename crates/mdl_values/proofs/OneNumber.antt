-- A text is at most one number, one decimal and one list of them.
use Rattle.std.proofs.Common.{◌≡◌, ℕ, ◌<◌, ◌^◌, inl, inr, Bool, true, false, cond, List, [], ◌∷◌, Option, None, Some, refl, sym, ◌∙◌, ap, ap₂, subst, arith, true≢false, ℤ, eqb-true}
use Rattle.std.specs.Prelude.{◌==◌, ◌-ℤ◌, ◌≤ℤ◌, pos, negsuc}
use Rattle.std.specs.List.{AllZip, list_all}
use Rattle.std.specs.Char.{is_ascii_digit}
use Rattle.std.proofs.Math.Bridge.{le_prop}
use Rattle.std.proofs.Math.Dec.{T_prop}
use Rattle.std.proofs.lemmas.Bool.{and_parts}
use lib.Signed.{le_z}
use mathlib.Core.HLevel.{is_prop→PathP}
use Rattle.fx_type.specs.declared.decimal.Decimal.{Decimal}
use Rattle.fx_round.specs.DecimalText.{IsDecimal}
use Rattle.mdl_values.specs.Lists.{IsListOf}
use Rattle.mdl_values.specs.Numbers.{IsNumberText}
use Rattle.mdl_values.specs.Pieces.{two_of, pieces_at, only_inside, bracket_elements}
use Rattle.mdl_values.proofs.DecimalForms.{one_numeral, true_is_none, false_is_none}
use Rattle.mdl_values.proofs.DecimalLemmas.{words_differ}
use Rattle.mdl_values.proofs.ListLemmas.{some_same}
use Rattle.std.proofs.lemmas.Option.{none-some}

-- ---- numbers

pub one_number : (low high : ℕ) (text : List ℕ) (one other : ℕ) → IsNumberText low high text one → IsNumberText low high text other → one ≡ other
one_number low high text one other is too = is.value ∙ sym too.value

-- a number begins with a digit
pub first_digit : (byte : ℕ) (bytes : List ℕ) (low high number : ℕ) → IsNumberText low high (byte ∷ bytes) number → is_ascii_digit byte ≡ true
first_digit byte bytes low high number is = (and_parts (is_ascii_digit byte) (list_all is_ascii_digit bytes) is.are_digits).0

-- so it doesn't stand in brackets
pub no_brackets : (low high : ℕ) (text : List ℕ) (number : ℕ) (elements : List (List ℕ)) → IsNumberText low high text number → bracket_elements text ≡ Some elements → ⊥
no_brackets low high [] number elements is e = absurd (omega (arith, is.some_digit))
no_brackets low high (byte ∷ bytes) number elements is e = by (byte == 91) refl e
  where
    by : (b : Bool) → (byte == 91) ≡ b → only_inside (cond b (two_of (pieces_at 93 bytes)) None) ≡ Some elements → ⊥
    by true same h =
        let digit : is_ascii_digit 91 ≡ true = ap is_ascii_digit (sym (eqb-true byte 91 same)) ∙ first_digit byte bytes low high number is in
        true≢false (sym digit)
    by false differs h = none-some elements h

-- ---- decimals

le_z-prop : (a b : ℤ) → IsProp (a ≤ℤ b)
le_z-prop a b p q = λ i. record { le = T_prop (le_z a b) p.le q.le i }

decimal_is : (d e : Decimal) → d.negative ≡ e.negative → d.digits ≡ e.digits → d.exponent ≡ e.exponent → d ≡ e
decimal_is d e n k x = λ i. record {
  negative = n i;
  digits = k i;
  exponent = x i;
  eighteen_digits = is_prop→PathP (λ j. k j < 10 ^ 18) (λ j. le_prop) d.eighteen_digits e.eighteen_digits i;
  least_exponent = is_prop→PathP (λ j. negsuc 35 ≤ℤ x j) (λ j. le_z-prop (negsuc 35) (x j)) d.least_exponent e.least_exponent i;
  greatest_exponent = is_prop→PathP (λ j. x j ≤ℤ pos 18) (λ j. le_z-prop (x j) (pos 18)) d.greatest_exponent e.greatest_exponent i;
}

pub same_decimal : (text : List ℕ) (d e : Decimal) → IsDecimal text d → IsDecimal text e → d ≡ e
same_decimal text d e (inl (t, v)) (inl (u, w)) = decimal_is d e (v.negative ∙ sym w.negative) (v.digits ∙ sym w.digits) (v.exponent ∙ sym w.exponent)
same_decimal text d e (inl (t, v)) (inr (inl (u, w))) = absurd (words_differ text t u)
same_decimal text d e (inl (t, v)) (inr (inr w)) = absurd (true_is_none text t w.numeral)
same_decimal text d e (inr (inl (t, v))) (inl (u, w)) = absurd (words_differ text u t)
same_decimal text d e (inr (inl (t, v))) (inr (inl (u, w))) = decimal_is d e (v.negative ∙ sym w.negative) (v.digits ∙ sym w.digits) (v.exponent ∙ sym w.exponent)
same_decimal text d e (inr (inl (t, v))) (inr (inr w)) = absurd (false_is_none text t w.numeral)
same_decimal text d e (inr (inr v)) (inl (u, w)) = absurd (true_is_none text u v.numeral)
same_decimal text d e (inr (inr v)) (inr (inl (u, w))) = absurd (false_is_none text u v.numeral)
same_decimal text d e (inr (inr v)) (inr (inr w)) =
    let same = one_numeral text v.numeral w.numeral in
    decimal_is d e (v.negative ∙ same.negative ∙ sym w.negative) (v.digits ∙ same.digits ∙ sym w.digits)
    (v.exponent ∙ ap₂ (λ (x : ℤ) (k : ℕ). x -ℤ pos k) same.exponent same.fraction ∙ sym w.exponent)

-- ---- lists

pub zip_one : {A B : Type 0} (R : A → B → Type 0) → ((x : A) (y z : B) → R x y → R x z → y ≡ z) → (xs : List A) (ys zs : List B) → AllZip R xs ys → AllZip R xs zs → ys ≡ zs
zip_one R one [] [] [] first second = refl
zip_one R one [] (y ∷ ys) zs first second = absurd first
zip_one R one [] [] (z ∷ zs) first second = absurd second
zip_one R one (x ∷ xs) [] zs first second = absurd first
zip_one R one (x ∷ xs) (y ∷ ys) [] first second = absurd second
zip_one {A} {B} R one (x ∷ xs) (y ∷ ys) (z ∷ zs) first second =
    ap (λ (w : B). w ∷ ys) (one x y z first.0 second.0) ∙ ap (λ (l : List B). z ∷ l) (zip_one R one xs ys zs first.1 second.1)

pub one_list : {A : Type 0} (R : List ℕ → A → Type 0) → ((text : List ℕ) (y z : A) → R text y → R text z → y ≡ z)
    → (elements : Option (List (List ℕ))) (one other : List A) → IsListOf elements R one → IsListOf elements R other
    → one ≡ other
one_list {A} R each elements one other is too =
    let same = some_same is.texts too.texts (sym is.are_elements ∙ too.are_elements) in
    zip_one R each too.texts one other (subst (λ (texts : List (List ℕ)). AllZip R texts one) same is.read) too.read
