-- The first of a range that passes a test; lists of decimals at one number of steps.
use Rattle.std.proofs.Common.{◌≡◌, ℕ, zero, suc, ◌+◌, ◌-◌, ◌<◌, ◌≤◌, Bool, true, false, List, [], ◌∷◌, length, take, get_or, Option, Some, None, ap, sym, ◌∙◌, refl, arith, inl, inr, All}
use Rattle.std.specs.Prelude.{◌&&◌}
use Rattle.std.specs.List.{find, range_with_len, list_all}
use Rattle.std.specs.Option.{option_map}
use Rattle.std.specs.Cmp.Derive.{both_true}
use Rattle.std.proofs.lemmas.Bool.{cases_lt, cases_Bool, and_parts, and_left, and_right, true≢false}
use Rattle.std.proofs.lemmas.List.Folds.{list_all_more, list_all_at}
use Rattle.fx_type.specs.declared.decimal.Decimal.{Decimal}
use Rattle.math_list.proofs.Searches.{IsFirst, NonePasses, found, not_found}
use Rattle.dg_model.specs.GainParam.{frac_down}
use Rattle.math_num.specs.Word.{IsWord}
use Rattle.dg_types.specs.inner.TypeFit.{at_step, HasSign, IsLowered, greatest_among}
use Rattle.dg_types.proofs.FracFits.{step_mono}

-- ---- searches

pub first_found : (test : ℕ → Bool) (n k : ℕ) → IsFirst test 0 n k → find test (range_with_len 0 n) ≡ Some k
first_found test n k first = go (find test (range_with_len 0 n)) refl where
  go : (o : Option ℕ) → find test (range_with_len 0 n) ≡ o → o ≡ Some k
  go None e = absurd (true≢false (sym first.passes ∙ not_found test 0 n e k (omega arith) first.high))
  go (Some j) e =
      let other = found test 0 n j e in
      elim (cases_lt j k) [
        | inl l ↦ absurd (true≢false (sym other.passes ∙ first.first j (omega arith) l))
        | inr g ↦ elim (cases_lt k j) [
          | inl l ↦ absurd (true≢false (sym first.passes ∙ other.first k (omega arith) l))
          | inr h ↦ (let same : j ≡ k = omega arith in ap (λ (m : ℕ). Some m) same)
        ]
      ]

pub none_found : (test : ℕ → Bool) (n : ℕ) → NonePasses test 0 n → find test (range_with_len 0 n) ≡ None
none_found test n none = go (find test (range_with_len 0 n)) refl where
  go : (o : Option ℕ) → find test (range_with_len 0 n) ≡ o → o ≡ None
  go None e = refl
  go (Some j) e = let other = found test 0 n j e in absurd (true≢false (sym other.passes ∙ none j (omega arith) other.high))

-- ---- lists

all_front : {X : Type 0} (p : X → Bool) (xs : List X) (i : ℕ) → list_all p xs ≡ true → list_all p (take i xs) ≡ true
all_front p [] zero e = refl
all_front p [] (suc i) e = refl
all_front p (x ∷ xs) zero e = refl
all_front p (x ∷ xs) (suc i) e = let both = and_parts (p x) (list_all p xs) e in both_true both.0 (all_front p xs i both.1)

-- what passes no test of a front passes none of the whole
front_fails : {X : Type 0} (p : X → Bool) (xs : List X) (i : ℕ) → list_all p (take i xs) ≡ false → list_all p xs ≡ false
front_fails p xs i e = elim (cases_Bool (list_all p xs)) [
  | inl t ↦ absurd (true≢false (sym (all_front p xs i t) ∙ e))
  | inr f ↦ f
]

-- ---- the steps of a list

all_mono : (value : List Decimal) (signed : Bool) (w k j : ℕ) → IsWord w signed → All (HasSign signed) value → k ≤ j
    → list_all (λ d. at_step d signed w k) value ≡ true → list_all (λ d. at_step d signed w j) value ≡ true
all_mono [] signed w k j word signs more e = refl
all_mono (x ∷ xs) signed w k j word signs more e =
    let both = and_parts (at_step x signed w k) (list_all (λ d. at_step d signed w k) xs) e in
    both_true (step_mono x signed w k j word (signs 0 x (omega arith)) more both.0) (all_mono xs signed w k j word (λ i d inside. signs (suc i) d (omega arith)) more both.1)

-- one more element
pub lowered_more : (value : List Decimal) (signed : Bool) (w i steps next : ℕ) (d : Decimal) → IsWord w signed
    → All (HasSign signed) (take i value) → i < length value → IsLowered (take i value) signed w steps
    → find (at_step (get_or value i d) signed w) (range_with_len steps (193 - steps)) ≡ Some next → IsLowered (take (i + 1) value) signed w next
lowered_more value signed w i steps next d word signs inside lowered e =
    let first = found (at_step (get_or value i d) signed w) steps (193 - steps) next e in
    let here : (k : ℕ) → list_all (λ x. at_step x signed w k) (take (i + 1) value)
    ≡ (list_all (λ x. at_step x signed w k) (take i value) && at_step (get_or value i d) signed w k) =
    λ k. list_all_more (λ x. at_step x signed w k) value i d inside in
    record {
      few = omega (arith, first.high, lowered.few);
      fits = here next ∙ both_true (all_mono (take i value) signed w steps next word signs first.low lowered.fits) first.passes;
      before = λ k h. here k ∙ elim (cases_lt k steps) [
        | inl l ↦ and_left (list_all (λ x. at_step x signed w k) (take i value)) (at_step (get_or value i d) signed w k) (lowered.before k l)
        | inr g ↦ and_right (list_all (λ x. at_step x signed w k) (take i value)) (at_step (get_or value i d) signed w k) (first.first k g h)
      ];
    }

-- an element that fits nowhere
pub lowered_stops : (n : ℕ) (value : List Decimal) (signed : Bool) (w i steps : ℕ) (d : Decimal) → i < length value → steps ≤ n → IsLowered (take i value) signed w steps
    → find (at_step (get_or value i d) signed w) (range_with_len steps (n - steps)) ≡ None → greatest_among n value signed w ≡ None
lowered_stops n value signed w i steps d inside few lowered e =
    let nowhere = not_found (at_step (get_or value i d) signed w) steps (n - steps) e in
    ap (option_map frac_down) (none_found (λ k. list_all (λ x. at_step x signed w k) value) n (λ k low high. elim (cases_lt k steps) [
      | inl l ↦ front_fails (λ x. at_step x signed w k) value i (lowered.before k l)
      | inr g ↦ list_all_at (λ x. at_step x signed w k) value i d inside (nowhere k g (omega arith))
    ]))

-- the whole list
pub lowered_whole : (n : ℕ) (value : List Decimal) (signed : Bool) (w steps : ℕ) → steps < n → IsLowered value signed w steps → greatest_among n value signed w ≡ Some (frac_down steps)
lowered_whole n value signed w steps few lowered =
    ap (option_map frac_down) (first_found (λ k. list_all (λ x. at_step x signed w k) value) n steps
    (record {
      passes = lowered.fits;
      low =
          omega arith;
      high = omega arith;
      first = λ j low less. lowered.before j less;
    }))
