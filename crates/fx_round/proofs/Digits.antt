-- Digits of a text.
use Rattle.std.proofs.Common.{◌≡◌, ℕ, zero, suc, ◌+◌, ◌*◌, ◌<◌, ◌≤◌, ◌⊎◌, inl, inr, Bool, true, false, cond, List, [], ◌∷◌, ◌++◌, length, get_or, take, drop, All, ap, ◌∙◌, refl, arith, eqb, leb-true}
use Rattle.std.specs.Char.{is_ascii_digit, digit_value}
use Rattle.std.specs.Str.Parse.{digits_value_after}
use Rattle.std.proofs.lemmas.List.{take_more}
use Rattle.std.proofs.lemmas.List.Elements.{All-nil, All-cons}
use Rattle.std.proofs.lemmas.Str.{digit_value_digit}
use Rattle.fx_round.specs.inner.PlainDecimals.{front_digits, after_digits, fraction_digits}
use Rattle.std.proofs.lemmas.Bool.{and_parts}

pub digit_range : (c : ℕ) → is_ascii_digit c ≡ true → (48 ≤ c) × (c ≤ 57)
digit_range c e = let h = and_parts _ _ e in (leb-true 48 c h.0, leb-true c 57 h.1)

pub digit_is : (c : ℕ) → is_ascii_digit c ≡ true → digit_value c + 48 ≡ c
digit_is c e = digit_value_digit c (digit_range c e)

pub front_split : (xs : List ℕ) (n : ℕ) → n ≤ length xs → ((k : ℕ) → k < n → is_ascii_digit (get_or xs k 0) ≡ true)
    → ((n ≡ length xs) ⊎ (is_ascii_digit (get_or xs n 0) ≡ false))
    → (take n xs ≡ front_digits xs) × (drop n xs ≡ after_digits xs)
front_split [] zero h all stop = (refl, refl)
front_split [] (suc n) h all stop = (refl, refl)
front_split (c ∷ cs) zero h all (inl e) = absurd (omega arith)
front_split (c ∷ cs) zero h all (inr e) = rw e (refl, refl)
front_split (c ∷ cs) (suc n) h all stop =
    let first : is_ascii_digit c ≡ true = all 0 (omega arith) in
    let rest = front_split cs n (omega arith) (λ k l. all (suc k) (omega arith)) (later stop) in
    rw first (ap (λ (ys : List ℕ). c ∷ ys) rest.0, rest.1)
  where
    later : ((suc n ≡ length (c ∷ cs)) ⊎ (is_ascii_digit (get_or (c ∷ cs) (suc n) 0) ≡ false)) → ((n ≡ length cs) ⊎ (is_ascii_digit (get_or cs n 0) ≡ false))
    later (inl e) = inl (omega arith)
    later (inr e) = inr e

abbrev Pass : ℕ → Type 0
Pass c = is_ascii_digit c ≡ true

pub front_pass : (xs : List ℕ) → All (λ c. is_ascii_digit c ≡ true) (front_digits xs)
front_pass [] = All-nil Pass
front_pass (c ∷ cs) = choose (front_pass cs) (is_ascii_digit c) refl
  where
    choose : All (λ y. is_ascii_digit y ≡ true) (front_digits cs) → (b : Bool) → is_ascii_digit c ≡ b → All (λ y. is_ascii_digit y ≡ true) (cond b (c ∷ front_digits cs) [])
    choose rest true e = All-cons Pass c (front_digits cs) e rest
    choose rest false e = All-nil Pass

pub fraction_pass : (xs : List ℕ) → All (λ c. is_ascii_digit c ≡ true) (fraction_digits xs)
fraction_pass [] = All-nil Pass
fraction_pass (c ∷ cs) = choose (eqb c 46)
  where
    choose : (b : Bool) → All (λ y. is_ascii_digit y ≡ true) (cond b (front_digits cs) [])
    choose true = front_pass cs
    choose false = All-nil Pass

after_push : (n : ℕ) (ds : List ℕ) (c : ℕ) → digits_value_after 10 n (ds ++ (c ∷ [])) ≡ digits_value_after 10 n ds * 10 + digit_value c
after_push n [] c = refl
after_push n (d ∷ ds) c = after_push (n * 10 + digit_value d) ds c

pub after_more : (n : ℕ) (ds : List ℕ) (i : ℕ) → i < length ds → digits_value_after 10 n (take (i + 1) ds) ≡ digits_value_after 10 n (take i ds) * 10 + digit_value (get_or ds i 0)
after_more n ds i h = ap (digits_value_after 10 n) (take_more ds i 0 h) ∙ after_push n (take i ds) (get_or ds i 0)
