-- Texts that are put one behind the other.
use Rattle.std.proofs.Common.{◌≡◌, ◌-◌, ℕ, List, [], ◌∷◌, ◌++◌, flat_map, length, map, take, refl, ap, ◌∙◌, append_assoc, arith}
use Rattle.std.proofs.lemmas.List.{length-append}
use Rattle.math_list.proofs.Places.{five_appended}

pub six_appended : (old a b c d e f one two three four five six : List ℕ) → one ≡ old ++ a → two ≡ one ++ b → three ≡ two ++ c → four ≡ three ++ d → five ≡ four ++ e → six ≡ five ++ f
    → six ≡ old ++ (a ++ b ++ c ++ d ++ e ++ f)
six_appended old a b c d e f one two three four five six p q r s t u =
    u ∙ ap (λ x. x ++ f) (five_appended old a b c d e one two three four five p q r s t) ∙ append_assoc old (a ++ b ++ c ++ d ++ e) f

pub two_appended : (old a b one two : List ℕ) → one ≡ old ++ a → two ≡ one ++ b → two ≡ old ++ (a ++ b)
two_appended old a b one two p q = q ∙ ap (λ x. x ++ b) p ∙ append_assoc old a b

-- each made of what was made
pub made-each : {A B C : Type 0} (g : B → List C) (f : A → B) (xs : List A) → flat_map g (map f xs) ≡ flat_map (λ x. g (f x)) xs
made-each g f [] = refl
made-each g f (x ∷ xs) = ap (λ ys. g (f x) ++ ys) (made-each g f xs)

pub no-length : {A : Type 0} (xs : List A) → length xs ≡ 0 → xs ≡ []
no-length [] e = refl
no-length (x ∷ xs) e = absurd (omega (arith, e))

-- what stands before an end
pub before-end : {A : Type 0} (front end : List A) → take (length (front ++ end) - length end) (front ++ end) ≡ front
before-end front end = ap (λ n. take n (front ++ end)) (long front end) ∙ taken front end
  where
    long : {A : Type 0} (xs ys : List A) → length (xs ++ ys) - length ys ≡ length xs
    long xs ys = let e = length-append xs ys in omega (arith, e)

    taken : {A : Type 0} (xs ys : List A) → take (length xs) (xs ++ ys) ≡ xs
    taken [] ys = refl
    taken (x ∷ xs) ys = ap (λ zs. x ∷ zs) (taken xs ys)
