-- Lines are added one after another.
use Rattle.std.proofs.Common.{◌≡◌, ℕ, zero, suc, ◌+◌, List, [], ◌∷◌, ◌++◌, ap, sym, ◌∙◌, arith}
use Rattle.std.specs.List.{flat_map}
use Rattle.std.proofs.lemmas.List.{append_assoc, append-nil}
use Rattle.math_list.specs.Numbers.{numbers_from}

pub number_more : (f : ℕ → List ℕ) (from n : ℕ) → flat_map f (numbers_from from (suc n)) ≡ flat_map f (numbers_from from n) ++ f (from + n)
number_more f from zero = let e : from ≡ from + 0 = omega arith in append-nil (f from) ∙ ap f e
number_more f from (suc n) =
    let e : suc from + n ≡ from + suc n = omega arith in
    ap (λ (rest : List ℕ). f from ++ rest) (number_more f (suc from) n ∙ ap (λ (k : ℕ). flat_map f (numbers_from (suc from) n) ++ f k) e)
    ∙ sym (append_assoc (f from) (flat_map f (numbers_from (suc from) n)) (f (from + suc n)))

pub append_map : {A : Type 0} (f : A → List ℕ) (xs : List A) (x : A) → flat_map f (xs ++ x ∷ []) ≡ flat_map f xs ++ f x
append_map f [] x = append-nil (f x)
append_map f (y ∷ xs) x = ap (λ (rest : List ℕ). f y ++ rest) (append_map f xs x) ∙ sym (append_assoc (f y) (flat_map f xs) (f x))

-- the line of one more of a list
pub line_more : {A : Type 0} (f : A → List ℕ) (xs : List A) (x : A) (old text new : List ℕ) → text ≡ old ++ flat_map f xs → new ≡ text ++ f x → new ≡ old ++ flat_map f (xs ++ x ∷ [])
line_more f xs x old text new is more =
    more ∙ ap (λ (front : List ℕ). front ++ f x) is ∙ append_assoc old (flat_map f xs) (f x) ∙ ap (λ (rest : List ℕ). old ++ rest) (sym (append_map f xs x))
