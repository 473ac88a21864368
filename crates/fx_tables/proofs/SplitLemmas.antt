-- The first part of a list that is cut at each number that passes a test.
use Rattle.std.proofs.Common.{◌≡◌, ℕ, zero, suc, ◌<◌, Bool, true, false, List, [], ◌∷◌, length, get_or, take, drop, refl, ap, ◌∙◌, arith}
use Rattle.std.specs.List.{slice_split, onto_first}
use Rattle.std.proofs.lemmas.List.Splits.{slice_split-cons_yes, slice_split-cons_no}

pub slice_split-first : (p : ℕ → Bool) (n : ℕ) (xs : List ℕ) → n < length xs
    → ((k : ℕ) → k < n → p (get_or xs k 0) ≡ false) → p (get_or xs n 0) ≡ true
    → slice_split p xs ≡ take n xs ∷ slice_split p (drop (suc n) xs)
slice_split-first p zero [] fits before found = absurd (omega arith)
slice_split-first p zero (x ∷ xs) fits before found = slice_split-cons_yes p x xs found
slice_split-first p (suc n) [] fits before found = absurd (omega arith)
slice_split-first p (suc n) (x ∷ xs) fits before found =
    slice_split-cons_no p x xs (before 0 (omega arith))
    ∙ ap (onto_first x) (slice_split-first p n xs (omega arith) (λ k h. before (suc k) (omega arith)) found)

pub slice_split-whole : (p : ℕ → Bool) (xs : List ℕ) → ((k : ℕ) → k < length xs → p (get_or xs k 0) ≡ false) → slice_split p xs ≡ xs ∷ []
slice_split-whole p [] before = refl
slice_split-whole p (x ∷ xs) before =
    slice_split-cons_no p x xs (before 0 (omega arith))
    ∙ ap (onto_first x) (slice_split-whole p xs (λ k h. before (suc k) (omega arith)))
