-- What is found in the rest of a list, one place after the other.
use Rattle.std.proofs.Common.{◌≡◌, ℕ, ◌+◌, ◌<◌, ◌≤◌, Bool, true, false, cond, List, length, drop, get_or, Some, None, ap, ◌∙◌}
use Rattle.std.specs.Prelude.{find}
use Rattle.std.proofs.lemmas.List.{drop_more, drop_all}

pub find_next : (p : ℕ → Bool) (xs : List ℕ) (n : ℕ) → n < length xs → p (get_or xs n 0) ≡ false → find p (drop n xs) ≡ find p (drop (n + 1) xs)
find_next p xs n below is = ap (find p) (drop_more xs n 0 below) ∙ ap (λ (b : Bool). cond b (Some (get_or xs n 0)) (find p (drop (n + 1) xs))) is

pub find_here : (p : ℕ → Bool) (xs : List ℕ) (n : ℕ) → n < length xs → p (get_or xs n 0) ≡ true → find p (drop n xs) ≡ Some (get_or xs n 0)
find_here p xs n below is = ap (find p) (drop_more xs n 0 below) ∙ ap (λ (b : Bool). cond b (Some (get_or xs n 0)) (find p (drop (n + 1) xs))) is

pub find_end : (p : ℕ → Bool) (xs : List ℕ) (n : ℕ) → length xs ≤ n → find p (drop n xs) ≡ None
find_end p xs n past = ap (find p) (drop_all n xs past)
