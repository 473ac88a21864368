-- Values that were read, one of each element.
use Rattle.std.proofs.Common.{◌≡◌, ℕ, zero, suc, ◌+◌, ◌<◌, List, [], ◌∷◌, ◌++◌, length, get_or, drop, subst, sym, ap, refl, arith, append_assoc}
use Rattle.std.specs.List.{AllZip}
use Rattle.std.proofs.lemmas.List.{drop_more}

-- one more was read
pub zip_more : {A B : Type 0} (R : A → B → Type 0) (xs : List A) (ys : List B) (i : ℕ) (x : A) (y : B) → i < length xs → R (get_or xs i x) y
    → ((more : List B) → AllZip R (drop i xs) more → AllZip R xs (ys ++ more))
    → (more : List B) → AllZip R (drop (i + 1) xs) more → AllZip R xs ((ys ++ y ∷ []) ++ more)
zip_more {A} {B} R xs ys i x y inside read here more rest =
    let step : AllZip R (drop i xs) (y ∷ more) = subst (λ (l : List A). AllZip R l (y ∷ more)) (sym (drop_more xs i x inside)) (read, rest) in
    subst (λ (l : List B). AllZip R xs l) (sym (append_assoc ys (y ∷ []) more)) (here (y ∷ more) step)

-- each element has a value
pub zip_at : {A B : Type 0} (R : A → B → Type 0) (xs : List A) (ys : List B) (i : ℕ) (d : A) → i < length xs → AllZip R xs ys → (y : B) × R (get_or xs i d) y
zip_at R [] ys i d inside all = absurd (omega arith)
zip_at R (x ∷ xs) [] i d inside all = absurd all
zip_at R (x ∷ xs) (y ∷ ys) zero d inside all = (y, all.0)
zip_at R (x ∷ xs) (y ∷ ys) (suc i) d inside all = zip_at R xs ys i d (omega arith) all.1

-- there are as many
pub zip_length : {A B : Type 0} (R : A → B → Type 0) (xs : List A) (ys : List B) → AllZip R xs ys → length xs ≡ length ys
zip_length R [] [] all = refl
zip_length R [] (y ∷ ys) all = absurd all
zip_length R (x ∷ xs) [] all = absurd all
zip_length R (x ∷ xs) (y ∷ ys) all = ap suc (zip_length R xs ys all.1)
