-- Parts of lists, place by place.
use Rattle.std.proofs.Common.{◌≡◌, ◌<◌, ◌+◌, ℕ, zero, suc, List, [], ◌∷◌, length, map, take, drop, slice_get, slice_index_or, Some, ℤ, pos, refl, sym, subst, ap₂, arith}

-- an item of a part
pub index-part : (xs : List ℤ) (start count place : ℕ) → place < count → slice_index_or (take count (drop start xs)) place (pos 0) ≡ slice_index_or xs (start + place) (pos 0)
index-part xs zero count place below =
    let e : place ≡ 0 + place = omega arith in
    subst (λ n. slice_index_or (take count (drop 0 xs)) place (pos 0) ≡ slice_index_or xs n (pos 0)) e (index-take xs count place below)
  where
    index-take : (ys : List ℤ) (n k : ℕ) → k < n → slice_index_or (take n ys) k (pos 0) ≡ slice_index_or ys k (pos 0)
    index-take ys zero k h = absurd (omega (arith, h))
    index-take [] (suc n) k h = refl
    index-take (y ∷ ys) (suc n) zero h = refl
    index-take (y ∷ ys) (suc n) (suc k) h = index-take ys n k (omega (arith, h))
index-part [] (suc start) zero place below = absurd (omega (arith, below))
index-part [] (suc start) (suc count) place below = refl
index-part (x ∷ xs) (suc start) count place below =
    let e : suc (start + place) ≡ suc start + place = omega arith in
    subst (λ n. slice_index_or (take count (drop (suc start) (x ∷ xs))) place (pos 0) ≡ slice_index_or (x ∷ xs) n (pos 0)) e (index-part xs start count place below)

-- a list is what a function gives of another, place by place
pub by-places : {A : Type 0} (f : A → ℤ) (es : List A) (out : List ℤ) → length out ≡ length es
    → ((place : ℕ) (e : A) → slice_get es place ≡ Some e → slice_index_or out place (pos 0) ≡ f e) → out ≡ map f es
by-places f [] [] same each = refl
by-places f [] (v ∷ out) same each = absurd (omega (arith, same))
by-places f (e ∷ es) [] same each = absurd (omega (arith, same))
by-places f (e ∷ es) (v ∷ out) same each = ap₂ (λ (x : ℤ) (rest : List ℤ). x ∷ rest) (each 0 e refl) (by-places f es out (omega (arith, same)) (λ place other there. each (suc place) other there))

-- the other way
pub unmapped : {A B : Type 0} (f : A → B) (xs : List A) (k : ℕ) (y : B) → slice_get (map f xs) k ≡ Some y → (x : A) × (slice_get xs k ≡ Some x) × (y ≡ f x)
unmapped f [] k y e = absurd (cc e)
unmapped f (x ∷ xs) zero y e = let same : f x ≡ y = cc e in (x, refl, sym same)
unmapped f (x ∷ xs) (suc k) y e = unmapped f xs k y e

-- an item that is there
pub index-there : (xs : List ℤ) (k : ℕ) → k < length xs → slice_get xs k ≡ Some (slice_index_or xs k (pos 0))
index-there [] k below = absurd (omega (arith, below))
index-there (x ∷ xs) zero below = refl
index-there (x ∷ xs) (suc k) below = index-there xs k (omega (arith, below))

-- functions that agree on each item
pub same-map : {A : Type 0} (f g : A → ℤ) (es : List A) → ((place : ℕ) (e : A) → slice_get es place ≡ Some e → f e ≡ g e) → map f es ≡ map g es
same-map f g [] each = refl
same-map f g (e ∷ es) each = ap₂ (λ (x : ℤ) (rest : List ℤ). x ∷ rest) (each 0 e refl) (same-map f g es (λ place other there. each (suc place) other there))
