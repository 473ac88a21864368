-- Two lists element by element.
use Rattle.std.proofs.Common.{◌≡◌, ℕ, zero, suc, List, [], ◌∷◌, ◌++◌, flat_map, length, Some, slice_get, refl, ap, subst}
use Rattle.std.specs.List.{AllZip}

pub zip-get : {X Y : Type 0} (R : X → Y → Type 0) (xs : List X) (ys : List Y) → AllZip R xs ys → (k : ℕ) (x : X) → slice_get xs k ≡ Some x → (y : Y) × (slice_get ys k ≡ Some y) × R x y
zip-get R [] ys h k x e = absurd (cc e)
zip-get R (z ∷ xs) [] h k x e = absurd h
zip-get R (z ∷ xs) (y ∷ ys) h zero x e = let same : z ≡ x = cc e in (y, refl, subst (λ v. R v y) same h.0)
zip-get R (z ∷ xs) (y ∷ ys) h (suc k) x e = zip-get R xs ys h.1 k x e

pub zip-back : {X Y : Type 0} (R : X → Y → Type 0) (xs : List X) (ys : List Y) → AllZip R xs ys → (k : ℕ) (y : Y) → slice_get ys k ≡ Some y → (x : X) × (slice_get xs k ≡ Some x) × R x y
zip-back R [] [] h k y e = absurd (cc e)
zip-back R [] (z ∷ ys) h k y e = absurd h
zip-back R (x ∷ xs) [] h k y e = absurd h
zip-back R (x ∷ xs) (z ∷ ys) h zero y e = let same : z ≡ y = cc e in (x, refl, subst (R x) same h.0)
zip-back R (x ∷ xs) (z ∷ ys) h (suc k) y e = zip-back R xs ys h.1 k y e

pub zip-length : {X Y : Type 0} (R : X → Y → Type 0) (xs : List X) (ys : List Y) → AllZip R xs ys → length xs ≡ length ys
zip-length R [] [] h = refl
zip-length R [] (y ∷ ys) h = absurd h
zip-length R (x ∷ xs) [] h = absurd h
zip-length R (x ∷ xs) (y ∷ ys) h = ap suc (zip-length R xs ys h.1)

pub zip-weaker : {X Y : Type 0} (R S : X → Y → Type 0) → ((x : X) (y : Y) → R x y → S x y) → (xs : List X) (ys : List Y) → AllZip R xs ys → AllZip S xs ys
zip-weaker R S weaker [] [] h = tt
zip-weaker R S weaker [] (y ∷ ys) h = absurd h
zip-weaker R S weaker (x ∷ xs) [] h = absurd h
zip-weaker R S weaker (x ∷ xs) (y ∷ ys) h = (weaker x y h.0, zip-weaker R S weaker xs ys h.1)

pub zip-append : {X Y : Type 0} (R : X → Y → Type 0) (xs : List X) (ys : List Y) (more : List X) (rest : List Y) → AllZip R xs ys → AllZip R more rest → AllZip R (xs ++ more) (ys ++ rest)
zip-append R [] [] more rest h k = k
zip-append R [] (y ∷ ys) more rest h k = absurd h
zip-append R (x ∷ xs) [] more rest h k = absurd h
zip-append R (x ∷ xs) (y ∷ ys) more rest h k = (h.0, zip-append R xs ys more rest h.1 k)

pub zip-flat : {X Y A B : Type 0} (R : X → Y → Type 0) (S : A → B → Type 0) (f : X → List A) (g : Y → List B)
    → ((x : X) (y : Y) → R x y → AllZip S (f x) (g y)) → (xs : List X) (ys : List Y) → AllZip R xs ys
    → AllZip S (flat_map f xs) (flat_map g ys)
zip-flat R S f g each [] [] h = tt
zip-flat R S f g each [] (y ∷ ys) h = absurd h
zip-flat R S f g each (x ∷ xs) [] h = absurd h
zip-flat R S f g each (x ∷ xs) (y ∷ ys) h = zip-append S (f x) (g y) (flat_map f xs) (flat_map g ys) (each x y h.0) (zip-flat R S f g each xs ys h.1)
