-- The numbers from 0 on.
use Rattle.std.proofs.Common.{◌≡◌, ℕ, zero, suc, ◌<◌, ◌⊎◌, inl, inr, List, [], ◌∷◌, ◌++◌, length, Contains, Some, slice_get, refl, ap, sym, subst, arith, length-append}
use Rattle.std.proofs.lemmas.Bool.{cases_eq}
use Rattle.std.proofs.lemmas.Option.{none-some, same_Some}
use Rattle.hw_net.specs.Products.{places}
use Rattle.math_list.proofs.Elements.{found}

get-left : (xs ys : List ℕ) (i x : ℕ) → slice_get xs i ≡ Some x → slice_get (xs ++ ys) i ≡ Some x
get-left [] ys i x e = absurd (none-some x e)
get-left (y ∷ xs) ys zero x e = e
get-left (y ∷ xs) ys (suc i) x e = get-left xs ys i x e

get-seam : (xs : List ℕ) (x : ℕ) → slice_get (xs ++ x ∷ []) (length xs) ≡ Some x
get-seam [] x = refl
get-seam (y ∷ xs) x = get-seam xs x

get-either : (xs : List ℕ) (y i x : ℕ) → slice_get (xs ++ y ∷ []) i ≡ Some x → (slice_get xs i ≡ Some x) ⊎ ((i ≡ length xs) × (y ≡ x))
get-either [] y zero x e = inr (refl, same_Some y x e)
get-either [] y (suc i) x e = absurd (none-some x e)
get-either (z ∷ xs) y zero x e = inl e
get-either (z ∷ xs) y (suc i) x e = elim (get-either xs y i x e) [
  | inl h ↦ inl h
  | inr h ↦ inr (ap suc h.0, h.1)
]

pub places-long : (n : ℕ) → length (places n) ≡ n
places-long zero = refl
places-long (suc n) = (let a = places-long n in omega (arith, a, length-append (places n) (n ∷ [])))

pub places-at : (n i : ℕ) → i < n → slice_get (places n) i ≡ Some i
places-at zero i below = absurd (omega (arith, below))
places-at (suc n) i below = elim (cases_eq i n) [
  | inl same ↦ subst (λ (j : ℕ). slice_get (places (suc n)) j ≡ Some j) (sym same) (subst (λ (j : ℕ). slice_get (places (suc n)) j ≡ Some n) (places-long n) (get-seam (places n) n))
  | inr apart ↦ get-left (places n) (n ∷ []) i i (places-at n i (omega (arith, below, apart)))
]

pub places-is : (n i k : ℕ) → slice_get (places n) i ≡ Some k → (k < n) × (k ≡ i)
places-is zero i k e = absurd (none-some k e)
places-is (suc n) i k e = elim (get-either (places n) n i k e) [
  | inl h ↦ (let r = places-is n i k h in ((let a = r.0 in omega (arith, a)), r.1))
  | inr h ↦ ((let a = h.1 in omega (arith, a)), (let a = h.1 in let b = h.0 in let c = places-long n in omega (arith, a, b, c)))
]

pub places-below : (n k : ℕ) → Contains (places n) k → k < n
places-below n k c = (places-is n c.0 k (found (places n) k c)).0
