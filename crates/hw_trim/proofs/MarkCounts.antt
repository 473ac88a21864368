-- Numbers that are marked, and how many stand below each.
use Rattle.std.proofs.Common.{◌≡◌, ℕ, zero, suc, ◌<◌, ◌⊎◌, inl, inr, Bool, true, false, if◌then◌else◌, List, [], ◌∷◌, ◌++◌, length, Some, slice_get, append-nil, refl, ap, sym, ◌∙◌, subst, arith}
use Rattle.std.proofs.lemmas.Bool.{cases_eq}
use Rattle.std.proofs.lemmas.Option.{none-some, same_Some}
use Rattle.hw_trim.specs.inner.Marks.{is_marked}
use Rattle.hw_trim.specs.inner.MarkPlaces.{kept_of}

get-left : (xs ys : List ℕ) (i x : ℕ) → slice_get xs i ≡ Some x → slice_get (xs ++ ys) i ≡ Some x
get-left [] ys i x e = absurd (none-some x e)
get-left (y ∷ xs) ys zero x e = e
get-left (y ∷ xs) ys (suc i) x e = get-left xs ys i x e

get-seam : (xs : List ℕ) (x : ℕ) → slice_get (xs ++ x ∷ []) (length xs) ≡ Some x
get-seam [] x = refl
get-seam (y ∷ xs) x = get-seam xs x

-- an element of a longer list is one of the list or the last
get-either : (xs : List ℕ) (y i x : ℕ) → slice_get (xs ++ y ∷ []) i ≡ Some x → (slice_get xs i ≡ Some x) ⊎ ((i ≡ length xs) × (y ≡ x))
get-either [] y zero x e = inr (refl, same_Some y x e)
get-either [] y (suc i) x e = absurd (none-some x e)
get-either (z ∷ xs) y zero x e = inl e
get-either (z ∷ xs) y (suc i) x e = elim (get-either xs y i x e) [
  | inl h ↦ inl h
  | inr h ↦ inr (ap suc h.0, h.1)
]

module _ (marks : List Bool) where
  pub kept-yes : (n : ℕ) → is_marked marks n ≡ true → kept_of marks (suc n) ≡ kept_of marks n ++ n ∷ []
  kept-yes n e = ap (λ (b : Bool). kept_of marks n ++ (if b then n ∷ [] else [])) e

  pub kept-no : (n : ℕ) → is_marked marks n ≡ false → kept_of marks (suc n) ≡ kept_of marks n
  kept-no n e = ap (λ (b : Bool). kept_of marks n ++ (if b then n ∷ [] else [])) e ∙ append-nil (kept_of marks n)

  -- a marked number stands at its place
  pub kept-at : (n k : ℕ) → k < n → is_marked marks k ≡ true → slice_get (kept_of marks n) (length (kept_of marks k)) ≡ Some k
  kept-at zero k below e = absurd (omega (arith, below))
  kept-at (suc n) k below e = elim (cases_eq k n) [
    | inl same ↦ subst (λ (j : ℕ). slice_get (kept_of marks (suc n)) (length (kept_of marks j)) ≡ Some j) (sym same)
        (ap (λ (xs : List ℕ). slice_get xs (length (kept_of marks n))) (kept-yes n (ap (is_marked marks) (sym same) ∙ e)) ∙ get-seam (kept_of marks n) n)
    | inr apart ↦ get-left (kept_of marks n) (if is_marked marks n then n ∷ [] else []) (length (kept_of marks k)) k (kept-at n k (omega (arith, below, apart)) e)
  ]

  -- and nothing else stands there
  pub kept-is : (n i k : ℕ) → slice_get (kept_of marks n) i ≡ Some k → (k < n) × (is_marked marks k ≡ true) × (length (kept_of marks k) ≡ i)
  kept-is zero i k e = absurd (none-some k e)
  kept-is (suc n) i k e = by (λ h. (let r = kept-is n i k h in ((let a = r.0 in omega (arith, a)), r.1, r.2))) (is_marked marks n) refl
    where
      by : (slice_get (kept_of marks n) i ≡ Some k → (k < suc n) × (is_marked marks k ≡ true) × (length (kept_of marks k) ≡ i))
          → (b : Bool) → is_marked marks n ≡ b → (k < suc n) × (is_marked marks k ≡ true) × (length (kept_of marks k) ≡ i)
      by older true marked = elim (get-either (kept_of marks n) n i k (ap (λ (xs : List ℕ). slice_get xs i) (sym (kept-yes n marked)) ∙ e)) [
        | inl h ↦ older h
        | inr h ↦ ((let a = h.1 in omega (arith, a)), ap (is_marked marks) (sym h.1) ∙ marked, ap (λ (j : ℕ). length (kept_of marks j)) (sym h.1) ∙ sym h.0)
      ]
      by older false absent = older (ap (λ (xs : List ℕ). slice_get xs i) (sym (kept-no n absent)) ∙ e)
