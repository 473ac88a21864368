-- Items of lists, by their places.
use Rattle.std.proofs.Common.{◌≡◌, ℕ, zero, suc, ◌+◌, ◌<◌, inl, inr, List, [], ◌∷◌, ◌++◌, length, map, get_or, Option, Some, None, refl, sym, ◌∙◌, ap, subst, arith}
use Rattle.std.specs.Prelude.{◌⊎◌, All, AllPairs, Any, zip, flat_map, slice_get, option_map, MatchOption}
use Rattle.std.proofs.lemmas.List.Elements.{All-append}
use Rattle.std.proofs.lemmas.Option.{same_Some, slice_get-get_or, slice_get-map, slice_get_within, get_or_from_slice_get}

pub none_some : {A : Type 0} (x : A) → ◌≡◌ {A = Option A} None (Some x) → ⊥
none_some x e = cc

pub get_left : {A : Type 0} (xs ys : List A) (k : ℕ) (x : A) → slice_get xs k ≡ Some x → slice_get (xs ++ ys) k ≡ Some x
get_left [] ys k x at = absurd (none_some x at)
get_left (first ∷ xs) ys zero x at = at
get_left (first ∷ xs) ys (suc k) x at = get_left xs ys k x at

pub get_right : {A : Type 0} (xs ys : List A) (k place : ℕ) → place ≡ length xs + k → slice_get (xs ++ ys) place ≡ slice_get ys k
get_right [] ys k place at = let same : place ≡ k = omega (arith, at) in ap (slice_get ys) same
get_right (first ∷ xs) ys k zero at = absurd (omega (arith, at))
get_right (first ∷ xs) ys k (suc place) at = get_right xs ys k place (omega (arith, at))

-- an item of the second list
pub record InSecond {A : Type 0} (xs ys : List A) (place : ℕ) (x : A) : Type 0 where
  pub k : ℕ
  pub at : place ≡ length xs + k
  pub there : slice_get ys k ≡ Some x

pub get_split : {A : Type 0} (xs ys : List A) (place : ℕ) (x : A) → slice_get (xs ++ ys) place ≡ Some x → (slice_get xs place ≡ Some x) ⊎ InSecond xs ys place x
get_split [] ys place x at = inr (record { k = place; at = omega arith; there = at })
get_split (first ∷ xs) ys zero x at = inl at
get_split (first ∷ xs) ys (suc place) x at = elim (get_split xs ys place x at) [
  | inl left ↦ inl left
  | inr right ↦ inr (record { k = right.k; at = omega (arith, right.at); there = right.there })
]

-- a place within a list has an item
pub item_at : {A : Type 0} (xs : List A) (k : ℕ) → k < length xs → (x : A) × (slice_get xs k ≡ Some x)
item_at [] k within = absurd (omega (arith, within))
item_at (first ∷ xs) zero within = (first, refl)
item_at (first ∷ xs) (suc k) within = item_at xs k (omega (arith, within))

-- an item of a mapped list comes from one of the list
pub mapped_at : {A B : Type 0} (f : A → B) (xs : List A) (k : ℕ) (y : B) → slice_get (map f xs) k ≡ Some y → (x : A) × (slice_get xs k ≡ Some x) × (y ≡ f x)
mapped_at f [] k y at = absurd (none_some y at)
mapped_at f (first ∷ xs) zero y at = (first, refl, sym (same_Some (f first) y at))
mapped_at f (first ∷ xs) (suc k) y at = mapped_at f xs k y at

pub map_at : {A B : Type 0} (f : A → B) (xs : List A) (k : ℕ) (x : A) → slice_get xs k ≡ Some x → slice_get (map f xs) k ≡ Some (f x)
map_at f xs k x at = slice_get-map f xs k ∙ ap (option_map f) at

-- an item of a list of pairs
pub pair_at : {A B : Type 0} (xs : List A) (ys : List B) (k : ℕ) (pair : A × B) → slice_get (zip xs ys) k ≡ Some pair → (slice_get xs k ≡ Some pair.0) × (slice_get ys k ≡ Some pair.1)
pair_at [] ys k pair at = absurd (none_some pair at)
pair_at (x ∷ xs) [] k pair at = absurd (none_some pair at)
pair_at (x ∷ xs) (y ∷ ys) zero pair at =
    let same : (x, y) ≡ pair = same_Some (x, y) pair at in
    (ap (λ p. Some p.0) same, ap (λ p. Some p.1) same)
pair_at (x ∷ xs) (y ∷ ys) (suc k) pair at = pair_at xs ys k pair at

-- an item that an option has
pub match_there : {A : Type 0} (found : Option A) (P : A → Type 0) → MatchOption found ⊥ P → (x : A) × (found ≡ Some x) × P x
match_there None P is = absurd is
match_there (Some x) P is = (x, refl, is)

-- ---- what holds of all items

pub all_at : {A : Type 0} (P : A → Type 0) (xs : List A) → ((k : ℕ) (x : A) → slice_get xs k ≡ Some x → P x) → All P xs
all_at P xs each k d within = each k (get_or xs k d) (slice_get-get_or xs k d within)

pub one_of : {A : Type 0} (P : A → Type 0) (xs : List A) → All P xs → (k : ℕ) (x : A) → slice_get xs k ≡ Some x → P x
one_of P xs all k x at = subst P (get_or_from_slice_get xs k x x at) (all k x (slice_get_within xs k x at))

pub two_of : {A : Type 0} (R : A → A → Type 0) (xs : List A) → AllPairs R xs → (j k : ℕ) (x y : A) → j < k → slice_get xs j ≡ Some x → slice_get xs k ≡ Some y → R x y
two_of R xs all j k x y less here there =
    subst (λ a. R a y) (get_or_from_slice_get xs j x x here) (subst (λ b. R (get_or xs j x) b) (get_or_from_slice_get xs k y x there) (all j k x less (slice_get_within xs k y there)))

pub all_flat : {A B : Type 0} (P : B → Type 0) (f : A → List B) (xs : List A) → ((k : ℕ) (x : A) → slice_get xs k ≡ Some x → All P (f x)) → All P (flat_map f xs)
all_flat P f [] each = λ k d within. absurd (omega (arith, within))
all_flat P f (first ∷ xs) each = All-append P (f first) (flat_map f xs) (each 0 first refl) (all_flat P f xs (λ k. each (suc k)))

pub all_mapped : {A B : Type 0} (P : B → Type 0) (f : A → B) (xs : List A) → ((k : ℕ) (x : A) → slice_get xs k ≡ Some x → P (f x)) → All P (map f xs)
all_mapped P f xs each = all_at P (map f xs) (λ k y at.
    let h = mapped_at f xs k y at in
    subst P (sym h.2) (each k h.0 h.1))

-- ---- what holds of some item

pub any_at : {A : Type 0} (P : A → Type 0) (xs : List A) (k : ℕ) (x : A) → slice_get xs k ≡ Some x → P x → Any P xs
any_at P xs k x at is = (k, x, slice_get_within xs k x at, get_or_from_slice_get xs k x x at, is)

pub any_there : {A : Type 0} (P : A → Type 0) (xs : List A) → Any P xs → (k : ℕ) × (x : A) × (slice_get xs k ≡ Some x) × P x
any_there P xs any = (any.0, any.1, slice_get-get_or xs any.0 any.1 any.2 ∙ ap Some any.3, any.4)
