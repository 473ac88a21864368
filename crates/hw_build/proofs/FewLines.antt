-- The chains of all classes have no more registers than are counted for the lines that share some.
use Rattle.std.proofs.Common.{◌≡◌, ◌≢◌, ℕ, zero, suc, ◌+◌, ◌<◌, ◌≤◌, Bool, true, false, cond, List, [], ◌∷◌, ◌++◌, map, filter, Some, ap, sym, ◌∙◌, subst, refl, arith}
use Rattle.std.specs.Prelude.{slice_get}
use Rattle.std.specs.List.{sum, flat_map}
use Rattle.std.proofs.lemmas.Option.{none-some, same_Some}
use Rattle.math_list.specs.Numbers.{numbers_from}
use Rattle.hw_build.proofs.CounterFrames.{Stands, without, still_stands}
use Rattle.math_list.proofs.Places.{sum-cons}

-- ---- sums over different representatives

pub record IsRepresented {A : Type 0} (ys : List A) (v : A → ℕ) (weight : ℕ) : Type 0 where
  pub one : A
  pub stands : Stands ys one
  pub low : weight ≤ v one

sum_without : {A : Type 0} (v : A → ℕ) (ys : List A) (k : ℕ) (y : A) → slice_get ys k ≡ Some y → sum (map v ys) ≡ v y + sum (map v (without ys k))
sum_without v [] k y at = absurd (none-some y at)
sum_without v (x ∷ ys) zero y at = sum-cons (v x) (map v ys) ∙ ap (λ z. v z + sum (map v ys)) (same_Some x y at)
sum_without v (x ∷ ys) (suc k) y at =
    let rest = sum_without v ys k y at in
    let all = sum-cons (v x) (map v ys) in
    let less = sum-cons (v x) (map v (without ys k)) in
    omega (arith, rest, all, less)

abbrev pub total : (ℕ → ℕ) → ℕ → ℕ
total weight zero = 0
total weight (suc n) = total weight n + weight n

up : (c n : ℕ) → c < n → c < suc n
up c n less = omega (arith, less)

module _ {A : Type 0} (v : A → ℕ) (weight : ℕ → ℕ) where
  abbrev Reps : List A → ℕ → Type 0
  Reps ys n = (c : ℕ) → c < n → IsRepresented ys v (weight c)

  abbrev Differ : (ys : List A) (n : ℕ) → Reps ys n → Type 0
  Differ ys n rep = (c d : ℕ) (p : c < n) (q : d < n) → c < d → (rep c p).one ≢ (rep d q).one

  module _ (n : ℕ) (ys : List A) (rep : Reps ys (suc n)) (differ : Differ ys (suc n) rep) (p : n < suc n) where
    abbrev rest_of : List A
    rest_of = without ys (rep n p).stands.place

    abbrev others : Reps rest_of n
    others c q = record {
      one = (rep c (up c n q)).one;
      stands = still_stands ys (rep n p).stands.place (rep c (up c n q)).stands.place (rep n p).one
          (rep c (up c n q)).one (rep n p).stands.at (rep c (up c n q)).stands.at
          (λ e. differ c n (up c n q) p q (sym e));
      low = (rep c (up c n q)).low;
    }

    one_more : ((zs : List A) (rep : Reps zs n) → Differ zs n rep → total weight n ≤ sum (map v zs)) → total weight (suc n) ≤ sum (map v ys)
    one_more few =
        let split : sum (map v ys) ≡ v (rep n p).one + sum (map v rest_of) = sum_without v ys (rep n p).stands.place (rep n p).one (rep n p).stands.at in
        let low = (rep n p).low in
        let rest = few rest_of others (λ c d q r less. differ c d (up c n q) (up d n r) less) in
        omega (arith, split, low, rest)

  pub no_more : (n : ℕ) (ys : List A) (rep : Reps ys n) → Differ ys n rep → total weight n ≤ sum (map v ys)
  no_more zero ys rep differ = omega arith
  no_more (suc n) ys rep differ = one_more n ys rep differ (omega arith) (λ zs own apart. no_more n zs own apart)

-- ---- lists that hold something of each element

pub record Every {A : Type 0} (P : A → Type 0) (xs : List A) : Type 0 where
  pub at : (k : ℕ) (x : A) → slice_get xs k ≡ Some x → P x

pub every_none : {A : Type 0} (P : A → Type 0) → Every P []
every_none P = record { at = λ k x at. absurd (none-some x at) }

pub every_more : {A : Type 0} (P : A → Type 0) (x : A) (xs : List A) → P x → Every P xs → Every P (x ∷ xs)
every_more {A} P x xs first rest = record { at = λ k y at. go k y at }
  where
    go : (k : ℕ) (y : A) → slice_get (x ∷ xs) k ≡ Some y → P y
    go zero y at = subst P (same_Some x y at) first
    go (suc k) y at = rest.at k y at

pub every_first : {A : Type 0} (P : A → Type 0) (x : A) (xs : List A) → Every P (x ∷ xs) → P x × Every P xs
every_first P x xs all = (all.at 0 x refl, record { at = λ k y at. all.at (suc k) y at })

pub every_append : {A : Type 0} (P : A → Type 0) (xs ys : List A) → Every P xs → Every P ys → Every P (xs ++ ys)
every_append P [] ys one other = other
every_append P (x ∷ xs) ys one other = let parts = every_first P x xs one in every_more P x (xs ++ ys) parts.0 (every_append P xs ys parts.1 other)

pub every_map : {A B : Type 0} (P : B → Type 0) (f : A → B) (xs : List A) → Every (λ x. P (f x)) xs → Every P (map f xs)
every_map P f [] all = every_none P
every_map P f (x ∷ xs) all = let parts = every_first (λ y. P (f y)) x xs all in every_more P (f x) (map f xs) parts.0 (every_map P f xs parts.1)

pub every_flat : {A B : Type 0} (P : B → Type 0) (f : A → List B) (xs : List A) → Every (λ x. Every P (f x)) xs → Every P (flat_map f xs)
every_flat P f [] all = every_none P
every_flat P f (x ∷ xs) all = let parts = every_first (λ y. Every P (f y)) x xs all in every_append P (f x) (flat_map f xs) parts.0 (every_flat P f xs parts.1)

pub every_filter : {A : Type 0} (P : A → Type 0) (p : A → Bool) (xs : List A) → Every P xs → Every P (filter p xs)
every_filter P p [] all = every_none P
every_filter {A} P p (x ∷ xs) all = let parts = every_first P x xs all in go (p x) parts.0 (every_filter P p xs parts.1)
  where
    go : (b : Bool) → P x → Every P (filter p xs) → Every P (cond b (x ∷ filter p xs) (filter p xs))
    go true first rest = every_more P x (filter p xs) first rest
    go false first rest = rest

pub filter_same : {A : Type 0} (p q : A → Bool) (xs : List A) → Every (λ x. p x ≡ q x) xs → filter p xs ≡ filter q xs
filter_same p q [] all = refl
filter_same p q (x ∷ xs) all =
    let parts = every_first (λ y. p y ≡ q y) x xs all in
    ap (λ (b : Bool). cond b (x ∷ filter p xs) (filter p xs)) parts.0 ∙ ap (λ zs. cond (q x) (x ∷ zs) zs) (filter_same p q xs parts.1)

pub numbers_below : (from n : ℕ) → Every (λ k. k < from + n) (numbers_from from n)
numbers_below from zero = every_none (λ k. k < from + zero)
numbers_below from (suc n) =
    let rest = numbers_below (suc from) n in
    every_more (λ k. k < from + suc n) from (numbers_from (suc from) n) (omega arith) (record { at = λ k x at. let low = rest.at k x at in omega (arith, low) })
