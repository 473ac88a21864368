-- Greatest numbers, sums, counts and elements of lists, beside those of `hw_slots`.
use Rattle.std.proofs.Common.{◌≡◌, ℕ, zero, suc, ◌+◌, ◌-◌, ◌/◌, ◌<◌, ◌≤◌, Bool, true, false, cond, List, [], ◌∷◌, ◌++◌, map, take, filter, replicate, refl, sym, ap, subst, ◌∙◌, inl, inr, arith}
use Rattle.std.specs.Prelude.{slice_get, slice_index, Some, count_by, ◌⊎◌}
use Rattle.std.specs.List.{flat_map}
use Rattle.std.proofs.Math.Nat.{suc-mul}
use Rattle.std.proofs.lemmas.Bool.{cond-true, cond-false, false≢true, cases_lt}
use Rattle.std.proofs.lemmas.List.Sums.{sum_by-take-le}
use Rattle.std.proofs.lemmas.Nat.{div-add-mod', le-div}
use Rattle.std.proofs.lemmas.Option.{none-some, same_Some}
use Rattle.math_list.specs.Numbers.{numbers_from, greatest}
use Rattle.math_list.proofs.Places.{count_cons}
use Rattle.math_list.proofs.Sums.{sum_below, sum_below_next}

-- ---- zeros

pub zero_at : (n place : ℕ) → slice_index (replicate n 0) place ≡ 0
zero_at zero place = refl
zero_at (suc n) zero = refl
zero_at (suc n) (suc place) = zero_at n place

-- ---- greatest numbers

pub greatest_within : {A : Type 0} (f : A → ℕ) (most : ℕ) (xs : List A) → ((k : ℕ) (x : A) → slice_get xs k ≡ Some x → f x ≤ most) → greatest (map f xs) ≤ most
greatest_within f most [] all = omega arith
greatest_within f most (y ∷ xs) all =
    let here : f y ≤ most = all 0 y refl in
    let more = greatest_within f most xs (λ k x at. all (suc k) x at) in
    omega (arith, here, more)

-- ---- sums over numbers

pub sum_below_rises : (f : ℕ → ℕ) (n m : ℕ) → n ≤ m → sum_below f n ≤ sum_below f m
sum_below_rises f zero zero low = omega arith
sum_below_rises f (suc n) zero low = absurd (omega arith)
sum_below_rises f n (suc m) low =
    elim (cases_lt m n) [
      | inl past ↦ let e : suc m ≡ n = omega (arith, past, low) in subst (λ (k : ℕ). sum_below f n ≤ sum_below f k) (sym e) (omega arith)
      | inr within ↦ let more = sum_below_rises f n m within in omega (arith, more, sum_below_next f m)
    ]

-- where nothing is added from a number on, the sums stay
pub sum_below_most : (f : ℕ → ℕ) (most n : ℕ) → ((k : ℕ) → most ≤ k → f k ≡ 0) → sum_below f n ≤ sum_below f most
sum_below_most f most zero none = let low = sum_below_rises f 0 most (omega arith) in omega (arith, low)
sum_below_most f most (suc n) none =
    elim (cases_lt n most) [
      | inl below ↦ sum_below_rises f (suc n) most (omega (arith, below))
      | inr past ↦ let more = sum_below_most f most n none in omega (arith, more, sum_below_next f n, none n past)
    ]

-- ---- counts

-- one that passes raises the count
pub count_rises : {A : Type 0} (p : A → Bool) (xs : List A) (n m : ℕ) (x : A) → slice_get xs n ≡ Some x → p x ≡ true → n < m → count_by p (take n xs) < count_by p (take m xs)
count_rises p [] n m x at is below = absurd (none-some x at)
count_rises p (y ∷ xs) n zero x at is below = absurd (omega arith)
count_rises p (y ∷ xs) zero (suc m) x at is below =
    let e = cond-true {A = ℕ} (p y) 1 0 (ap p (same_Some y x at) ∙ is) in
    omega (arith, count_cons p y (take m xs), e)
count_rises p (y ∷ xs) (suc n) (suc m) x at is below =
    let more = count_rises p xs n m x at is (omega arith) in
    omega (arith, count_cons p y (take n xs), count_cons p y (take m xs), more)

pub count_below : {A : Type 0} (p : A → Bool) (xs : List A) (n : ℕ) (x : A) → slice_get xs n ≡ Some x → p x ≡ true → count_by p (take n xs) < count_by p xs
count_below p xs n x at is =
    let less = count_rises p xs n (suc n) x at is (omega arith) in
    let within = sum_by-take-le (λ x. cond (p x) 1 0) xs (suc n) in
    omega (arith, less, within)

-- where none passes the count is 0
pub none_counted : {A : Type 0} (p : A → Bool) (xs : List A) → ((k : ℕ) (x : A) → slice_get xs k ≡ Some x → p x ≡ false) → count_by p xs ≡ 0
none_counted p [] none = refl
none_counted p (y ∷ xs) none =
    let e = cond-false {A = ℕ} (p y) 1 0 (none 0 y refl) in
    let more = none_counted p xs (λ k x at. none (suc k) x at) in
    omega (arith, count_cons p y xs, e, more)

-- an element is count_cons where it stands
pub some_counted : {A : Type 0} (p : A → Bool) (xs : List A) (n : ℕ) (x : A) → slice_get xs n ≡ Some x → p x ≡ true → 0 < count_by p xs
some_counted p xs n x at is = let less = count_below p xs n x at is in omega (arith, less)

-- ---- elements

-- an element stands in a list
pub record Stands {A : Type 0} (xs : List A) (x : A) : Type 0 where
  pub place : ℕ
  pub at : slice_get xs place ≡ Some x

pub stands_later : {A : Type 0} (y : A) (xs : List A) (x : A) → Stands xs x → Stands (y ∷ xs) x
stands_later y xs x stands = record { place = suc stands.place; at = stands.at }

pub stands_right : {A : Type 0} (xs ys : List A) (x : A) → Stands ys x → Stands (xs ++ ys) x
stands_right [] ys x stands = stands
stands_right (y ∷ xs) ys x stands = stands_later y (xs ++ ys) x (stands_right xs ys x stands)

pub stands_left : {A : Type 0} (xs ys : List A) (k : ℕ) (x : A) → slice_get xs k ≡ Some x → Stands (xs ++ ys) x
stands_left [] ys k x at = absurd (none-some x at)
stands_left (y ∷ xs) ys zero x at = record { place = 0; at = at }
stands_left (y ∷ xs) ys (suc k) x at = stands_later y (xs ++ ys) x (stands_left xs ys k x at)

pub stands_either : {A : Type 0} (xs ys : List A) (k : ℕ) (x : A) → slice_get (xs ++ ys) k ≡ Some x → Stands xs x ⊎ Stands ys x
stands_either [] ys k x at = inr (record { place = k; at = at })
stands_either (y ∷ xs) ys zero x at = inl (record { place = 0; at = at })
stands_either (y ∷ xs) ys (suc k) x at = elim (stands_either xs ys k x at) [ inl left ↦ inl (stands_later y xs x left) | inr right ↦ inr right ]

kept_later : {A : Type 0} (b : Bool) (y : A) (xs : List A) (x : A) → Stands xs x → Stands (cond b (y ∷ xs) xs) x
kept_later true y xs x later = stands_later y xs x later
kept_later false y xs x later = later

kept_first : {A : Type 0} (b : Bool) (y : A) (xs : List A) (x : A) → b ≡ true → y ≡ x → Stands (cond b (y ∷ xs) xs) x
kept_first true y xs x passes same = record { place = 0; at = ap Some same }
kept_first false y xs x passes same = absurd (false≢true passes)

pub stands_filtered : {A : Type 0} (p : A → Bool) (xs : List A) (k : ℕ) (x : A) → slice_get xs k ≡ Some x → p x ≡ true → Stands (filter p xs) x
stands_filtered p [] k x at is = absurd (none-some x at)
stands_filtered p (y ∷ xs) zero x at is = kept_first (p y) y (filter p xs) x (ap p (same_Some y x at) ∙ is) (same_Some y x at)
stands_filtered p (y ∷ xs) (suc k) x at is = kept_later (p y) y (filter p xs) x (stands_filtered p xs k x at is)

-- what a filter leaves passes
pub passes : {A : Type 0} (p : A → Bool) (xs : List A) (k : ℕ) (x : A) → slice_get (filter p xs) k ≡ Some x → (p x ≡ true) × Stands xs x
passes p [] k x at = absurd (none-some x at)
passes {A} p (y ∷ xs) k x at = go (λ j later. passes p xs j x later) (p y) refl k at
  where
    more : (p x ≡ true) × Stands xs x → (p x ≡ true) × Stands (y ∷ xs) x
    more later = (later.0, stands_later y xs x later.1)

    go : ((j : ℕ) → slice_get (filter p xs) j ≡ Some x → (p x ≡ true) × Stands xs x) → (b : Bool) → p y ≡ b
        → (k : ℕ) → slice_get (cond b (y ∷ filter p xs) (filter p xs)) k ≡ Some x → (p x ≡ true) × Stands (y ∷ xs) x
    go rest true e zero at = (ap p (sym (same_Some y x at)) ∙ e, record { place = 0; at = at })
    go rest true e (suc j) at = more (rest j at)
    go rest false e j at = more (rest j at)

pub stands_joined : {A B : Type 0} (f : A → List B) (xs : List A) (k : ℕ) (y : B) → slice_get (flat_map f xs) k ≡ Some y → (x : A) × Stands xs x × Stands (f x) y
stands_joined f [] k y at = absurd (none-some y at)
stands_joined f (x ∷ xs) k y at = elim (stands_either (f x) (flat_map f xs) k y at) [
  | inl here ↦ (x, record { place = 0; at = refl }, here)
  | inr later ↦ let more = stands_joined f xs later.place y later.at in (more.0, stands_later x xs more.0 more.1, more.2)
]

pub stands_below : (from n k number : ℕ) → slice_get (numbers_from from n) k ≡ Some number → (from ≤ number) × (number < from + n)
stands_below from zero k number at = absurd (none-some number at)
stands_below from (suc n) zero number at = let e = same_Some from number at in (omega (arith, e), omega (arith, e))
stands_below from (suc n) (suc k) number at = let more = stands_below (suc from) n k number at in let low = more.0 in let high = more.1 in (omega (arith, low), omega (arith, high))

-- ---- quotients

-- a place below a count lies in one of the rows that the count fills
pub row_within : (place count size : ℕ) → place < count → 0 < size → place / size < (count + (size - 1)) / size
row_within place count size below some =
    let whole = div-add-mod' place size in
    let next = suc-mul (place / size) size in
    let row = le-div (suc (place / size)) (count + (size - 1)) size some (omega (arith, whole, next, below, some)) in
    omega (arith, row)
