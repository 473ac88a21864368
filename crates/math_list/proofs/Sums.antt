-- Sums, counts and greatest numbers of lists, and when the order of numbers holds two for one.
use Rattle.std.proofs.Common.{◌≡◌, ℕ, zero, suc, ◌+◌, ◌≤◌, ◌==◌, nat_lt, max, List, [], ◌∷◌, map, take, refl, sym, ap, ◌∙◌, arith, ◌<◌, length, sum, slice_index}
use Rattle.std.specs.Prelude.{slice_get, Some}
use Rattle.std.specs.List.{sum}
use Rattle.std.specs.Ordering.{nat_cmp, is_eq}
use Rattle.std.proofs.lemmas.Option.{none-some, same_Some}
use Rattle.math_list.specs.Numbers.{numbers_from, greatest}
use Rattle.math_list.proofs.Places.{sum-cons}
use Rattle.math_list.proofs.Tests.{tied}
use Rattle.std.proofs.lemmas.List.Sums.{sum_by-append, sum_by-cons}
use Rattle.math_list.proofs.Numbers.{map_last}

-- ---- greatest numbers and counts

pub greatest_at : {A : Type 0} (f : A → ℕ) (xs : List A) (k : ℕ) (x : A) → slice_get xs k ≡ Some x → f x ≤ greatest (map f xs)
greatest_at f [] k x at = absurd (none-some x at)
greatest_at f (y ∷ xs) zero x at = let e : f y ≡ f x = ap f (same_Some y x at) in omega (arith, e)
greatest_at f (y ∷ xs) (suc k) x at = let more = greatest_at f xs k x at in omega (arith, more)

-- of one element more
pub greatest_next : {A : Type 0} (f : A → ℕ) (xs : List A) (i : ℕ) (x : A) → slice_get xs i ≡ Some x → greatest (map f (take (i + 1) xs)) ≡ max (greatest (map f (take i xs))) (f x)
greatest_next {A} f xs i x at = let e : suc i ≡ i + 1 = omega arith in ap (λ (n : ℕ). greatest (map f (take n xs))) (sym e) ∙ go xs i at
  where
    go : (ys : List A) (k : ℕ) → slice_get ys k ≡ Some x → greatest (map f (take (suc k) ys)) ≡ max (greatest (map f (take k ys))) (f x)
    go [] k at = absurd (none-some x at)
    go (y ∷ ys) zero at = let e : f y ≡ f x = ap f (same_Some y x at) in omega (arith, e)
    go (y ∷ ys) (suc k) at = let more = go ys k at in omega (arith, more)

-- ---- sums

pub sums_same : (f g : ℕ → ℕ) (xs : List ℕ) → ((x : ℕ) → f x ≡ g x) → sum (map f xs) ≡ sum (map g xs)
sums_same f g [] same = refl
sums_same f g (x ∷ xs) same = let here = same x in let more = sums_same f g xs same in omega (arith, here, more, sum-cons (f x) (map f xs), sum-cons (g x) (map g xs))

sum_next : (f : ℕ → ℕ) (from n : ℕ) → sum (map f (numbers_from from (suc n))) ≡ sum (map f (numbers_from from n)) + f (from + n)
sum_next f from zero = let e : f from ≡ f (from + 0) = ap f (omega arith) in omega (arith, sum-cons (f from) [], e)
sum_next f from (suc n) =
    let e : f (suc from + n) ≡ f (from + suc n) = ap f (omega arith) in
    let more = sum_next f (suc from) n in
    omega (arith, e, more, sum-cons (f from) (map f (numbers_from (suc from) (suc n))), sum-cons (f from) (map f (numbers_from (suc from) n)))

-- the sum over the numbers below one
abbrev pub sum_below : (ℕ → ℕ) → ℕ → ℕ
sum_below f n = sum (map f (numbers_from 0 n))

pub sum_below_next : (f : ℕ → ℕ) (n : ℕ) → sum_below f (suc n) ≡ sum_below f n + f n
sum_below_next f n = let e : f (0 + n) ≡ f n = ap f (omega arith) in omega (arith, e, sum_next f 0 n)

-- ---- the order of numbers

pub tied_number : (x y : ℕ) → is_eq (nat_cmp x y) ≡ (x == y)
tied_number x y = tied x y (nat_lt x y) (x == y) refl refl

-- the numbers before one of them, with it, have no greater sum than all
pub sum_before : (f : ℕ → ℕ) (k n i : ℕ) → i < n → sum (map f (numbers_from k i)) + f (k + i) ≤ sum (map f (numbers_from k n))
sum_before f k zero i h = absurd (omega (arith, h))
sum_before f k (suc n) zero h = let e : f (k + 0) ≡ f k = ap f (omega arith) in omega (arith, sum-cons (f k) (map f (numbers_from (suc k) n)), e)
sum_before f k (suc n) (suc i) h =
    let e : f (k + suc i) ≡ f (suc k + i) = ap f (omega arith) in
    omega (arith, e, sum-cons (f k) (map f (numbers_from (suc k) n)), sum-cons (f k) (map f (numbers_from (suc k) i)), sum_before f (suc k) n i (omega arith))

-- ---- parts of signals end to end
pub parts_one : (widths : List ℕ) (i j k l : ℕ) → i < length widths → j < length widths → k < slice_index widths i
    → l < slice_index widths j → sum (take i widths) + k ≡ sum (take j widths) + l → (i ≡ j) × (k ≡ l)
parts_one [] i j k l p q r s e = absurd (omega (arith, p))
parts_one (w ∷ ws) zero zero k l p q r s e = (refl, omega (arith, e))
parts_one (w ∷ ws) zero (suc j) k l p q r s e = absurd (omega (arith, e, r, sum-cons w (take j ws)))
parts_one (w ∷ ws) (suc i) zero k l p q r s e = absurd (omega (arith, e, s, sum-cons w (take i ws)))
parts_one (w ∷ ws) (suc i) (suc j) k l p q r s e =
    let h = parts_one ws i j k l (omega arith) (omega arith) r s (omega (arith, e, sum-cons w (take i ws), sum-cons w (take j ws))) in
    (ap suc h.0, h.1)

-- one number more
pub sum_last : (f : ℕ → ℕ) (n : ℕ) → sum (map f (numbers_from 1 (n + 1))) ≡ sum (map f (numbers_from 1 n)) + f (n + 1)
sum_last f n =
    let e = ap (λ (xs : List ℕ). sum xs) (map_last f n) in
    let split = sum_by-append (λ x. x) (map f (numbers_from 1 n)) (f (n + 1) ∷ []) in
    let one = sum_by-cons (λ x. x) (f (n + 1)) [] in
    omega (arith, e, split, one)
