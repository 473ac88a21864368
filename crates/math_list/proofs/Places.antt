-- Elements of lists by their places, after an append, `take`, `drop`, `map` and `set`.
use Rattle.std.proofs.Common.{◌≡◌, ℕ, zero, suc, ◌+◌, ◌-◌, ◌<◌, ◌≤◌, List, [], ◌∷◌, ◌++◌, length, take, drop, inl, inr, ⊎_elim, refl, ap, ◌∙◌, arith, subst, map, All, Bool, cond, fold, max, Contains}
use Rattle.std.proofs.Common.{true, append_assoc, None, Some, slice_get, ◌⊎◌, Result, Ok, Err, IfOk, sym, length-append}
use Rattle.std.specs.Prelude.{slice_get, Some, ◌⊎◌, All, count_by, set}
use Rattle.std.proofs.lemmas.Option.{none-some, get_or_from_slice_get, slice_get_within, same_Some}
use Rattle.std.proofs.lemmas.List.Sums.{sum_by-cons}
use Rattle.std.specs.List.{sum, list_any, find, range_with_len}
use Rattle.std.proofs.lemmas.List.{append_assoc}
use Rattle.std.proofs.lemmas.List.Folds.{list_any-from_Any}
use Rattle.std.proofs.lemmas.Bool.{cases_lt}

pub get_left : {A : Type 0} (xs ys : List A) (k : ℕ) (x : A) → slice_get xs k ≡ Some x → slice_get (xs ++ ys) k ≡ Some x
get_left [] ys k x at = absurd (none-some x at)
get_left (y ∷ xs) ys zero x at = at
get_left (y ∷ xs) ys (suc k) x at = get_left xs ys k x at

pub get_front : {A : Type 0} (xs ys : List A) (k : ℕ) → k < length xs → slice_get (xs ++ ys) k ≡ slice_get xs k
get_front [] ys k below = absurd (omega arith)
get_front (x ∷ xs) ys zero below = refl
get_front (x ∷ xs) ys (suc k) below = get_front xs ys k (omega arith)

pub get_right : {A : Type 0} (xs ys : List A) (j : ℕ) → slice_get (xs ++ ys) (length xs + j) ≡ slice_get ys j
get_right [] ys j = let e : 0 + j ≡ j = omega arith in ap (slice_get ys) e
get_right (y ∷ xs) ys j =
    let e : length (y ∷ xs) + j ≡ suc (length xs + j) = omega arith in
    ap (slice_get (y ∷ (xs ++ ys))) e ∙ get_right xs ys j

pub get_cases : {A : Type 0} (xs ys : List A) (k : ℕ) (x : A) → slice_get (xs ++ ys) k ≡ Some x → (slice_get xs k ≡ Some x) ⊎ ((length xs ≤ k) × (slice_get ys (k - length xs) ≡ Some x))
get_cases [] ys k x at = let e : k - 0 ≡ k = omega arith in inr (omega arith, ap (slice_get ys) e ∙ at)
get_cases (y ∷ xs) ys zero x at = inl at
get_cases (y ∷ xs) ys (suc k) x at =
    ⊎_elim
    (λ old. inl old)
    (λ new. let low = new.0 in let e : suc k - length (y ∷ xs) ≡ k - length xs = omega arith in inr (omega (arith, low), ap (slice_get ys) e ∙ new.1))
    (get_cases xs ys k x at)

pub last_at : {A : Type 0} (xs : List A) (x : A) → slice_get (xs ++ x ∷ []) (length xs) ≡ Some x
last_at [] x = refl
last_at (y ∷ xs) x = last_at xs x

pub push_cases : {A : Type 0} (xs : List A) (y : A) (k : ℕ) (x : A) → slice_get (xs ++ y ∷ []) k ≡ Some x → (slice_get xs k ≡ Some x) ⊎ ((k ≡ length xs) × (y ≡ x))
push_cases [] y zero x at = inr (refl, cc)
push_cases [] y (suc k) x at = absurd (none-some x at)
push_cases (z ∷ xs) y zero x at = inl at
push_cases (z ∷ xs) y (suc k) x at = ⊎_elim (λ old. inl old) (λ new. inr (ap suc new.0, new.1)) (push_cases xs y k x at)

pub get_take : {A : Type 0} (n : ℕ) (xs : List A) (k : ℕ) (x : A) → slice_get (take n xs) k ≡ Some x → (k < n) × (slice_get xs k ≡ Some x)
get_take zero xs k x at = absurd (none-some x at)
get_take (suc n) [] k x at = absurd (none-some x at)
get_take (suc n) (y ∷ xs) zero x at = (omega arith, at)
get_take (suc n) (y ∷ xs) (suc k) x at = let more = get_take n xs k x at in let low = more.0 in (omega (arith, low), more.1)

pub get_taken : {A : Type 0} (n : ℕ) (xs : List A) (k : ℕ) (x : A) → k < n → slice_get xs k ≡ Some x → slice_get (take n xs) k ≡ Some x
get_taken zero xs k x below at = absurd (omega arith)
get_taken (suc n) [] k x below at = at
get_taken (suc n) (y ∷ xs) zero x below at = at
get_taken (suc n) (y ∷ xs) (suc k) x below at = get_taken n xs k x (omega arith) at

pub get_drop : {A : Type 0} (n : ℕ) (xs : List A) (k : ℕ) → slice_get (drop n xs) k ≡ slice_get xs (n + k)
get_drop zero xs k = let e : k ≡ 0 + k = omega arith in ap (slice_get xs) e
get_drop (suc n) [] k = refl
get_drop (suc n) (x ∷ xs) k = let e : suc (n + k) ≡ suc n + k = omega arith in get_drop n xs k ∙ ap (slice_get (x ∷ xs)) e

pub held : {A : Type 0} (P : A → Type 0) (xs : List A) (k : ℕ) (x : A) → All P xs → slice_get xs k ≡ Some x → P x
held P xs k x all at = subst P (get_or_from_slice_get xs k x x at) (all k x (slice_get_within xs k x at))

pub get_some : {X : Type 0} (xs : List X) (i : ℕ) → i < length xs → (x : X) × (slice_get xs i ≡ Some x)
get_some [] i h = absurd (omega (arith, h))
get_some (x ∷ xs) zero h = (x, refl)
get_some (x ∷ xs) (suc i) h = get_some xs i (omega (arith, h))

pub there_within : {A : Type 0} (xs : List A) (k : ℕ) (x : A) → slice_get xs k ≡ Some x → k < length xs
there_within [] k x at = absurd (none-some x at)
there_within (y ∷ xs) zero x at = omega arith
there_within (y ∷ xs) (suc k) x at = let more = there_within xs k x at in omega (arith, more)

pub there_map : {A B : Type 0} (f : A → B) (xs : List A) (k : ℕ) (x : A) → slice_get xs k ≡ Some x → slice_get (map f xs) k ≡ Some (f x)
there_map f [] k x e = absurd (none-some x e)
there_map f (y ∷ xs) zero x e = ap (λ z. Some (f z)) (same_Some y x e)
there_map f (y ∷ xs) (suc k) x e = there_map f xs k x e

pub map_there : {A B : Type 0} (f : A → B) (xs : List A) (k : ℕ) (y : B) → slice_get (map f xs) k ≡ Some y → (x : A) × (slice_get xs k ≡ Some x) × (f x ≡ y)
map_there f [] k y e = absurd (none-some y e)
map_there f (x ∷ xs) zero y e = (x, refl, same_Some (f x) y e)
map_there f (x ∷ xs) (suc k) y e = map_there f xs k y e

pub all_cons : {Y : Type 0} (P : Y → Type 0) (y : Y) (ys : List Y) → P y → All P ys → All P (y ∷ ys)
all_cons P y ys here all zero d inside = here
all_cons P y ys here all (suc j) d inside = all j d (omega (arith, inside))

pub count_cons : {X : Type 0} (p : X → Bool) (x : X) (xs : List X) → count_by p (x ∷ xs) ≡ cond (p x) 1 0 + count_by p xs
count_cons p x xs = sum_by-cons (λ x. cond (p x) 1 0) x xs

pub sum-cons : (x : ℕ) (xs : List ℕ) → sum (x ∷ xs) ≡ x + sum xs
sum-cons x xs = sum_by-cons (λ (n : ℕ). n) x xs

pub fold-start : (ns : List ℕ) (a : ℕ) → a ≤ fold max a ns
fold-start [] a = omega arith
fold-start (n ∷ ns) a = let r = fold-start ns (max a n) in omega (arith, r)

pub put-next : {A : Type 0} (old items more front : List A) (item : A) → items ≡ old ++ front → more ≡ items ++ item ∷ [] → more ≡ old ++ (front ++ item ∷ [])
put-next old items more front item are put = put ∙ ap (λ xs. xs ++ item ∷ []) are ∙ append_assoc old front (item ∷ [])

-- a part, and then the rest
pub put-before : {A : Type 0} (old items more part rest : List A) → items ≡ old ++ part → more ≡ items ++ rest → more ≡ old ++ (part ++ rest)
put-before old items more part rest are put = put ∙ ap (λ xs. xs ++ rest) are ∙ append_assoc old part rest

pub seen : {A : Type 0} (test : A → Bool) (xs : List A) (x : A) → Contains xs x → test x ≡ true → list_any test xs ≡ true
seen test xs x h e = list_any-from_Any test xs (h.0, x, h.1, h.2, e)

-- the search goes on from the next number
pub search_step : (test : ℕ → Bool) (k n : ℕ) → k < n → find test (range_with_len k (n - k)) ≡ cond (test k) (Some k) (find test (range_with_len (k + 1) (n - (k + 1))))
search_step test k n inside = let e : n - k ≡ suc (n - (k + 1)) = omega arith in ap (λ (m : ℕ). find test (range_with_len k m)) e

pub three_appended : (old a b c one two three : List ℕ) → one ≡ old ++ a → two ≡ one ++ b → three ≡ two ++ c → three ≡ old ++ (a ++ b ++ c)
three_appended old a b c one two three p q r = rw (r, q, p) (simp append_assoc)

pub five_appended : (old a b c d e one two three four five : List ℕ) → one ≡ old ++ a → two ≡ one ++ b → three ≡ two ++ c → four ≡ three ++ d → five ≡ four ++ e → five ≡ old ++ (a ++ b ++ c ++ d ++ e)
five_appended old a b c d e one two three four five p q r s t = rw (t, s, r, q, p) (simp append_assoc)

-- there is an element at each place below the length
pub slice_get_inside : {A : Type 0} (xs : List A) (k : ℕ) → k < length xs → slice_get xs k ≡ None → ⊥
slice_get_inside [] k h e = absurd (omega arith)
slice_get_inside (x ∷ xs) zero h e = let f : Some x ≡ None = e in cc
slice_get_inside (x ∷ xs) (suc k) h e = slice_get_inside xs k (omega arith) e

-- Lists.

-- an element of a list with one more is one of the list or the last
pub split-last : {A : Type 0} (xs : List A) (x y : A) (k : ℕ) → slice_get (xs ++ x ∷ []) k ≡ Some y → ((k < length xs) × (slice_get xs k ≡ Some y)) ⊎ ((k ≡ length xs) × (x ≡ y))
split-last xs x y k there =
    elim (cases_lt k (length xs)) [
      | inl less ↦ inl (less, sym (get_front xs (x ∷ []) k less) ∙ there)
      | inr more ↦
          let within = slice_get_within (xs ++ x ∷ []) k y there in
          let last : k ≡ length xs = omega (arith, within, length-append xs (x ∷ [])) in
          inr (last, same_Some x y (sym (last_at xs x) ∙ ap (slice_get (xs ++ x ∷ [])) (sym last) ∙ there))
    ]

pub if-both : {A E : Type 0} (P Q R : A → Type 0) (result : Result A E) → IfOk result P → IfOk result Q → ((x : A) → P x → Q x → R x) → IfOk result R
if-both P Q R (Ok x) p q f = f x p q
if-both P Q R (Err e) p q f = tt

-- ---- lists by their places

pub same_places : {A : Type 0} (xs ys : List A) → length xs ≡ length ys → ((k : ℕ) → k < length xs → slice_get xs k ≡ slice_get ys k) → xs ≡ ys
same_places [] [] same at = refl
same_places [] (y ∷ ys) same at = absurd (omega arith)
same_places (x ∷ xs) [] same at = absurd (omega arith)
same_places (x ∷ xs) (y ∷ ys) same at =
    let head : x ≡ y = same_Some x y (at 0 (omega arith)) in
    let tail : xs ≡ ys = same_places xs ys (omega arith) (λ k inside. at (suc k) (omega arith)) in cc

pub set_same : {A : Type 0} (xs : List A) (k : ℕ) (x : A) → k < length xs → slice_get (set xs k x) k ≡ Some x
set_same [] k x inside = absurd (omega arith)
set_same (y ∷ xs) zero x inside = refl
set_same (y ∷ xs) (suc k) x inside = set_same xs k x (omega arith)

pub set_other : {A : Type 0} (xs : List A) (k j : ℕ) (x : A) → (k ≡ j → ⊥) → slice_get (set xs k x) j ≡ slice_get xs j
set_other [] k j x differ = refl
set_other (y ∷ xs) zero zero x differ = absurd (differ refl)
set_other (y ∷ xs) zero (suc j) x differ = refl
set_other (y ∷ xs) (suc k) zero x differ = refl
set_other (y ∷ xs) (suc k) (suc j) x differ = set_other xs k j x (λ same. differ (ap suc same))

pub length_set : {A : Type 0} (xs : List A) (k : ℕ) (x : A) → length (set xs k x) ≡ length xs
length_set [] k x = refl
length_set (y ∷ xs) zero x = refl
length_set (y ∷ xs) (suc k) x = ap suc (length_set xs k x)

pub pushed_at : {A : Type 0} (P : A → Type 0) (xs : List A) (x : A) → ((k : ℕ) (y : A) → slice_get xs k ≡ Some y → P y) → P x → (k : ℕ) (y : A) → slice_get (xs ++ x ∷ []) k ≡ Some y → P y
pushed_at P [] x all here zero y at = subst P (same_Some x y at) here
pushed_at P [] x all here (suc k) y at = absurd (none-some y at)
pushed_at P (z ∷ xs) x all here zero y at = all 0 y at
pushed_at P (z ∷ xs) x all here (suc k) y at = pushed_at P xs x (λ j w e. all (suc j) w e) here k y at

pub map-same : {X Y : Type 0} (f g : X → Y) → ((x : X) → f x ≡ g x) → (xs : List X) → map f xs ≡ map g xs
map-same f g same [] = refl
map-same f g same (x ∷ xs) = (let a = same x in let b = map-same f g same xs in λ i. a i ∷ b i)
