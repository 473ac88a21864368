-- Lists that loops make, one more at the end.
use Rattle.std.proofs.Common.{◌≡◌, ◌<◌, ◌≤◌, ◌+◌, ⊎_elim, ℕ, zero, suc, Bool, true, false, if◌then◌else◌, List, [], ◌∷◌, ◌++◌, length, map, filter, replicate, set, slice_index, slice_index_or, take}
use Rattle.std.proofs.Common.{drop, refl, sym, ap, ◌∙◌, arith}
use Rattle.std.proofs.lemmas.Bool.{cases_lt}
use Rattle.std.proofs.Math.ListN.{drop_of_length-le}
use Rattle.std.proofs.Math.Seq.{drop-cons}
use Rattle.std.proofs.lemmas.List.{append-nil, append_assoc, get_or_append_left, get_or_at, length-append, length-map, length-take-le, map-append, map_more, take_all}
use Rattle.std.proofs.lemmas.List.Elements.{filter-append}
use Rattle.vl_eval.specs.inner.PlanOperations.{AreNumbers}

pub numbers-none : AreNumbers 0 []
numbers-none = record { long = refl; at = λ k low. absurd (omega (arith, low)) }

pub numbers-more : (n : ℕ) (xs : List ℕ) → AreNumbers n xs → AreNumbers (n + 1) (xs ++ n ∷ [])
numbers-more n xs a = record {
  long = (let l = length-append xs (n ∷ []) in let m = a.long in omega (arith, l, m));
  at = λ k low. ⊎_elim
      (λ old. let m = a.long in get_or_append_left xs (n ∷ []) 0 k (omega (arith, m, old)) ∙ a.at k old)
      (λ new. let e : k ≡ n = omega (arith, low, new) in let m = a.long in ap (λ j. slice_index (xs ++ n ∷ []) j) (e ∙ sym m) ∙ get_or_at xs n [] 0 (length xs) refl ∙ sym e)
      (cases_lt k n);
}

pub zero-at : (count k : ℕ) → slice_index (replicate count 0) k ≡ 0
zero-at zero k = refl
zero-at (suc count) zero = refl
zero-at (suc count) (suc k) = zero-at count k

-- one more that passes a test, or one that doesn't
pub kept-one : {X Y : Type 0} (f : X → Y) (test : X → Bool) (xs : List X) (x : X) → test x ≡ true → map f (filter test xs) ++ f x ∷ [] ≡ map f (filter test (xs ++ x ∷ []))
kept-one f test xs x e =
    sym (map-append f (filter test xs) (x ∷ [])) ∙ ap (λ ys. map f (filter test xs ++ ys)) (ap (λ t. if t then x ∷ [] else []) (sym e))
    ∙ ap (map f) (sym (filter-append test xs (x ∷ [])))

pub kept-none : {X Y : Type 0} (f : X → Y) (test : X → Bool) (xs : List X) (x : X) → test x ≡ false → map f (filter test xs) ≡ map f (filter test (xs ++ x ∷ []))
kept-none f test xs x e =
    ap (map f) (sym (append-nil (filter test xs)) ∙ ap (λ ys. filter test xs ++ ys) (ap (λ t. if t then x ∷ [] else []) (sym e)) ∙ sym (filter-append test xs (x ∷ [])))

-- what a loop gathers of the items that pass a test, one item further
pub one-gathered : {X Y : Type 0} (f : X → Y) (test : X → Bool) (all : List X) (i : ℕ) (x : X) (old new : List Y)
    (y : Y) → take (i + 1) all ≡ take i all ++ x ∷ [] → old ≡ map f (filter test (take i all)) → new ≡ old ++ y ∷ []
    → y ≡ f x
    → test x ≡ true → new ≡ map f (filter test (take (i + 1) all))
one-gathered f test all i x old new y more gathered pushed is passes =
    pushed ∙ (λ j. gathered j ++ is j ∷ []) ∙ kept-one f test (take i all) x passes ∙ ap (λ xs. map f (filter test xs)) (sym more)

pub none-gathered : {X Y : Type 0} (f : X → Y) (test : X → Bool) (all : List X) (i : ℕ) (x : X) (old new : List Y)
    → take (i + 1) all ≡ take i all ++ x ∷ [] → old ≡ map f (filter test (take i all)) → new ≡ old
    → test x ≡ false → new ≡ map f (filter test (take (i + 1) all))
none-gathered f test all i x old new more gathered same fails =
    same ∙ gathered ∙ kept-none f test (take i all) x fails ∙ ap (λ xs. map f (filter test xs)) (sym more)

set-at : {A : Type 0} (front back : List A) (x y : A) (k : ℕ) → length front ≡ k → set (front ++ x ∷ back) k y ≡ front ++ y ∷ back
set-at [] back x y zero e = refl
set-at [] back x y (suc k) e = absurd (omega (arith, e))
set-at (z ∷ front) back x y zero e = absurd (omega (arith, e))
set-at (z ∷ front) back x y (suc k) e = ap (λ ys. z ∷ ys) (set-at front back x y k (omega (arith, e)))

-- a list whose elements are changed in place, one further and all
pub one-moved : {A : Type 0} (f : A → A) (old now : List A) (k : ℕ) (d : A) → k < length old
    → now ≡ map f (take k old) ++ drop k old
    → set now k (f (slice_index_or now k d)) ≡ map f (take (k + 1) old) ++ drop (k + 1) old
one-moved f old now k d below is =
    let x = slice_index_or old k d in
    let front = map f (take k old) in
    let next : suc k ≡ k + 1 = omega arith in
    let cut : now ≡ front ++ x ∷ drop (k + 1) old = is ∙ ap (λ ys. front ++ ys) (drop-cons old k d below ∙ ap (λ n. x ∷ drop n old) next) in
    let long : length front ≡ k = length-map (take k old) f ∙ length-take-le k old (omega (arith, below)) in
    let here : slice_index_or now k d ≡ x = ap (λ ys. slice_index_or ys k d) cut ∙ get_or_at front x (drop (k + 1) old) d k long in
    (λ i. set (cut i) k (f (here i))) ∙ set-at front (drop (k + 1) old) x (f x) k long
    ∙ sym (append_assoc front (f x ∷ []) (drop (k + 1) old)) ∙ ap (λ ys. ys ++ drop (k + 1) old) (sym (map_more f old k d below))

pub all-moved : {A : Type 0} (f : A → A) (old : List A) (k : ℕ) → length old ≤ k → map f (take k old) ++ drop k old ≡ map f old
all-moved f old k past =
    (λ i. map f (take_all k old past i) ++ drop_of_length-le old past i) ∙ append-nil (map f old)
