-- The names of a list with their places.
use Rattle.std.proofs.Common.{◌≡◌, ◌+◌, ◌<◌, ℕ, zero, suc, Bool, true, false, cond, List, [], ◌∷◌, ◌++◌, length, map, take, get_or, slice_get, bytes_eq, count_by, find, Option, Some, None, refl, sym, ap, subst, ◌∙◌, arith}
use Rattle.std.proofs.lemmas.List.{length-map, length-take-le, map-append, take_more}
use Rattle.std.proofs.lemmas.Slice.Eq.{bytes_eq-Decides}
use Rattle.math_list.proofs.Places.{count_cons}
use Rattle.vl_hier.specs.declared.index.Found.{Found}
use Rattle.vl_hier.specs.declared.index.Found.TheVariants.{Once, Often}
use Rattle.vl_hier.specs.declared.index.Index.{Index}
use Rattle.vl_hier.specs.inner.Index.{IsFirstAt, IsFound, IsIndexOf, count_of, with_place}

count-push : {A : Type 0} (p : A → Bool) (xs : List A) (x : A) → count_by p (xs ++ x ∷ []) ≡ count_by p xs + cond (p x) 1 0
count-push p [] x = let e = count_cons p x [] in omega (arith, e)
count-push p (y ∷ xs) x =
    let all : count_by p ((y ∷ xs) ++ x ∷ []) ≡ cond (p y) 1 0 + count_by p (xs ++ x ∷ []) = count_cons p y (xs ++ x ∷ []) in
    let front = count_cons p y xs in
    let rest = count-push p xs x in
    omega (arith, all, front, rest)

none-before : (a b : ℕ) → a + b ≡ 0 → b ≡ 0
none-before a b e = omega (arith, e)

-- ---- first places

first-left : {A : Type 0} (p : A → Bool) (xs ys : List A) (k : ℕ) → IsFirstAt p xs k → IsFirstAt p (xs ++ ys) k
first-left p [] ys k at = absurd at
first-left p (x ∷ xs) ys zero at = at
first-left p (x ∷ xs) ys (suc k) at = (at.0, first-left p xs ys k at.1)

first-new : {A : Type 0} (p : A → Bool) (xs : List A) (y : A) → count_by p xs ≡ 0 → p y ≡ true → IsFirstAt p (xs ++ y ∷ []) (length xs)
first-new p [] y none so = so
first-new p (x ∷ xs) y none so =
    by (p x) refl (first-new p xs y (none-before (cond (p x) 1 0) (count_by p xs) (sym (count_cons p x xs) ∙ none)) so)
  where
    by : (b : Bool) → p x ≡ b → IsFirstAt p (xs ++ y ∷ []) (length xs) → IsFirstAt p ((x ∷ xs) ++ y ∷ []) (length (x ∷ xs))
    by true e rest =
        let c : count_by p (x ∷ xs) ≡ 1 + count_by p xs = count_cons p x xs ∙ ap (λ b. cond b 1 0 + count_by p xs) e in
        absurd (omega (arith, c, none))
    by false e rest = (e, rest)

pub first-found : {A : Type 0} (p : A → Bool) (xs : List A) (k : ℕ) → IsFirstAt p xs k → find p xs ≡ slice_get xs k
first-found p [] k at = absurd at
first-found p (x ∷ xs) zero at = ap (λ b. cond b (Some x) (find p xs)) at
first-found p (x ∷ xs) (suc k) at = ap (λ b. cond b (Some x) (find p xs)) at.0 ∙ first-found p xs k at.1

pub first-unmapped : {A B : Type 0} (f : A → B) (p : B → Bool) (xs : List A) (k : ℕ) → IsFirstAt p (map f xs) k → IsFirstAt (λ x. p (f x)) xs k
first-unmapped f p [] k at = at
first-unmapped f p (x ∷ xs) zero at = at
first-unmapped f p (x ∷ xs) (suc k) at = (at.0, first-unmapped f p xs k at.1)

pub count-unmapped : {A B : Type 0} (f : A → B) (p : B → Bool) (xs : List A) → count_by p (map f xs) ≡ count_by (λ x. p (f x)) xs
count-unmapped f p [] = refl
count-unmapped f p (x ∷ xs) =
    count_cons p (f x) (map f xs) ∙ ap (λ n. cond (p (f x)) 1 0 + n) (count-unmapped f p xs) ∙ sym (count_cons (λ y. p (f y)) x xs)

module _ (names : List (List ℕ)) (n : List ℕ) where
  once-more : (name : List ℕ) → bytes_eq n name ≡ true → count_of (names ++ n ∷ []) name ≡ count_of names name + 1
  once-more name same = count-push (λ other. bytes_eq other name) names n ∙ ap (λ b. count_of names name + cond b 1 0) same

  no-more : (name : List ℕ) → bytes_eq n name ≡ false → count_of (names ++ n ∷ []) name ≡ count_of names name
  no-more name differs =
      let e : count_of (names ++ n ∷ []) name ≡ count_of names name + 0 = count-push (λ other. bytes_eq other name) names n ∙ ap (λ b. count_of names name + cond b 1 0) differs in
      omega (arith, e)

  of-own : (o : Option Found) → IsFound names n o → IsFound (names ++ n ∷ []) n (Some (with_place o (length names)))
  of-own None is = let e = once-more n ((bytes_eq-Decides n n).1 refl) in (omega (arith, e, is), first-new (λ other. bytes_eq other n) names n is ((bytes_eq-Decides n n).1 refl))
  of-own (Some (Once place)) is = let e = once-more n ((bytes_eq-Decides n n).1 refl) in (omega (arith, e, is.0), first-left (λ other. bytes_eq other n) names (n ∷ []) place is.1)
  of-own (Some (Often place)) is = let e = once-more n ((bytes_eq-Decides n n).1 refl) in (omega (arith, e, is.0), first-left (λ other. bytes_eq other n) names (n ∷ []) place is.1)

  of-other : (name : List ℕ) → bytes_eq n name ≡ false → (o : Option Found) → IsFound names name o → IsFound (names ++ n ∷ []) name o
  of-other name differs None is = no-more name differs ∙ is
  of-other name differs (Some (Once place)) is = (no-more name differs ∙ is.0, first-left (λ other. bytes_eq other name) names (n ∷ []) place is.1)
  of-other name differs (Some (Often place)) is = let e = no-more name differs in (omega (arith, e, is.0), first-left (λ other. bytes_eq other name) names (n ∷ []) place is.1)

  pub one-more : (old : List ℕ → Option Found) → ((name : List ℕ) → IsFound names name (old name))
      → (name : List ℕ) → IsFound (names ++ n ∷ []) name (cond (bytes_eq n name) (Some (with_place (old n) (length names))) (old name))
  one-more old is name = by (bytes_eq n name) refl
    where
      by : (b : Bool) → bytes_eq n name ≡ b → IsFound (names ++ n ∷ []) name (cond b (Some (with_place (old n) (length names))) (old name))
      by true e = subst (λ (x : List ℕ). IsFound (names ++ n ∷ []) x (Some (with_place (old n) (length names)))) ((bytes_eq-Decides n name).0 e) (of-own (old n) (is n))
      by false e = of-other name e (old name) (is name)

-- a loop's next name
pub next-name : {A : Type 0} (f : A → List ℕ) (xs : List A) (i : ℕ) (x : A) → i < length xs → x ≡ get_or xs i x
    → (old new : Index) (n : List ℕ) → n ≡ f x
    → ((names : List (List ℕ)) → length names ≡ i → IsIndexOf names old → IsIndexOf (names ++ n ∷ []) new)
    → IsIndexOf (map f (take i xs)) old → IsIndexOf (map f (take (i + 1) xs)) new
next-name f xs i x below at old new n is step before =
    let names = map f (take i xs) in
    let long : length names ≡ i = length-map (take i xs) f ∙ length-take-le i xs (omega (arith, below)) in
    let taken : take (i + 1) xs ≡ take i xs ++ x ∷ [] = take_more xs i x below ∙ ap (λ y. take i xs ++ y ∷ []) (sym at) in
    subst (λ (ns : List (List ℕ)). IsIndexOf ns new)
    (ap (λ y. names ++ y ∷ []) is ∙ sym (ap (map f) taken ∙ map-append f (take i xs) (x ∷ [])))
    (step names long before)
