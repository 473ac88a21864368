-- Lists gathered place by place: what is gathered, and what is left of them.
use Rattle.std.proofs.Common.{◌≡◌, ℕ, ◌+◌, ◌*◌, ◌/◌, ◌^◌, ◌<◌, ◌≤◌, max, fold, Bool, true, false, List, [], ◌∷◌, ◌++◌, map, filter, drop, length, get_or, refl, sym, ap, ◌∙◌, arith, subst}
use Rattle.std.specs.List.{range_with_len, zip}
use Rattle.std.proofs.lemmas.Bool.{cond-false, cond-true}
use Rattle.std.proofs.lemmas.List.{append_assoc, append-nil, drop_all, drop_more}
use Rattle.std.proofs.lemmas.List.FromFn.{map-range_with_len_more}
use Rattle.std.proofs.lemmas.Nat.{div-add-mod', mod_below, pow_pos}
use Rattle.vl_ast.specs.declared.making.Listing.{Listing}
use Rattle.vl_ast.specs.Listing.{Holds, Lists}
use Rattle.vl_ast.proofs.Listings.{both, lists-as}

-- ---- the elements that pass a test

module _ {A : Type 0} (test : A → Bool) (xs : List A) (i : ℕ) (x : A) (inside : i < length xs) (at : get_or xs i x ≡ x) where
  behind : drop i xs ≡ x ∷ drop (i + 1) xs
  behind = drop_more xs i x inside ∙ ap (λ y. y ∷ drop (i + 1) xs) at

  pub filter-yes : test x ≡ true → filter test (drop i xs) ≡ x ∷ filter test (drop (i + 1) xs)
  filter-yes e = ap (filter test) behind ∙ cond-true (test x) (x ∷ filter test (drop (i + 1) xs)) (filter test (drop (i + 1) xs)) e

  pub filter-no : test x ≡ false → filter test (drop i xs) ≡ filter test (drop (i + 1) xs)
  filter-no e = ap (filter test) behind ∙ cond-false (test x) (x ∷ filter test (drop (i + 1) xs)) (filter test (drop (i + 1) xs)) e

  -- one more of two lists side by side
  pub gather-yes : {B C : Type 0} (f : A × B → C) (made : List C) (y : B) (left ys : List B) (whole : List C) → left ≡ y ∷ ys → test x ≡ true
      → made ++ map f (zip (filter test (drop i xs)) left) ≡ whole
      → (made ++ f (x, y) ∷ []) ++ map f (zip (filter test (drop (i + 1) xs)) ys) ≡ whole
  gather-yes f made y left ys whole is e old =
      append_assoc made (f (x, y) ∷ []) (map f (zip (filter test (drop (i + 1) xs)) ys))
      ∙ sym (λ k. made ++ map f (zip (filter-yes e k) (is k))) ∙ old

  pub gather-none : {B C : Type 0} (f : A × B → C) (made : List C) (left : List B) (whole : List C) → left ≡ [] → test x ≡ true
      → made ++ map f (zip (filter test (drop i xs)) left) ≡ whole → made ≡ whole
  gather-none f made left whole is e old = sym (append-nil made) ∙ sym (λ k. made ++ map f (zip (filter-yes e k) (is k))) ∙ old

  pub gather-no : {B C : Type 0} (f : A × B → C) (made : List C) (left : List B) (whole : List C) → test x ≡ false
      → made ++ map f (zip (filter test (drop i xs)) left) ≡ whole
      → made ++ map f (zip (filter test (drop (i + 1) xs)) left) ≡ whole
  gather-no f made left whole e old = sym (ap (λ zs. made ++ map f (zip zs left)) (filter-no e)) ∙ old

  -- the greatest of their numbers
  pub most-yes : (f : A → ℕ) (most whole : ℕ) → test x ≡ true
      → fold max most (map f (filter test (drop i xs))) ≡ whole → fold max (max most (f x)) (map f (filter test (drop (i + 1) xs))) ≡ whole
  most-yes f most whole e old = sym (ap (λ zs. fold max most (map f zs)) (filter-yes e)) ∙ old

  pub most-no : (f : A → ℕ) (most whole : ℕ) → test x ≡ false
      → fold max most (map f (filter test (drop i xs))) ≡ whole → fold max most (map f (filter test (drop (i + 1) xs))) ≡ whole
  most-no f most whole e old = sym (ap (λ zs. fold max most (map f zs)) (filter-no e)) ∙ old

module _ {A : Type 0} (test : A → Bool) (xs : List A) (i : ℕ) (outside : length xs ≤ i) where
  pub filter-end : filter test (drop i xs) ≡ []
  filter-end = ap (filter test) (drop_all i xs outside)

  pub gather-end : {B C : Type 0} (f : A × B → C) (made : List C) (left : List B) (whole : List C)
      → made ++ map f (zip (filter test (drop i xs)) left) ≡ whole → made ≡ whole
  gather-end f made left whole old = sym (append-nil made) ∙ sym (ap (λ zs. made ++ map f (zip zs left)) filter-end) ∙ old

  pub most-end : (f : A → ℕ) (most whole : ℕ) → fold max most (map f (filter test (drop i xs))) ≡ whole → most ≡ whole
  most-end f most whole old = sym (ap (λ zs. fold max most (map f zs)) filter-end) ∙ old

nothing : {A : Type 0} (xs : List A) → length xs ≡ 0 → xs ≡ []
nothing [] none = refl
nothing (x ∷ xs) none = absurd (omega (arith, none))

none-zipped : {A B : Type 0} (xs : List A) → let none : List B = [] in zip xs none ≡ []
none-zipped [] = refl
none-zipped (x ∷ xs) = refl

-- ---- what is listed, and what is left to list

pub record AreGathered {A B C : Type 0} (f : A × B → C) (test : A → Bool) (xs : List A) (ys : List B) (out : Listing C) (i : ℕ) (left : List B) : Type 0 where
  pub whole : out.wanting ≡ false → out.list ++ map f (zip (filter test (drop i xs)) left) ≡ map f (zip (filter test xs) ys)

module _ {A B C : Type 0} (f : A × B → C) (test : A → Bool) (xs : List A) (ys : List B) where
  pub none-gathered : {out : Listing C} → Holds out [] → AreGathered f test xs ys out 0 ys
  none-gathered none = record { whole = λ enough. ap (λ zs. zs ++ map f (zip (filter test xs) ys)) (none.whole enough) }

  module _ (i : ℕ) (x : A) (inside : i < length xs) (at : get_or xs i x ≡ x) (left : List B) {out : Listing C} (was : AreGathered f test xs ys out i left) where
    pub one-gathered : {new : Listing C} (y : B) (others : List B) → left ≡ y ∷ others → test x ≡ true → Lists out new (f (x, y) ∷ []) → AreGathered f test xs ys new (i + 1) others
    one-gathered {new} y others is e put = record {
      whole = λ enough.
          let last = put.whole enough in
          ap (λ zs. zs ++ map f (zip (filter test (drop (i + 1) xs)) others)) last.1
          ∙ gather-yes test xs i x inside at f out.list y left others (map f (zip (filter test xs) ys)) is e (was.whole last.0);
    }

    pub unnamed-gathered : length left ≡ 0 → test x ≡ true → AreGathered f test xs ys out (i + 1) left
    unnamed-gathered none e = record {
      whole = λ enough.
          let is = nothing left none in
          ap (λ zs. out.list ++ map f zs) (ap (zip (filter test (drop (i + 1) xs))) is ∙ none-zipped (filter test (drop (i + 1) xs)))
          ∙ append-nil out.list ∙ gather-none test xs i x inside at f out.list left (map f (zip (filter test xs) ys)) is e (was.whole enough);
    }

    pub other-gathered : test x ≡ false → AreGathered f test xs ys out (i + 1) left
    other-gathered e = record { whole = λ enough. gather-no test xs i x inside at f out.list left (map f (zip (filter test xs) ys)) e (was.whole enough) }

  pub gathered-as : (i : ℕ) {out new : Listing C} {left others : List B} → out ≡ new → left ≡ others → AreGathered f test xs ys new i others → AreGathered f test xs ys out i left
  gathered-as i {out} {new} {left} {others} same rest is =
      subst (λ (o : Listing C). AreGathered f test xs ys o i left) (sym same) (subst (λ (zs : List B). AreGathered f test xs ys new i zs) (sym rest) is)

  pub all-gathered : (i : ℕ) (left : List B) {out : Listing C} → length xs ≤ i → AreGathered f test xs ys out i left → Holds out (map f (zip (filter test xs) ys))
  all-gathered i left {out} outside was = record { whole = λ enough. gather-end test xs i outside f out.list left (map f (zip (filter test xs) ys)) (was.whole enough) }

-- ---- ranges

pub mapped-more : {A : Type 0} (f : ℕ → A) (count : ℕ) {old mid new : Listing A}
    → Lists old mid (map f (range_with_len 0 count)) → Lists mid new (f count ∷ [])
    → Lists old new (map f (range_with_len 0 (count + 1)))
mapped-more f count before put = lists-as (sym (map-range_with_len_more f 0 count count (omega arith))) (both before put)

-- ---- room for a number

pub has-room : (most width : ℕ) → most / 2 ^ width ≡ 0 → most < 2 ^ width
has-room most width none = by (2 ^ width) (pow_pos width) none where
  by : (p : ℕ) → 0 < p → most / p ≡ 0 → most < p
  by p some e =
      let w = div-add-mod' most p in
      let r = mod_below most p some in
      let z : (most / p) * p ≡ 0 * p = ap (λ q. q * p) e in
      omega (arith, w, r, z)
