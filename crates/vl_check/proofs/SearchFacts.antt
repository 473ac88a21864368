-- What a search over a text or over items finds.
use Rattle.std.proofs.Common.{◌≡◌, ◌<◌, ◌≤◌, ◌+◌, ℕ, suc, min, Bool, true, false, not, ◌||◌, if◌then◌else◌, List, [], ◌∷◌, ◌++◌, length, map, take, drop, find, slice_index_or, Some, None, refl, sym}
use Rattle.std.proofs.Common.{ap, ◌∙◌, ◌&&◌, subst}
use Rattle.std.specs.Prelude.{take_while}
use Rattle.std.specs.List.{list_any, list_all, prefix_len}
use Rattle.std.specs.Option.{option_or}
use Rattle.std.proofs.Math.Seq.{drop-cons}
use Rattle.std.proofs.lemmas.Bool.{and_from, and_parts}
use Rattle.std.proofs.lemmas.List.{take-append-drop, take_more, map-append, length-take, length-take-le, length-map}
use Rattle.std.proofs.lemmas.List.Sums.{position_or_len_is}
use Rattle.std.proofs.lemmas.List.Folds.{find-append}

pub any-map : {X Y : Type 0} (f : X → Y) (p : Y → Bool) (xs : List X) → list_any (λ x. p (f x)) xs ≡ list_any p (map f xs)
any-map f p [] = refl
any-map f p (x ∷ xs) = ap (λ t. p (f x) || t) (any-map f p xs)

-- how many pass a test before the first that doesn't
prefix-map : {X Y : Type 0} (f : X → Y) (p : Y → Bool) (xs : List X) → prefix_len (λ x. p (f x)) xs ≡ prefix_len p (map f xs)
prefix-map f p [] = refl
prefix-map f p (x ∷ xs) = ap (λ n. if p (f x) then 1 + n else 0) (prefix-map f p xs)

take-shared : {X Y : Type 0} (f : X → Y) (n : ℕ) (xs : List X) → length (take n xs) ≡ length (take n (map f xs))
take-shared f n xs = length-take n xs ∙ ap (min n) (sym (length-map xs f)) ∙ sym (length-take n (map f xs))

pub while-map : {X Y : Type 0} (f : X → Y) (p : Y → Bool) (xs : List X) → length (take_while (λ x. p (f x)) xs) ≡ length (take_while p (map f xs))
while-map f p xs = take-shared f (prefix_len (λ x. p (f x)) xs) xs ∙ ap (λ n. length (take n (map f xs))) (prefix-map f p xs)

-- where the first stands that passes a test
pub place-is : {X : Type 0} (q : X → Bool) (xs : List X) (i : ℕ) (d : X) → i ≤ length xs → ((k : ℕ) → k < i → q (slice_index_or xs k d) ≡ false) → (i < length xs → q (slice_index_or xs i d) ≡ true)
    → i ≡ length (take_while (λ x. not (q x)) xs)
place-is q xs i d le none here = sym (ap (λ n. length (take n xs)) (position_or_len_is q xs i d le none here) ∙ length-take-le i xs le)

all-push : {X : Type 0} (p : X → Bool) (xs : List X) (x : X) → list_all p xs ≡ true → p x ≡ true → list_all p (xs ++ x ∷ []) ≡ true
all-push p [] x all holds = ap (λ t. t && true) holds
all-push p (y ∷ ys) x all holds =
    let both = and_parts (p y) (list_all p ys) all in
    and_from (p y) (list_all p (ys ++ x ∷ [])) both.0 (all-push p ys x both.1 holds)

-- all up to an item pass a test, and so does the item
pub all-further : {X : Type 0} (p : X → Bool) (items xs : List X) (i : ℕ) (x : X) → items ≡ xs → i < length items
    → x ≡ slice_index_or items i x → p x ≡ true → list_all p (take i xs) ≡ true
    → list_all p (take (i + 1) xs) ≡ true
all-further p items xs i x are below is holds all =
    subst (λ ys. list_all p (take i ys) ≡ true → list_all p (take (i + 1) ys) ≡ true) are
    (λ before. ap (list_all p) (take_more items i x below ∙ ap (λ y. take i items ++ y ∷ []) (sym is)) ∙ all-push p (take i items) x before holds) all

-- items with a name and a test, the first of which fails it
module _ {X : Type 0} (name : X → List ℕ) (test : X → Bool) where
  abbrev pub tested : List X → List (List ℕ × Bool)
  tested xs = map (λ x. (name x, test x)) xs

  abbrev fails : List ℕ × Bool → Bool
  fails part = not part.1

  pub none-fails : (xs : List X) → list_all test xs ≡ true → find fails (tested xs) ≡ None
  none-fails [] a = refl
  none-fails (x ∷ xs) a =
      let both = and_parts (test x) (list_all test xs) a in
      ap (λ t. if not t then Some (name x, test x) else find fails (tested xs)) both.0 ∙ none-fails xs both.1

  pub one-fails : (xs : List X) (i : ℕ) (x : X) → i < length xs → x ≡ slice_index_or xs i x → list_all test (take i xs) ≡ true → test x ≡ false → find fails (tested xs) ≡ Some (name x, test x)
  one-fails xs i x below is a e =
      let cut : xs ≡ take i xs ++ x ∷ drop (suc i) xs = sym (take-append-drop i xs) ∙ ap (λ ys. take i xs ++ ys) (drop-cons xs i x below ∙ ap (λ y. y ∷ drop (suc i) xs) (sym is)) in
      ap (λ ys. find fails (tested ys)) cut ∙ ap (find fails) (map-append (λ x. (name x, test x)) (take i xs) (x ∷ drop (suc i) xs))
      ∙ find-append fails (tested (take i xs)) (tested (x ∷ drop (suc i) xs))
      ∙ ap (λ o. option_or o (find fails (tested (x ∷ drop (suc i) xs)))) (none-fails (take i xs) a)
      ∙ ap (λ t. if not t then Some (name x, test x) else find fails (tested (drop (suc i) xs))) e
