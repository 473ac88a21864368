-- A list that has a function's values at all places so far.
use Rattle.std.proofs.Common.{◌≡◌, ℕ, ◌+◌, List, [], ◌∷◌, ◌++◌, ◌<◌, length, get_or, map, take, sym, ◌∙◌, ap, arith}
use Rattle.std.specs.List.{range_with_len}
use Rattle.std.proofs.lemmas.List.{map-append, take_more}
use Rattle.std.proofs.lemmas.List.FromFn.{map-range_with_len_more, get_or-map-range_with_len, length-map-range_with_len}

-- one more value
pub pushed : {A : Type 0} (f : ℕ → A) (before after : List A) (value : A) (place : ℕ)
    → before ≡ map f (range_with_len 0 place) → after ≡ before ++ value ∷ [] → value ≡ f place
    → after ≡ map f (range_with_len 0 (place + 1))
pushed {A} f before after value place known is same =
    is ∙ ap (λ (xs : List A). xs ++ value ∷ []) known ∙ ap (λ (v : A). map f (range_with_len 0 place) ++ v ∷ []) same
    ∙ sym (map-range_with_len_more f 0 place place (omega arith))

-- a value that it has, and how long it is
pub known_at : {A : Type 0} (f : ℕ → A) (xs : List A) (count place : ℕ) → xs ≡ map f (range_with_len 0 count) → place < count → (other : A) → get_or xs place other ≡ f place
known_at f xs count place is within other = rw is (get_or-map-range_with_len f 0 count place place other within (omega arith))

pub known_length : {A : Type 0} (f : ℕ → A) (xs : List A) (count : ℕ) → xs ≡ map f (range_with_len 0 count) → length xs ≡ count
known_length f xs count is = rw is (length-map-range_with_len f 0 count)

-- one more value of each element of a list that is gone through
pub mapped_more : {A B C : Type 0} (g : A → C) (f : B → C) (before after : List A) (all : List B) (index : ℕ)
    (value : A) (other : B) → index < length all → map g before ≡ map f (take index all)
    → after ≡ before ++ value ∷ [] → g value ≡ f (get_or all index other)
    → map g after ≡ map f (take (index + 1) all)
mapped_more {A} {B} {C} g f before after all index value other within known is same =
    ap (map g) is ∙ map-append g before (value ∷ []) ∙ ap (λ (cs : List C). cs ++ g value ∷ []) known ∙ ap (λ (c : C). map f (take index all) ++ c ∷ []) same
    ∙ sym (ap (map f) (take_more all index other within) ∙ map-append f (take index all) (get_or all index other ∷ []))
