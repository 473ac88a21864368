-- Elements that are put one behind the other.
use Rattle.std.proofs.Common.{◌≡◌, ℕ, ◌+◌, ◌<◌, List, [], ◌∷◌, ◌++◌, map, flat_map, length, get_or, take, sym, ap, ◌∙◌, subst, append-nil, append_assoc}
use Rattle.std.proofs.lemmas.Grind.{flat_map-append}
use Rattle.std.proofs.lemmas.List.{map-append, take_more}
use Rattle.vl_ast.specs.declared.making.Listing.{Listing}
use Rattle.vl_ast.specs.Listing.{Holds, Lists}

module _ {A : Type 0} where
  pub none-put : (out : Listing A) → Lists out out []
  none-put out = record { whole = λ enough. (enough, sym (append-nil out.list)) }

  -- these and others behind them
  pub both : {old mid new : Listing A} {first second : List A} → Lists old mid first → Lists mid new second → Lists old new (first ++ second)
  both {old} {mid} {new} {first} {second} one two = record {
    whole = λ enough.
        let last = two.whole enough in
        let before = one.whole last.0 in
        (before.0, last.1 ∙ ap (λ (xs : List A). xs ++ second) before.1 ∙ append_assoc old.list first second);
  }

  pub lists-as : {old new : Listing A} {first second : List A} → first ≡ second → Lists old new first → Lists old new second
  lists-as {old} {new} is one = subst (λ (xs : List A). Lists old new xs) is one

  pub has-more : {old new : Listing A} {all more : List A} → Holds old all → Lists old new more → Holds new (all ++ more)
  has-more {old} {new} {all} {more} has put = record {
    whole = λ enough. let last = put.whole enough in last.1 ∙ ap (λ (xs : List A). xs ++ more) (has.whole last.0);
  }

  pub holds-as : {out : Listing A} {first second : List A} → first ≡ second → Holds out first → Holds out second
  holds-as {out} is one = subst (λ (xs : List A). Holds out xs) is one

-- what a loop puts of each element
module _ {B : Type 0} (xs : List B) (i : ℕ) (x : B) (below : i < length xs) (at : x ≡ get_or xs i x) where
  taken : take (i + 1) xs ≡ take i xs ++ x ∷ []
  taken = take_more xs i x below ∙ ap (λ (y : B). take i xs ++ y ∷ []) (sym at)

  module _ {A : Type 0} where
    pub one-mapped : (f : B → A) {old mid new : Listing A} → Lists old mid (map f (take i xs)) → Lists mid new (f x ∷ []) → Lists old new (map f (take (i + 1) xs))
    one-mapped f before put = lists-as (sym (ap (map f) taken ∙ map-append f (take i xs) (x ∷ []))) (both before put)

    pub one-held : (f : B → A) {mid new : Listing A} → Holds mid (map f (take i xs)) → Lists mid new (f x ∷ []) → Holds new (map f (take (i + 1) xs))
    one-held f before put = holds-as (sym (ap (map f) taken ∙ map-append f (take i xs) (x ∷ []))) (has-more before put)

    pub one-more : (f : B → List A) {old mid new : Listing A} → Lists old mid (flat_map f (take i xs)) → Lists mid new (f x) → Lists old new (flat_map f (take (i + 1) xs))
    one-more f before put =
        lists-as (sym (ap (flat_map f) taken ∙ flat_map-append f (take i xs) (x ∷ []) ∙ ap (λ (ys : List A). flat_map f (take i xs) ++ ys) (append-nil (f x))))
        (both before put)
