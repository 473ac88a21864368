-- The places of names, as a map has them.
use Rattle.std.proofs.Common.{◌≡◌, ◌+◌, ℕ, suc, Bool, true, false, cond, if◌then◌else◌, List, [], ◌∷◌, ◌++◌, length, map, slice_get, Option, None, Some, Bor, bytes_eq, refl, sym, ap, ◌∙◌, true≢false}
use Rattle.std.proofs.Common.{arith}
use Rattle.std.specs.Prelude.{◌||◌}
use Rattle.std.specs.List.{list_any, position, position_from}
use Rattle.std.specs.BTreeMap.{BTreeMap, Updates, get_by, is_at}
use Rattle.std.specs.Map.{lookup}
use Rattle.std.specs.Cmp.Lexicographic.{slice_cmp}
use Rattle.std.specs.Ordering.{nat_cmp}
use Rattle.std.proofs.lemmas.Iterator.Adapters.{position_from-zero}
use Rattle.std.proofs.lemmas.List.{map-append, get_or_at, length-append, length-map}
use Rattle.std.proofs.lemmas.Map.Keys.{any_passes_from_place}
use Rattle.std.proofs.lemmas.Map.Text.{btree_map_updates_str}
use Rattle.std.proofs.lemmas.Option.{slice_get-get_or}
use Rattle.std.proofs.lemmas.Slice.Eq.{bytes_eq-Decides}
use Rattle.vl_check.specs.Names.{with_name}
use Rattle.vl_check.specs.inner.Mentions.{texts}
use Rattle.vl_check.specs.inner.Names.{HasPlaces}
use Rattle.vl_check.proofs.ScopeNames.{at-number}

-- the place of the first that passes, with one more element
abbrev pushed : Bool → ℕ → Option ℕ → Option ℕ
pushed test count (Some k) = Some k
pushed true count None = Some count
pushed false count None = None

from-push : {X : Type 0} (p : X → Bool) (i : ℕ) (xs : List X) (y : X) → position_from p i (xs ++ y ∷ []) ≡ pushed (p y) (i + length xs) (position_from p i xs)
from-push p i [] y = by (p y) where
  by : (b : Bool) → cond b (Some i) None ≡ pushed b (i + 0) None
  by true = let same : i ≡ i + 0 = omega arith in ap Some same
  by false = refl
from-push p i (x ∷ xs) y = by (from-push p (i + 1) xs y) (p x) where
  by : position_from p (i + 1) (xs ++ y ∷ []) ≡ pushed (p y) ((i + 1) + length xs) (position_from p (i + 1) xs)
      → (b : Bool) → cond b (Some i) (position_from p (i + 1) (xs ++ y ∷ [])) ≡ pushed (p y) (i + suc (length xs)) (cond b (Some i) (position_from p (i + 1) xs))
  by rest true = refl
  by rest false = let same : (i + 1) + length xs ≡ i + suc (length xs) = omega arith in rest ∙ ap (λ n. pushed (p y) n (position_from p (i + 1) xs)) same

position-push : {X : Type 0} (p : X → Bool) (xs : List X) (y : X) → position p (xs ++ y ∷ []) ≡ pushed (p y) (length xs) (position p xs)
position-push p xs y =
    let same : 0 + length xs ≡ length xs = omega arith in
    position_from-zero p (xs ++ y ∷ []) ∙ from-push p 0 xs y ∙ ap (λ n. pushed (p y) n (position_from p 0 xs)) same ∙ ap (pushed (p y) (length xs)) (sym (position_from-zero p xs))

none-passes : {X : Type 0} (f : X → List ℕ) (name : List ℕ) (i : ℕ) (xs : List X) → position_from (λ x. bytes_eq name (f x)) i xs ≡ None → list_any (bytes_eq name) (map f xs) ≡ false
none-passes f name i [] e = refl
none-passes f name i (x ∷ xs) e = by (none-passes f name (i + 1) xs) (bytes_eq name (f x)) e where
  by : (position_from (λ y. bytes_eq name (f y)) (i + 1) xs ≡ None → list_any (bytes_eq name) (map f xs) ≡ false)
      → (t : Bool) → cond t (Some i) (position_from (λ y. bytes_eq name (f y)) (i + 1) xs) ≡ None → (t || list_any (bytes_eq name) (map f xs)) ≡ false
  by rest true e = absurd (cc e)
  by rest false e = rest e

module _ (names : List (Bor (List ℕ))) (name : Bor (List ℕ)) where
  abbrev is-name : List ℕ → Bor (List ℕ) → Bool
  is-name text key = bytes_eq text key.now

  -- a name that has a place is known
  pub known-name : (k : ℕ) → position (is-name name.now) names ≡ Some k → texts names ≡ with_name (texts names) name.now
  known-name k e =
      let there = any_passes_from_place (bytes_eq name.now) (texts names) k name.now (at-number names k name.now e) ((bytes_eq-Decides name.now name.now).1 refl) in
      sym (ap (λ t. if t then texts names else texts names ++ name.now ∷ []) there)

  -- and one that has none is new
  pub new-name : position (is-name name.now) names ≡ None → texts (names ++ name ∷ []) ≡ with_name (texts names) name.now
  new-name e =
      map-append (λ (key : Bor (List ℕ)). key.now) names (name ∷ [])
      ∙ sym (ap (λ t. if t then texts names else texts names ++ name.now ∷ []) (none-passes (λ (key : Bor (List ℕ)). key.now) name.now 0 names (sym (position_from-zero (is-name name.now) names) ∙ e)))

  pub last-name : slice_get (texts (names ++ name ∷ [])) (length names) ≡ Some name.now
  last-name =
      let longer = length-append (texts names) (name.now ∷ []) in
      let long = length-map names (λ (key : Bor (List ℕ)). key.now) in
      ap (λ all. slice_get all (length names)) (map-append (λ (key : Bor (List ℕ)). key.now) names (name ∷ []))
      ∙ slice_get-get_or (texts names ++ name.now ∷ []) (length names) name.now (omega (arith, longer, long))
      ∙ ap Some (get_or_at (texts names) name.now [] name.now (length names) long)

  -- the places with one more name
  pub one-more-place : (by_name by_name' : BTreeMap (Bor (List ℕ)) ℕ) → HasPlaces names by_name → position (is-name name.now) names ≡ None
      → Updates (λ (x y : Bor (List ℕ)). slice_cmp nat_cmp x.now y.now) by_name by_name' name (Some (length names)) → HasPlaces (names ++ name ∷ []) by_name'
  one-more-place by_name by_name' places new updates text =
      btree_map_updates_str name.now by_name by_name' (Some (length names)) updates text
      ∙ by (bytes_eq name.now text) refl
      ∙ sym (position-push (is-name text) names name)
    where
      by : (t : Bool) → bytes_eq name.now text ≡ t
          → cond t (Some (length names)) (get_by (λ (key : Bor (List ℕ)). slice_cmp nat_cmp text key.now) by_name)
          ≡ pushed (bytes_eq text name.now) (length names) (position (is-name text) names)
      by true e =
          let same : name.now ≡ text = (bytes_eq-Decides name.now text).0 e in
          sym (ap (λ t. pushed t (length names) (position (is-name text) names)) ((bytes_eq-Decides text name.now).1 (sym same))
          ∙ ap (λ o. pushed true (length names) o) (ap (λ x. position (is-name x) names) (sym same) ∙ new))
      by false e =
          places text ∙ sym (ap (λ t. pushed t (length names) (position (is-name text) names)) (other (bytes_eq text name.now) refl) ∙ still (position (is-name text) names))
        where
          other : (t : Bool) → bytes_eq text name.now ≡ t → t ≡ false
          other true f = absurd (true≢false (sym ((bytes_eq-Decides name.now text).1 (sym ((bytes_eq-Decides text name.now).0 f))) ∙ e))
          other false f = refl

          still : (o : Option ℕ) → pushed false (length names) o ≡ o
          still (Some k) = refl
          still None = refl

pub no-places : (names : List (Bor (List ℕ))) (by_name : BTreeMap (Bor (List ℕ)) ℕ) → names ≡ [] → by_name.entries ≡ [] → HasPlaces names by_name
no-places names by_name none empty name =
    ap (lookup (is_at (λ (key : Bor (List ℕ)). slice_cmp nat_cmp name key.now))) empty ∙ sym (ap (position (λ (key : Bor (List ℕ)). bytes_eq name key.now)) none)
