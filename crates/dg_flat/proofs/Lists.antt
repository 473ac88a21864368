-- What holds of each item that a list keeps.
use Rattle.std.proofs.Common.{◌≡◌, ℕ, suc, ◌<◌, ◌+◌, Bool, false, cond, List, [], ◌∷◌, length, All, Option, Some, None, add-zero, zero-add, refl, sym, ap, ◌∙◌, arith}
use Rattle.std.specs.Prelude.{count_by, slice_get, AllPairs}
use Rattle.std.specs.List.{enumerate_from, filter_map, cons_option}
use Rattle.std.specs.Option.{is_some}
use Rattle.std.proofs.lemmas.List.Kept.{AllPairs-cons}
use Rattle.math_list.proofs.Places.{all_cons, count_cons}

pub each_given : {X Y : Type 0} (h : X → Option Y) (P : Y → Type 0) (xs : List X) → ((k : ℕ) (x : X) (y : Y) → slice_get xs k ≡ Some x → h x ≡ Some y → P y) → All P (filter_map h xs)
each_given h P [] each = λ j d inside. absurd (omega (arith, inside))
each_given {X} {Y} h P (x ∷ xs) each = go (h x) refl (each_given h P xs (λ k z y at is. each (suc k) z y at is)) where
  go : (o : Option Y) → h x ≡ o → All P (filter_map h xs) → All P (cons_option o (filter_map h xs))
  go None e all = all
  go (Some y) e all = all_cons P y (filter_map h xs) (each 0 x y refl e) all

pub pairs_given : {X Y : Type 0} (h : X → Option Y) (R : Y → Y → Type 0) (xs : List X) →
    ((i j : ℕ) (x z : X) (y w : Y) → i < j → slice_get xs i ≡ Some x → slice_get xs j ≡ Some z → h x ≡ Some y → h z ≡ Some w → R y w) → AllPairs R (filter_map h xs)
pairs_given h R [] each = λ i j d before inside. absurd (omega (arith, inside))
pairs_given {X} {Y} h R (x ∷ xs) each =
    go (h x) refl (pairs_given h R xs (λ i j z w y v before at there is its. each (suc i) (suc j) z w y v (omega (arith, before)) at there is its)) where
      go : (o : Option Y) → h x ≡ o → AllPairs R (filter_map h xs) → AllPairs R (cons_option o (filter_map h xs))
      go None e all = all
      go (Some y) e all = AllPairs-cons R y (filter_map h xs) (each_given h (R y) xs (λ k z w at is. each 0 (suc k) x z y w (omega arith) refl at e is)) all

-- ---- counts

abbrev pub on_some : {Y : Type 0} → (Y → Bool) → Option Y → Bool
on_some p None = false
on_some p (Some y) = p y

pub count_kept : {X Y : Type 0} (h : X → Option Y) (p : Y → Bool) (q : X → Bool) (xs : List X) → ((k : ℕ) (x : X) → slice_get xs k ≡ Some x → on_some p (h x) ≡ q x) →
    count_by p (filter_map h xs) ≡ count_by q xs
count_kept h p q [] same = refl
count_kept {X} {Y} h p q (x ∷ xs) same = go (h x) refl (count_kept h p q xs (λ k y at. same (suc k) y at)) where
  go : (o : Option Y) → h x ≡ o → count_by p (filter_map h xs) ≡ count_by q xs → count_by p (cons_option (h x) (filter_map h xs)) ≡ count_by q (x ∷ xs)
  go None e rest =
      let test : q x ≡ false = sym (same 0 x refl) ∙ ap (on_some p) e in
      ap (λ (o : Option Y). count_by p (cons_option o (filter_map h xs))) e ∙ rest
      ∙ sym (count_cons q x xs ∙ ap (λ (b : Bool). cond b 1 0 + count_by q xs) test ∙ zero-add (count_by q xs))
  go (Some y) e rest =
      let test : q x ≡ p y = sym (same 0 x refl) ∙ ap (on_some p) e in
      ap (λ (o : Option Y). count_by p (cons_option o (filter_map h xs))) e ∙ count_cons p y (filter_map h xs) ∙ ap (λ (n : ℕ). cond (p y) 1 0 + n) rest
      ∙ sym (count_cons q x xs ∙ ap (λ (b : Bool). cond b 1 0 + count_by q xs) test)

pub length_kept : {X Y : Type 0} (h : X → Option Y) (q : X → Bool) (xs : List X) → ((x : X) → is_some (h x) ≡ q x) → length (filter_map h xs) ≡ count_by q xs
length_kept h q [] same = refl
length_kept {X} {Y} h q (x ∷ xs) same = go (h x) (same x) (length_kept h q xs same) where
  go : (o : Option Y) → is_some o ≡ q x → length (filter_map h xs) ≡ count_by q xs → length (cons_option o (filter_map h xs)) ≡ count_by q (x ∷ xs)
  go None e rest = rest ∙ sym (count_cons q x xs ∙ ap (λ (b : Bool). cond b 1 0 + count_by q xs) (sym e) ∙ zero-add (count_by q xs))
  go (Some y) e rest =
      let all : count_by q (x ∷ xs) ≡ 1 + count_by q xs = count_cons q x xs ∙ ap (λ (b : Bool). cond b 1 0 + count_by q xs) (sym e) in
      omega (arith, rest, all)

-- ---- one list of kept items by another

abbrev pub of_some : {Y Z : Type 0} → (Y → Option Z) → Option Y → Option Z
of_some g None = None
of_some g (Some y) = g y

pub kept_kept : {X Y Z : Type 0} (h : ℕ × X → Option Y) (g : Y → Option Z) (r : X → Option Z) (from : ℕ)
    (xs : List X) → ((k : ℕ) (x : X) → slice_get xs k ≡ Some x → of_some g (h (from + k, x)) ≡ r x) →
    filter_map g (filter_map h (enumerate_from from xs)) ≡ filter_map r xs
kept_kept h g r from [] same = refl
kept_kept {X} {Y} {Z} h g r from (x ∷ xs) same = go (h (from, x)) refl (kept_kept h g r (from + 1) xs later) where
  later : (k : ℕ) (y : X) → slice_get xs k ≡ Some y → of_some g (h ((from + 1) + k, y)) ≡ r y
  later k y at = let next : (from + 1) + k ≡ from + suc k = omega arith in ap (λ (n : ℕ). of_some g (h (n, y))) next ∙ same (suc k) y at

  here : of_some g (h (from, x)) ≡ r x
  here = ap (λ (n : ℕ). of_some g (h (n, x))) (sym (add-zero from)) ∙ same 0 x refl

  go : (o : Option Y) → h (from, x) ≡ o → filter_map g (filter_map h (enumerate_from (from + 1) xs))
      ≡ filter_map r xs → filter_map g (cons_option o (filter_map h (enumerate_from (from + 1) xs)))
      ≡ filter_map r (x ∷ xs)
  go None e rest =
      let none : r x ≡ None = sym here ∙ ap (of_some g) e in
      rest ∙ sym (ap (λ (o : Option Z). cons_option o (filter_map r xs)) none)
  go (Some y) e rest =
      let some : g y ≡ r x = sym (ap (of_some g) e) ∙ here in
      ap (λ (o : Option Z). cons_option o (filter_map g (filter_map h (enumerate_from (from + 1) xs)))) some ∙ ap (cons_option (r x)) rest
