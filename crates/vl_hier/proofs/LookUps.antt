-- What an index tells of a list: how many of its elements have a name, and which is the first.
use Rattle.std.proofs.Common.{◌≡◌, ◌+◌, ◌<◌, ℕ, zero, suc, Bool, true, false, ◌||◌, cond, if◌then◌else◌, List, [], ◌∷◌, map, bytes_eq, count_by, find, Option, Some, None, refl, sym, ap, ◌∙◌, arith, eqb-true}
use Rattle.std.specs.Prelude.{◌==◌}
use Rattle.std.specs.List.{list_any}
use Rattle.math_list.proofs.Places.{count_cons}
use Rattle.vl_hier.specs.declared.index.Found.{Found}
use Rattle.vl_hier.specs.declared.index.Found.TheVariants.{Once, Often}
use Rattle.vl_hier.specs.inner.Index.{IsFirstAt, IsFound, count_of, first_of, has_place, is_at_once}
use Rattle.vl_hier.specs.inner.Tables.{at_place, one_at}
use Rattle.vl_hier.proofs.NamePlaces.{count-unmapped, first-found, first-unmapped}

pub not-one : (n : ℕ) → 1 < n → (n == 1) ≡ false
not-one n more = by (n == 1) refl
  where
    by : (b : Bool) → (n == 1) ≡ b → (n == 1) ≡ false
    by true e = let one = eqb-true n 1 e in absurd (omega (arith, one, more))
    by false e = e

module _ {A : Type 0} (p : A → Bool) where
  -- none passes
  counted : (x : A) (xs : List A) (n : ℕ) → count_by p (x ∷ xs) ≡ n → (b : Bool) → p x ≡ b → cond b 1 0 + count_by p xs ≡ n
  counted x xs n e b is = ap (λ c. cond c 1 0 + count_by p xs) (sym is) ∙ sym (count_cons p x xs) ∙ e

  pub rest-of-none : (x : A) (xs : List A) → count_by p (x ∷ xs) ≡ 0 → (p x ≡ false) × (count_by p xs ≡ 0)
  rest-of-none x xs e = by (p x) refl
    where
      by : (b : Bool) → p x ≡ b → (p x ≡ false) × (count_by p xs ≡ 0)
      by true is = let c = counted x xs 0 e true is in absurd (omega (arith, c))
      by false is = let c = counted x xs 0 e false is in (is, omega (arith, c))

  -- one passes, and it is the first
  pub rest-of-first : (x : A) (xs : List A) → count_by p (x ∷ xs) ≡ 1 → p x ≡ true → count_by p xs ≡ 0
  rest-of-first x xs e is = let c = counted x xs 1 e true is in omega (arith, c)

  pub rest-of-later : (x : A) (xs : List A) → count_by p (x ∷ xs) ≡ 1 → p x ≡ false → count_by p xs ≡ 1
  rest-of-later x xs e is = let c = counted x xs 1 e false is in omega (arith, c)

  none-any : (xs : List A) → count_by p xs ≡ 0 → list_any p xs ≡ false
  none-any [] e = refl
  none-any (x ∷ xs) e = let rest = rest-of-none x xs e in (λ k. rest.0 k || list_any p xs) ∙ none-any xs rest.1

  none-found : (xs : List A) → count_by p xs ≡ 0 → find p xs ≡ None
  none-found [] e = refl
  none-found (x ∷ xs) e = let rest = rest-of-none x xs e in ap (λ b. cond b (Some x) (find p xs)) rest.0 ∙ none-found xs rest.1

  first-any : (xs : List A) (k : ℕ) → IsFirstAt p xs k → list_any p xs ≡ true
  first-any [] k at = absurd at
  first-any (x ∷ xs) zero at = ap (λ b. b || list_any p xs) at
  first-any (x ∷ xs) (suc k) at = ap (λ b. b || list_any p xs) at.0 ∙ first-any xs k at.1

module _ {A : Type 0} (f : A → List ℕ) (xs : List A) (name : List ℕ) where
  abbrev test : A → Bool
  test x = bytes_eq (f x) name

  count-is : (n : ℕ) → count_of (map f xs) name ≡ n → count_by test xs ≡ n
  count-is n e = sym (count-unmapped f (λ other. bytes_eq other name) xs) ∙ e

  more-than-one : 1 < count_of (map f xs) name → (count_by test xs == 1) ≡ false
  more-than-one more =
      let e : count_of (map f xs) name ≡ count_by test xs = count-unmapped f (λ other. bytes_eq other name) xs in
      not-one (count_by test xs) (omega (arith, e, more))

  first-is : (k : ℕ) → IsFirstAt (λ other. bytes_eq other name) (map f xs) k → IsFirstAt test xs k
  first-is k at = first-unmapped f (λ other. bytes_eq other name) xs k at

  pub once-found : (o : Option Found) → IsFound (map f xs) name o → is_at_once o ≡ (count_by test xs == 1)
  once-found None is = sym (ap (λ n. n == 1) (count-is 0 is))
  once-found (Some (Once place)) is = sym (ap (λ n. n == 1) (count-is 1 is.0))
  once-found (Some (Often place)) is = sym (more-than-one is.0)

  pub any-found : (o : Option Found) → IsFound (map f xs) name o → has_place o ≡ list_any test xs
  any-found None is = sym (none-any test xs (count-is 0 is))
  any-found (Some (Once place)) is = sym (first-any test xs place (first-is place is.1))
  any-found (Some (Often place)) is = sym (first-any test xs place (first-is place is.1))

  pub one-found : (o : Option Found) → IsFound (map f xs) name o → one_at xs o ≡ (if count_by test xs == 1 then find test xs else None)
  one-found None is = sym (ap (λ n. if n == 1 then find test xs else None) (count-is 0 is))
  one-found (Some (Once place)) is =
      sym (first-found test xs place (first-is place is.1)) ∙ sym (ap (λ n. if n == 1 then find test xs else None) (count-is 1 is.0))
  one-found (Some (Often place)) is = sym (ap (λ b. if b then find test xs else None) (more-than-one is.0))

  pub first-named : (o : Option Found) → IsFound (map f xs) name o → at_place xs (first_of o) ≡ find test xs
  first-named None is = sym (none-found test xs (count-is 0 is))
  first-named (Some (Once place)) is = sym (first-found test xs place (first-is place is.1))
  first-named (Some (Often place)) is = sym (first-found test xs place (first-is place is.1))
