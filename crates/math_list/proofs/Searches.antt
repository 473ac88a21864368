-- The first number of a range that passes a test, tests of whole numbers, and functions that give a relation's one answer.
use Rattle.std.proofs.Common.{◌≡◌, ℕ, zero, suc, ◌+◌, ◌<◌, ◌≤◌, Bool, true, false, cond, Option, Some, None, ℤ, ◌≤ℤ◌, ◌<ℤ◌, inl, inr, ap, sym, refl, subst, arith, true≢false, List, [], ◌∷◌, find, All}
use Rattle.std.specs.Prelude.{◌↔◌, int_lt, int_le, nat_le}
use Rattle.std.specs.Bool.{Decides}
use Rattle.std.specs.List.{find, range_with_len}
use Rattle.std.specs.Option.{is_some}
use Rattle.std.proofs.lemmas.Bool.{cases_lt, leb-true, le-leb}
use Rattle.std.proofs.lemmas.Int.{ints}
use Rattle.std.proofs.lemmas.Option.{same_Some, none-some}
use Rattle.std.proofs.lemmas.List.Elements.{All-head, All-tail}

pub Some≢None : {A : Type 0} (a : A) → Some a ≡ None → ⊥
Some≢None {A} a e = true≢false (ap (λ (o : Option A). is_some o) e)

-- one answer where the function gives one, and none where it gives none
pub one_answer : {A : Type 0} (P : A → Type 0) (o : Option A) → ((a : A) → o ≡ Some a → P a) → (o ≡ None → (a : A) → ¬ P a) → ((a b : A) → P a → P b → a ≡ b) → (a : A) → P a ↔ (o ≡ Some a)
one_answer P None some none only a = ((λ p. absurd (none refl a p)), (λ e. absurd (Some≢None _ (sym e))))
one_answer P (Some x) some none only a = ((λ p. ap Some (only x a (some x refl) p)), (λ e. some a e))

pub Decides-int_le : (a b : ℤ) → Decides (int_le a b) (a ≤ℤ b)
Decides-int_le a b = ((λ e. omega (arith, ints)), (λ h. grind (arith, ints)))

pub Decides-int_lt : (a b : ℤ) → Decides (int_lt a b) (a <ℤ b)
Decides-int_lt a b = ((λ e. omega (arith, ints)), (λ h. grind (arith, ints)))

pub Decides-nat_le : (a b : ℕ) → Decides (nat_le a b) (a ≤ b)
Decides-nat_le a b = (leb-true a b, le-leb a b)

-- k is the first of `count` numbers from `from` on that passes
pub record IsFirst (test : ℕ → Bool) (from count k : ℕ) : Type 0 where
  pub passes : test k ≡ true
  pub low : from ≤ k
  pub high : k < from + count
  pub first : (j : ℕ) → from ≤ j → j < k → test j ≡ false

-- none of them does
abbrev pub NonePasses : (ℕ → Bool) → ℕ → ℕ → Type 0
NonePasses test from count = (j : ℕ) → from ≤ j → j < from + count → test j ≡ false

module _ (test : ℕ → Bool) where
  -- what holds of the first number and of those after it holds of all
  and_after : (from end : ℕ) → test from ≡ false → ((j : ℕ) → from + 1 ≤ j → j < end → test j ≡ false) → (j : ℕ) → from ≤ j → j < end → test j ≡ false
  and_after from end t after j p q = elim (cases_lt from j) [
    | inl h ↦ after j (omega (arith, h)) q
    | inr h ↦ (let e : from ≡ j = omega (arith, p, h) in subst (λ (k : ℕ). test k ≡ false) e t)
  ]

  first_step : (from count k : ℕ) (b : Bool) → test from ≡ b → (find test (range_with_len (from + 1) count) ≡ Some k → IsFirst test (from + 1) count k)
      → cond b (Some from) (find test (range_with_len (from + 1) count)) ≡ Some k → IsFirst test from (suc count) k
  first_step from count k true t later e =
      let here : from ≡ k = same_Some from k e in
      record { passes = subst (λ (j : ℕ). test j ≡ true) here t; low = omega (arith, here); high = omega (arith, here); first = λ j p q. absurd (omega (arith, here, p, q)) }
  first_step from count k false t later e =
      let rest = later e in record { passes = rest.passes; low = omega (arith, rest.low); high = omega (arith, rest.high); first = and_after from k t rest.first }

  none_step : (from count : ℕ) (b : Bool) → test from ≡ b → (find test (range_with_len (from + 1) count) ≡ None → NonePasses test (from + 1) count)
      → cond b (Some from) (find test (range_with_len (from + 1) count)) ≡ None → NonePasses test from (suc count)
  none_step from count true t later e = absurd (Some≢None from e)
  none_step from count false t later e = and_after from (from + suc count) t (λ j p q. later e j p (omega (arith, q)))

  pub found : (from count k : ℕ) → find test (range_with_len from count) ≡ Some k → IsFirst test from count k
  found from zero k e = absurd (Some≢None k (sym e))
  found from (suc count) k e = first_step from count k (test from) refl (found (from + 1) count k) e

  pub not_found : (from count : ℕ) → find test (range_with_len from count) ≡ None → NonePasses test from count
  not_found from zero e = λ j p q. absurd (omega (arith, p, q))
  not_found from (suc count) e = none_step from count (test from) refl (not_found (from + 1) count) e

-- ---- what is found or read has what all have
pub find_holds : {X : Type 0} (P : X → Type 0) (test : X → Bool) (xs : List X) (x : X) → All P xs → find test xs ≡ Some x → P x
find_holds P test [] x all e = absurd (none-some x e)
find_holds {X} P test (y ∷ ys) x all e = go (test y) (find_holds P test ys x (All-tail P y ys all)) e
  where
    go : (b : Bool) → (find test ys ≡ Some x → P x) → cond b (Some y) (find test ys) ≡ Some x → P x
    go true rest e = subst P (same_Some y x e) (All-head P y ys all)
    go false rest e = rest e
