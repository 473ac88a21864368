-- What is found in lists.
use Rattle.std.proofs.Common.{◌≡◌, ℕ, zero, suc, ◌+◌, ◌-◌, ◌<◌, ◌≤◌, Bool, true, false, cond, List, [], ◌∷◌, Option, Some, None, refl, sym, ◌∙◌, ap, arith, true≢false}
use Rattle.std.specs.Prelude.{◌||◌, count_by, slice_get}
use Rattle.std.specs.List.{list_any, range_with_len, position_from}
use Rattle.mdl_build.proofs.BlockNumbers.{count_cons}

pub any_found : {A : Type 0} (P : A → Bool) (xs : List A) → list_any P xs ≡ true → (k : ℕ) × (x : A) × (slice_get xs k ≡ Some x) × (P x ≡ true)
any_found P [] some = absurd (true≢false (sym some))
any_found {A} P (y ∷ ys) some = by_test (any_found P ys) (P y) refl some
  where
    by_test : (list_any P ys ≡ true → (k : ℕ) × (x : A) × (slice_get ys k ≡ Some x) × (P x ≡ true)) → (b : Bool)
        → P y ≡ b → (b || list_any P ys) ≡ true → (k : ℕ) × (x : A) × (slice_get (y ∷ ys) k ≡ Some x) × (P x ≡ true)
    by_test rest true e h = (0, y, refl, e)
    by_test rest false e h = let found = rest h in (suc found.0, found.1, found.2, found.3)

-- one that is counted
pub one_counted : (P : ℕ → Bool) (from count : ℕ) → count_by P (range_with_len from count) ≡ 1 → (place : ℕ) × (from ≤ place) × (place < from + count) × (P place ≡ true)
one_counted P from zero one = let bad : 0 ≡ 1 = one in absurd (omega (arith, bad))
one_counted P from (suc count) one = by_test (λ h. one_counted P (from + 1) count h) (P from) refl
  where
    by_test : (count_by P (range_with_len (from + 1) count) ≡ 1
        → (place : ℕ) × (from + 1 ≤ place) × (place < from + 1 + count) × (P place ≡ true)) → (b : Bool)
        → P from ≡ b → (place : ℕ) × (from ≤ place) × (place < from + suc count) × (P place ≡ true)
    by_test rest true e = (from, omega arith, omega arith, e)
    by_test rest false e =
        let counted = sym (ap (λ (b : Bool). (0 + cond b 1 0) + count_by P (range_with_len (from + 1) count)) e) ∙ sym (count_cons P from (range_with_len (from + 1) count)) ∙ one in
        let found = rest (omega (arith, counted)) in
        let low = found.1 in
        let high = found.2 in
        (found.0, omega arith, omega arith, found.3)

-- the first that passes: it is there, and none before it passes
pub first_from : {A : Type 0} (P : A → Bool) (start : ℕ) (xs : List A) (k : ℕ) → position_from P start xs ≡ Some k
    → (start ≤ k) × ((x : A) × (slice_get xs (k - start) ≡ Some x) × (P x ≡ true))
    × ((i : ℕ) (y : A) → slice_get xs i ≡ Some y → P y ≡ true → k ≤ start + i)
first_from {A} P start [] k found = let bad : ◌≡◌ {A = Option ℕ} None (Some k) = found in absurd (cc)
first_from {A} P start (y ∷ ys) k found = by_test (first_from P (start + 1) ys k) (P y) refl found
  where
    by_test : (position_from P (start + 1) ys ≡ Some k
        → (start + 1 ≤ k) × ((x : A) × (slice_get ys (k - (start + 1)) ≡ Some x) × (P x ≡ true))
        × ((i : ℕ) (z : A) → slice_get ys i ≡ Some z → P z ≡ true → k ≤ start + 1 + i))
        → (b : Bool) → P y ≡ b → cond b (Some start) (position_from P (start + 1) ys) ≡ Some k
        → (start ≤ k) × ((x : A) × (slice_get (y ∷ ys) (k - start) ≡ Some x) × (P x ≡ true)) × ((i : ℕ) (z : A) → slice_get (y ∷ ys) i ≡ Some z → P z ≡ true → k ≤ start + i)
    by_test rest true e h =
        let first : ◌≡◌ {A = Option ℕ} (Some start) (Some k) = h in
        let same : start ≡ k = cc in
        let none : k - start ≡ 0 = omega arith in
        (omega arith, (y, ap (slice_get (y ∷ ys)) none, e), λ i z there passes. omega arith)
    by_test rest false e h =
        let more = rest h in
        let low = more.0 in
        let behind : k - start ≡ suc (k - (start + 1)) = omega arith in
        (omega arith, (more.1.0, ap (slice_get (y ∷ ys)) behind ∙ more.1.1, more.1.2), later (λ i z there passes. more.2 i z there passes))
      where
        later : ((i : ℕ) (z : A) → slice_get ys i ≡ Some z → P z ≡ true → k ≤ start + 1 + i) → (i : ℕ) (z : A) → slice_get (y ∷ ys) i ≡ Some z → P z ≡ true → k ≤ start + i
        later each zero z there passes =
            let head : ◌≡◌ {A = Option A} (Some y) (Some z) = there in
            let same : y ≡ z = cc in absurd (true≢false (sym passes ∙ ap P (sym same) ∙ e))
        later each (suc i) z there passes = let bound = each i z there passes in omega arith
