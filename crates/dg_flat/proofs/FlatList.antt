-- The flat list: where each block of it comes from, and where each nested block stands.
use Rattle.std.proofs.Common.{◌≡◌, ℕ, zero, suc, ◌+◌, Bool, true, false, cond, List, [], ◌∷◌, take, All, Option, Some, None, add-zero, zero-add, refl, sym, ap, ◌∙◌, arith}
use Rattle.std.specs.Prelude.{count_by, slice_get}
use Rattle.std.specs.List.{enumerate_from, filter_map, cons_option}
use Rattle.std.specs.Option.{is_some}
use Rattle.std.proofs.lemmas.Bool.{true≢false}
use Rattle.std.proofs.lemmas.Option.{none-some, same_Some}
use Rattle.math_list.proofs.Places.{all_cons, count_cons}

-- what stands behind an item that is kept, or left out
behind : {Y : Type 0} (o : Option Y) (b : Bool) → is_some o ≡ b → (rest : List Y) (place : ℕ) → slice_get (cons_option o rest) (cond b 1 0 + place) ≡ slice_get rest place
behind None false agree rest place = ap (slice_get rest) (zero-add place)
behind (Some value) true agree rest place = let e : 1 + place ≡ suc place = omega arith in ap (slice_get (value ∷ rest)) e
behind None true agree rest place = absurd (true≢false (sym agree))
behind (Some value) false agree rest place = absurd (true≢false agree)

-- an item that is kept stands behind those that are kept before it
pub kept_at : {X Y : Type 0} (h : ℕ × X → Option Y) (keeps : X → Bool) → ((n : ℕ) (x : X) → is_some (h (n, x)) ≡ keeps x) →
    (from : ℕ) (xs : List X) (k : ℕ) (x : X) → slice_get xs k ≡ Some x → keeps x ≡ true →
    slice_get (filter_map h (enumerate_from from xs)) (count_by keeps (take k xs)) ≡ h (from + k, x)
kept_at h keeps agrees from [] k x at is = absurd (none-some x at)
kept_at {X} {Y} h keeps agrees from (y ∷ xs) zero x at is =
    go (h (from, x)) refl (agrees from x ∙ is) where
      go : (o : Option Y) → h (from, x) ≡ o → is_some o ≡ true → slice_get (cons_option (h (from, y)) (filter_map h (enumerate_from (from + 1) xs))) 0 ≡ h (from + 0, x)
      go None e some = absurd (true≢false (sym some))
      go (Some value) e some =
          ap (λ (z : X). slice_get (cons_option (h (from, z)) (filter_map h (enumerate_from (from + 1) xs))) 0) (same_Some y x at)
          ∙ ap (λ (o : Option Y). slice_get (cons_option o (filter_map h (enumerate_from (from + 1) xs))) 0) e
          ∙ sym (ap (λ (n : ℕ). h (n, x)) (add-zero from) ∙ e)
kept_at {X} {Y} h keeps agrees from (y ∷ xs) (suc k) x at is =
    let rest = filter_map h (enumerate_from (from + 1) xs) in
    let next : (from + 1) + k ≡ from + suc k = omega arith in
    ap (slice_get (cons_option (h (from, y)) rest)) (count_cons keeps y (take k xs))
    ∙ behind (h (from, y)) (keeps y) (agrees from y) rest (count_by keeps (take k xs))
    ∙ kept_at h keeps agrees (from + 1) xs k x at is
    ∙ ap (λ (n : ℕ). h (n, x)) next

-- what holds of each item that is kept holds of the list
pub each_kept : {X Y : Type 0} (h : ℕ × X → Option Y) (P : Y → Type 0) (from : ℕ) (xs : List X) → ((k : ℕ) (x : X) (y : Y) → slice_get xs k ≡ Some x → h (from + k, x) ≡ Some y → P y) →
    All P (filter_map h (enumerate_from from xs))
each_kept h P from [] each = λ j d inside. absurd (omega (arith, inside))
each_kept {X} {Y} h P from (x ∷ xs) each = go (h (from, x)) refl (each_kept h P (from + 1) xs rest) where
  rest : (k : ℕ) (z : X) (y : Y) → slice_get xs k ≡ Some z → h ((from + 1) + k, z) ≡ Some y → P y
  rest k z y at is = let next : (from + 1) + k ≡ from + suc k = omega arith in each (suc k) z y at (ap (λ (n : ℕ). h (n, z)) (sym next) ∙ is)

  go : (o : Option Y) → h (from, x) ≡ o → All P (filter_map h (enumerate_from (from + 1) xs)) → All P (cons_option o (filter_map h (enumerate_from (from + 1) xs)))
  go None e all = all
  go (Some y) e all = all_cons P y (filter_map h (enumerate_from (from + 1) xs)) (each 0 x y refl (ap (λ (n : ℕ). h (n, x)) (add-zero from) ∙ e)) all
