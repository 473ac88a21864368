-- Different numbers below a count are no more than that.
use Rattle.std.proofs.Common.{◌≡◌, ℕ, zero, suc, ◌+◌, ◌<◌, ◌≤◌, List, [], ◌∷◌, length, Some, ap, sym, ◌∙◌, refl, arith}
use Rattle.std.specs.Prelude.{◌≢◌, slice_get}
use Rattle.std.proofs.lemmas.Option.{none-some, same_Some}
use Rattle.math_list.specs.Numbers.{numbers_from}
use Rattle.hw_arcs.specs.Found.{IsIn}
use Rattle.dg_model.proofs.SoundRows.{number_at}
use Rattle.math_list.proofs.Numbers.{length_numbers}

abbrev without : List ℕ → ℕ → List ℕ
without [] k = []
without (x ∷ xs) zero = xs
without (x ∷ xs) (suc k) = x ∷ without xs k

one_less : (xs : List ℕ) (k x : ℕ) → slice_get xs k ≡ Some x → length xs ≡ suc (length (without xs k))
one_less [] k x at = absurd (none-some x at)
one_less (y ∷ xs) zero x at = refl
one_less (y ∷ xs) (suc k) x at = ap suc (one_less xs k x at)

still_in : (xs : List ℕ) (k j x y : ℕ) → slice_get xs k ≡ Some x → slice_get xs j ≡ Some y → x ≢ y → IsIn (without xs k) y
still_in [] k j x y at there differs = absurd (none-some x at)
still_in (z ∷ xs) zero zero x y at there differs = absurd (differs (sym (same_Some z x at) ∙ same_Some z y there))
still_in (z ∷ xs) zero (suc j) x y at there differs = record { place = j; at = there }
still_in (z ∷ xs) (suc k) zero x y at there differs = record { place = 0; at = there }
still_in (z ∷ xs) (suc k) (suc j) x y at there differs = let more = still_in xs k j x y at there differs in record { place = suc more.place; at = more.at }

few_among : (path all : List ℕ) → ((k x : ℕ) → slice_get path k ≡ Some x → IsIn all x)
    → ((i j x y : ℕ) → i < j → slice_get path i ≡ Some x → slice_get path j ≡ Some y → x ≢ y)
    → length path ≤ length all
few_among [] all stand differ = omega arith
few_among (x ∷ path) all stand differ =
    let own = stand 0 x refl in
    let more = few_among path (without all own.place)
    (λ k y at. let there = stand (suc k) y at in still_in all own.place there.place x y own.at there.at (differ 0 (suc k) x y (omega arith) refl at))
    (λ i j y z less one other. differ (suc i) (suc j) y z (omega (arith, less)) one other) in
    let less = one_less all own.place x own.at in
    omega (arith, more, less)

pub few_below : (path : List ℕ) (count : ℕ) → ((k x : ℕ) → slice_get path k ≡ Some x → x < count)
    → ((i j x y : ℕ) → i < j → slice_get path i ≡ Some x → slice_get path j ≡ Some y → x ≢ y) → length path ≤ count
few_below path count there differ =
    let few = few_among path (numbers_from 0 count) (λ k x at. let e : 0 + x ≡ x = omega arith in record { place = x; at = number_at 0 count x (there k x at) ∙ ap (λ (y : ℕ). Some y) e }) differ in
    let size = length_numbers 0 count in
    omega (arith, few, size)
