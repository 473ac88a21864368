-- Numbers one after another, and what a function gives of each.
use Rattle.std.proofs.Common.{◌≡◌, ℕ, zero, suc, ◌+◌, ◌<◌, Some, List, [], ◌∷◌, ◌++◌, length, map, take, refl, ap, ◌∙◌, arith, ◌≤◌, add-one, ◌||◌, Bool, slice_index, get_or, ap₂, sym, append_assoc}
use Rattle.std.proofs.Common.{le_refl}
use Rattle.std.specs.Prelude.{slice_get}
use Rattle.math_list.specs.Numbers.{numbers_from}
use Rattle.std.specs.List.{list_any}

pub length_numbers : (k n : ℕ) → length (numbers_from k n) ≡ n
length_numbers k zero = refl
length_numbers k (suc n) = ap suc (length_numbers (suc k) n)

pub mapped_at : {A : Type 0} (f : ℕ → A) (from n k : ℕ) → k < n → slice_get (map f (numbers_from from n)) k ≡ Some (f (from + k))
mapped_at f from zero k inside = absurd (omega arith)
mapped_at f from (suc n) zero inside = ap (λ (m : ℕ). Some (f m)) (omega arith)
mapped_at f from (suc n) (suc k) inside = mapped_at f (suc from) n k (omega arith) ∙ ap (λ (m : ℕ). Some (f m)) (omega arith)

pub numbers_suc : {A : Type 0} (f : ℕ → A) (from n : ℕ) → map f (numbers_from from (suc n)) ≡ map f (numbers_from from n) ++ f (from + n) ∷ []
numbers_suc f from zero = ap (λ (m : ℕ). f m ∷ []) (omega arith)
numbers_suc {A} f from (suc n) =
    let next : suc from + n ≡ from + suc n = omega arith in
    ap (λ (xs : List A). f from ∷ xs) (numbers_suc f (suc from) n ∙ ap (λ (m : ℕ). map f (numbers_from (suc from) n) ++ f m ∷ []) next)

-- one more of a list by places
pub numbers_more : {A : Type 0} (f : ℕ → A) (n : ℕ) → map f (numbers_from 0 (n + 1)) ≡ map f (numbers_from 0 n) ++ f n ∷ []
numbers_more {A} f n =
    let next : n + 1 ≡ suc n = omega arith in
    let same : 0 + n ≡ n = omega arith in
    ap (λ (m : ℕ). map f (numbers_from 0 m)) next ∙ numbers_suc f 0 n ∙ ap (λ (m : ℕ). map f (numbers_from 0 n) ++ f m ∷ []) same

pub take_numbers : (f : ℕ → ℕ) (from n i : ℕ) → i ≤ n → take i (map f (numbers_from from n)) ≡ map f (numbers_from from i)
take_numbers f from zero zero h = refl
take_numbers f from zero (suc i) h = absurd (omega (arith, h))
take_numbers f from (suc n) zero h = refl
take_numbers f from (suc n) (suc i) h = ap (λ (xs : List ℕ). f from ∷ xs) (take_numbers f (suc from) n i (omega (arith, h)))

-- ---- lists over numbers
pub map_same : {A : Type 0} (f g : ℕ → A) (k n : ℕ) → ((p : ℕ) → k ≤ p → p < k + n → f p ≡ g p) → map f (numbers_from k n) ≡ map g (numbers_from k n)
map_same f g k zero h = refl
map_same f g k (suc n) h = ap₂ (λ x xs. x ∷ xs) (h k (le_refl k) (omega arith)) (map_same f g (suc k) n (λ p l m. h p (omega arith) (omega arith)))

pub any_same : (f g : ℕ → Bool) (k n : ℕ) → ((p : ℕ) → k ≤ p → p < k + n → f p ≡ g p) → list_any f (numbers_from k n) ≡ list_any g (numbers_from k n)
any_same f g k zero h = refl
any_same f g k (suc n) h = ap₂ (λ x y. x || y) (h k (le_refl k) (omega arith)) (any_same f g (suc k) n (λ p l m. h p (omega arith) (omega arith)))

pub get_number : (f : ℕ → ℕ) (k n i : ℕ) → i < n → slice_index (map f (numbers_from k n)) i ≡ f (k + i)
get_number f k zero i h = absurd (omega (arith, h))
get_number f k (suc n) zero h = ap f (omega arith)
get_number f k (suc n) (suc i) h = get_number f (suc k) n i (omega arith) ∙ ap f (omega arith)

pub get_mapped : {A : Type 0} (f : ℕ → A) (d : A) (k n i : ℕ) → i < n → get_or (map f (numbers_from k n)) i d ≡ f (k + i)
get_mapped f d k zero i h = absurd (omega (arith, h))
get_mapped f d k (suc n) zero h = ap f (omega arith)
get_mapped f d k (suc n) (suc i) h = get_mapped f d (suc k) n i (omega arith) ∙ ap f (omega arith)

pub length_mapped : {A : Type 0} (f : ℕ → A) (k n : ℕ) → length (map f (numbers_from k n)) ≡ n
length_mapped f k zero = refl
length_mapped f k (suc n) = ap suc (length_mapped f (suc k) n)

pub map_end_zero : {A : Type 0} (f : ℕ → A) (n : ℕ) → map f (numbers_from 0 (suc n)) ≡ map f (numbers_from 0 n) ++ f n ∷ []
map_end_zero f n = let e : 0 + n ≡ n = omega arith in numbers_suc f 0 n ∙ ap (λ (m : ℕ). map f (numbers_from 0 n) ++ f m ∷ []) e

-- a list that had f of the first numbers pushed has one more pushed
pub one_pushed : {X : Type 0} (f : ℕ → X) (n : ℕ) (before old new : List X) → old ≡ before ++ map f (numbers_from 0 n) → new ≡ old ++ f n ∷ [] → new ≡ before ++ map f (numbers_from 0 (n + 1))
one_pushed {X} f n before old new is pushed =
    rw add-one (pushed ∙ ap (λ (xs : List X). xs ++ f n ∷ []) is ∙ append_assoc before (map f (numbers_from 0 n)) (f n ∷ []) ∙ ap (λ (xs : List X). before ++ xs) (sym (map_end_zero f n)))

pub map_last : {A : Type 0} (f : ℕ → A) (n : ℕ) → map f (numbers_from 1 (n + 1)) ≡ map f (numbers_from 1 n) ++ f (n + 1) ∷ []
map_last f n = rw add-one (numbers_suc f 1 n ∙ (let e : 1 + n ≡ suc n = omega arith in ap (λ (m : ℕ). map f (numbers_from 1 n) ++ f m ∷ []) e))
