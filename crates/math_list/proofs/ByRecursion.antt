-- What holds of lists that are written out.
use Rattle.std.specs.Prelude.{AllPairs, ⊤}
use Rattle.std.proofs.Common.{◌≡◌, ℕ, zero, suc, ◌<◌, List, [], ◌∷◌, All, Some, slice_get, subst, arith}
use Rattle.std.specs.List.{AllByRecursion}
use Rattle.std.proofs.lemmas.List.Elements.{All-nil, All-cons}
use Rattle.std.proofs.lemmas.List.Kept.{AllPairs-cons}
use Rattle.std.proofs.lemmas.Option.{none-some, same_Some}

-- what holds of each element
pub all_of : {A : Type 0} (P : A → Type 0) (xs : List A) → AllByRecursion P xs → All P xs
all_of P [] each = All-nil P
all_of P (x ∷ xs) each = All-cons P x xs (each.0) (all_of P xs (each.1))

-- what holds between each element and those after it
abbrev pub PairsByRecursion : {A : Type 0} → (A → A → Type 0) → List A → Type 0
PairsByRecursion R [] = ⊤
PairsByRecursion R (x ∷ xs) = AllByRecursion (R x) xs × PairsByRecursion R xs

pub pairs_of : {A : Type 0} (R : A → A → Type 0) (xs : List A) → PairsByRecursion R xs → AllPairs R xs
pairs_of R [] each = λ i j d before inside. absurd (omega (arith, inside))
pairs_of R (x ∷ xs) each = AllPairs-cons R x xs (all_of (R x) xs (each.0)) (pairs_of R xs (each.1))

-- what holds of each place and element
abbrev pub EachByRecursion : {A : Type 0} → (ℕ → A → Type 0) → List A → Type 0
EachByRecursion P [] = ⊤
EachByRecursion P (x ∷ xs) = P 0 x × EachByRecursion (λ k. P (suc k)) xs

pub each_of : {A : Type 0} (P : ℕ → A → Type 0) (xs : List A) → EachByRecursion P xs → (k : ℕ) (x : A) → slice_get xs k ≡ Some x → P k x
each_of P [] each k x at = absurd (none-some x at)
each_of P (y ∷ xs) each zero x at = subst (P 0) (same_Some y x at) (each.0)
each_of P (y ∷ xs) each (suc k) x at = each_of (λ k. P (suc k)) xs (each.1) k x at

-- what holds of each number below a count
abbrev pub BelowByRecursion : (ℕ → Type 0) → ℕ → Type 0
BelowByRecursion P zero = ⊤
BelowByRecursion P (suc n) = P 0 × BelowByRecursion (λ k. P (suc k)) n

pub below_of : (P : ℕ → Type 0) (n : ℕ) → BelowByRecursion P n → (k : ℕ) → k < n → P k
below_of P zero each k below = absurd (omega (arith, below))
below_of P (suc n) each zero below = each.0
below_of P (suc n) each (suc k) below = below_of (λ k. P (suc k)) n (each.1) k (omega (arith, below))
