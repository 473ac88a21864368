-- Operands and multipliers of operations in a list.
use Rattle.std.proofs.Common.{◌≡◌, ℕ, zero, suc, ◌<◌, List, [], ◌∷◌, length, Contains, Option, None, Some, slice_get, replicate, ap, arith, refl}
use Rattle.std.proofs.lemmas.Option.{slice_get_within, none-some, same_Some, get_or_from_slice_get}
use Rattle.hw_share.specs.declared.operation.Operation.{Operation}
use Rattle.hw_share.specs.declared.joining.Ends.{Ends}
use Rattle.hw_share.specs.Operations.{operands_of, unit_count}
use Rattle.hw_share.specs.inner.ChainEnds.{ends_at}

behind-one : {A : Type 0} (x y : A) (xs : List A) → Contains xs x → Contains (y ∷ xs) x
behind-one x y xs c = (suc c.0, omega (arith, c.1), c.2)

-- the operands of an operation are among those of all
pub left-named : (operations : List Operation) (k : ℕ) (one : Operation) → slice_get operations k ≡ Some one → Contains (operands_of operations) one.left
left-named [] k one at = absurd (none-some one at)
left-named (first ∷ operations) zero one at = (0, omega arith, ap (λ (x : Operation). x.left) (same_Some first one at))
left-named (first ∷ operations) (suc k) one at =
    behind-one one.left first.left (first.right ∷ operands_of operations)
    (behind-one one.left first.right (operands_of operations) (left-named operations k one at))

pub right-named : (operations : List Operation) (k : ℕ) (one : Operation) → slice_get operations k ≡ Some one → Contains (operands_of operations) one.right
right-named [] k one at = absurd (none-some one at)
right-named (first ∷ operations) zero one at = (1, omega arith, ap (λ (x : Operation). x.right) (same_Some first one at))
right-named (first ∷ operations) (suc k) one at =
    behind-one one.right first.left (first.right ∷ operands_of operations)
    (behind-one one.right first.right (operands_of operations) (right-named operations k one at))

pub among : (operations : List Operation) (k : ℕ) (one : Operation) → slice_get operations k ≡ Some one → Contains operations one
among operations k one at = (k, slice_get_within operations k one at, get_or_from_slice_get operations k one one at)

-- the number of a multiplier is below their count
pub unit-below : (operations : List Operation) (k : ℕ) (one : Operation) → slice_get operations k ≡ Some one → one.unit < unit_count operations
unit-below [] k one at = absurd (none-some one at)
unit-below (first ∷ operations) zero one at =
    let same : first.unit ≡ one.unit = ap (λ (x : Operation). x.unit) (same_Some first one at) in
    omega (arith, same)
unit-below (first ∷ operations) (suc k) one at = let rest = unit-below operations k one at in omega (arith, rest)

pub none-at : (n unit : ℕ) → ends_at (replicate {A = Option Ends} n None) unit ≡ None
none-at zero unit = refl
none-at (suc n) zero = refl
none-at (suc n) (suc unit) = none-at n unit

pub length-of-none : (n : ℕ) → length (replicate {A = Option Ends} n None) ≡ n
length-of-none zero = refl
length-of-none (suc n) = ap suc (length-of-none n)
