-- Operations that were tried can share multipliers.
use Rattle.std.proofs.Common.{◌≡◌, ℕ, ◌<◌, List, length, All, subst, sym}
use Rattle.std.proofs.lemmas.Option.{slice_get_within}
use Rattle.hw_net.specs.Circuit.{Circuit}
use Rattle.math_list.proofs.Places.{held}
use Rattle.hw_share.specs.declared.operation.Operation.{Operation}
use Rattle.hw_share.specs.Operations.{IsOperation, CanShare, unit_count}
use Rattle.tests_hardware.specs.inner.OperationTests.{AreUsed, IsApartAt}

pub shared-of : (net : Circuit) (operations : List Operation) (count : ℕ) → All (IsOperation net) operations → ((i : ℕ) → i < length operations → IsApartAt net operations i (length operations))
    → AreUsed operations count → count ≡ unit_count operations → CanShare net operations
shared-of net operations count each apart used same = record {
  each = λ k one at. held (IsOperation net) operations k one each at;
  apart = λ j k one other far at there units. (apart j (slice_get_within operations j one at)).each k one other (slice_get_within operations k other there) far at there units;
  used = λ unit less. used.each unit (subst (λ (n : ℕ). unit < n) (sym same) less);
}
