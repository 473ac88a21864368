-- What the tests ask of operations, one after another.
use Rattle.std.specs.Prelude.{◌≡◌, ◌≢◌, ℕ, ◌<◌, List, slice_get, Some}
use Rattle.hw_net.specs.Circuit.{Circuit}
use Rattle.hw_share.specs.declared.operation.Operation.{Operation}
use Rattle.hw_share.specs.Operations.{AreApart, IsUsed}

-- the operation at a place can share with each of the first others
pub record IsApartAt (netlist : Circuit) (operations : List Operation) (j count : ℕ) : Type 0 where
  pub each : (k : ℕ) (one other : Operation) → k < count → j ≢ k → slice_get operations j ≡ Some one
      → slice_get operations k ≡ Some other → one.unit ≡ other.unit → AreApart netlist one other

-- the first multipliers serve operations
pub record AreUsed (operations : List Operation) (count : ℕ) : Type 0 where
  pub each : (unit : ℕ) → unit < count → IsUsed operations unit
