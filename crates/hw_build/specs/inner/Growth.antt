-- A netlist under way, and what stays of it (own). The first nets of a builder are what readers
-- name; the Resize nets among them get their arguments later, in the order of their numbers.
use Rattle.std.specs.Prelude.{◌≡◌, ℕ, ◌<◌, ◌≤◌, ◌⊎◌, length, slice_get}
use Rattle.hw_net.specs.Circuit.{Circuit}
use Rattle.hw_net.specs.Growing.{IsReopened}
use Rattle.hw_net.specs.NetRows.{Inputs, Rows, NetRows}

-- the later netlist has the nets of the earlier one, but that a Resize net from number `closed` up
-- to number `hubs` may have another argument
pub record GoesOn (closed hubs : ℕ) (now later : Circuit) : Type 0 where
  pub cycles : later.cycles ≡ now.cycles
  pub nets : (k : ℕ) → k < length now.nets → (slice_get later.nets k ≡ slice_get now.nets k)
      ⊎ ((closed ≤ k) × (k < hubs) × IsReopened now.nets later.nets k)

-- P holds of the rows of every netlist that this one may become
pub record InLater (closed hubs : ℕ) (now : Circuit) (P : ℕ → Rows → Type 0) : Type 0 where
  pub holds : (later : Circuit) → GoesOn closed hubs now later
      → (n : ℕ) (inputs : Inputs) (rows : Rows) → NetRows later n inputs rows → P n rows
