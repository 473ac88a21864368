-- A sweep over the nets, as far as it has come (the invariant of a loop).
use Rattle.std.specs.Prelude.{◌≡◌, ℕ, ◌<◌, ℤ, List, slice_get, slice_index, Some}
use Rattle.hw_net.specs.declared.netlist.Net.{Net}
use Rattle.hw_run.specs.State.{row_of}
use Rattle.hw_net.specs.Step.{Row, NetGoes}

-- the first i nets of the order show in `next` what they are to show at the clock
pub record IsSwept (nets : List Net) (order : List ℕ) (cycles clock : ℕ) (inputs now : Row)
    (next : List ℤ) (i : ℕ) : Type 0 where
  pub each : (j : ℕ) (net : Net) → j < i → slice_get nets (slice_index order j) ≡ Some net
      → NetGoes cycles clock inputs now (row_of next) net.width net.signed net.kind
      (now (slice_index order j)) (row_of next (slice_index order j))
