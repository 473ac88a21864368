-- An order of a netlist's nets (own).
use Rattle.std.specs.Prelude.{◌≡◌, ℕ, ◌<◌, List, length, slice_index}
use Rattle.hw_net.specs.declared.netlist.Net.{Net}
use Rattle.hw_net.specs.Netlist.{IsRanked}

-- all nets, each once, each after those that it reads in the same clock
pub record IsOrder (nets : List Net) (order : List ℕ) : Type 0 where
  pub rank : ℕ → ℕ
  pub there : (i : ℕ) → i < length order → slice_index order i < length nets
  pub at : (i : ℕ) → i < length order → rank (slice_index order i) ≡ i
  pub all : (k : ℕ) → k < length nets → rank k < length order
  pub each : (k : ℕ) → k < length nets → slice_index order (rank k) ≡ k
  pub ranked : IsRanked nets rank
