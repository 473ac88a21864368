-- Nets that only the next one reads (own).
use Rattle.std.specs.Prelude.{◌≡◌, ℕ, suc, ◌<◌, ◌≤◌, List, slice_get, Some}
use Rattle.hw_net.specs.declared.netlist.Net.{Net}
use Rattle.hw_net.specs.Netlist.{reads}

-- of the nets from the first of these numbers up to the last nothing is read but by the net behind
-- it
pub record AreReadInTurn (nets : List Net) (first last : ℕ) : Type 0 where
  pub by : (k : ℕ) (net : Net) (i read : ℕ) → slice_get nets k ≡ Some net
      → slice_get (reads net.kind) i ≡ Some read → first ≤ read → read < last → k ≡ suc read
