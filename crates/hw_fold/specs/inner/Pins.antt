-- Nets that keep their place.
use Rattle.std.specs.Prelude.{◌≡◌, ℕ, Bool, true, false, List, length, ℤ, slice_index_or}
use Rattle.hw_net.specs.declared.netlist.Frame.{Frame}
use Rattle.hw_net.specs.declared.netlist.Net.{Net}
use Rattle.hw_net.specs.declared.netlist.NetKind.TheVariants.{Reg}
use Rattle.hw_net.specs.Products.{net_at}

abbrev pub is_marked : List Bool → ℕ → Bool
is_marked marks k = slice_index_or marks k false

-- no mark is lost
pub record KeepsMarks (old new : List Bool) : Type 0 where
  pub size : length new ≡ length old
  pub kept : (k : ℕ) → is_marked old k ≡ true → is_marked new k ≡ true

-- the net is marked, and what it takes as a register
pub record IsPinned (nets : List Net) (own alone : List Bool) (k : ℕ) : Type 0 where
  pub own_mark : is_marked own k ≡ true
  pub wire : (frame : Frame) (slot : ℕ) (first : ℤ) (from : ℕ)
      → (net_at nets k).kind ≡ Reg frame slot first from → is_marked alone from ≡ true
