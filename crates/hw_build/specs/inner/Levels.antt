-- In which order the nets of a builder show their numbers in a clock (own). The nets of a call
-- stand on a level: what they read in their own clock stands on a lower one, or before them on the
-- same. A net that reads nothing then stands on level 0.
use Rattle.std.specs.Prelude.{◌≡◌, ℕ, ◌<◌, ◌⊎◌, nat_lt, if◌then◌else◌, false, List, [], ◌∷◌, length, slice_get, slice_index_or, Some}
use Rattle.hw_net.specs.declared.netlist.Net.{Net}
use Rattle.hw_net.specs.declared.netlist.NetKind.TheVariants.{Comb}
use Rattle.hw_net.specs.declared.netlist.NetOp.TheVariants.{Resize}
use Rattle.hw_net.specs.Circuit.{Circuit}
use Rattle.hw_net.specs.Frames.{IsCounter}
use Rattle.hw_net.specs.Netlist.{reads_now}

pub record IsLevelled (nets : List Net) (level : ℕ → ℕ) : Type 0 where
  pub below : (k : ℕ) (net : Net) (i read : ℕ) → slice_get nets k ≡ Some net
      → slice_get (reads_now net.kind) i ≡ Some read
      → (read < length nets) × ((level read < level k) ⊎ ((level read ≡ level k) × (read < k)))
  pub counters : (k : ℕ) → IsCounter nets k → level k ≡ 0

abbrev pub level_of : ℕ → List ℕ → ℕ
level_of own [] = 0
level_of own (read ∷ reads) = own

abbrev pub net_at : List Net → ℕ → Net
net_at nets k = slice_index_or nets k (record { signed = false; width = 0; kind = Comb Resize [] })

-- the levels behind a call whose nets stand on this one
abbrev pub level_behind : Circuit → Circuit → (ℕ → ℕ) → ℕ → ℕ → ℕ
level_behind before after level own k =
    if nat_lt k (length before.nets) then level k
    else level_of own (reads_now (net_at after.nets k).kind)
