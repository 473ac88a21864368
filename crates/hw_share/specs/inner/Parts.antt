-- How a netlist grows while units are put in.
use Rattle.std.specs.Prelude.{◌≡◌, ℕ, ◌+◌, ◌<◌, ◌≤◌, ◌⊎◌, List, length, Contains, slice_get}
use Rattle.std.specs.Prelude.{Some, ⊤}
use Rattle.hw_net.specs.declared.netlist.Frame.{Frame}
use Rattle.hw_net.specs.declared.netlist.Net.{Net}
use Rattle.hw_net.specs.declared.netlist.NetKind.{NetKind}
use Rattle.hw_net.specs.declared.netlist.NetKind.TheVariants.{Comb, Reg, EnReg, Acc, Bridge, Unit}
use Rattle.hw_net.specs.declared.netlist.NetKind.TheVariants.{Counter}
use Rattle.hw_net.specs.Circuit.{Circuit}
use Rattle.hw_net.specs.Frames.{register_count}
use Rattle.hw_net.specs.Growing.{Appends}
use Rattle.hw_lines.specs.Chain.{IsPart as IsLinePart}
use Rattle.hw_share.specs.Shared.{IsChoosingOp}

-- a call names the net, or has put it in
abbrev pub IsNamed : Circuit → Circuit → List ℕ → ℕ → Type 0
IsNamed before after named read =
    Contains named read ⊎ ((length before.nets ≤ read) × (read < length after.nets))

-- such parts were put behind the nets, so many registers among them
pub record Grows (before after : Circuit) (named : List ℕ) (part : NetKind → Type 0)
    (count : ℕ) : Type 0 where
  pub appends : Appends before after named
  pub parts : (k : ℕ) (net : Net) → length before.nets ≤ k → slice_get after.nets k ≡ Some net
      → part net.kind
  pub registers : register_count after.nets ≡ register_count before.nets + count

-- the parts of chains
abbrev pub IsChoosing : (Frame → Type 0) → NetKind → Type 0
IsChoosing frames (Comb op args) = IsChoosingOp op
IsChoosing frames (Reg frame slot first from) = ⊥
IsChoosing frames (EnReg frame enable reset first from) = ⊥
IsChoosing frames (Acc frame enable from) = ⊥
IsChoosing frames (Bridge frame live from) = ⊥
IsChoosing frames (Unit left right) = ⊥
IsChoosing frames (Counter frame) = frames frame

-- multipliers alone
abbrev pub IsMultiplying : NetKind → Type 0
IsMultiplying (Comb op args) = ⊥
IsMultiplying (Reg frame slot first from) = ⊥
IsMultiplying (EnReg frame enable reset first from) = ⊥
IsMultiplying (Acc frame enable from) = ⊥
IsMultiplying (Bridge frame live from) = ⊥
IsMultiplying (Unit left right) = ⊤
IsMultiplying (Counter frame) = ⊥

-- registers of results
abbrev pub IsKeeping : (Frame → Type 0) → NetKind → Type 0
IsKeeping frames = IsLinePart ⊥ frames
