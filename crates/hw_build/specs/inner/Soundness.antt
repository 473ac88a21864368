-- What of a netlist under way meets what running it asks (own).
use Rattle.std.specs.Prelude.{◌≡◌, ℕ, ◌<◌, ◌≤◌, ◌⊎◌, All, length, slice_get, Some, IsSome}
use Rattle.math_num.specs.Word.{IsWord}
use Rattle.hw_net.specs.declared.netlist.Frame.{Frame}
use Rattle.hw_net.specs.declared.netlist.Net.{Net}
use Rattle.hw_net.specs.Circuit.{Circuit}
use Rattle.hw_net.specs.Frames.{counter_of, frame_of}
use Rattle.hw_net.specs.Netlist.{IsKind, reads}

-- a net has a word, what its kind needs where there are so many input ports, nets that it reads,
-- and the Counter of its frame
pub record IsSoundNet (now : Circuit) (inputs : ℕ) (net : Net) : Type 0 where
  pub word : IsWord net.width net.signed
  pub kind : IsKind now.nets now.cycles inputs net.width net.signed net.kind
  pub there : All (λ read. read < length now.nets) (reads net.kind)
  pub counted : (frame : Frame) → frame_of net.kind ≡ Some frame
      → IsSome (counter_of now.nets frame)

-- each net is, but those that wait for their arguments
pub record AreSound (closed hubs : ℕ) (now : Circuit) (inputs : ℕ) : Type 0 where
  pub each : (k : ℕ) (net : Net) → slice_get now.nets k ≡ Some net → ((closed ≤ k) × (k < hubs))
      ⊎ IsSoundNet now inputs net
