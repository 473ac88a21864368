-- Netlists made of nets of another, by other numbers (own).
use Rattle.std.specs.Prelude.{ℕ, ◌<◌, List, map, length, All, slice_index}
use Rattle.hw_net.specs.declared.netlist.Net.{Net}
use Rattle.hw_net.specs.declared.netlist.NetLabel.{NetLabel}
use Rattle.hw_net.specs.declared.netlist.NetPort.{NetPort}
use Rattle.hw_net.specs.Circuit.{Circuit}
use Rattle.hw_net.specs.Netlist.{reads}
use Rattle.hw_net.specs.Products.{net_at}
use Rattle.hw_refine.specs.Redirects.{redirected}

-- the place of a net by a table
abbrev pub place_in : List ℕ → ℕ → ℕ
place_in places k = slice_index places k

-- a net, a port and a label with what they name by its place
abbrev pub moved_net : (ℕ → ℕ) → Net → Net
moved_net place net =
    record { signed = net.signed; width = net.width; kind = redirected place net.kind }

abbrev pub moved_port : (ℕ → ℕ) → NetPort → NetPort
moved_port place port = record {
  name = port.name;
  net = place port.net;
  period = port.period;
  latency = port.latency;
}

abbrev pub moved_label : (ℕ → ℕ) → NetLabel → NetLabel
moved_label place label = record { net = place label.net; name = label.name }

-- the nets of these numbers in their order
abbrev pub moved_nets : List Net → (ℕ → ℕ) → List ℕ → List Net
moved_nets nets place kept = map (λ k. moved_net place (net_at nets k)) kept

-- the netlist of these nets, with all ports and labels
abbrev pub renumbered : Circuit → (ℕ → ℕ) → List ℕ → Circuit
renumbered netlist place kept = record {
  cycles = netlist.cycles;
  nets = moved_nets netlist.nets place kept;
  inputs = map (moved_port place) netlist.inputs;
  outputs = map (moved_port place) netlist.outputs;
  labels = map (moved_label place) netlist.labels;
}

-- the nets are there, and all that a net, a port or a label names has a place
pub record CanMove (netlist : Circuit) (kept places : List ℕ) : Type 0 where
  pub there : All (λ k. k < length netlist.nets) kept
  pub nets : All (λ net. All (λ read. read < length places) (reads net.kind)) netlist.nets
  pub inputs : All (λ port. port.net < length places) netlist.inputs
  pub outputs : All (λ port. port.net < length places) netlist.outputs
  pub labels : All (λ label. label.net < length places) netlist.labels
