-- A netlist as contracts see it: its data, without the index of its Counters (own).
use Rattle.std.specs.Prelude.{ℕ, List}
use Rattle.hw_net.specs.declared.netlist.Net.{Net}
use Rattle.hw_net.specs.declared.netlist.NetPort.{NetPort}
use Rattle.hw_net.specs.declared.netlist.NetLabel.{NetLabel}

pub record Circuit : Type 0 where
  pub cycles : ℕ
  pub nets : List Net
  pub inputs : List NetPort
  pub outputs : List NetPort
  pub labels : List NetLabel

-- the netlist of these parts
abbrev pub circuit_of : ℕ → List Net → List NetPort → List NetPort → List NetLabel → Circuit
circuit_of cycles nets inputs outputs labels =
    record { cycles = cycles; nets = nets; inputs = inputs; outputs = outputs; labels = labels }
