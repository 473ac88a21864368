-- What the emission of a netlist asks beside that it can be run (own).
use Rattle.std.specs.Prelude.{◌≡◌, ◌≢◌, ◌⊎◌, ℕ, ◌<◌, ◌≤◌, true, List, ◌++◌, length, Contains, codes}
use Rattle.std.specs.List.{AllPairs}
use Rattle.vl_names.specs.Identifiers.{is_identifier}
use Rattle.hw_net.specs.declared.netlist.NetPort.{NetPort}
use Rattle.hw_net.specs.declared.netlist.NetLabel.{NetLabel}
use Rattle.hw_net.specs.Circuit.{Circuit}
use Rattle.hw_net.specs.Frames.{HasCounters}

-- a port's name is an identifier, and none that the module has itself or that a clock enable would
-- have
pub record IsPortName (name : List ℕ) : Type 0 where
  pub identifier : is_identifier name ≡ true
  pub no_clock : name ≢ codes "clk"
  pub no_reset : name ≢ codes "reset"
  pub no_enable : name ≢ codes "clk_enable"
  pub no_enabled : name ≢ codes "ce_out"
  pub no_own : (rest : List ℕ) → name ≢ codes "fx_" ++ rest

-- the greatest period of a port, in base samples
abbrev pub most_period : ℕ
most_period = 4096

-- the greatest latency of an output, in clocks
abbrev pub most_latency : ℕ
most_latency = 16777216

-- the most clocks of a base sample
abbrev pub most_cycles : ℕ
most_cycles = 1024

-- an input's period, and an output's period and latency, are in the ranges of their attributes
pub record IsPeriod (period : ℕ) : Type 0 where
  pub some : 1 ≤ period
  pub most : period ≤ most_period

pub record ArePorts (inputs outputs : List NetPort) : Type 0 where
  pub names : (port : NetPort) → Contains (inputs ++ outputs) port → IsPortName port.name
  pub differ : AllPairs (λ one other. one.name ≢ other.name) (inputs ++ outputs)
  pub periods : (port : NetPort) → Contains (inputs ++ outputs) port → IsPeriod port.period
  pub latencies : (port : NetPort) → Contains outputs port → port.latency ≤ most_latency

-- a label is an identifier that begins with `fx_m` or `fx_p`
pub record IsLabelName (name : List ℕ) : Type 0 where
  pub identifier : is_identifier name ≡ true
  pub begins : ((rest : List ℕ) × (name ≡ codes "fx_m" ++ rest))
      ⊎ ((rest : List ℕ) × (name ≡ codes "fx_p" ++ rest))

-- each label is of a net that is there; no net has two, and no two have one name
pub record AreLabels (count : ℕ) (labels : List NetLabel) : Type 0 where
  pub there : (label : NetLabel) → Contains labels label → label.net < count
  pub names : (label : NetLabel) → Contains labels label → IsLabelName label.name
  pub nets_differ : AllPairs (λ one other. one.net ≢ other.net) labels
  pub names_differ : AllPairs (λ one other. one.name ≢ other.name) labels

pub record IsEmittable (netlist : Circuit) : Type 0 where
  pub cycles : netlist.cycles ≤ most_cycles
  pub counters : HasCounters netlist.nets
  pub ports : ArePorts netlist.inputs netlist.outputs
  pub labels : AreLabels (length netlist.nets) netlist.labels
