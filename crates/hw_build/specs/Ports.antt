-- The ports of a netlist for a diagram by a plan (own).
use Rattle.std.specs.Prelude.{◌≡◌, ℕ, ◌++◌, length, map, Some, slice_get}
use Rattle.fx_type.specs.FxType.{is_signed, width_of}
use Rattle.dg_model.specs.declared.diagram.Diagram.{Diagram}
use Rattle.dg_model.specs.declared.resolved.Resolved.{Resolved}
use Rattle.dg_model.specs.Attributes.{attributes_of}
use Rattle.dg_model.specs.RootElements.{RootElement, root_inputs, root_outputs}
use Rattle.hw_latency.specs.Weight.{samples}
use Rattle.hw_net.specs.declared.netlist.NetPort.{NetPort}
use Rattle.hw_net.specs.Circuit.{Circuit}
use Rattle.hw_net.specs.Netlist.{HasWord}
use Rattle.hw_sched.specs.Slots.{Timing as Times}
use Rattle.hw_sched.specs.Ready.{declared_latency}
use Rattle.hw_build.specs.Places.{Places}
use Rattle.hw_names.specs.Names.{AreNames}

-- a port shows a net of the word of its element, and has this period and latency
pub record IsPort (netlist : Circuit) (e : RootElement) (number latency : ℕ)
    (port : NetPort) : Type 0 where
  pub net : port.net ≡ number
  pub word : HasWord netlist.nets port.net (width_of e.type) (is_signed e.type)
  pub period : port.period ≡ samples e.period
  pub latency_is : port.latency ≡ latency

-- there is one port for each element, with the names of all in order
pub record HasPorts (diagram : Diagram) (plan : Resolved) (times : Times) (netlist : Circuit)
    (places : Places) : Type 0 where
  pub cycles : netlist.cycles ≡ plan.cycles
  pub input_count : length netlist.inputs ≡ length (root_inputs diagram (attributes_of diagram))
  pub inputs : (k : ℕ) (e : RootElement) (port : NetPort)
      → slice_get (root_inputs diagram (attributes_of diagram)) k ≡ Some e
      → slice_get netlist.inputs k ≡ Some port
      → IsPort netlist e (places.input e.number e.element) 0 port
  pub output_count : length netlist.outputs ≡ length (root_outputs diagram (attributes_of diagram))
  pub outputs : (k : ℕ) (e : RootElement) (port : NetPort)
      → slice_get (root_outputs diagram (attributes_of diagram)) k ≡ Some e
      → slice_get netlist.outputs k ≡ Some port
      → IsPort netlist e (places.after e.block 1 e.element)
      (declared_latency diagram (attributes_of diagram) plan times e.block) port
  pub names : AreNames diagram (map (λ port. port.name) (netlist.inputs ++ netlist.outputs))
