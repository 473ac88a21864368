-- The port of an element of a root block, once its name is given (own).
use Rattle.std.specs.Prelude.{◌≡◌, ℕ, ◌^◌, ◌<◌, false, List, [], ◌∷◌, length, map, take, Some, slice_get, slice_index_or}
use Rattle.dg_model.specs.declared.diagram.Diagram.{Diagram}
use Rattle.dg_model.specs.declared.resolved.Resolved.{Resolved}
use Rattle.dg_model.specs.Attributes.{attributes_of}
use Rattle.dg_model.specs.Faults.{path_of}
use Rattle.dg_model.specs.RootElements.{RootElement, root_inputs, root_outputs}
use Rattle.dg_model.specs.Wires.{width_into}
use Rattle.hw_latency.specs.Weight.{samples}
use Rattle.hw_net.specs.declared.netlist.NetPort.{NetPort}
use Rattle.hw_net.specs.Circuit.{Circuit}
use Rattle.hw_sched.specs.Ready.{declared_latency}
use Rattle.hw_sched.specs.Slots.{Timing as Times}
use Rattle.hw_names.specs.declared.names.Names.{Names}
use Rattle.hw_names.specs.Names.{undoubled, element_name, port_name, IsGiven, Given, wanted_of}
use Rattle.hw_build.specs.inner.HubPlaces.{hub_at}
use Rattle.hw_names.specs.Taken.{AreTaken, taken_by}

pub record IsPortOf (diagram : Diagram) (old new : Names) (block width element number latency : ℕ) (port : NetPort) : Type 0 where
  pub net : port.net ≡ number
  pub small : port.net < 2 ^ 32
  pub period : port.period ≡ samples ((attributes_of diagram).period_at block)
  pub latency_is : port.latency ≡ latency
  pub named : (list : List (List ℕ)) → AreTaken old list → IsGiven list (port_name (element_name (undoubled false (path_of diagram block)) width element)) port.name × AreTaken new (port.name ∷ list)

-- the port of an element
pub record IsPortFor (e : RootElement) (number latency : ℕ) (port : NetPort) : Type 0 where
  pub net : port.net ≡ number
  pub small : port.net < 2 ^ 32
  pub period : port.period ≡ samples e.period
  pub latency_is : port.latency ≡ latency

-- the ports of the first of these elements, by the width of their signals, the net of each and the
-- latency of their blocks
pub record ArePortsFor (diagram : Diagram) (elements : List RootElement) (width_of : ℕ → ℕ) (number_of : ℕ → RootElement → ℕ) (latency_of : ℕ → ℕ)
    (old new : Names) (ports : List NetPort) (count : ℕ) : Type 0 where
  pub size : length ports ≡ count
  pub each : (k : ℕ) (e : RootElement) (port : NetPort) → slice_get elements k ≡ Some e → slice_get ports k ≡ Some port → IsPortFor e (number_of k e) (latency_of e.block) port
  pub given : (list : List (List ℕ)) → AreTaken old list
      → Given list (take count (map (wanted_of diagram width_of) elements)) (map (λ port. port.name) ports) × AreTaken new (taken_by list (map (λ port. port.name) ports))

-- those of root inputs, each of the net of its number
pub record AddsInputPorts (diagram : Diagram) (old new : Names) (earlier later : Circuit) (count : ℕ) : Type 0 where
  pub grown : later ≡ record earlier { inputs = later.inputs }
  pub ports : ArePortsFor diagram (root_inputs diagram (attributes_of diagram)) (λ block. (attributes_of diagram).width_at block 1) (λ k e. k) (λ block. 0) old new later.inputs count

-- and of root outputs, each of the net that readers of its element name
pub record AddsOutputPorts (diagram : Diagram) (plan : Resolved) (times : Times) (firsts : List (List ℕ)) (old new : Names) (earlier later : Circuit) (count : ℕ) : Type 0 where
  pub grown : later ≡ record earlier { outputs = later.outputs }
  pub ports : ArePortsFor diagram (root_outputs diagram (attributes_of diagram)) (λ block. width_into diagram (attributes_of diagram) block 1)
      (λ k e. hub_at firsts e.block 1 e.element) (declared_latency diagram (attributes_of diagram) plan times) old new later.outputs count

-- where the ports of root inputs begin among their nets
pub record AreInputFirsts (diagram : Diagram) (firsts : List (List ℕ)) : Type 0 where
  pub there : (k : ℕ) (e : RootElement) → slice_get (root_inputs diagram (attributes_of diagram)) k ≡ Some e → 0 < length (slice_index_or firsts e.block [])
  pub at : (k : ℕ) (e : RootElement) → slice_get (root_inputs diagram (attributes_of diagram)) k ≡ Some e → hub_at firsts e.block 1 e.element ≡ k

-- and those of root outputs, which have numbers of 32 bits
pub record AreOutputFirsts (diagram : Diagram) (firsts : List (List ℕ)) : Type 0 where
  pub there : (k : ℕ) (e : RootElement) → slice_get (root_outputs diagram (attributes_of diagram)) k ≡ Some e → 0 < length (slice_index_or firsts e.block [])
  pub small : (k : ℕ) (e : RootElement) → slice_get (root_outputs diagram (attributes_of diagram)) k ≡ Some e → hub_at firsts e.block 1 e.element < 2 ^ 32
