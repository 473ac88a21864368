-- The ports of a diagram's module under a plan (own).
use Rattle.std.specs.Prelude.{ℕ, List, [], ◌∷◌, length, drop, unwrap_or}
use Rattle.fx_type.specs.FxType.{is_signed, width_of}
use Rattle.dg_model.specs.declared.diagram.Diagram.{Diagram}
use Rattle.dg_model.specs.declared.resolved.Resolved.{Resolved}
use Rattle.dg_model.specs.Attributes.{attributes_of}
use Rattle.dg_model.specs.RootElements.{RootElement, root_inputs, root_outputs}
use Rattle.vl_ast.specs.Header.{DataPort}
use Rattle.hw_sched.specs.Ready.{declared_latency}
use Rattle.hw_sched.specs.Slots.{Timing}

-- how many base samples a number of an element stands; one that never changes is shown anew in each
abbrev pub step_of : RootElement → ℕ
step_of e = unwrap_or e.period 1

-- a root element with the name of its port
pub record NamedElement : Type 0 where
  pub name : List ℕ
  pub root : RootElement

abbrev pub named : List (List ℕ) → List RootElement → List NamedElement
named [] elements = []
named (name ∷ names) [] = []
named (name ∷ names) (root ∷ roots) = record { name = name; root = root } ∷ named names roots

-- by the names of all ports, those of the root inputs, and then those of the root outputs, in order
abbrev pub input_elements : List (List ℕ) → Diagram → List NamedElement
input_elements names diagram = named names (root_inputs diagram (attributes_of diagram))

abbrev pub output_elements : List (List ℕ) → Diagram → List NamedElement
output_elements names diagram =
    named (drop (length (root_inputs diagram (attributes_of diagram))) names)
    (root_outputs diagram (attributes_of diagram))

-- their ports; an output declares its latency
abbrev pub input_data : NamedElement → DataPort
input_data e =
    record {
      name = e.name;
      width = width_of e.root.type;
      signed = is_signed e.root.type;
      period = step_of e.root;
      latency = 0;
    }

abbrev pub output_data : Diagram → Resolved → Timing → NamedElement → DataPort
output_data diagram plan timing e = record {
  name = e.name;
  width = width_of e.root.type;
  signed = is_signed e.root.type;
  period = step_of e.root;
  latency = declared_latency diagram (attributes_of diagram) plan timing e.root.block;
}
