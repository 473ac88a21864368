-- The name, the attribute and the ports of a module with valid and ready (own).
use Rattle.std.specs.Prelude.{◌≡◌, ℕ, Bool, false, List, [], ◌∷◌, ◌++◌, map, length, drop, codes}
use Rattle.std.specs.List.{zip}
use Rattle.vl_ast.specs.declared.modules.Port.{Port}
use Rattle.vl_ast.specs.declared.modules.Module.{Module}
use Rattle.vl_ast.specs.Driven.{output_ports, stimulus_ports}
use Rattle.vl_ast.specs.Header.{DataPort, attribute_of, bit_input, input_port, output_port}

-- a port with a number in every row, and of an output that of the same row
abbrev pub row_port : List ℕ → ℕ → Bool → DataPort
row_port name width signed =
    record { name = name; width = width; signed = signed; period = 1; latency = 0 }

-- a port of the handshake
abbrev pub flag : List ℕ → DataPort
flag name = row_port name 1 false

-- a port of the core under another name
abbrev pub named_port : Port × List ℕ → DataPort
named_port named = row_port named.1 named.0.width named.0.signed

-- the inputs with their names, which stand first
abbrev pub named_inputs : Module → List (List ℕ) → List (Port × List ℕ)
named_inputs core names = zip (stimulus_ports core) names

-- the outputs with their names
abbrev pub named_outputs : Module → List (List ℕ) → List (Port × List ℕ)
named_outputs core names = zip (output_ports core) (drop (length (stimulus_ports core)) names)

-- the module is `fx_stream`, takes a row for a sample, and behind `clk` and `reset` stand
-- `in_valid`, the inputs, `out_ready`, `in_ready`, `out_valid` and the outputs
pub record HasStreamHeader (core : Module) (names : List (List ℕ)) (m : Module) : Type 0 where
  pub name : m.name ≡ codes "fx_stream"
  pub attrs : m.attrs ≡ attribute_of (codes "fx_cycles") 1 ∷ []
  pub ports : m.ports ≡ bit_input (codes "clk") ∷ bit_input (codes "reset")
      ∷ input_port (flag (codes "in_valid"))
      ∷ (map (λ named. input_port (named_port named)) (named_inputs core names)
      ++ input_port (flag (codes "out_ready")) ∷ output_port (flag (codes "in_ready"))
      ∷ output_port (flag (codes "out_valid"))
      ∷ map (λ named. output_port (named_port named)) (named_outputs core names))
