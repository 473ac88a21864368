-- The bits that an edge is given for the input ports.
use Rattle.std.specs.Prelude.{ℕ, not, ◌&&◌, List, [], ◌∷◌, filter, if◌then◌else◌, bytes_eq, codes}
use Rattle.vl_ast.specs.declared.modules.Port.{Port}
use Rattle.vl_ast.specs.declared.modules.Module.{Module}

-- the input ports but `clk`, in order
abbrev pub driven_ports : Module → List Port
driven_ports m = filter (λ port. port.input && not (bytes_eq port.name (codes "clk"))) m.ports

-- the bits at the place of the first of these ports with this name, and else 0
abbrev pub given : List Port → List ℕ → List ℕ → ℕ
given [] bits name = 0
given (port ∷ ports) [] name = 0
given (port ∷ ports) (here ∷ bits) name =
    if bytes_eq port.name name then here else given ports bits name
