-- The names that the nets and the ports of a netlist have in its module, each with its word (own).
use Rattle.std.specs.Prelude.{ℕ, ◌==◌, Bool, if◌then◌else◌, List, [], ◌∷◌, ◌++◌}
use Rattle.std.specs.Prelude.{slice_index_or, codes, ℤ}
use Rattle.std.specs.Fmt.{decimal}
use Rattle.vl_ast.specs.Value.{number_of}
use Rattle.hw_net.specs.declared.netlist.NetPort.{NetPort}
use Rattle.hw_net.specs.declared.netlist.NetLabel.{NetLabel}
use Rattle.hw_net.specs.Circuit.{Circuit}
use Rattle.hw_net.specs.Products.{net_at}

-- a name with its word
pub record Wire : Type 0 where
  pub name : List ℕ
  pub width : ℕ
  pub signed : Bool

-- the name of a net without a label
abbrev pub net_name : ℕ → List ℕ
net_name k = codes "fx_n" ++ decimal k

-- the register that a bridge holds its value in
abbrev pub hold_name : ℕ → List ℕ
hold_name k = codes "fx_h" ++ decimal k

-- an input port by its place
abbrev pub port_at : List NetPort → ℕ → NetPort
port_at ports i = slice_index_or ports i (record { name = []; net = 0; period = 0; latency = 0 })

-- the name of a net: its label, where it has one
abbrev pub name_by : List NetLabel → ℕ → List ℕ
name_by [] k = net_name k
name_by (label ∷ labels) k = if label.net == k then label.name else name_by labels k

abbrev pub name_of : Circuit → ℕ → List ℕ
name_of netlist k = name_by netlist.labels k

-- a name with the word of a net
abbrev pub wire_as : Circuit → ℕ → List ℕ → Wire
wire_as netlist k name =
    record {
      name = name;
      width = (net_at netlist.nets k).width;
      signed = (net_at netlist.nets k).signed;
    }

abbrev pub net_wire : Circuit → ℕ → Wire
net_wire netlist k = wire_as netlist k (name_of netlist k)

-- a port has the word of its net
abbrev pub port_wire : Circuit → NetPort → Wire
port_wire netlist port = wire_as netlist port.net port.name

abbrev pub input_wire : Circuit → ℕ → Wire
input_wire netlist i = port_wire netlist (port_at netlist.inputs i)

-- the number that a name shows in a row
abbrev pub shown : (List ℕ → ℕ) → Wire → ℤ
shown row wire =
    number_of (record { width = wire.width; signed = wire.signed; bits = row wire.name })
