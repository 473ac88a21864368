-- A design as one module: what its instances hold stands in the top, behind their names (own).
use Rattle.std.specs.Prelude.{◌≡◌, ℕ, not, ◌&&◌, Bool, false, if◌then◌else◌, List, [], ◌∷◌, ◌++◌, map, flat_map, filter, bytes_eq, find, Option, Some, None}
use Rattle.vl_ast.specs.declared.designs.Instance.{Instance}
use Rattle.vl_ast.specs.declared.designs.Link.{Link}
use Rattle.vl_ast.specs.declared.expressions.Expr.TheVariants.{Name}
use Rattle.vl_ast.specs.declared.modules.ModItem.{ModItem}
use Rattle.vl_ast.specs.declared.modules.ModItem.TheVariants.{Wire, Assign}
use Rattle.vl_ast.specs.declared.modules.Module.{Module}
use Rattle.vl_ast.specs.declared.modules.Port.{Port}
use Rattle.vl_ast.specs.Drivers.{declares}
use Rattle.vl_inner.specs.Names.{inner_name, is_shared}
use Rattle.vl_inner.specs.Renamed.{renamed_item}
use Rattle.vl_read.specs.declared.design.Design.{Design}
use Rattle.vl_hier.specs.Linked.{IsParted, module_of}

-- the items that declare
abbrev pub declaring : List ModItem → List ModItem
declaring items = filter declares items

-- those that drive
abbrev pub driving : List ModItem → List ModItem
driving items = filter (λ i. not (declares i)) items

-- the wire of a port, which `clk` and `reset` lack
abbrev pub port_wire : List ℕ → Port → List ModItem
port_wire head port =
    if is_shared port.name then []
    else Wire port.signed port.width (inner_name head port.name) ∷ []

-- what an instance of a module declares
abbrev pub nets_by : List ℕ → Option Module → List ModItem
nets_by head None = []
nets_by head (Some m) =
    flat_map (port_wire head) m.ports ++ map (renamed_item (inner_name head)) (declaring m.items)

-- whether there is a port, and it is an input
abbrev pub is_some_input : Option Port → Bool
is_some_input None = false
is_some_input (Some port) = port.input

-- whether the first port of this name is an input
abbrev pub is_input : List Port → List ℕ → Bool
is_input ports name = is_some_input (find (λ port. bytes_eq port.name name) ports)

-- an input takes the net without
abbrev pub inward : List Port → List ℕ → Link → List ModItem
inward ports head link =
    if not (is_shared link.port) && is_input ports link.port
    then Assign (inner_name head link.port) (Name link.net) ∷ [] else []

-- and an output drives it
abbrev pub outward : List Port → List ℕ → Link → List ModItem
outward ports head link =
    if not (is_shared link.port) && not (is_input ports link.port)
    then Assign link.net (Name (inner_name head link.port)) ∷ [] else []

-- what an instance of a module drives
abbrev pub drivers_by : Instance → Option Module → List ModItem
drivers_by instance None = []
drivers_by instance (Some m) =
    flat_map (inward m.ports instance.name) instance.links
    ++ (flat_map (outward m.ports instance.name) instance.links
    ++ map (renamed_item (inner_name instance.name)) (driving m.items))

-- the items of the flat module
abbrev pub flat_items : List Module → Module → List Instance → List ModItem
flat_items below top instances =
    declaring top.items
    ++ (flat_map (λ i. nets_by i.name (module_of below i.of)) instances
    ++ (driving top.items
    ++ flat_map (λ i. drivers_by i (module_of below i.of)) instances))

-- the flat module
abbrev pub flat_of : List Module → Module → List Instance → Module
flat_of below top instances =
    record {
      name = top.name;
      attrs = top.attrs;
      ports = top.ports;
      items = flat_items below top instances;
    }

-- it is the flat module of a design
abbrev pub IsFlatOf : Design → Module → Type 0
IsFlatOf design m =
    (below : List Module) × (top : Module) × IsParted design below top
    × (m ≡ flat_of below top design.instances)
