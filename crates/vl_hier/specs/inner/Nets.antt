-- The nets of the top, as the code keeps them.
use Rattle.std.specs.Prelude.{◌≡◌, ℕ, ◌+◌, ◌*◌, Bool, if◌then◌else◌, List, [], ◌∷◌, ◌++◌, flat_map}
use Rattle.std.specs.Borrow.{Bor}
use Rattle.std.specs.BTreeSet.{contains}
use Rattle.std.specs.declared.cmp.Ordering.{Ordering}
use Rattle.std.specs.Cmp.Lexicographic.{slice_cmp}
use Rattle.std.specs.List.{list_any}
use Rattle.std.specs.Ordering.{nat_cmp, then_cmp, on}
use Rattle.vl_ast.specs.declared.modules.ModItem.{ModItem}
use Rattle.vl_ast.specs.declared.modules.ModItem.TheVariants.{Wire, Reg, Assign, Always}
use Rattle.vl_ast.specs.declared.modules.Module.{Module}
use Rattle.vl_ast.specs.declared.modules.Port.{Port}
use Rattle.vl_ast.specs.Nets.{Declared, PlainWire, Register, port_declared as declared_port}
use Rattle.vl_hier.specs.declared.nets.Nets.{Nets}
use Rattle.vl_hier.specs.Linked.{is_net_for}
use Rattle.vl_hier.specs.inner.Names.{lent}

-- a width and a sign in one number
abbrev pub word_of : ℕ → Bool → ℕ
word_of width signed = width * 2 + (if signed then 1 else 0)

-- a width and a sign in one number, and a name
abbrev pub Key : Type 0
Key = ℕ × Bor (List ℕ)

-- the order in which a set has its keys
abbrev pub compare_keys : Key → Key → Ordering
compare_keys =
    then_cmp (on (λ (key : Key). key.0) nat_cmp)
    (on (λ (key : Key). key.1) (λ one other. slice_cmp nat_cmp one.now other.now))

-- what a port declares
abbrev pub port_declared : Port → List Declared
port_declared port = declared_port port ∷ []

-- and an item
abbrev pub item_declared : ModItem → List Declared
item_declared (Wire signed width name) =
    record { name = name; kind = PlainWire; net = record { width = width; signed = signed } } ∷ []
item_declared (Reg signed width name) =
    record { name = name; kind = Register; net = record { width = width; signed = signed } } ∷ []
item_declared (Assign name value) = []
item_declared (Always name first condition value) = []

-- and a module
abbrev pub top_declared : Module → List Declared
top_declared top = flat_map port_declared top.ports ++ flat_map item_declared top.items

-- whether a net of this name, with the width and the sign of a port, is among those that are kept
abbrev pub is_held : Nets → Port → List ℕ → Bool
is_held nets port name =
    contains compare_keys nets.keys (word_of port.width port.signed, lent name)

-- these are the nets
abbrev pub AreNets : List Declared → Nets → Type 0
AreNets declared nets =
    (port : Port) (name : List ℕ) → is_held nets port name ≡ list_any (is_net_for port name) declared
