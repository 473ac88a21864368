-- How the instances of a design are linked (IEEE 1364-2005, 12.1.2 and 12.3.6; what keeps names apart
-- is own).
use Rattle.std.specs.Prelude.{◌≡◌, ℕ, ◌==◌, nat_eq, Bool, true, false, not, ◌&&◌, ◌||◌, if◌then◌else◌, List, [], ◌∷◌, ◌++◌, Contains, count_by, bytes_eq, codes, find, Option, Some, None}
use Rattle.std.specs.List.{list_all, list_any, starts_with}
use Rattle.vl_ast.specs.declared.designs.Instance.{Instance}
use Rattle.vl_ast.specs.declared.designs.Link.{Link}
use Rattle.vl_ast.specs.declared.modules.Module.{Module}
use Rattle.vl_ast.specs.declared.modules.Port.{Port}
use Rattle.vl_ast.specs.Nets.{Declared, declarations}
use Rattle.vl_inner.specs.Names.{inner_name, is_shared}
use Rattle.vl_names.specs.Identifiers.{is_identifier}
use Rattle.vl_read.specs.declared.design.Design.{Design}

-- the modules before the top, and the top
abbrev pub IsParted : Design → List Module → Module → Type 0
IsParted design below top = design.modules ≡ below ++ top ∷ []

-- whether a module has this name
abbrev pub is_named : List ℕ → Module → Bool
is_named name m = bytes_eq m.name name

-- the module of this name, where there is exactly one
abbrev pub module_of : List Module → List ℕ → Option Module
module_of below name =
    if count_by (is_named name) below == 1 then find (is_named name) below else None

-- what begins the names of an instance's nets
abbrev pub head_of : Instance → List ℕ
head_of instance = instance.name ++ codes "_"

-- how many links a port of this name has
abbrev pub links_of : List Link → List ℕ → ℕ
links_of links name = count_by (λ link. bytes_eq link.port name) links

-- whether the link is of one of these ports
abbrev pub is_of_port : List Port → Link → Bool
is_of_port ports link = list_any (λ port. bytes_eq port.name link.port) ports

-- whether a width and a sign are those of the port
abbrev pub has_word : Port → ℕ → Bool → Bool
has_word port width signed = width == port.width && (if port.signed then signed else not signed)

-- whether this declares the net, with the width and the sign of the port
abbrev pub is_net_for : Port → List ℕ → Declared → Bool
is_net_for port net declared =
    bytes_eq declared.name net && has_word port declared.net.width declared.net.signed

-- whether the link, where it is of this port, leads to a net of the top that fits it; `clk` and
-- `reset` are linked to themselves
abbrev pub fits : Module → Link → Port → Bool
fits top link port =
    not (bytes_eq port.name link.port)
    || (list_any (is_net_for port link.net) (declarations top)
    && (not (is_shared port.name) || bytes_eq link.net port.name))

-- the instance is linked to this module as it must be
pub record IsLinked (instances : List Instance) (below : List Module) (top : Module)
    (instance : Instance) (m : Module) : Type 0 where
  pub of : module_of below instance.of ≡ Some m
  -- no two instances have one name
  pub once : count_by (λ other. bytes_eq other.name instance.name) instances ≡ 1
  -- each port has exactly one link, and each link a port
  pub ports : list_all (λ port. links_of instance.links port.name == 1) m.ports ≡ true
  pub links : list_all (is_of_port m.ports) instance.links ≡ true
  pub fits : list_all (λ link. list_all (fits top link) m.ports) instance.links ≡ true
  -- neither another instance nor a net of the top is named like one of its nets
  pub apart : list_any (λ other. starts_with nat_eq other.name (head_of instance)) instances
      ≡ false
  pub free : list_any (λ declared. starts_with nat_eq declared.name (head_of instance))
      (declarations top) ≡ false
  -- none of its nets is named like a reserved word
  pub words : list_all (λ declared. is_identifier (inner_name instance.name declared.name))
      (declarations m) ≡ true

-- it is linked to some module so
abbrev pub IsLinkedIn : List Instance → List Module → Module → Instance → Type 0
IsLinkedIn instances below top instance = (m : Module) × IsLinked instances below top instance m

-- each of the instances is
abbrev pub AreLinked : Design → List Module → Module → List Instance → Type 0
AreLinked design below top instances =
    (instance : Instance) → Contains instances instance
    → IsLinkedIn design.instances below top instance

-- each instance of a design is
pub record HasAllLinked (design : Design) : Type 0 where
  pub below : List Module
  pub top : Module
  pub parted : IsParted design below top
  pub linked : AreLinked design below top design.instances
