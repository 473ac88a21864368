-- What the code tests of an instance, part by part.
use Rattle.std.specs.Prelude.{◌≡◌, ℕ, ◌==◌, nat_eq, slice_get, take, Bool, true, false, not, ◌&&◌, ◌||◌, List, count_by, bytes_eq, Option, Some, None}
use Rattle.std.specs.List.{list_all, list_any, starts_with}
use Rattle.vl_ast.specs.declared.designs.Instance.{Instance}
use Rattle.vl_ast.specs.declared.designs.Link.{Link}
use Rattle.vl_ast.specs.declared.modules.ModItem.{ModItem}
use Rattle.vl_ast.specs.declared.modules.ModItem.TheVariants.{Wire, Reg, Assign, Always}
use Rattle.vl_ast.specs.declared.modules.Module.{Module}
use Rattle.vl_ast.specs.declared.modules.Port.{Port}
use Rattle.vl_ast.specs.Conditions.{item_name}
use Rattle.vl_ast.specs.Drivers.{declares}
use Rattle.vl_inner.specs.Names.{inner_name, is_shared}
use Rattle.vl_names.specs.Identifiers.{is_identifier}
use Rattle.vl_hier.specs.Linked.{has_word, head_of, is_of_port, links_of, module_of}

-- another port is a net of this name that fits the port
abbrev pub port_fits : Port → List ℕ → Port → Bool
port_fits port net other = bytes_eq other.name net && has_word port other.width other.signed

-- and what an item declares
abbrev pub item_fits : Port → List ℕ → ModItem → Bool
item_fits port net (Wire signed width name) = bytes_eq name net && has_word port width signed
item_fits port net (Reg signed width name) = bytes_eq name net && has_word port width signed
item_fits port net (Assign name value) = false
item_fits port net (Always name first condition value) = false

-- the top has a net for the port
abbrev pub has_net : Module → Port → List ℕ → Bool
has_net top port net =
    list_any (port_fits port net) top.ports || list_any (item_fits port net) top.items

abbrev pub leads_well : Module → Link → Port → Bool
leads_well top link port =
    has_net top port link.net && (not (is_shared port.name) || bytes_eq link.net port.name)

abbrev pub link_fits : Module → Link → Port → Bool
link_fits top link port = not (bytes_eq port.name link.port) || leads_well top link port

-- ports and links
abbrev pub are_ports_linked : Module → List Port → List Link → Bool
are_ports_linked top ports links =
    list_all (λ port. links_of links port.name == 1) ports && list_all (is_of_port ports) links
    && list_all (λ link. list_all (link_fits top link) ports) links

-- an item declares a name that begins so
abbrev pub item_begins : List ℕ → ModItem → Bool
item_begins head i = declares i && starts_with nat_eq (item_name i) head

abbrev pub net_begins : Module → List ℕ → Bool
net_begins top head =
    list_any (λ (port : Port). starts_with nat_eq port.name head) top.ports
    || list_any (item_begins head) top.items

-- names, of which those of the instance's nets begin so
abbrev pub are_names_apart : List Instance → Module → List ℕ → List ℕ → Bool
are_names_apart instances top name head =
    count_by (λ (other : Instance). bytes_eq other.name name) instances == 1
    && not (list_any (λ (other : Instance). starts_with nat_eq other.name head) instances)
    && not (net_begins top head)

abbrev pub is_word : List ℕ → List ℕ → Bool
is_word head name = is_identifier (inner_name head name)

abbrev pub item_is_word : List ℕ → ModItem → Bool
item_is_word head i = not (declares i) || is_word head (item_name i)

abbrev pub are_words : List ℕ → Module → Bool
are_words head m =
    list_all (λ (port : Port). is_word head port.name) m.ports
    && list_all (item_is_word head) m.items

-- the instance is linked to a module
abbrev pub is_linked_to : List Instance → Module → Instance → Option Module → Bool
is_linked_to instances top instance None = false
is_linked_to instances top instance (Some m) =
    are_ports_linked top m.ports instance.links
    && are_names_apart instances top instance.name (head_of instance)
    && are_words instance.name m

abbrev pub is_linked : List Instance → List Module → Module → Instance → Bool
is_linked instances below top instance =
    is_linked_to instances top instance (module_of below instance.of)

-- the place of the first instance that isn't linked so, if there is one
abbrev pub IsFirstBad : List Instance → List Module → Module → Option ℕ → Type 0
IsFirstBad instances below top None =
    list_all (is_linked instances below top) instances ≡ true
IsFirstBad instances below top (Some place) =
    (one : Instance) × (slice_get instances place ≡ Some one)
    × (is_linked instances below top one ≡ false)
    × (list_all (is_linked instances below top) (take place instances) ≡ true)
