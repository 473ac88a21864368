-- What the instances of a design are held to, as the code keeps it.
use Rattle.std.specs.Prelude.{◌≡◌, ℕ, Bool, false, not, ◌&&◌, ◌||◌, List, map, slice_get, bytes_eq, Option, Some, None}
use Rattle.std.specs.List.{list_all}
use Rattle.vl_ast.specs.declared.designs.Instance.{Instance}
use Rattle.vl_ast.specs.declared.designs.Link.{Link}
use Rattle.vl_ast.specs.declared.modules.Module.{Module}
use Rattle.vl_ast.specs.declared.modules.Port.{Port}
use Rattle.vl_inner.specs.Names.{is_shared}
use Rattle.vl_hier.specs.declared.index.Found.{Found}
use Rattle.vl_hier.specs.declared.index.Found.TheVariants.{Once, Often}
use Rattle.vl_hier.specs.declared.index.Index.{Index}
use Rattle.vl_hier.specs.declared.nets.Nets.{Nets}
use Rattle.vl_hier.specs.declared.tables.Modules.{Modules}
use Rattle.vl_hier.specs.declared.tables.Tables.{Tables}
use Rattle.vl_hier.specs.inner.Index.{IsIndexOf, found_in, has_place}
use Rattle.vl_hier.specs.inner.Names.{AreNames, names_begun}
use Rattle.vl_hier.specs.inner.Nets.{AreNets, is_held, top_declared}

-- the one of a list that stands at a place alone
abbrev pub one_at : {A : Type 0} → List A → Option Found → Option A
one_at xs None = None
one_at xs (Some (Once place)) = slice_get xs place
one_at xs (Some (Often place)) = None

-- what stands at a place, if there is one
abbrev pub at_place : {A : Type 0} → List A → Option ℕ → Option A
at_place xs None = None
at_place xs (Some place) = slice_get xs place

-- the module of a name
abbrev pub module_by : Modules → List ℕ → Option Module
module_by modules name = one_at modules.below.now (found_in modules.by_name name)

-- these are the modules
pub record AreModules (below : List Module) (modules : Modules) : Type 0 where
  pub below_is : modules.below.now ≡ below
  pub by_name : IsIndexOf (map (λ (m : Module). m.name) below) modules.by_name

-- this is what the instances of a design are held to
pub record AreTables (below : List Module) (top : Module) (instances : List Instance)
    (tables : Tables) : Type 0 where
  pub modules : AreModules below tables.modules
  pub counted : IsIndexOf (map (λ (i : Instance). i.name) instances) tables.instances
  pub names : AreNames (names_begun instances top) tables.names
  pub nets : AreNets (top_declared top) tables.nets

-- a link of a port leads to a net that fits it
abbrev pub leads_by : Nets → Port → Link → Bool
leads_by nets port link =
    is_held nets port link.net && (not (is_shared port.name) || bytes_eq link.net port.name)

-- the same, where there is a link
abbrev pub leads_if : Nets → Port → Option Link → Bool
leads_if nets port None = false
leads_if nets port (Some link) = leads_by nets port link

-- the one link of a port does
abbrev pub is_led : Nets → Index → List Link → Port → Bool
is_led nets by_port links port = leads_if nets port (one_at links (found_in by_port port.name))

-- whether each port has one link, which leads to a net that fits, and each link is of a port
abbrev pub are_led : Nets → Index → Index → List Port → List Link → Bool
are_led nets by_port by_name ports links =
    list_all (λ (link : Link). has_place (found_in by_name link.port)) links
    && list_all (is_led nets by_port links) ports
