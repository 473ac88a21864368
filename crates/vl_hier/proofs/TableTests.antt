-- What the tables tell of an instance is what is to be tested of it.
use Rattle.std.proofs.Common.{◌≡◌, ℕ, zero, suc, ◌==◌, Bool, true, false, not, ◌&&◌, ◌||◌, if◌then◌else◌, List, [], ◌∷◌, ◌++◌, bytes_eq, count_by, flat_map, map, slice_get, Option, Some, None, refl, sym, ap, ◌∙◌}
use Rattle.std.specs.Prelude.{nat_eq}
use Rattle.std.specs.List.{list_all, list_any, starts_with}
use Rattle.std.proofs.Math.Bool.{or-false}
use Rattle.std.proofs.lemmas.List.Folds.{list_any-append}
use Rattle.std.proofs.lemmas.Slice.Eq.{bytes_eq-Decides}
use Rattle.vl_ast.specs.declared.designs.Instance.{Instance}
use Rattle.vl_ast.specs.declared.designs.Link.{Link}
use Rattle.vl_ast.specs.declared.modules.ModItem.{ModItem}
use Rattle.vl_ast.specs.declared.modules.Module.{Module}
use Rattle.vl_ast.specs.declared.modules.Port.{Port}
use Rattle.vl_ast.specs.Conditions.{item_name}
use Rattle.vl_ast.specs.Drivers.{declares}
use Rattle.vl_ast.specs.Nets.{port_declared as declared_port}
use Rattle.vl_inner.specs.Names.{is_shared}
use Rattle.vl_hier.specs.declared.index.Found.{Found}
use Rattle.vl_hier.specs.declared.index.Found.TheVariants.{Once, Often}
use Rattle.vl_hier.specs.declared.index.Index.{Index}
use Rattle.vl_hier.specs.declared.nets.Nets.{Nets}
use Rattle.vl_hier.specs.declared.tables.Modules.{Modules}
use Rattle.vl_hier.specs.Linked.{is_net_for, is_of_port, links_of, module_of}
use Rattle.vl_hier.specs.inner.Index.{IsFirstAt, IsFound, IsIndexOf, found_in}
use Rattle.vl_hier.specs.inner.Names.{instance_names, item_names, names_begun, port_names}
use Rattle.vl_hier.specs.inner.Nets.{AreNets, item_declared, port_declared, top_declared}
use Rattle.vl_hier.specs.inner.Tables.{AreModules, are_led, leads_by, leads_if, module_by, one_at}
use Rattle.vl_hier.specs.inner.Tests.{are_ports_linked, has_net, item_begins, link_fits, leads_well, net_begins, port_fits}
use Rattle.vl_hier.proofs.LeastName.{same-truth}
use Rattle.vl_hier.proofs.LinkTests.{item-net}
use Rattle.vl_hier.proofs.LookUps.{any-found, not-one, one-found, rest-of-first, rest-of-later, rest-of-none}
use Rattle.vl_hier.proofs.NamePlaces.{count-unmapped, first-unmapped}

-- ---- lists of parts

any-parts : {A D : Type 0} (p : D → Bool) (f : A → List D) (xs : List A) → list_any p (flat_map f xs) ≡ list_any (λ x. list_any p (f x)) xs
any-parts p f [] = refl
any-parts p f (x ∷ xs) = list_any-append p (f x) (flat_map f xs) ∙ ap (λ b. list_any p (f x) || b) (any-parts p f xs)

any-of-each : {A D : Type 0} (p : D → Bool) (f : A → D) (xs : List A) → list_any p (flat_map (λ x. f x ∷ []) xs) ≡ list_any (λ x. p (f x)) xs
any-of-each p f xs = any-parts p (λ x. f x ∷ []) xs ∙ (λ k. list_any (λ x. or-false (p (f x)) k) xs)

all-true : {A : Type 0} (xs : List A) → list_all (λ x. true) xs ≡ true
all-true [] = refl
all-true (x ∷ xs) = all-true xs

inner-pairs : (a b c d : Bool) → ((a && b) && (c && d)) ≡ ((a && c) && (b && d))
inner-pairs true true c d = refl
inner-pairs true false true d = refl
inner-pairs true false false d = refl
inner-pairs false b c d = refl

all-both : {A : Type 0} (f g : A → Bool) (xs : List A) → list_all (λ x. f x && g x) xs ≡ (list_all f xs && list_all g xs)
all-both f g [] = refl
all-both f g (x ∷ xs) = ap (λ b. (f x && g x) && b) (all-both f g xs) ∙ inner-pairs (f x) (g x) (list_all f xs) (list_all g xs)

-- each of the ones with each of the others
all-turned : {A B : Type 0} (f : A → B → Bool) (xs : List A) (ys : List B) → list_all (λ y. list_all (λ x. f x y) xs) ys ≡ list_all (λ x. list_all (f x) ys) xs
all-turned f [] ys = all-true ys
all-turned f (x ∷ xs) ys = all-both (f x) (λ y. list_all (λ z. f z y) xs) ys ∙ ap (λ b. list_all (f x) ys && b) (all-turned f xs ys)

-- ---- the nets of the top

pub net-held : (top : Module) (port : Port) (net : List ℕ) → list_any (is_net_for port net) (top_declared top) ≡ has_net top port net
net-held top port net =
    list_any-append (is_net_for port net) (flat_map port_declared top.ports) (flat_map item_declared top.items)
    ∙ (λ k. any-of-each (is_net_for port net) declared_port top.ports k || any-parts (is_net_for port net) item_declared top.items k)
    ∙ (λ k. list_any (port_fits port net) top.ports || list_any (λ (i : ModItem). item-net port net i k) top.items)

-- ---- names that are begun

item-begun : (head : List ℕ) (i : ModItem) → list_any (λ name. starts_with nat_eq name head) (item_names i) ≡ item_begins head i
item-begun head i = by (declares i)
  where
    by : (b : Bool) → list_any (λ name. starts_with nat_eq name head) (if b then item_name i ∷ [] else []) ≡ (b && starts_with nat_eq (item_name i) head)
    by true = or-false (starts_with nat_eq (item_name i) head)
    by false = refl

or-others : (a b c : Bool) → ((a || b) || c) ≡ (a || (b || c))
or-others true b c = refl
or-others false b c = refl

pub names-begun : (instances : List Instance) (top : Module) (head : List ℕ) → list_any (λ name. starts_with nat_eq name head) (names_begun instances top)
    ≡ (list_any (λ (other : Instance). starts_with nat_eq other.name head) instances || net_begins top head)
names-begun instances top head =
    list_any-append (λ name. starts_with nat_eq name head) (flat_map instance_names instances ++ flat_map port_names top.ports) (flat_map item_names top.items)
    ∙ ap (λ b. b || list_any (λ name. starts_with nat_eq name head) (flat_map item_names top.items))
    (list_any-append (λ name. starts_with nat_eq name head) (flat_map instance_names instances) (flat_map port_names top.ports))
    ∙ (λ k. (any-of-each (λ name. starts_with nat_eq name head) (λ (i : Instance). i.name) instances k
    || any-of-each (λ name. starts_with nat_eq name head) (λ (p : Port). p.name) top.ports k)
    || any-parts (λ name. starts_with nat_eq name head) item_names top.items k)
    ∙ (λ k. (list_any (λ (other : Instance). starts_with nat_eq other.name head) instances || list_any (λ (port : Port). starts_with nat_eq port.name head) top.ports)
    || list_any (λ (i : ModItem). item-begun head i k) top.items)
    ∙ or-others (list_any (λ (other : Instance). starts_with nat_eq other.name head) instances)
    (list_any (λ (port : Port). starts_with nat_eq port.name head) top.ports) (list_any (item_begins head) top.items)

pub neither : (once a b : Bool) → (once && not (a || b)) ≡ (once && not a && not b)
neither true true b = refl
neither true false b = refl
neither false a b = refl

-- ---- links

other-way : (a b : List ℕ) → bytes_eq a b ≡ bytes_eq b a
other-way a b =
    same-truth (bytes_eq a b) (bytes_eq b a)
    (λ e. (bytes_eq-Decides b a).1 (sym ((bytes_eq-Decides a b).0 e)))
    (λ e. (bytes_eq-Decides a b).1 (sym ((bytes_eq-Decides b a).0 e)))

module _ (top : Module) (nets : Nets) (are : AreNets (top_declared top) nets) (port : Port) where
  abbrev has_port : Link → Bool
  has_port link = bytes_eq link.port port.name

  abbrev fits_here : Link → Bool
  fits_here link = link_fits top link port

  leads-is : (link : Link) → leads_by nets port link ≡ leads_well top link port
  leads-is link =
      ap (λ b. b && (not (is_shared port.name) || bytes_eq link.net port.name)) (are port link.net ∙ net-held top port link.net)

  another : (link : Link) → has_port link ≡ false → fits_here link ≡ true
  another link e = ap (λ b. not b || leads_well top link port) (other-way port.name link.port ∙ e)

  of-this : (link : Link) → has_port link ≡ true → fits_here link ≡ leads_well top link port
  of-this link e = ap (λ b. not b || leads_well top link port) (other-way port.name link.port ∙ e)

  none-fits : (links : List Link) → count_by has_port links ≡ 0 → list_all fits_here links ≡ true
  none-fits [] e = refl
  none-fits (link ∷ links) e =
      let rest = rest-of-none has_port link links e in
      ap (λ b. b && list_all fits_here links) (another link rest.0) ∙ none-fits links rest.1

  and-true : (a : Bool) → a ≡ (a && true)
  and-true true = refl
  and-true false = refl

  one-fits : (links : List Link) (place : ℕ) → count_by has_port links ≡ 1 → IsFirstAt has_port links place
      → leads_if nets port (slice_get links place) ≡ list_all fits_here links
  one-fits [] place e at = absurd at
  one-fits (link ∷ links) zero e at =
      leads-is link ∙ and-true (leads_well top link port)
      ∙ (λ k. sym (of-this link at) k && sym (none-fits links (rest-of-first has_port link links e at)) k)
  one-fits (link ∷ links) (suc place) e at =
      one-fits links place (rest-of-later has_port link links e at.0) at.1
      ∙ sym (ap (λ b. b && list_all fits_here links) (another link at.0))

  led-by : (links : List Link) (o : Option Found) → IsFound (map (λ (link : Link). link.port) links) port.name o
      → leads_if nets port (one_at links o) ≡ ((links_of links port.name == 1) && list_all fits_here links)
  led-by links None is =
      sym (ap (λ n. (n == 1) && list_all fits_here links) (sym (count-unmapped (λ (link : Link). link.port) (λ other. bytes_eq other port.name) links) ∙ is))
  led-by links (Some (Once place)) is =
      let one = sym (count-unmapped (λ (link : Link). link.port) (λ other. bytes_eq other port.name) links) ∙ is.0 in
      one-fits links place one (first-unmapped (λ (link : Link). link.port) (λ other. bytes_eq other port.name) links place is.1)
      ∙ sym (ap (λ n. (n == 1) && list_all fits_here links) one)
  led-by links (Some (Often place)) is =
      sym (ap (λ b. b && list_all fits_here links)
      (ap (λ n. n == 1) (sym (count-unmapped (λ (link : Link). link.port) (λ other. bytes_eq other port.name) links)) ∙ not-one _ is.0))

module _ (top : Module) (nets : Nets) (are : AreNets (top_declared top) nets) (ports : List Port) (links : List Link) (by_port by_name : Index)
    (links-there : IsIndexOf (map (λ (link : Link). link.port) links) by_port)
    (ports-there : IsIndexOf (map (λ (port : Port). port.name) ports) by_name) where
  abbrev of_ports : Bool
  of_ports = list_all (is_of_port ports) links

  abbrev one_link : Port → Bool
  one_link port = links_of links port.name == 1

  order : (a b c : Bool) → (a && (b && c)) ≡ (b && a && c)
  order true true c = refl
  order true false c = refl
  order false true c = refl
  order false false c = refl

  pub led-is : are_led nets by_port by_name ports links ≡ are_ports_linked top ports links
  led-is =
      (λ k. list_all (λ (link : Link). any-found (λ (port : Port). port.name) ports link.port (found_in by_name link.port) (ports-there link.port) k) links
      && list_all (λ (port : Port). led-by top nets are port links (found_in by_port port.name) (links-there port.name) k) ports)
      ∙ ap (λ b. of_ports && b) (all-both one_link (λ (port : Port). list_all (λ (link : Link). link_fits top link port) links) ports)
      ∙ ap (λ b. of_ports && (list_all one_link ports && b)) (all-turned (link_fits top) links ports)
      ∙ order of_ports (list_all one_link ports) (list_all (λ (link : Link). list_all (link_fits top link) ports) links)

-- ---- the modules before the top

pub module-is : (below : List Module) (modules : Modules) → AreModules below modules → (name : List ℕ) → module_by modules name ≡ module_of below name
module-is below modules are name =
    (λ k. one_at (are.below_is k) (found_in modules.by_name name))
    ∙ one-found (λ (m : Module). m.name) below name (found_in modules.by_name name) (are.by_name name)
