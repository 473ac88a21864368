-- The tests of the code say when an instance is linked as it must be.
use Rattle.std.proofs.Common.{◌≡◌, ℕ, ◌==◌, Bool, true, false, not, ◌&&◌, ◌||◌, List, bytes_eq, count_by, Option, None, Some, refl, sym, ap, ◌∙◌}
use Rattle.std.specs.Prelude.{nat_eq}
use Rattle.std.specs.List.{list_all, list_any, starts_with}
use Rattle.std.proofs.Math.Bool.{and-true, or-false}
use Rattle.std.proofs.lemmas.Bool.{and_parts, eq-eqb, eqb-true, false≢true}
use Rattle.vl_ast.specs.declared.designs.Instance.{Instance}
use Rattle.vl_ast.specs.declared.designs.Link.{Link}
use Rattle.vl_ast.specs.declared.modules.ModItem.{ModItem}
use Rattle.vl_ast.specs.declared.modules.ModItem.TheVariants.{Wire, Reg, Assign, Always}
use Rattle.vl_ast.specs.declared.modules.Module.{Module}
use Rattle.vl_ast.specs.declared.modules.Port.{Port}
use Rattle.vl_ast.specs.Nets.{Declared, declarations}
use Rattle.vl_inner.specs.Names.{inner_name, is_shared}
use Rattle.vl_names.specs.Identifiers.{is_identifier}
use Rattle.vl_hier.specs.Linked.{IsLinked, IsLinkedIn, fits, head_of, is_net_for, is_of_port, links_of, module_of}
use Rattle.vl_hier.specs.inner.Tests.{are_words, has_net, is_linked, is_linked_to, item_begins, item_fits, item_is_word, link_fits, net_begins, port_fits}
use Rattle.vl_hier.specs.inner.Nets.{item_declared}
use Rattle.vl_hier.proofs.DeclarationTests.{all-declared, any-declared}

-- ---- each part, of what a module declares

pub item-net : (port : Port) (net : List ℕ) (i : ModItem) → list_any (is_net_for port net) (item_declared i) ≡ item_fits port net i
item-net port net (Wire signed width name) = or-false (item_fits port net (Wire signed width name))
item-net port net (Reg signed width name) = or-false (item_fits port net (Reg signed width name))
item-net port net (Assign name value) = refl
item-net port net (Always name first condition value) = refl

net-there : (top : Module) (port : Port) (net : List ℕ) → list_any (is_net_for port net) (declarations top) ≡ has_net top port net
net-there top port net =
    any-declared (is_net_for port net) top ∙ (λ k. list_any (port_fits port net) top.ports || list_any (λ (i : ModItem). item-net port net i k) top.items)

one-fits : (top : Module) (link : Link) (port : Port) → fits top link port ≡ link_fits top link port
one-fits top link port =
    ap (λ b. not (bytes_eq port.name link.port) || (b && (not (is_shared port.name) || bytes_eq link.net port.name))) (net-there top port link.net)

all-fit : (top : Module) (ports : List Port) (links : List Link)
    → list_all (λ (link : Link). list_all (fits top link) ports) links ≡ list_all (λ (link : Link). list_all (link_fits top link) ports) links
all-fit top ports links = (λ k. list_all (λ (link : Link). list_all (λ (port : Port). one-fits top link port k) ports) links)

item-start : (head : List ℕ) (i : ModItem) → list_any (λ (d : Declared). starts_with nat_eq d.name head) (item_declared i) ≡ item_begins head i
item-start head (Wire signed width name) = or-false (starts_with nat_eq name head)
item-start head (Reg signed width name) = or-false (starts_with nat_eq name head)
item-start head (Assign name value) = refl
item-start head (Always name first condition value) = refl

net-start : (top : Module) (head : List ℕ) → list_any (λ (d : Declared). starts_with nat_eq d.name head) (declarations top) ≡ net_begins top head
net-start top head =
    any-declared (λ (d : Declared). starts_with nat_eq d.name head) top
    ∙ (λ k. list_any (λ (port : Port). starts_with nat_eq port.name head) top.ports || list_any (λ (i : ModItem). item-start head i k) top.items)

item-word : (head : List ℕ) (i : ModItem) → list_all (λ (d : Declared). is_identifier (inner_name head d.name)) (item_declared i) ≡ item_is_word head i
item-word head (Wire signed width name) = and-true (is_identifier (inner_name head name))
item-word head (Reg signed width name) = and-true (is_identifier (inner_name head name))
item-word head (Assign name value) = refl
item-word head (Always name first condition value) = refl

all-words : (head : List ℕ) (m : Module) → list_all (λ (d : Declared). is_identifier (inner_name head d.name)) (declarations m) ≡ are_words head m
all-words head m =
    all-declared (λ (d : Declared). is_identifier (inner_name head d.name)) m
    ∙ (λ k. list_all (λ (port : Port). is_identifier (inner_name head port.name)) m.ports && list_all (λ (i : ModItem). item-word head i k) m.items)

-- ---- all parts

both-true : (a b : Bool) → a ≡ true → b ≡ true → (a && b) ≡ true
both-true true true e f = refl
both-true true false e f = f
both-true false b e f = e

not-both : (b : Bool) → b ≡ false → not b ≡ true
not-both false e = refl
not-both true e = absurd (false≢true (sym e))

was-false : (b : Bool) → not b ≡ true → b ≡ false
was-false false e = refl
was-false true e = absurd (false≢true e)

module _ (instances : List Instance) (below : List Module) (top : Module) (instance : Instance) where
  abbrev ports-test : Module → Bool
  ports-test m = list_all (λ (port : Port). links_of instance.links port.name == 1) m.ports

  abbrev links-test : Module → Bool
  links-test m = list_all (is_of_port m.ports) instance.links

  abbrev fits-test : Module → Bool
  fits-test m = list_all (λ (link : Link). list_all (link_fits top link) m.ports) instance.links

  abbrev once-test : Bool
  once-test = count_by (λ (other : Instance). bytes_eq other.name instance.name) instances == 1

  abbrev apart-test : Bool
  apart-test = list_any (λ (other : Instance). starts_with nat_eq other.name (head_of instance)) instances

  linked-if : (m : Module) → module_of below instance.of ≡ Some m → is_linked_to instances top instance (Some m) ≡ true → IsLinked instances below top instance m
  linked-if m of e =
      let a = and_parts (ports-test m && links-test m && fits-test m && (once-test && not apart-test && not (net_begins top (head_of instance)))) (are_words instance.name m) e in
      let b = and_parts (ports-test m && links-test m && fits-test m) (once-test && not apart-test && not (net_begins top (head_of instance))) a.0 in
      let c = and_parts (ports-test m && links-test m) (fits-test m) b.0 in
      let d = and_parts (ports-test m) (links-test m) c.0 in
      let f = and_parts (once-test && not apart-test) (not (net_begins top (head_of instance))) b.1 in
      let g = and_parts once-test (not apart-test) f.0 in
      record {
        of = of;
        once = eqb-true _ 1 g.0;
        ports = d.0;
        links = d.1;
        fits = all-fit top m.ports instance.links ∙ c.1;
        apart = was-false apart-test g.1;
        free = net-start top (head_of instance) ∙ was-false (net_begins top (head_of instance)) f.1;
        words = all-words instance.name m ∙ a.1;
      }

  test-if : (m : Module) → IsLinked instances below top instance m → is_linked_to instances top instance (Some m) ≡ true
  test-if m l =
      both-true _ (are_words instance.name m)
      (both-true (ports-test m && links-test m && fits-test m) (once-test && not apart-test && not (net_begins top (head_of instance)))
      (both-true (ports-test m && links-test m) (fits-test m) (both-true (ports-test m) (links-test m) l.ports l.links) (sym (all-fit top m.ports instance.links) ∙ l.fits))
      (both-true (once-test && not apart-test) (not (net_begins top (head_of instance)))
      (both-true once-test (not apart-test) (eq-eqb _ 1 l.once) (not-both apart-test l.apart))
      (not-both (net_begins top (head_of instance)) (sym (net-start top (head_of instance)) ∙ l.free))))
      (sym (all-words instance.name m) ∙ l.words)

  pub is-linked : is_linked instances below top instance ≡ true → IsLinkedIn instances below top instance
  is-linked e = by (module_of below instance.of) refl e where
    by : (o : Option Module) → module_of below instance.of ≡ o → is_linked_to instances top instance o ≡ true → IsLinkedIn instances below top instance
    by None of e = absurd (false≢true e)
    by (Some m) of e = (m, linked-if m of e)

  pub not-linked : is_linked instances below top instance ≡ false → ¬ IsLinkedIn instances below top instance
  not-linked e (m, l) =
      absurd (false≢true (sym e ∙ ap (is_linked_to instances top instance) l.of ∙ test-if m l))
