-- Tests of what a module declares, its ports first and then its items.
use Rattle.std.proofs.Common.{◌≡◌, ℕ, Bool, ◌&&◌, ◌||◌, List, [], ◌∷◌, ◌++◌, map, flat_map, refl, ap, ◌∙◌}
use Rattle.std.specs.List.{list_all, list_any}
use Rattle.std.proofs.lemmas.List.Concat.{flat_map-append}
use Rattle.std.proofs.lemmas.List.Folds.{list_all-append, list_any-append}
use Rattle.vl_ast.specs.declared.modules.ModItem.{ModItem}
use Rattle.vl_ast.specs.declared.modules.ModItem.TheVariants.{Wire, Reg, Assign, Always}
use Rattle.vl_ast.specs.declared.modules.Module.{Module}
use Rattle.vl_ast.specs.declared.modules.Port.{Port}
use Rattle.vl_ast.specs.Nets.{Declared, Declares, Reads, condition_names, declarations, declared_by, item_mentions, names_read, port_declared}
use Rattle.vl_hier.specs.inner.Nets.{item_declared}

reads-none : (names : List (List ℕ)) → flat_map declared_by (map Reads names) ≡ []
reads-none [] = refl
reads-none (name ∷ names) = reads-none names

item-part : (i : ModItem) → flat_map declared_by (item_mentions i) ≡ item_declared i
item-part (Wire signed width name) = refl
item-part (Reg signed width name) = refl
item-part (Assign name value) = reads-none (names_read value)
item-part (Always name first condition value) = reads-none (condition_names condition ++ names_read value)

items-part : (items : List ModItem) → flat_map declared_by (flat_map item_mentions items) ≡ flat_map item_declared items
items-part [] = refl
items-part (i ∷ items) =
    flat_map-append declared_by (item_mentions i) (flat_map item_mentions items) ∙ (λ k. item-part i k ++ items-part items k)

ports-part : (ports : List Port) → flat_map declared_by (map (λ port. Declares (port_declared port)) ports) ≡ map port_declared ports
ports-part [] = refl
ports-part (port ∷ ports) = ap (λ ds. port_declared port ∷ ds) (ports-part ports)

declared-parts : (m : Module) → declarations m ≡ map port_declared m.ports ++ flat_map item_declared m.items
declared-parts m =
    flat_map-append declared_by (map (λ port. Declares (port_declared port)) m.ports) (flat_map item_mentions m.items)
    ∙ (λ k. ports-part m.ports k ++ items-part m.items k)

module _ (test : Declared → Bool) where
  any-port : (ports : List Port) → list_any test (map port_declared ports) ≡ list_any (λ (port : Port). test (port_declared port)) ports
  any-port [] = refl
  any-port (port ∷ ports) = ap (λ b. test (port_declared port) || b) (any-port ports)

  any-item : (items : List ModItem) → list_any test (flat_map item_declared items) ≡ list_any (λ (i : ModItem). list_any test (item_declared i)) items
  any-item [] = refl
  any-item (i ∷ items) =
      list_any-append test (item_declared i) (flat_map item_declared items) ∙ ap (λ b. list_any test (item_declared i) || b) (any-item items)

  pub any-declared : (m : Module) → list_any test (declarations m)
      ≡ (list_any (λ (port : Port). test (port_declared port)) m.ports || list_any (λ (i : ModItem). list_any test (item_declared i)) m.items)
  any-declared m =
      ap (list_any test) (declared-parts m) ∙ list_any-append test (map port_declared m.ports) (flat_map item_declared m.items)
      ∙ (λ k. any-port m.ports k || any-item m.items k)

  all-port : (ports : List Port) → list_all test (map port_declared ports) ≡ list_all (λ (port : Port). test (port_declared port)) ports
  all-port [] = refl
  all-port (port ∷ ports) = ap (λ b. test (port_declared port) && b) (all-port ports)

  all-item : (items : List ModItem) → list_all test (flat_map item_declared items) ≡ list_all (λ (i : ModItem). list_all test (item_declared i)) items
  all-item [] = refl
  all-item (i ∷ items) =
      list_all-append test (item_declared i) (flat_map item_declared items) ∙ ap (λ b. list_all test (item_declared i) && b) (all-item items)

  pub all-declared : (m : Module) → list_all test (declarations m)
      ≡ (list_all (λ (port : Port). test (port_declared port)) m.ports && list_all (λ (i : ModItem). list_all test (item_declared i)) m.items)
  all-declared m =
      ap (list_all test) (declared-parts m) ∙ list_all-append test (map port_declared m.ports) (flat_map item_declared m.items)
      ∙ (λ k. all-port m.ports k && all-item m.items k)
