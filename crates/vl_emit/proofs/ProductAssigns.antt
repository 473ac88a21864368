-- Each multiplication of the module of a netlist stands in the assignment of the name of its net.
use Rattle.std.proofs.Common.{◌≡◌, ℕ, ◌^◌, ◌<◌, List, [], ◌∷◌, ◌++◌, map, flat_map, length, get_or, Contains, refl, ap, sym, ◌∙◌, subst, arith, append-nil}
use Rattle.std.specs.List.{AllZip}
use Rattle.std.proofs.lemmas.Grind.{flat_map-append}
use Rattle.vl_ast.specs.declared.modules.ModItem.{ModItem}
use Rattle.vl_ast.specs.declared.modules.ModItem.TheVariants as item
use Rattle.vl_ast.specs.Context.{Net as DeclaredNet}
use Rattle.vl_ast.specs.Gated.{gated_item, shows_enable}
use Rattle.vl_ast.specs.Multiplications.{Multiplication, item_multiplications}
use Rattle.vl_ast.specs.Nets.{nets_of}
use Rattle.hw_net.specs.declared.netlist.NetKind.{NetKind}
use Rattle.hw_net.specs.declared.netlist.NetKind.TheVariants.{Comb, Reg, EnReg, Acc, Bridge, Unit, Counter}
use Rattle.hw_net.specs.declared.netlist.Net.{Net}
use Rattle.hw_net.specs.Circuit.{Circuit}
use Rattle.hw_net.specs.Netlist.{IsNetlist}
use Rattle.hw_net.specs.Emittable.{IsEmittable}
use Rattle.hw_net.specs.Products.{Product, net_at, places, unit_product, comb_product}
use Rattle.vl_emit.specs.Products.{ItemMultiplication, IsAssigned, ProductsAre, products_of_net, net_products, multiplications_of_item, multiplications_with_items}
use Rattle.vl_emit.specs.inner.NetItems.{output_item, naming_of, module_of, units_at, others_at, first_declared, first_units, first_gated}
use Rattle.vl_emit.specs.inner.Sound.{IsSound, IsSoundKind}
use Rattle.vl_emit.proofs.ModuleNets.{no-element, in-one, of-one, of-mapped}
use Rattle.vl_emit.proofs.Lists.{empty-list, flat_map-twice}
use Rattle.vl_emit.proofs.Multiplications.{by-kind, declared-bare, gated-products, gated-same, name-products, others-none, product-alone, product_value, products-zip, shown-bare, zip-append}
use Rattle.vl_emit.proofs.Multiplications.{zip-places}
use Rattle.vl_emit.proofs.EnablePorts.{gated-items}
use Rattle.vl_emit.proofs.Sounds.{netlist-sound}

module _ (netlist : Circuit) (runs : IsNetlist netlist) (emits : IsEmittable netlist) (few : length netlist.nets < 2 ^ 64) where
  abbrev count : ℕ
  count = length netlist.nets

  abbrev net : ℕ → Net
  net = net_at netlist.nets

  abbrev nets : List ℕ → DeclaredNet
  nets = nets_of (module_of netlist)

  abbrev pairs : ModItem → List ItemMultiplication
  pairs = multiplications_of_item (nets_of (module_of netlist))

  abbrev sound : IsSound netlist.cycles (length netlist.nets) (naming_of netlist) (net_at netlist.nets) runs.ranked.0
  sound = netlist-sound netlist runs emits.counters

  -- items that have no multiplications
  no-pairs : (is : List ModItem) → flat_map (item_multiplications (nets_of (module_of netlist))) is ≡ [] → flat_map (multiplications_of_item (nets_of (module_of netlist))) is ≡ []
  no-pairs is e =
      empty-list (flat_map pairs is)
      (λ x c. (let r = of-one pairs is x c in
      let q = of-mapped (λ (y : Multiplication). record { item = r.0; multiplication = y }) (item_multiplications nets r.0) x r.2 in
      no-element q.0 (subst (λ (l : List Multiplication). Contains l q.0) e (in-one (item_multiplications nets) is r.0 q.0 r.1 q.1))))

  -- the item of a product
  product-assigned : (k left right : ℕ) → k < length netlist.nets → left < length netlist.nets → right < length netlist.nets
      → AllZip (IsAssigned netlist) (products_of_net k (record { left = left; right = right; width = (net_at netlist.nets k).width } ∷ []))
      (multiplications_of_item (nets_of (module_of netlist)) (item.Assign ((naming_of netlist).net k) (product_value netlist runs emits few k left right)) ++ [])
  product-assigned k left right h p q =
      let i : ModItem = item.Assign ((naming_of netlist).net k) (product_value netlist runs emits few k left right) in
      subst (λ (l : List Multiplication). AllZip (IsAssigned netlist)
      (products_of_net k (record { left = left; right = right; width = (net k).width } ∷ []))
      (map (λ (y : Multiplication). record { item = i; multiplication = y }) l ++ []))
      (sym (product-alone netlist runs emits few k left right h p q))
      (record { is = refl }, tt)

  unit-assigned : (k : ℕ) → k < length netlist.nets → (kind : NetKind) → (net_at netlist.nets k).kind ≡ kind
      → AllZip (IsAssigned netlist) (products_of_net k (unit_product (net_at netlist.nets k).width kind)) (flat_map (multiplications_of_item (nets_of (module_of netlist))) (units_at netlist k kind))
  unit-assigned k h (Comb op args) is = tt
  unit-assigned k h (Reg frame slot first from) is = tt
  unit-assigned k h (EnReg frame enable resets first from) is = tt
  unit-assigned k h (Acc frame enable from) is = tt
  unit-assigned k h (Bridge frame live from) is = tt
  unit-assigned k h (Unit left right) is =
      let names = subst (IsSoundKind netlist.cycles count (naming_of netlist) net runs.ranked.0 k) is (sound.names k h) in
      product-assigned k left right h names.0.there names.1.there
  unit-assigned k h (Counter frame) is = tt

  abbrev OtherAssigned : ℕ → NetKind → Type 0
  OtherAssigned k kind =
      AllZip (IsAssigned netlist) (products_of_net k (comb_product (net_at netlist.nets k).width kind))
      (flat_map (multiplications_of_item (nets_of (module_of netlist))) (map gated_item (others_at netlist k kind)))

  other-assigned : (k : ℕ) → k < length netlist.nets → (kind : NetKind) → (net_at netlist.nets k).kind ≡ kind → OtherAssigned k kind
  other-assigned k h =
      by-kind (λ kind. (net_at netlist.nets k).kind ≡ kind → OtherAssigned k kind)
      (λ args is. (let names = subst (IsSoundKind netlist.cycles count (naming_of netlist) net runs.ranked.0 k) is (sound.names k h) in
      product-assigned k (get_or args 0 0) (get_or args 1 0) h (names.1 0 (omega arith)).there (names.1 1 (omega arith)).there))
      (λ left right is. tt)
      (λ kind none bare is. (let gone = no-pairs (map gated_item (others_at netlist k kind))
      (gated-same (item_multiplications nets) (gated-products nets) (others_at netlist k kind)
      ∙ others-none netlist runs emits few k h kind is none) in
      subst (λ (l : List Product). AllZip (IsAssigned netlist) (products_of_net k l) (flat_map pairs (map gated_item (others_at netlist k kind)))) (sym (bare (net k).width))
      (subst (AllZip (IsAssigned netlist) []) (sym gone) tt)))

  abbrev declaring : List ModItem
  declaring = first_declared netlist (length netlist.nets)

  abbrev units : List ModItem
  units = first_units netlist (length netlist.nets)

  abbrev others : List ModItem
  others = first_gated netlist (length netlist.nets)

  abbrev showing : List ModItem
  showing = map (output_item (naming_of netlist)) netlist.outputs

  all-assigned : AllZip (IsAssigned netlist) (net_products netlist) (multiplications_with_items (module_of netlist))
  all-assigned =
      let first : flat_map pairs declaring ≡ [] = no-pairs declaring (declared-bare netlist runs emits few) in
      let enable : item_multiplications nets shows_enable ≡ [] = name-products nets _ _ in
      let last : flat_map pairs (showing ++ shows_enable ∷ []) ≡ [] =
      no-pairs (showing ++ shows_enable ∷ [])
      (flat_map-append (item_multiplications nets) showing (shows_enable ∷ []) ∙ (λ i. shown-bare netlist runs emits few i ++ (enable i ++ []))) in
      let all : multiplications_with_items (module_of netlist) ≡ flat_map pairs units ++ (flat_map pairs others ++ []) =
      ap (flat_map pairs) (gated-items netlist)
      ∙ flat_map-append pairs declaring (units ++ (others ++ (showing ++ shows_enable ∷ [])))
      ∙ (λ i. first i ++ flat_map-append pairs units (others ++ (showing ++ shows_enable ∷ [])) i)
      ∙ (λ i. flat_map pairs units ++ flat_map-append pairs others (showing ++ shows_enable ∷ []) i)
      ∙ (λ i. flat_map pairs units ++ (flat_map pairs others ++ last i)) in
      let u = flat_map-twice pairs (λ k. units_at netlist k (net k).kind) (places count) in
      let o = flat_map-twice pairs (λ k. map gated_item (others_at netlist k (net k).kind)) (places count) in
      subst (AllZip (IsAssigned netlist) (net_products netlist))
      (sym (all ∙ (λ i. u i ++ append-nil (o i) i)))
      (zip-append (IsAssigned netlist) _ _ _ _
      (zip-places (IsAssigned netlist) (λ k. products_of_net k (unit_product (net k).width (net k).kind))
      (λ k. flat_map pairs (units_at netlist k (net k).kind)) count
      (λ k h. unit-assigned k h (net k).kind refl))
      (zip-places (IsAssigned netlist) (λ k. products_of_net k (comb_product (net k).width (net k).kind))
      (λ k. flat_map pairs (map gated_item (others_at netlist k (net k).kind))) count
      (λ k h. other-assigned k h (net k).kind refl)))

  pub products-are : ProductsAre netlist (module_of netlist)
  products-are = record { each = products-zip netlist runs emits few; assigned = all-assigned }
