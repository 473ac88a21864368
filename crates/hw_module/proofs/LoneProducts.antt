-- The item of a multiplication that isn't shared holds no other.
use Rattle.std.proofs.Common.{◌≡◌, ◌≢◌, ◌⊎◌, inl, inr, ℕ, zero, suc, ◌+◌, ◌<◌, ◌≤◌, true, false, cond, List, [], ◌∷◌, ◌++◌, map, flat_map, length, Contains, Some, slice_get, bytes_eq, refl, ap, sym, ◌∙◌, subst, arith, length-append}
use Rattle.std.specs.Prelude.{Bool, max, sum_by}
use Rattle.std.specs.List.{AllZip}
use Rattle.std.proofs.lemmas.Bool.{cases_order, false_from_ne_true}
use Rattle.std.proofs.lemmas.List.Sums.{count_by-le-length, sum_by-append, sum_by-cons}
use Rattle.std.proofs.lemmas.Option.{get_or_from_slice_get, slice_get-get_or}
use Rattle.std.proofs.lemmas.Slice.Eq.{bytes_eq-Decides}
use Rattle.dg_model.specs.declared.diagram.Diagram.{Diagram}
use Rattle.dg_model.specs.declared.resolved.Resolved.{Resolved}
use Rattle.vl_ast.specs.declared.expressions.BinOp.TheVariants as binary
use Rattle.vl_ast.specs.declared.expressions.Expr.{Expr}
use Rattle.vl_ast.specs.declared.expressions.Expr.TheFolds.{map-Expr, para-Expr, para-roll-Expr}
use Rattle.vl_ast.specs.declared.expressions.Expr.TheOpen.{Expr-F}
use Rattle.vl_ast.specs.declared.expressions.Expr.TheVariants.{Binary, rolls-Binary}
use Rattle.vl_ast.specs.declared.expressions.Expr.TheViews.{roll-Expr}
use Rattle.vl_ast.specs.declared.modules.ModItem.{ModItem}
use Rattle.vl_ast.specs.declared.modules.ModItem.TheVariants.{Assign, Wire}
use Rattle.vl_ast.specs.declared.modules.Module.{Module}
use Rattle.vl_ast.specs.Conditions.{item_name}
use Rattle.vl_ast.specs.Context.{Net as DeclaredNet, Operand, is_signed, own_length}
use Rattle.vl_ast.specs.Drivers.{IsDrivenOnce, OneDriver, declares}
use Rattle.vl_ast.specs.Items.{IsWire}
use Rattle.vl_ast.specs.Multiplications.{Multiplication, item_multiplications, multiplications_in, multiplications_step}
use Rattle.vl_ast.specs.Nets.{Declared, PlainWire, nets_of}
use Rattle.hw_net.specs.declared.netlist.Net.{Net}
use Rattle.hw_net.specs.declared.netlist.NetKind.{NetKind}
use Rattle.hw_net.specs.declared.netlist.NetKind.TheVariants.{Comb}
use Rattle.hw_net.specs.declared.netlist.NetOp.TheVariants.{Multiply}
use Rattle.hw_net.specs.Circuit.{Circuit}
use Rattle.hw_net.specs.Products.{Product, comb_product, net_at, places, unit_product}
use Rattle.hw_build.specs.Multiplied.{AreMultiplied, multiplication_name}
use Rattle.vl_emit.specs.Items.{IsMultiplied}
use Rattle.vl_emit.specs.Names.{name_of}
use Rattle.vl_emit.specs.Products.{IsAssigned, ItemMultiplication, NetProduct, multiplications_of_item, multiplications_with_items, net_products, products_of_net}
use Rattle.vl_emit.proofs.ModuleNets.{declared-item, first-or-later, no-element, one-more}
use Rattle.hw_module.specs.Serves.{MultipliesAlone, NamesMultiplications}
use Rattle.hw_module.specs.inner.Emission.{IsEmissionOf}
use Rattle.hw_module.proofs.Lists.{get-below}

-- ---- sums over parts

module _ {X Y : Type 0} (weight : Y → ℕ) (parts : X → List Y) where
  -- what one gives is at most what all give
  one-within : (xs : List X) (x : X) → Contains xs x → sum_by weight (parts x) ≤ sum_by weight (flat_map parts xs)
  one-within [] x c = absurd (no-element x c)
  one-within (y ∷ ys) x c =
      let all = sum_by-append weight (parts y) (flat_map parts ys) in
      elim (first-or-later y x ys c) [
        | inl same ↦ omega (arith, all, ap (λ (z : X). sum_by weight (parts z)) same)
        | inr after ↦ omega (arith, all, one-within ys x after)
      ]

module _ {Y : Type 0} (weight : Y → ℕ) (parts : ℕ → List Y) (own : ℕ) where
  abbrev pub OthersNone : ℕ → Type 0
  OthersNone n = (k : ℕ) → k < n → k ≢ own → sum_by weight (parts k) ≡ 0

  joined : (n : ℕ) → sum_by weight (flat_map parts (places (suc n))) ≡ sum_by weight (flat_map parts (places n)) + sum_by weight (parts n)
  joined n = ap (sum_by weight) (one-more parts n (suc n) (omega arith)) ∙ sum_by-append weight (flat_map parts (places n)) (parts n)

  fewer : (n : ℕ) → OthersNone (suc n) → OthersNone n
  fewer n others k below other = others k (omega (arith, below)) other

  none-below : (n : ℕ) → OthersNone n → n ≤ own → sum_by weight (flat_map parts (places n)) ≡ 0
  none-below zero others below = refl
  none-below (suc n) others below =
      let other : n ≢ own = omega arith in
      omega (arith, joined n, none-below n (fewer n others) (omega (arith, below)), others n (omega arith) other)

  -- where the others give nothing, all give at most what one gives
  one-alone : (n : ℕ) → OthersNone n → sum_by weight (flat_map parts (places n)) ≤ sum_by weight (parts own)
  one-alone zero others = omega arith
  one-alone (suc n) others = elim (cases_order n own) [
    | inl same ↦ (let none = none-below n (fewer n others) (omega (arith, same)) in omega (arith, joined n, none, ap (λ (k : ℕ). sum_by weight (parts k)) same))
    | inr less ↦ (let other : n ≢ own = of less in omega (arith, joined n, one-alone n (fewer n others), others n (omega arith) other))
  ]
    where
      of : (n < own) ⊎ (own < n) → n ≢ own
      of (inl less) e = omega (arith, less, e)
      of (inr more) e = omega (arith, more, e)

-- ---- a product

module _ (nets : List ℕ → DeclaredNet) where
  abbrev operand : Expr → Operand (List Multiplication)
  operand e = (e, para-Expr (ℕ → Bool → List Multiplication) (multiplications_step nets) e)

  rolled : (layer : Expr-F Expr) (width : ℕ) (signed : Bool)
      → multiplications_in nets width signed (roll-Expr layer) ≡ multiplications_step nets (map-Expr Expr (Operand (List Multiplication)) operand layer) width signed
  rolled layer width signed = ap (λ (f : ℕ → Bool → List Multiplication). f width signed) (para-roll-Expr (ℕ → Bool → List Multiplication) (multiplications_step nets) layer)

  -- it multiplies at least once
  multiplied : (width : ℕ) (signed : Bool) (l r : Expr) → 1 ≤ length (multiplications_in nets width signed (Binary binary.Multiply l r))
  multiplied width signed l r =
      let here : Multiplication = record { left = l; right = r; width = width; signed = signed } in
      let before : List Multiplication = multiplications_in nets width signed l in
      let after : List Multiplication = multiplications_in nets width signed r in
      let all : multiplications_in nets width signed (Binary binary.Multiply l r) ≡ before ++ (here ∷ [] ++ after) =
      ap (multiplications_in nets width signed) (sym (rolls-Binary binary.Multiply l r)) ∙ rolled (Expr-F.Binary binary.Multiply l r) width signed in
      omega (arith, ap length all, length-append before (here ∷ [] ++ after), length-append (here ∷ []) after)

  assigned : (name : List ℕ) (l r : Expr) → 1 ≤ length (item_multiplications nets (Assign name (Binary binary.Multiply l r)))
  assigned name l r =
      let value : Expr = Binary binary.Multiply l r in
      multiplied (max (nets name).width (own_length nets value)) (is_signed nets value) l r

-- ---- the items of a name

module _ {netlist : Circuit} {m : Module} (made : IsEmissionOf netlist m) (one : OneDriver) where
  -- an item is found at one place
  same-driver : (name : List ℕ) → IsDrivenOnce m name → (i j : ModItem) → Contains m.items i → declares i ≡ false → item_name i ≡ name
      → Contains m.items j → declares j ≡ false → item_name j ≡ name → i ≡ j
  same-driver name driven i j (a, below_a, is_a) drives_i named_i (b, below_b, is_b) drives_j named_j =
      let at_a : slice_get m.items a ≡ Some i = slice_get-get_or m.items a i below_a ∙ ap Some is_a in
      let at_b : slice_get m.items b ≡ Some j = slice_get-get_or m.items b j below_b ∙ ap Some is_b in
      let first : a ≡ driven.place = driven.only a i (record { there = at_a; drives = drives_i; named = named_i }) in
      let second : b ≡ driven.place = driven.only b j (record { there = at_b; drives = drives_j; named = named_j }) in
      let e : Some i ≡ Some j = sym at_a ∙ ap (slice_get m.items) (first ∙ sym second) ∙ at_b in
      cc e

  module _ (own : ℕ) (there : own < length netlist.nets) (args : List ℕ) (kind : (net_at netlist.nets own).kind ≡ Comb Multiply args) where
    abbrev name : List ℕ
    name = name_of netlist own

    abbrev by_net : NetProduct → Bool
    by_net p = bytes_eq (name_of netlist p.net) name

    abbrev by_item : ItemMultiplication → Bool
    by_item it = bytes_eq (item_name it.item) name

    abbrev of_net : NetProduct → ℕ
    of_net p = cond (by_net p) 1 0

    abbrev of_item : ItemMultiplication → ℕ
    of_item it = cond (by_item it) 1 0

    counted-alike : (ps : List NetProduct) (its : List ItemMultiplication) → AllZip (IsAssigned netlist) ps its → sum_by of_net ps ≡ sum_by of_item its
    counted-alike [] [] each = refl
    counted-alike [] (it ∷ its) each = absurd each
    counted-alike (p ∷ ps) [] each = absurd each
    counted-alike (p ∷ ps) (it ∷ its) each =
        let named : item_name it.item ≡ name_of netlist p.net = ap item_name each.0.is in
        let here : of_net p ≡ of_item it = ap (λ (n : List ℕ). cond (bytes_eq n name) 1 0) (sym named) in
        omega (arith, sum_by-cons of_net p ps, sum_by-cons of_item it its, here, counted-alike ps its each.1)

    -- products of another net
    none-of : (k : ℕ) (products : List Product) → bytes_eq (name_of netlist k) name ≡ false → sum_by of_net (products_of_net k products) ≡ 0
    none-of k [] other = refl
    none-of k (product ∷ products) other =
        let p : NetProduct = record { net = k; product = product } in
        let here : of_net p ≡ 0 = ap (λ (b : Bool). cond b 1 0) other in
        omega (arith, sum_by-cons of_net p (products_of_net k products), here, none-of k products other)

    another : (k : ℕ) → k < length netlist.nets → k ≢ own → bytes_eq (name_of netlist k) name ≡ false
    another k below other =
        false_from_ne_true (bytes_eq (name_of netlist k) name)
        (λ e. other (made.names.nets k own below there ((bytes_eq-Decides (name_of netlist k) name).0 e)))

    abbrev unit_parts : ℕ → List NetProduct
    unit_parts k = products_of_net k (unit_product (net_at netlist.nets k).width (net_at netlist.nets k).kind)

    abbrev comb_parts : ℕ → List NetProduct
    comb_parts k = products_of_net k (comb_product (net_at netlist.nets k).width (net_at netlist.nets k).kind)

    products-one : sum_by of_net (net_products netlist) ≤ 1
    products-one =
        let n : ℕ = length netlist.nets in
        let width : ℕ = (net_at netlist.nets own).width in
        let no_unit : sum_by of_net (unit_parts own) ≡ 0 = ap (λ (k : NetKind). sum_by of_net (products_of_net own (unit_product width k))) kind in
        let size : length (comb_parts own) ≡ 1 = ap (λ (k : NetKind). length (products_of_net own (comb_product width k))) kind in
        let units = one-alone of_net unit_parts own n (λ k below other. none-of k (unit_product (net_at netlist.nets k).width (net_at netlist.nets k).kind) (another k below other)) in
        let combs = one-alone of_net comb_parts own n (λ k below other. none-of k (comb_product (net_at netlist.nets k).width (net_at netlist.nets k).kind) (another k below other)) in
        let few : sum_by of_net (comb_parts own) ≤ length (comb_parts own) = count_by-le-length by_net (comb_parts own) in
        omega (arith, sum_by-append of_net (flat_map unit_parts (places n)) (flat_map comb_parts (places n)), units, combs, no_unit, few, size)

    -- those of an item of the name
    all-of : (i : ModItem) (ms : List Multiplication) → bytes_eq (item_name i) name ≡ true
        → sum_by of_item (map (λ multiplication. record { item = i; multiplication = multiplication }) ms) ≡ length ms
    all-of i [] is = refl
    all-of i (multiplication ∷ ms) is =
        let it : ItemMultiplication = record { item = i; multiplication = multiplication } in
        let rest : List ItemMultiplication = map (λ multiplication. record { item = i; multiplication = multiplication }) ms in
        let here : of_item it ≡ 1 = ap (λ (b : Bool). cond b 1 0) is in
        omega (arith, sum_by-cons of_item it rest, here, all-of i ms is)

    at-most : (i : ModItem) → Contains m.items i → item_name i ≡ name → length (item_multiplications (nets_of m) i) ≤ 1
    at-most i c named =
        let is : bytes_eq (item_name i) name ≡ true = (bytes_eq-Decides (item_name i) name).1 named in
        let own_sum = all-of i (item_multiplications (nets_of m) i) is in
        let within = one-within of_item (multiplications_of_item (nets_of m)) m.items i c in
        let alike = counted-alike (net_products netlist) (multiplications_with_items m) made.products.assigned in
        omega (arith, own_sum, within, alike, products-one)

    -- the name is driven once
    driven : IsWire m name → IsDrivenOnce m name
    driven wire =
        let d : Declared = record { name = name; kind = PlainWire; net = record { width = wire.width; signed = wire.signed } } in
        one m d made.conditions.acyclic (declared-item m (Wire wire.signed wire.width name) d wire.there refl) refl

    -- its item multiplies once
    alone : IsWire m name → IsMultiplied m name → (i : ModItem) → Contains m.items i → declares i ≡ false → item_name i ≡ name → length (item_multiplications (nets_of m) i) ≡ 1
    alone wire product i c drives named =
        let value : ModItem = Assign name (Binary binary.Multiply product.left product.right) in
        let same : i ≡ value = same-driver name (driven wire) i value c drives named product.there refl refl in
        let least : 1 ≤ length (item_multiplications (nets_of m) value) = assigned (nets_of m) name product.left product.right in
        omega (arith, at-most i c named, least, ap (λ (x : ModItem). length (item_multiplications (nets_of m) x)) same)

-- each multiplication that isn't shared stands by itself
pub multiplies-alone : {diagram : Diagram} {plan : Resolved} {netlist : Circuit} {m : Module} → OneDriver → AreMultiplied diagram plan netlist → IsEmissionOf netlist m → NamesMultiplications m diagram plan → MultipliesAlone m diagram plan
multiplies-alone {diagram} {plan} {netlist} {m} one are made named block element there multiplies apart below i c drives is =
    let x = are.each block element there multiplies apart below in
    let kind : (net_at netlist.nets x.number).kind ≡ Comb Multiply x.args = ap (λ (net : Net). net.kind) (get_or_from_slice_get netlist.nets x.number x.net _ x.is) ∙ x.multiplies in
    let called : name_of netlist x.number ≡ multiplication_name block element = made.labels.are (record { net = x.number; name = multiplication_name block element }) x.named in
    let has = named block element there multiplies apart below in
    alone made one x.number (get-below netlist.nets x.number x.net x.is) x.args kind
    (subst (IsWire m) (sym called) has.0) (subst (IsMultiplied m) (sym called) has.1) i c drives (is ∙ sym called)
