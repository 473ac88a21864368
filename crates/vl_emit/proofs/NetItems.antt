-- The module of a netlist has each net: its name is declared with its word, and its drivers are items.
use Rattle.std.proofs.Common.{◌≡◌, ◌⊎◌, inl, inr, ℕ, ◌<◌, true, false, List, [], ◌∷◌, ◌++◌, Contains, None, ap, sym, ◌∙◌, subst, refl}
use Rattle.std.proofs.lemmas.List.Elements.{Contains-append_left, Contains-append_right, Contains-append_cases}
use Rattle.vl_ast.specs.declared.modules.ModItem.{ModItem}
use Rattle.vl_ast.specs.declared.modules.ModItem.TheVariants as item
use Rattle.vl_ast.specs.declared.modules.Module.{Module}
use Rattle.vl_ast.specs.Context.{Net as DeclaredNet}
use Rattle.vl_ast.specs.Nets.{Declared, Register, declarations}
use Rattle.hw_net.specs.declared.netlist.Net.{Net}
use Rattle.hw_net.specs.declared.netlist.NetPort.{NetPort}
use Rattle.hw_net.specs.declared.netlist.NetKind.{NetKind}
use Rattle.hw_net.specs.declared.netlist.NetKind.TheVariants.{Comb, Reg, EnReg, Acc, Bridge, Unit, Counter}
use Rattle.hw_net.specs.Products.{places}
use Rattle.vl_emit.specs.inner.NetItems.{Naming, drivers, declarers, unit_drivers, other_drivers, output_item, module_items, plain_number}
use Rattle.vl_ast.specs.declared.expressions.Expr.TheVariants as expression
use Rattle.vl_emit.specs.inner.Sound.{HasNets, AreNames}
use Rattle.vl_emit.proofs.Sections.{Items, items_in}
use Rattle.vl_emit.proofs.ModuleNets.{DeclaredBy, here, later, first-or-later, no-element, place-below, below-place, in-one, of-one, mapped, of-mapped, net-of-name, declared-where, declared-item}

module _ (cycles count : ℕ) (naming : Naming) (net : ℕ → Net) (outputs : List NetPort) where
  abbrev pub word : ℕ → DeclaredNet
  word k = record { width = (net k).width; signed = (net k).signed }

  abbrev pub hold_driver : ℕ → ModItem
  hold_driver k = item.Always (naming.hold k) (plain_number (net k).width 0) None (expression.Name (naming.net k))

  abbrev pub hold_declarer : ℕ → ModItem
  hold_declarer k = item.Reg (net k).signed (net k).width (naming.hold k)

  -- an item that declares nothing
  abbrev pub Silent : ModItem → Type 0
  Silent i = (d : Declared) → DeclaredBy i d → ⊥

  one-silent : (i j : ModItem) → Silent i → Contains (i ∷ []) j → Silent j
  one-silent i j quiet c = elim (first-or-later i j [] c) [
    | inl same ↦ subst Silent same quiet
    | inr after ↦ absurd (no-element j after)
  ]

  pub drivers-silent : (k : ℕ) (kind : NetKind) (i : ModItem) → Contains (drivers cycles naming net k kind) i → Silent i
  drivers-silent k (Comb op args) i c = one-silent _ i (λ d e. e) c
  drivers-silent k (Unit left right) i c = one-silent _ i (λ d e. e) c
  drivers-silent k (Counter frame) i c = one-silent _ i (λ d e. e) c
  drivers-silent k (Reg frame slot first from) i c = one-silent _ i (λ d e. e) c
  drivers-silent k (EnReg frame enable true first from) i c = one-silent _ i (λ d e. e) c
  drivers-silent k (EnReg frame enable false first from) i c = one-silent _ i (λ d e. e) c
  drivers-silent k (Acc frame enable from) i c = one-silent _ i (λ d e. e) c
  drivers-silent k (Bridge frame live from) i c = elim (first-or-later _ i (hold_driver k ∷ []) c) [
    | inl same ↦ subst Silent same (λ d e. e)
    | inr after ↦ one-silent (hold_driver k) i (λ d e. e) after
  ]

  pub units-drive : (k : ℕ) (kind : NetKind) (i : ModItem) → Contains (unit_drivers cycles naming net k kind) i → Contains (drivers cycles naming net k kind) i
  units-drive k (Comb op args) i c = absurd (no-element i c)
  units-drive k (Unit left right) i c = c
  units-drive k (Counter frame) i c = absurd (no-element i c)
  units-drive k (Reg frame slot first from) i c = absurd (no-element i c)
  units-drive k (EnReg frame enable reset first from) i c = absurd (no-element i c)
  units-drive k (Acc frame enable from) i c = absurd (no-element i c)
  units-drive k (Bridge frame live from) i c = absurd (no-element i c)

  pub others-drive : (k : ℕ) (kind : NetKind) (i : ModItem) → Contains (other_drivers cycles naming net k kind) i → Contains (drivers cycles naming net k kind) i
  others-drive k (Comb op args) i c = c
  others-drive k (Unit left right) i c = absurd (no-element i c)
  others-drive k (Counter frame) i c = c
  others-drive k (Reg frame slot first from) i c = c
  others-drive k (EnReg frame enable reset first from) i c = c
  others-drive k (Acc frame enable from) i c = c
  others-drive k (Bridge frame live from) i c = c

  pub unit-or-other : (k : ℕ) (kind : NetKind) (i : ModItem) → Contains (drivers cycles naming net k kind) i
      → Contains (unit_drivers cycles naming net k kind) i ⊎ Contains (other_drivers cycles naming net k kind) i
  unit-or-other k (Comb op args) i c = inr c
  unit-or-other k (Unit left right) i c = inl c
  unit-or-other k (Counter frame) i c = inr c
  unit-or-other k (Reg frame slot first from) i c = inr c
  unit-or-other k (EnReg frame enable reset first from) i c = inr c
  unit-or-other k (Acc frame enable from) i c = inr c
  unit-or-other k (Bridge frame live from) i c = inr c

  abbrev items : Items
  items = items_in cycles count naming net outputs

  open items use {declaring, units, others, showing}

  -- each driver is an item
  pub has-drivers : (k : ℕ) → k < count → (i : ModItem) → Contains (drivers cycles naming net k (net k).kind) i → Contains (module_items cycles count naming net outputs) i
  has-drivers k h i c =
      Contains-append_right declaring (units ++ (others ++ showing)) i
      (elim (unit-or-other k (net k).kind i c) [
        | inl unit ↦ Contains-append_left units (others ++ showing) i
            (in-one (λ j. unit_drivers cycles naming net j (net j).kind) (places count) k i (place-below count k h) unit)
        | inr other ↦ Contains-append_right units (others ++ showing) i (Contains-append_left others showing i
            (in-one (λ j. other_drivers cycles naming net j (net j).kind) (places count) k i (place-below count k h) other))
      ])

  -- and so is what drives each output port
  pub has-outputs : (output : NetPort) → Contains outputs output → Contains (module_items cycles count naming net outputs) (output_item naming output)
  has-outputs output c =
      Contains-append_right declaring (units ++ (others ++ showing)) (output_item naming output)
      (Contains-append_right units (others ++ showing) (output_item naming output)
      (Contains-append_right others showing (output_item naming output) (mapped (output_item naming) outputs output c)))

  -- what an item of the declarers of a net declares
  abbrev IsOf : ℕ → Declared → Type 0
  IsOf k d = ((d.name ≡ naming.net k) ⊎ (d.name ≡ naming.hold k)) × (d.net ≡ word k)

  wire-of : (k : ℕ) (name : List ℕ) (d : Declared) → (naming.net k ≡ name) ⊎ (naming.hold k ≡ name) → DeclaredBy (item.Wire (net k).signed (net k).width name) d → IsOf k d
  wire-of k name d (inl n) e = (inl (sym (n ∙ ap (λ (x : Declared). x.name) e)), sym (ap (λ (x : Declared). x.net) e))
  wire-of k name d (inr n) e = (inr (sym (n ∙ ap (λ (x : Declared). x.name) e)), sym (ap (λ (x : Declared). x.net) e))

  reg-of : (k : ℕ) (name : List ℕ) (d : Declared) → (naming.net k ≡ name) ⊎ (naming.hold k ≡ name) → DeclaredBy (item.Reg (net k).signed (net k).width name) d → IsOf k d
  reg-of k name d (inl n) e = (inl (sym (n ∙ ap (λ (x : Declared). x.name) e)), sym (ap (λ (x : Declared). x.net) e))
  reg-of k name d (inr n) e = (inr (sym (n ∙ ap (λ (x : Declared). x.name) e)), sym (ap (λ (x : Declared). x.net) e))

  abbrev Says : ℕ → ModItem → Type 0
  Says k i = (d : Declared) → DeclaredBy i d → IsOf k d

  one-says : (k : ℕ) (i j : ModItem) → Says k i → Contains (i ∷ []) j → Says k j
  one-says k i j says c = elim (first-or-later i j [] c) [
    | inl same ↦ subst (Says k) same says
    | inr after ↦ absurd (no-element j after)
  ]

  declarers-say : (k : ℕ) (kind : NetKind) (i : ModItem) → Contains (declarers naming net k kind) i → Says k i
  declarers-say k (Comb op args) i c = one-says k _ i (λ d e. wire-of k (naming.net k) d (inl refl) e) c
  declarers-say k (Unit left right) i c = one-says k _ i (λ d e. wire-of k (naming.net k) d (inl refl) e) c
  declarers-say k (Counter frame) i c = one-says k _ i (λ d e. reg-of k (naming.net k) d (inl refl) e) c
  declarers-say k (Reg frame slot first from) i c = one-says k _ i (λ d e. reg-of k (naming.net k) d (inl refl) e) c
  declarers-say k (EnReg frame enable reset first from) i c = one-says k _ i (λ d e. reg-of k (naming.net k) d (inl refl) e) c
  declarers-say k (Acc frame enable from) i c = one-says k _ i (λ d e. reg-of k (naming.net k) d (inl refl) e) c
  declarers-say k (Bridge frame live from) i c = elim (first-or-later _ i (hold_declarer k ∷ []) c) [
    | inl same ↦ subst (Says k) same (λ d e. wire-of k (naming.net k) d (inl refl) e)
    | inr after ↦ one-says k (hold_declarer k) i (λ d e. reg-of k (naming.hold k) d (inr refl) e) after
  ]

  -- each declaration among the items is that of a net
  pub of-a-net : (i : ModItem) (d : Declared) → Contains (module_items cycles count naming net outputs) i → DeclaredBy i d → (k : ℕ) × (k < count) × IsOf k d
  of-a-net i d c e = elim (Contains-append_cases declaring (units ++ (others ++ showing)) i c) [
    | inl a ↦ (let r = of-one (λ k. declarers naming net k (net k).kind) (places count) i a in
        (r.0, below-place count r.0 r.1, declarers-say r.0 (net r.0).kind i r.2 d e))
    | inr a ↦ elim (Contains-append_cases units (others ++ showing) i a) [
      | inl b ↦ (let r = of-one (λ k. unit_drivers cycles naming net k (net k).kind) (places count) i b in
          absurd (drivers-silent r.0 (net r.0).kind i (units-drive r.0 (net r.0).kind i r.2) d e))
      | inr b ↦ elim (Contains-append_cases others showing i b) [
        | inl f ↦ (let r = of-one (λ k. other_drivers cycles naming net k (net k).kind) (places count) i f in
            absurd (drivers-silent r.0 (net r.0).kind i (others-drive r.0 (net r.0).kind i r.2) d e))
        | inr f ↦ (let r = of-mapped (output_item naming) outputs i f in
            absurd (subst Silent r.2 (λ x y. y) d e))
      ]
    ]
  ]

  abbrev pub DeclaresName : ℕ → List ℕ → NetKind → Type 0
  DeclaresName k name kind = (i : ModItem) × (d : Declared) × Contains (declarers naming net k kind) i × DeclaredBy i d × (d.name ≡ name)

  pub declares-net : (k : ℕ) (kind : NetKind) → DeclaresName k (naming.net k) kind
  declares-net k (Comb op args) = (_, _, here _ [], refl, refl)
  declares-net k (Unit left right) = (_, _, here _ [], refl, refl)
  declares-net k (Counter frame) = (_, _, here _ [], refl, refl)
  declares-net k (Reg frame slot first from) = (_, _, here _ [], refl, refl)
  declares-net k (EnReg frame enable reset first from) = (_, _, here _ [], refl, refl)
  declares-net k (Acc frame enable from) = (_, _, here _ [], refl, refl)
  declares-net k (Bridge frame live from) = (_, _, here _ (hold_declarer k ∷ []), refl, refl)

  module _ (m : Module) (are : m.items ≡ module_items cycles count naming net outputs) (names : AreNames count naming m.ports) where
    from-items : (i : ModItem) → Contains (module_items cycles count naming net outputs) i → Contains m.items i
    from-items i c = subst (λ (l : List ModItem). Contains l i) (sym are) c

    declaration-found : (k : ℕ) → k < count → (name : List ℕ) (kind : NetKind) → (net k).kind ≡ kind → DeclaresName k name kind → (d : Declared) × Contains (declarations m) d × (d.name ≡ name)
    declaration-found k h name kind is found =
        let c = subst (λ (t : NetKind). Contains (declarers naming net k t) found.0) (sym is) found.2 in (
          found.1,
          declared-item m found.0 found.1
              (from-items found.0 (Contains-append_left declaring (units ++ (others ++ showing)) found.0
              (in-one (λ j. declarers naming net j (net j).kind) (places count) k found.0 (place-below count k h) c))) found.3,
          found.4,
        )

    only-net : (k : ℕ) → k < count → (other : Declared) → Contains (declarations m) other → other.name ≡ naming.net k → other.net ≡ word k
    only-net k h other c e = elim (declared-where m other c) [
      | inl p ↦ absurd (names.no_net p.0 p.1 k h (ap (λ (d : Declared). d.name) p.2 ∙ e))
      | inr p ↦ (let r = of-a-net p.0 other (subst (λ (l : List ModItem). Contains l p.0) are p.1) p.2 in
          elim r.2.0 [
            | inl n ↦ (let same : r.0 ≡ k = names.nets r.0 k r.1 h (sym n ∙ e) in r.2.1 ∙ ap word same)
            | inr n ↦ absurd (names.apart k r.0 h r.1 (sym e ∙ n))
          ])
    ]

    only-hold : (k : ℕ) → k < count → (other : Declared) → Contains (declarations m) other → other.name ≡ naming.hold k → other.net ≡ word k
    only-hold k h other c e = elim (declared-where m other c) [
      | inl p ↦ absurd (names.no_hold p.0 p.1 k h (ap (λ (d : Declared). d.name) p.2 ∙ e))
      | inr p ↦ (let r = of-a-net p.0 other (subst (λ (l : List ModItem). Contains l p.0) are p.1) p.2 in
          elim r.2.0 [
            | inl n ↦ absurd (names.apart r.0 k r.1 h (sym n ∙ e))
            | inr n ↦ (let same : r.0 ≡ k = names.holds r.0 k r.1 h (sym n ∙ e) in r.2.1 ∙ ap word same)
          ])
    ]

    pub has-nets : HasNets cycles count naming net m
    has-nets = record {
      declared = λ k h. (let f = declaration-found k h (naming.net k) (net k).kind refl (declares-net k (net k).kind) in
          net-of-name m (naming.net k) (word k) f.0 f.1 f.2 (only-net k h));
      held = λ k h frame live from is. (let f = declaration-found k h (naming.hold k) (Bridge frame live from) is
          (item.Reg (net k).signed (net k).width (naming.hold k), record { name = naming.hold k; kind = Register; net = word k }, later _ _ (hold_declarer k ∷ []) (here _ []), refl, refl) in
          net-of-name m (naming.hold k) (word k) f.0 f.1 f.2 (only-hold k h));
      items = λ k h i c. from-items i (has-drivers k h i c);
    }
