-- The module of a netlist breaks no condition on drivers: each name that is read or driven is declared
-- before, and each that needs a driver has one.
use Rattle.std.proofs.Common.{option_map, ◌≡◌, ◌⊎◌, inl, inr, ℕ, ◌<◌, Bool, true, false, not, List, [], ◌∷◌, ◌++◌, map, flat_map, Contains, None, refl, ap, sym, ◌∙◌, subst}
use Rattle.std.proofs.lemmas.List.Elements.{Contains-append_left, Contains-append_right, Contains-append_cases}
use Rattle.vl_ast.specs.declared.modules.Port.{Port}
use Rattle.vl_ast.specs.declared.modules.ModItem.{ModItem}
use Rattle.vl_ast.specs.declared.modules.ModItem.TheVariants as item
use Rattle.vl_ast.specs.declared.modules.Module.{Module}
use Rattle.vl_ast.specs.Nets.{Declared, Declares, Register, port_declared, item_mentions}
use Rattle.vl_ast.specs.Conditions.{undriven, soundness, too_wide, is_sound_item, item_name, is_width}
use Rattle.vl_emit.specs.inner.Clean.{IsCleanItem}
use Rattle.vl_emit.specs.Reads.{item_reads}
use Rattle.vl_emit.proofs.ModuleNets.{DeclaredBy, no-element, first-or-later, here, later, in-one, of-one, mapped, of-mapped}
use Rattle.vl_ast.specs.declared.expressions.Expr.TheVariants as expression
use Rattle.vl_ast.specs.Context.{Net as DeclaredNet}
use Rattle.vl_ast.specs.Nets.{nets_of}
use Rattle.hw_net.specs.declared.netlist.Frame.{Frame}
use Rattle.hw_net.specs.declared.netlist.Net.{Net}
use Rattle.hw_net.specs.declared.netlist.NetPort.{NetPort}
use Rattle.hw_net.specs.declared.netlist.NetKind.{NetKind}
use Rattle.hw_net.specs.declared.netlist.NetKind.TheVariants.{Comb, Reg, EnReg, Acc, Bridge, Unit, Counter}
use Rattle.hw_net.specs.Products.{places}
use Rattle.vl_emit.specs.inner.NetItems.{Naming, drivers, declarers, unit_drivers, other_drivers, output_item}
use Rattle.vl_emit.specs.inner.Sound.{HasOnly, IsSound, IsEmitted, HasNets}
use Rattle.vl_emit.proofs.ModuleNets.{declares, place-below, below-place}
use Rattle.vl_emit.proofs.NetItems.{DeclaresName, declares-net, drivers-silent, units-drive, others-drive, unit-or-other, hold_driver, hold_declarer, has-nets}
use Rattle.vl_emit.proofs.CleanForms.{name-clean, word-most}
use Rattle.vl_emit.proofs.Drivers.{assign-clean}
use Rattle.vl_emit.proofs.Drivers.{multiplies, drivers-clean, net-width}
use Rattle.vl_emit.proofs.Ports.{named-net}
use Rattle.vl_emit.proofs.Sections.{Items, items_in}
use Rattle.vl_emit.proofs.DeclarationOrder.{find-none, item_drives, port_mentions, IsDeclaredBefore, IsDriven, none-undriven}

-- the module of a netlist
module _ (cycles count : ℕ) (naming : Naming) (net : ℕ → Net) (rank : ℕ → ℕ) (outputs : List NetPort) (m : Module)
    (sound : IsSound cycles count naming net rank) (emitted : IsEmitted cycles count naming net outputs m) (alone : HasOnly outputs m) where
  abbrev items : Items
  items = items_in cycles count naming net outputs

  open items use {declaring, units, others, showing}

  abbrev driving_items : List ModItem
  driving_items = units ++ (others ++ showing)

  abbrev DeclaredName : List ℕ → Type 0
  DeclaredName = IsDeclaredBefore m declaring driving_items emitted.items

  abbrev DrivenName : List ℕ → Type 0
  DrivenName = IsDriven m declaring driving_items emitted.items

  declared-by-item : (k : ℕ) → k < count → (name : List ℕ) (kind : NetKind) → (net k).kind ≡ kind → DeclaresName cycles count naming net outputs k name kind → DeclaredName name
  declared-by-item k h name kind is found =
      let c = subst (λ (t : NetKind). Contains (declarers naming net k t) found.0) (sym is) found.2 in
      let i = in-one (λ j. declarers naming net j (net j).kind) (places count) k found.0 (place-below count k h) c in (
        found.1,
        Contains-append_right (port_mentions m declaring driving_items emitted.items) (flat_map item_mentions declaring) (Declares found.1)
            (in-one item_mentions declaring found.0 (Declares found.1) i (declares found.0 found.1 found.3)),
        found.4,
      )

  net-declared : (k : ℕ) → k < count → DeclaredName (naming.net k)
  net-declared k h = declared-by-item k h (naming.net k) (net k).kind refl (declares-net cycles count naming net outputs k (net k).kind)

  hold-declared : (k : ℕ) → k < count → (frame : Frame) (live from : ℕ) → (net k).kind ≡ Bridge frame live from → DeclaredName (naming.hold k)
  hold-declared k h frame live from is =
      declared-by-item k h (naming.hold k) (Bridge frame live from) is (
        hold_declarer cycles count naming net outputs k,
        record { name = naming.hold k; kind = Register; net = record { width = (net k).width; signed = (net k).signed } },
        later _ _ (hold_declarer cycles count naming net outputs k ∷ []) (here _ []),
        refl,
        refl,
      )

  port-declared : (port : Port) → Contains m.ports port → DeclaredName port.name
  port-declared port c = (
    port_declared port,
    Contains-append_left (port_mentions m declaring driving_items emitted.items) (flat_map item_mentions declaring) (Declares (port_declared port))
        (mapped (λ (p : Port). Declares (port_declared p)) m.ports port c),
    refl,
  )

  -- a driver of a net is among the items
  driving-net : (k : ℕ) → k < count → (i : ModItem) → Contains (drivers cycles naming net k (net k).kind) i → Contains driving_items i
  driving-net k h i c = elim (unit-or-other cycles count naming net outputs k (net k).kind i c) [
    | inl u ↦ Contains-append_left units (others ++ showing) i (in-one (λ j. unit_drivers cycles naming net j (net j).kind) (places count) k i (place-below count k h) u)
    | inr o ↦ Contains-append_right units (others ++ showing) i (Contains-append_left others showing i
        (in-one (λ j. other_drivers cycles naming net j (net j).kind) (places count) k i (place-below count k h) o))
  ]

  abbrev DrivesIt : ℕ → NetKind → List ℕ → Type 0
  DrivesIt k kind name = (i : ModItem) × Contains (drivers cycles naming net k kind) i × Contains (item_drives i) name

  drives-net : (k : ℕ) (kind : NetKind) → DrivesIt k kind (naming.net k)
  drives-net k (Comb op args) = (_, here _ [], here _ [])
  drives-net k (Unit left right) = (_, here _ [], here _ [])
  drives-net k (Counter frame) = (_, here _ [], here _ [])
  drives-net k (Reg frame slot first from) = (_, here _ [], here _ [])
  drives-net k (EnReg frame enable true first from) = (_, here _ [], here _ [])
  drives-net k (EnReg frame enable false first from) = (_, here _ [], here _ [])
  drives-net k (Acc frame enable from) = (_, here _ [], here _ [])
  drives-net k (Bridge frame live from) = (_, here _ (hold_driver cycles count naming net outputs k ∷ []), here _ [])

  abbrev IsDeclarer : ℕ → NetKind → ModItem → Type 0
  IsDeclarer k kind i = (item_drives i ≡ []) × ((d : Declared) → DeclaredBy i d → DrivesIt k kind d.name)

  only-declarer : (k : ℕ) (kind : NetKind) (i j : ModItem) → IsDeclarer k kind i → Contains (i ∷ []) j → IsDeclarer k kind j
  only-declarer k kind i j p c = elim (first-or-later i j [] c) [
    | inl same ↦ subst (IsDeclarer k kind) same p
    | inr after ↦ absurd (no-element j after)
  ]

  wire-declarer : (k : ℕ) (kind : NetKind) → IsDeclarer k kind (item.Wire (net k).signed (net k).width (naming.net k))
  wire-declarer k kind = (refl, λ d e. subst (DrivesIt k kind) (ap (λ (x : Declared). x.name) e) (drives-net k kind))

  reg-declarer : (k : ℕ) (kind : NetKind) → IsDeclarer k kind (item.Reg (net k).signed (net k).width (naming.net k))
  reg-declarer k kind = (refl, λ d e. subst (DrivesIt k kind) (ap (λ (x : Declared). x.name) e) (drives-net k kind))

  pub declarers-are : (k : ℕ) (kind : NetKind) (i : ModItem) → Contains (declarers naming net k kind) i → IsDeclarer k kind i
  declarers-are k (Comb op args) i c = only-declarer k (Comb op args) _ i (wire-declarer k (Comb op args)) c
  declarers-are k (Unit left right) i c = only-declarer k (Unit left right) _ i (wire-declarer k (Unit left right)) c
  declarers-are k (Counter frame) i c = only-declarer k (Counter frame) _ i (reg-declarer k (Counter frame)) c
  declarers-are k (Reg frame slot first from) i c = only-declarer k (Reg frame slot first from) _ i (reg-declarer k (Reg frame slot first from)) c
  declarers-are k (EnReg frame enable reset first from) i c = only-declarer k (EnReg frame enable reset first from) _ i (reg-declarer k (EnReg frame enable reset first from)) c
  declarers-are k (Acc frame enable from) i c = only-declarer k (Acc frame enable from) _ i (reg-declarer k (Acc frame enable from)) c
  declarers-are k (Bridge frame live from) i c = elim (first-or-later _ i (hold_declarer cycles count naming net outputs k ∷ []) c) [
    | inl same ↦ subst (IsDeclarer k (Bridge frame live from)) same (wire-declarer k (Bridge frame live from))
    | inr after ↦ only-declarer k (Bridge frame live from) (hold_declarer cycles count naming net outputs k) i (
      refl,
      λ d e. subst (DrivesIt k (Bridge frame live from)) (ap (λ (x : Declared). x.name) e)
          (hold_driver cycles count naming net outputs k, later _ _ (hold_driver cycles count naming net outputs k ∷ []) (here _ []), here _ []),
    ) after
  ]

  -- what a driver drives is its net or the value that it holds
  abbrev DrivesDeclared : ModItem → Type 0
  DrivesDeclared i = (name : List ℕ) → Contains (item_drives i) name → DeclaredName name

  one-drives : (i j : ModItem) → DrivesDeclared i → Contains (i ∷ []) j → DrivesDeclared j
  one-drives i j p c = elim (first-or-later i j [] c) [
    | inl same ↦ subst DrivesDeclared same p
    | inr after ↦ absurd (no-element j after)
  ]

  this-name : (own name : List ℕ) → DeclaredName own → Contains (own ∷ []) name → DeclaredName name
  this-name own name p c = elim (first-or-later own name [] c) [
    | inl same ↦ subst DeclaredName same p
    | inr after ↦ absurd (no-element name after)
  ]

  drivers-drive : (k : ℕ) → k < count → (kind : NetKind) → (net k).kind ≡ kind → (i : ModItem) → Contains (drivers cycles naming net k kind) i → DrivesDeclared i
  drivers-drive k h (Comb op args) is i c = one-drives _ i (λ name d. this-name (naming.net k) name (net-declared k h) d) c
  drivers-drive k h (Unit left right) is i c = one-drives _ i (λ name d. this-name (naming.net k) name (net-declared k h) d) c
  drivers-drive k h (Counter frame) is i c = one-drives _ i (λ name d. this-name (naming.net k) name (net-declared k h) d) c
  drivers-drive k h (Reg frame slot first from) is i c = one-drives _ i (λ name d. this-name (naming.net k) name (net-declared k h) d) c
  drivers-drive k h (EnReg frame enable true first from) is i c = one-drives _ i (λ name d. this-name (naming.net k) name (net-declared k h) d) c
  drivers-drive k h (EnReg frame enable false first from) is i c = one-drives _ i (λ name d. this-name (naming.net k) name (net-declared k h) d) c
  drivers-drive k h (Acc frame enable from) is i c = one-drives _ i (λ name d. this-name (naming.net k) name (net-declared k h) d) c
  drivers-drive k h (Bridge frame live from) is i c = elim (first-or-later _ i (hold_driver cycles count naming net outputs k ∷ []) c) [
    | inl same ↦ subst DrivesDeclared same (λ name d. this-name (naming.net k) name (net-declared k h) d)
    | inr after ↦ one-drives (hold_driver cycles count naming net outputs k) i (λ name d. this-name (naming.hold k) name (hold-declared k h frame live from is) d) after
  ]

  has : HasNets cycles count naming net m
  has = has-nets cycles count naming net outputs m emitted.items emitted.names

  clean : (k : ℕ) → k < count → (i : ModItem) → Contains (drivers cycles naming net k (net k).kind) i → IsCleanItem (nets_of m) DeclaredName (multiplies (net k).kind) i
  clean k h i c =
      drivers-clean (nets_of m) DeclaredName cycles count naming net rank sound k h
      (λ j below named. record { declared = has.declared j below; word = sound.word j below; may = net-declared j below })
      (λ frame live from is. name-clean (nets_of m) DeclaredName (naming.hold k) (net k).width
      (ap (λ (n : DeclaredNet). n.width) (has.held k h frame live from is))
      (hold-declared k h frame live from is))
      (λ place args is. (let p = emitted.ports.inputs k place args h is in
      record {
        declared = named-net cycles count naming net rank outputs m sound emitted true (naming.port place) p;
        word = emitted.ports.words k place args h is;
        may = subst DeclaredName p.name (port-declared p.port p.there);
      }))
      (net k).kind refl i c

  driver-facts : (k : ℕ) → k < count → (i : ModItem) → Contains (drivers cycles naming net k (net k).kind) i
      → ((d : Declared) → DeclaredBy i d → ⊥) × DrivesDeclared i × ((name : List ℕ) → Contains (item_reads i) name → DeclaredName name)
  driver-facts k h i c = (drivers-silent cycles count naming net outputs k (net k).kind i c, drivers-drive k h (net k).kind refl i c, (clean k h i c).reads)

  pub emitted-undriven : undriven m ≡ None
  emitted-undriven =
      none-undriven m declaring driving_items emitted.items
      (λ port c. port-driven port c port.input refl)
      (λ i c. (let r = of-one (λ j. declarers naming net j (net j).kind) (places count) i c in
      let f = declarers-are r.0 (net r.0).kind i r.2 in
      (f.0, λ d e. (let g = f.1 d e in (g.0, driving-net r.0 (below-place count r.0 r.1) g.0 g.1, g.2)))))
      (λ i c. elim (Contains-append_cases units (others ++ showing) i c) [
        | inl u ↦ (let r = of-one (λ j. unit_drivers cycles naming net j (net j).kind) (places count) i u in
            driver-facts r.0 (below-place count r.0 r.1) i (units-drive cycles count naming net outputs r.0 (net r.0).kind i r.2))
        | inr v ↦ elim (Contains-append_cases others showing i v) [
          | inl o ↦ (let r = of-one (λ j. other_drivers cycles naming net j (net j).kind) (places count) i o in
              driver-facts r.0 (below-place count r.0 r.1) i (others-drive cycles count naming net outputs r.0 (net r.0).kind i r.2))
          | inr o ↦ (let r = of-mapped (output_item naming) outputs i o in output-facts r.0 r.1 i r.2)
        ]
      ])
    where
      port-driven : (port : Port) → Contains m.ports port → (t : Bool) → port.input ≡ t → DrivenName port.name ⊎ (port.input ≡ true)
      port-driven port c true e = inr e
      port-driven port c false e =
          let o = alone.shown port c e in
          inl (
            output_item naming o.0,
            Contains-append_right units (others ++ showing) (output_item naming o.0)
                (Contains-append_right others showing (output_item naming o.0) (mapped (output_item naming) outputs o.0 o.1)),
            subst (λ (name : List ℕ). Contains (o.0.name ∷ []) name) o.2 (here o.0.name []),
          )

      output-facts : (o : NetPort) → Contains outputs o → (i : ModItem) → output_item naming o ≡ i
          → ((d : Declared) → DeclaredBy i d → ⊥) × DrivesDeclared i × ((name : List ℕ) → Contains (item_reads i) name → DeclaredName name)
      output-facts o c i same =
          let h = emitted.ports.there o c in
          let p = emitted.ports.outputs_are o c in
          subst (λ (j : ModItem). ((d : Declared) → DeclaredBy j d → ⊥) × DrivesDeclared j × ((name : List ℕ) → Contains (item_reads j) name → DeclaredName name)) same (
            λ d e. e,
            λ name d. this-name o.name name (subst DeclaredName p.name (port-declared p.port p.there)) d,
            (name-clean (nets_of m) DeclaredName (naming.net o.net) (net o.net).width (ap (λ (n : DeclaredNet). n.width) (has.declared o.net h)) (net-declared o.net h)).reads,
          )

  -- each item is sound
  abbrev SoundItem : ModItem → Type 0
  SoundItem i = is_sound_item (nets_of m) i ≡ true

  one-sound : (i j : ModItem) → SoundItem i → Contains (i ∷ []) j → SoundItem j
  one-sound i j p c = elim (first-or-later i j [] c) [
    | inl same ↦ subst SoundItem same p
    | inr after ↦ absurd (no-element j after)
  ]

  declarers-sound : (k : ℕ) → k < count → (kind : NetKind) (i : ModItem) → Contains (declarers naming net k kind) i → SoundItem i
  declarers-sound k h (Comb op args) i c = one-sound _ i (net-width (net k).width (net k).signed (sound.word k h)) c
  declarers-sound k h (Unit left right) i c = one-sound _ i (net-width (net k).width (net k).signed (sound.word k h)) c
  declarers-sound k h (Counter frame) i c = one-sound _ i (net-width (net k).width (net k).signed (sound.word k h)) c
  declarers-sound k h (Reg frame slot first from) i c = one-sound _ i (net-width (net k).width (net k).signed (sound.word k h)) c
  declarers-sound k h (EnReg frame enable reset first from) i c = one-sound _ i (net-width (net k).width (net k).signed (sound.word k h)) c
  declarers-sound k h (Acc frame enable from) i c = one-sound _ i (net-width (net k).width (net k).signed (sound.word k h)) c
  declarers-sound k h (Bridge frame live from) i c = elim (first-or-later _ i (hold_declarer cycles count naming net outputs k ∷ []) c) [
    | inl same ↦ subst SoundItem same (net-width (net k).width (net k).signed (sound.word k h))
    | inr after ↦ one-sound (hold_declarer cycles count naming net outputs k) i (net-width (net k).width (net k).signed (sound.word k h)) after
  ]

  items-sound : (i : ModItem) → Contains (declaring ++ driving_items) i → SoundItem i
  items-sound i c = elim (Contains-append_cases declaring driving_items i c) [
    | inl a ↦ (let r = of-one (λ j. declarers naming net j (net j).kind) (places count) i a in declarers-sound r.0 (below-place count r.0 r.1) (net r.0).kind i r.2)
    | inr a ↦ elim (Contains-append_cases units (others ++ showing) i a) [
      | inl u ↦ (let r = of-one (λ j. unit_drivers cycles naming net j (net j).kind) (places count) i u in
          (clean r.0 (below-place count r.0 r.1) i (units-drive cycles count naming net outputs r.0 (net r.0).kind i r.2)).sound)
      | inr v ↦ elim (Contains-append_cases others showing i v) [
        | inl o ↦ (let r = of-one (λ j. other_drivers cycles naming net j (net j).kind) (places count) i o in
            (clean r.0 (below-place count r.0 r.1) i (others-drive cycles count naming net outputs r.0 (net r.0).kind i r.2)).sound)
        | inr o ↦ (let r = of-mapped (output_item naming) outputs i o in
            let k : ℕ = r.0.net in
            let h = emitted.ports.there r.0 r.1 in
            subst SoundItem r.2 (assign-clean (nets_of m) DeclaredName r.0.name (net k).width
            (expression.Name (naming.net k))
            (word-most (nets_of m) DeclaredName (net k).width (net k).signed (sound.word k h))
            (name-clean (nets_of m) DeclaredName (naming.net k) (net k).width (ap (λ (n : DeclaredNet). n.width) (has.declared k h)) (net-declared k h))).sound)
      ]
    ]
  ]

  pub emitted-narrow : too_wide m ≡ None
  emitted-narrow =
      ap (option_map (λ (part : List ℕ × Bool). part.0)) (find-none (λ (part : List ℕ × Bool). not part.1) (soundness m)
      (λ part c. elim (Contains-append_cases (map (λ (port : Port). (port.name, is_width port.width)) m.ports) (map (λ (i : ModItem). (item_name i, is_sound_item (nets_of m) i)) m.items) part c) [
        | inl p ↦ (let r = of-mapped (λ (port : Port). (port.name, is_width port.width)) m.ports part p in
            ap (λ (x : List ℕ × Bool). not x.1) (sym r.2) ∙ ap not (alone.widths r.0 r.1))
        | inr p ↦ (let r = of-mapped (λ (i : ModItem). (item_name i, is_sound_item (nets_of m) i)) m.items part p in
            ap (λ (x : List ℕ × Bool). not x.1) (sym r.2) ∙ ap not (items-sound r.0 (subst (λ (l : List ModItem). Contains l r.0) emitted.items r.1)))
      ]))
