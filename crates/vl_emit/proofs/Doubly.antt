-- No name of the module of a netlist is declared or driven twice, and each is driven by what may drive it.
use Rattle.std.proofs.Common.{◌≡◌, ◌≢◌, ◌⊎◌, inl, inr, ℕ, ◌<◌, Bool, true, false, if◌then◌else◌, List, [], ◌∷◌, ◌++◌, map, flat_map, Contains, None, refl, ap, sym, ◌∙◌, subst, arith, append-nil}
use Rattle.std.specs.Prelude.{⊤}
use Rattle.std.specs.List.{AllPairs}
use Rattle.std.proofs.lemmas.List.Elements.{Contains-append_left, Contains-append_cases}
use Rattle.std.proofs.lemmas.List.Concat.{flat_map_single}
use Rattle.std.proofs.lemmas.List.Folds.{flat_map-map}
use Rattle.std.proofs.lemmas.Grind.{flat_map-append}
use Rattle.vl_ast.specs.declared.modules.Port.{Port}
use Rattle.vl_ast.specs.declared.modules.ModItem.{ModItem}
use Rattle.vl_ast.specs.declared.modules.ModItem.TheVariants as item
use Rattle.vl_ast.specs.declared.modules.Module.{Module}
use Rattle.vl_ast.specs.Conditions.{may_drive, may_drive_it, doubly}
use Rattle.vl_ast.specs.Nets.{Declared, Mention, Declares, Drives, Reads, Clocks, Kind, InputPort, OutputPort, PlainWire, Register, port_declared, item_mentions, mentions, names_read, condition_names}
use Rattle.vl_ast.specs.Nets.{declared_by, declarations, declaration_of}
use Rattle.hw_net.specs.declared.netlist.Net.{Net}
use Rattle.hw_net.specs.declared.netlist.NetPort.{NetPort}
use Rattle.hw_net.specs.declared.netlist.NetKind.{NetKind}
use Rattle.hw_net.specs.declared.netlist.NetKind.TheVariants.{Comb, Reg, EnReg, Acc, Bridge, Unit, Counter}
use Rattle.hw_net.specs.Products.{places}
use Rattle.vl_emit.specs.inner.NetItems.{Naming, drivers, declarers, unit_drivers, other_drivers, output_item, module_items}
use Rattle.vl_emit.specs.inner.Sound.{IsEmitted}
use Rattle.vl_emit.proofs.Sections.{Items, items_in}
use Rattle.vl_emit.proofs.ModuleNets.{no-element, first-or-later, here, later, in-one, of-one, of-mapped, DeclaredBy, declared-item, declared-port, place-below, below-place, one-of, two-of}
use Rattle.vl_emit.proofs.Lists.{pairs-cons, pairs-append, pairs-places, map-pairs, empty-list, flat_map-twice, flat_map-same}
use Rattle.vl_emit.proofs.NetItems.{drivers-silent, units-drive, others-drive, hold_driver, hold_declarer}
use Rattle.vl_emit.proofs.DeclarationOrder.{item_drives}
use Rattle.vl_emit.proofs.NoDouble.{driven_by, DifferD, DifferN, MayBe, no-double, declared-as, driven-of, ports-drive, item_declared, silent-none}

module _ (cycles count : ℕ) (naming : Naming) (net : ℕ → Net) (outputs : List NetPort) (m : Module)
    (emitted : IsEmitted cycles count naming net outputs m) (ports : AllPairs (λ (one other : Port). one.name ≢ other.name) m.ports)
    (shows : AllPairs (λ (one other : NetPort). one.name ≢ other.name) outputs) where
  abbrev net_declared : ℕ → Kind → Declared
  net_declared k kind = record { name = naming.net k; kind = kind; net = record { width = (net k).width; signed = (net k).signed } }

  abbrev held_declared : ℕ → Declared
  held_declared k = record { name = naming.hold k; kind = Register; net = record { width = (net k).width; signed = (net k).signed } }

  abbrev declared_at : ℕ → NetKind → List Declared
  declared_at k kind = flat_map item_declared (declarers naming net k kind)

  abbrev items : Items
  items = items_in cycles count naming net outputs

  open items use {declaring, units, others, showing}

  abbrev IsOf : ℕ → List ℕ → Type 0
  IsOf k name = (name ≡ naming.net k) ⊎ (name ≡ naming.hold k)

  -- names of different nets
  of-differ : (j k : ℕ) → j < count → k < count → j ≢ k → (a b : List ℕ) → IsOf j a → IsOf k b → a ≢ b
  of-differ j k p q ne a b (inl e) (inl f) same = ne (emitted.names.nets j k p q (sym e ∙ same ∙ f))
  of-differ j k p q ne a b (inl e) (inr f) same = emitted.names.apart j k p q (sym e ∙ same ∙ f)
  of-differ j k p q ne a b (inr e) (inl f) same = emitted.names.apart k j q p (sym f ∙ sym same ∙ e)
  of-differ j k p q ne a b (inr e) (inr f) same = ne (emitted.names.holds j k p q (sym e ∙ same ∙ f))

  abbrev OfD : ℕ → Declared → Type 0
  OfD k d = IsOf k d.name

  declared-of : (k : ℕ) (kind : NetKind) (d : Declared) → Contains (declared_at k kind) d → OfD k d
  declared-of k (Comb op args) d c = one-of (OfD k) _ d (inl refl) c
  declared-of k (Unit left right) d c = one-of (OfD k) _ d (inl refl) c
  declared-of k (Counter frame) d c = one-of (OfD k) _ d (inl refl) c
  declared-of k (Reg frame slot first from) d c = one-of (OfD k) _ d (inl refl) c
  declared-of k (EnReg frame enable resets first from) d c = one-of (OfD k) _ d (inl refl) c
  declared-of k (Acc frame enable from) d c = one-of (OfD k) _ d (inl refl) c
  declared-of k (Bridge frame live from) d c = two-of (OfD k) _ _ d (inl refl) (inr refl) c

  one-pair : {X : Type 0} (R : X → X → Type 0) (x : X) → AllPairs R (x ∷ [])
  one-pair R x i j d h k = absurd (omega (arith, h, k))

  declared-pairs : (k : ℕ) → k < count → (kind : NetKind) → AllPairs DifferD (declared_at k kind)
  declared-pairs k h (Comb op args) = one-pair DifferD _
  declared-pairs k h (Unit left right) = one-pair DifferD _
  declared-pairs k h (Counter frame) = one-pair DifferD _
  declared-pairs k h (Reg frame slot first from) = one-pair DifferD _
  declared-pairs k h (EnReg frame enable resets first from) = one-pair DifferD _
  declared-pairs k h (Acc frame enable from) = one-pair DifferD _
  declared-pairs k h (Bridge frame live from) =
      pairs-cons DifferD (net_declared k PlainWire) (held_declared k ∷ [])
      (λ d c. one-of (λ (d : Declared). naming.net k ≢ d.name) (held_declared k) d
      (emitted.names.apart k k h h) c) (one-pair DifferD (held_declared k))

  nets-declared : AllPairs DifferD (flat_map (λ k. declared_at k (net k).kind) (places count))
  nets-declared =
      pairs-places DifferD (λ k. declared_at k (net k).kind) count (λ k h. declared-pairs k h (net k).kind)
      (λ j k p q ne a b c d. of-differ j k p q ne a.name b.name (declared-of j (net j).kind a c) (declared-of k (net k).kind b d))

  -- a driver declares nothing
  driving-silent : (i : ModItem) → Contains (units ++ (others ++ showing)) i → (d : Declared) → DeclaredBy i d → ⊥
  driving-silent i c = elim (Contains-append_cases units (others ++ showing) i c) [
    | inl a ↦ (let r = of-one (λ k. unit_drivers cycles naming net k (net k).kind) (places count) i a in
        drivers-silent cycles count naming net outputs r.0 (net r.0).kind i (units-drive cycles count naming net outputs r.0 (net r.0).kind i r.2))
    | inr a ↦ elim (Contains-append_cases others showing i a) [
      | inl b ↦ (let r = of-one (λ k. other_drivers cycles naming net k (net k).kind) (places count) i b in
          drivers-silent cycles count naming net outputs r.0 (net r.0).kind i (others-drive cycles count naming net outputs r.0 (net r.0).kind i r.2))
      | inr b ↦ (let r = of-mapped (output_item naming) outputs i b in subst (λ (x : ModItem). (d : Declared) → DeclaredBy x d → ⊥) r.2 (λ d e. e))
    ]
  ]

  abbrev port_mentions : List Mention
  port_mentions = map (λ (port : Port). Declares (port_declared port)) m.ports

  items-declared : flat_map declared_by (flat_map item_mentions m.items) ≡ flat_map (λ k. declared_at k (net k).kind) (places count)
  items-declared =
      flat_map-twice declared_by item_mentions m.items
      ∙ ap (flat_map item_declared) emitted.items
      ∙ flat_map-append item_declared declaring (units ++ (others ++ showing))
      ∙ (let none : flat_map item_declared (units ++ (others ++ showing)) ≡ [] =
      empty-list (flat_map item_declared (units ++ (others ++ showing))) (λ d c. (let r = of-one item_declared (units ++ (others ++ showing)) d c in
      no-element d (subst (λ (l : List Declared). Contains l d) (silent-none r.0 (driving-silent r.0 r.1)) r.2))) in
      ap (λ (l : List Declared). flat_map item_declared declaring ++ l) none)
      ∙ append-nil (flat_map item_declared declaring)
      ∙ flat_map-twice item_declared (λ k. declarers naming net k (net k).kind) (places count)

  declarations-are : declarations m ≡ map port_declared m.ports ++ flat_map (λ k. declared_at k (net k).kind) (places count)
  declarations-are =
      flat_map-append declared_by port_mentions (flat_map item_mentions m.items)
      ∙ (let a : flat_map declared_by port_mentions ≡ map port_declared m.ports =
      flat_map-map declared_by (λ (port : Port). Declares (port_declared port)) m.ports
      ∙ flat_map_single port_declared m.ports in
      (λ i. a i ++ items-declared i))

  pub declarations-differ : AllPairs DifferD (declarations m)
  declarations-differ =
      subst (AllPairs DifferD) (sym declarations-are)
      (pairs-append DifferD (map port_declared m.ports) (flat_map (λ k. declared_at k (net k).kind) (places count))
      (map-pairs (λ (one other : Port). one.name ≢ other.name) DifferD port_declared (λ one other ne. ne) m.ports ports) nets-declared
      (λ a b c d. (let r = of-mapped port_declared m.ports a c in
      let s = of-one (λ k. declared_at k (net k).kind) (places count) b d in
      let h = below-place count s.0 s.1 in
      port-new a r.0 r.1 r.2 s.0 h b.name (declared-of s.0 (net s.0).kind b s.2))))
    where
      port-new : (a : Declared) (p : Port) → Contains m.ports p → port_declared p ≡ a → (k : ℕ) → k < count → (name : List ℕ) → IsOf k name → a.name ≢ name
      port-new a p c e k h name (inl f) same = emitted.names.no_net p c k h (ap (λ (d : Declared). d.name) e ∙ same ∙ f)
      port-new a p c e k h name (inr f) same = emitted.names.no_hold p c k h (ap (λ (d : Declared). d.name) e ∙ same ∙ f)

  -- the names that are driven
  abbrev unit_names : ℕ → NetKind → List (List ℕ)
  unit_names k kind = flat_map item_drives (unit_drivers cycles naming net k kind)

  abbrev other_names : ℕ → NetKind → List (List ℕ)
  other_names k kind = flat_map item_drives (other_drivers cycles naming net k kind)

  unit-of : (k : ℕ) (kind : NetKind) (name : List ℕ) → Contains (unit_names k kind) name → IsOf k name
  unit-of k (Comb op args) name c = absurd (no-element name c)
  unit-of k (Unit left right) name c = one-of (IsOf k) _ name (inl refl) c
  unit-of k (Counter frame) name c = absurd (no-element name c)
  unit-of k (Reg frame slot first from) name c = absurd (no-element name c)
  unit-of k (EnReg frame enable resets first from) name c = absurd (no-element name c)
  unit-of k (Acc frame enable from) name c = absurd (no-element name c)
  unit-of k (Bridge frame live from) name c = absurd (no-element name c)

  other-of : (k : ℕ) (kind : NetKind) (name : List ℕ) → Contains (other_names k kind) name → IsOf k name
  other-of k (Comb op args) name c = one-of (IsOf k) _ name (inl refl) c
  other-of k (Unit left right) name c = absurd (no-element name c)
  other-of k (Counter frame) name c = one-of (IsOf k) _ name (inl refl) c
  other-of k (Reg frame slot first from) name c = one-of (IsOf k) _ name (inl refl) c
  other-of k (EnReg frame enable true first from) name c = one-of (IsOf k) _ name (inl refl) c
  other-of k (EnReg frame enable false first from) name c = one-of (IsOf k) _ name (inl refl) c
  other-of k (Acc frame enable from) name c = one-of (IsOf k) _ name (inl refl) c
  other-of k (Bridge frame live from) name c = two-of (IsOf k) _ _ name (inl refl) (inr refl) c

  not-both : (k : ℕ) (kind : NetKind) (a b : List ℕ) → Contains (unit_names k kind) a → Contains (other_names k kind) b → ⊥
  not-both k (Comb op args) a b c d = no-element a c
  not-both k (Unit left right) a b c d = no-element b d
  not-both k (Counter frame) a b c d = no-element a c
  not-both k (Reg frame slot first from) a b c d = no-element a c
  not-both k (EnReg frame enable resets first from) a b c d = no-element a c
  not-both k (Acc frame enable from) a b c d = no-element a c
  not-both k (Bridge frame live from) a b c d = no-element a c

  no-pair : {X : Type 0} (R : X → X → Type 0) → AllPairs R []
  no-pair R i j d h k = absurd (omega (arith, k))

  unit-pairs : (k : ℕ) (kind : NetKind) → AllPairs DifferN (unit_names k kind)
  unit-pairs k (Comb op args) = no-pair DifferN
  unit-pairs k (Unit left right) = one-pair DifferN _
  unit-pairs k (Counter frame) = no-pair DifferN
  unit-pairs k (Reg frame slot first from) = no-pair DifferN
  unit-pairs k (EnReg frame enable resets first from) = no-pair DifferN
  unit-pairs k (Acc frame enable from) = no-pair DifferN
  unit-pairs k (Bridge frame live from) = no-pair DifferN

  other-pairs : (k : ℕ) → k < count → (kind : NetKind) → AllPairs DifferN (other_names k kind)
  other-pairs k h (Comb op args) = one-pair DifferN _
  other-pairs k h (Unit left right) = no-pair DifferN
  other-pairs k h (Counter frame) = one-pair DifferN _
  other-pairs k h (Reg frame slot first from) = one-pair DifferN _
  other-pairs k h (EnReg frame enable true first from) = one-pair DifferN _
  other-pairs k h (EnReg frame enable false first from) = one-pair DifferN _
  other-pairs k h (Acc frame enable from) = one-pair DifferN _
  other-pairs k h (Bridge frame live from) =
      pairs-cons DifferN (naming.net k) (naming.hold k ∷ [])
      (λ name c. one-of (λ (other : List ℕ). naming.net k ≢ other) (naming.hold k) name
      (emitted.names.apart k k h h) c) (one-pair DifferN (naming.hold k))

  abbrev all_units : List (List ℕ)
  all_units = flat_map (λ k. unit_names k (net k).kind) (places count)

  abbrev all_others : List (List ℕ)
  all_others = flat_map (λ k. other_names k (net k).kind) (places count)

  abbrev all_shown : List (List ℕ)
  all_shown = map (λ (output : NetPort). output.name) outputs

  shown-new : (k : ℕ) → k < count → (name : List ℕ) → IsOf k name → (output : NetPort) → Contains outputs output → name ≢ output.name
  shown-new k h name of output c same =
      let p = emitted.ports.outputs_are output c in by of where
        by : IsOf k name → ⊥
        by (inl e) = (let p = emitted.ports.outputs_are output c in emitted.names.no_net p.port p.there k h (p.name ∙ sym same ∙ e))
        by (inr e) = (let p = emitted.ports.outputs_are output c in emitted.names.no_hold p.port p.there k h (p.name ∙ sym same ∙ e))

  driven-differ : AllPairs DifferN (all_units ++ (all_others ++ all_shown))
  driven-differ =
      pairs-append DifferN all_units (all_others ++ all_shown)
      (pairs-places DifferN (λ k. unit_names k (net k).kind) count (λ k h. unit-pairs k (net k).kind)
      (λ j k p q ne a b c d. of-differ j k p q ne a b (unit-of j (net j).kind a c) (unit-of k (net k).kind b d)))
      (pairs-append DifferN all_others all_shown
      (pairs-places DifferN (λ k. other_names k (net k).kind) count (λ k h. other-pairs k h (net k).kind)
      (λ j k p q ne a b c d. of-differ j k p q ne a b (other-of j (net j).kind a c) (other-of k (net k).kind b d)))
      (map-pairs (λ (one other : NetPort). one.name ≢ other.name) DifferN (λ (output : NetPort). output.name) (λ one other ne. ne) outputs shows)
      (λ a b c d. (let r = of-one (λ k. other_names k (net k).kind) (places count) a c in
      let s = of-mapped (λ (output : NetPort). output.name) outputs b d in
      λ same. shown-new r.0 (below-place count r.0 r.1) a (other-of r.0 (net r.0).kind a r.2) s.0 s.1 (same ∙ sym s.2))))
      (λ a b c d. (let r = of-one (λ k. unit_names k (net k).kind) (places count) a c in
      elim (Contains-append_cases all_others all_shown b d) [
        | inl l ↦ (let s = of-one (λ k. other_names k (net k).kind) (places count) b l in
            apart-names r.0 s.0 (below-place count r.0 r.1) (below-place count s.0 s.1) a b r.2 s.2)
        | inr l ↦ (let s = of-mapped (λ (output : NetPort). output.name) outputs b l in
            λ same. shown-new r.0 (below-place count r.0 r.1) a (unit-of r.0 (net r.0).kind a r.2) s.0 s.1 (same ∙ sym s.2))
      ]))
    where
      apart-names : (j k : ℕ) → j < count → k < count → (a b : List ℕ) → Contains (unit_names j (net j).kind) a → Contains (other_names k (net k).kind) b → a ≢ b
      apart-names j k p q a b c d same =
          of-differ j k p q (λ e. not-both k (net k).kind a b (subst (λ (i : ℕ). Contains (unit_names i (net i).kind) a) e c) d) a b (unit-of j (net j).kind a c) (other-of k (net k).kind b d) same

  no-drives : (k : ℕ) (kind : NetKind) → flat_map item_drives (declarers naming net k kind) ≡ []
  no-drives k (Comb op args) = refl
  no-drives k _ = refl

  items-driven : flat_map driven_by (flat_map item_mentions m.items) ≡ all_units ++ (all_others ++ all_shown)
  items-driven =
      flat_map-twice driven_by item_mentions m.items
      ∙ flat_map-same (λ (i : ModItem). flat_map driven_by (item_mentions i)) item_drives driven-of m.items
      ∙ ap (flat_map item_drives) emitted.items
      ∙ flat_map-append item_drives declaring (units ++ (others ++ showing))
      ∙ (let a : flat_map item_drives declaring ≡ [] = flat_map-twice item_drives (λ k. declarers naming net k (net k).kind) (places count)
      ∙ empty-list (flat_map (λ k. flat_map item_drives (declarers naming net k (net k).kind)) (places count))
      (λ name c. (let r = of-one (λ k. flat_map item_drives (declarers naming net k (net k).kind))
      (places count) name c in
      no-element name (subst (λ (l : List (List ℕ)). Contains l name) (no-drives r.0 (net r.0).kind) r.2))) in
      let b : flat_map item_drives (units ++ (others ++ showing)) ≡ all_units ++ (all_others ++ all_shown) =
      flat_map-append item_drives units (others ++ showing)
      ∙ (let u = flat_map-twice item_drives (λ k. unit_drivers cycles naming net k (net k).kind) (places count) in
      let v = flat_map-append item_drives others showing in
      let o = flat_map-twice item_drives (λ k. other_drivers cycles naming net k (net k).kind) (places count) in
      let s : flat_map item_drives showing ≡ all_shown = flat_map-map item_drives (output_item naming) outputs ∙ flat_map_single (λ (output : NetPort). output.name) outputs in
      (λ i. u i ++ v i) ∙ (λ i. all_units ++ (o i ++ s i))) in
      (λ i. a i ++ b i))

  mentions-driven : flat_map driven_by (mentions m) ≡ all_units ++ (all_others ++ all_shown)
  mentions-driven =
      flat_map-append driven_by port_mentions (flat_map item_mentions m.items)
      ∙ (λ i. ports-drive m.ports i ++ items-driven i)

  abbrev May : Bool → List ℕ → Type 0
  May clocked name = may_drive_it clocked (declaration_of m name) ≡ true

  may-by : (clocked : Bool) (d : Declared) → Contains (declarations m) d → may_drive clocked d.kind ≡ true → May clocked d.name
  may-by clocked d c e = ap (may_drive_it clocked) (declared-as m declarations-differ d c) ∙ e

  abbrev MayItem : ModItem → Type 0
  MayItem (item.Wire signed width name) = ⊤
  MayItem (item.Reg signed width name) = ⊤
  MayItem (item.Assign name value) = May false name
  MayItem (item.Always name first condition value) = May true name

  in-items : (i : ModItem) → Contains (module_items cycles count naming net outputs) i → Contains m.items i
  in-items i c = subst (λ (l : List ModItem). Contains l i) (sym emitted.items) c

  declared-in : (k : ℕ) → k < count → (kind : NetKind) → (net k).kind ≡ kind → (i : ModItem) (d : Declared) → Contains (declarers naming net k kind) i → DeclaredBy i d → Contains (declarations m) d
  declared-in k h kind is i d c e =
      declared-item m i d (in-items i (Contains-append_left declaring (units ++ (others ++ showing)) i
      (in-one (λ j. declarers naming net j (net j).kind) (places count) k i (place-below count k h) (subst (λ (t : NetKind). Contains (declarers naming net k t) i) (sym is) c)))) e

  -- the drivers of a net drive what it declares
  driver-may : (k : ℕ) → k < count → (kind : NetKind) → (net k).kind ≡ kind → (i : ModItem) → Contains (drivers cycles naming net k kind) i → MayItem i
  driver-may k h (Comb op args) is i c = one-of MayItem _ i (may-by false (net_declared k PlainWire) (declared-in k h (Comb op args) is _ (net_declared k PlainWire) (here _ []) refl) refl) c
  driver-may k h (Unit left right) is i c = one-of MayItem _ i (may-by false (net_declared k PlainWire) (declared-in k h (Unit left right) is _ (net_declared k PlainWire) (here _ []) refl) refl) c
  driver-may k h (Counter frame) is i c = one-of MayItem _ i (may-by true (net_declared k Register) (declared-in k h (Counter frame) is _ (net_declared k Register) (here _ []) refl) refl) c
  driver-may k h (Reg frame slot first from) is i c =
      one-of MayItem _ i (may-by true (net_declared k Register)
      (declared-in k h (Reg frame slot first from) is _ (net_declared k Register) (here _ []) refl) refl) c
  driver-may k h (EnReg frame enable true first from) is i c =
      one-of MayItem _ i (may-by true (net_declared k Register)
      (declared-in k h (EnReg frame enable true first from) is _ (net_declared k Register) (here _ []) refl)
      refl) c
  driver-may k h (EnReg frame enable false first from) is i c =
      one-of MayItem _ i (may-by true (net_declared k Register)
      (declared-in k h (EnReg frame enable false first from) is _ (net_declared k Register) (here _ []) refl)
      refl) c
  driver-may k h (Acc frame enable from) is i c =
      one-of MayItem _ i (may-by true (net_declared k Register)
      (declared-in k h (Acc frame enable from) is _ (net_declared k Register) (here _ []) refl)
      refl) c
  driver-may k h (Bridge frame live from) is i c =
      let held : Declared = record { name = naming.hold k; kind = Register; net = record { width = (net k).width; signed = (net k).signed } } in
      two-of MayItem _ (hold_driver cycles count naming net outputs k) i
      (may-by false (net_declared k PlainWire) (declared-in k h (Bridge frame live from) is _ (net_declared k PlainWire) (here _ (hold_declarer cycles count naming net outputs k ∷ [])) refl) refl)
      (may-by true held (declared-in k h (Bridge frame live from) is
      (hold_declarer cycles count naming net outputs k) held
      (later _ _ (hold_declarer cycles count naming net outputs k ∷ []) (here _ [])) refl) refl) c

  output-may : (output : NetPort) → Contains outputs output → May false output.name
  output-may output c =
      let p = emitted.ports.outputs_are output c in
      let d = declared-port m p.port p.there in
      let kind : (port_declared p.port).kind ≡ OutputPort = ap (λ (t : Bool). (if t then InputPort else OutputPort)) p.input in
      subst (May false) p.name (may-by false (port_declared p.port) d (ap (may_drive false) kind))

  declarer-may : (k : ℕ) (kind : NetKind) (i : ModItem) → Contains (declarers naming net k kind) i → MayItem i
  declarer-may k (Comb op args) i c = one-of MayItem _ i tt c
  declarer-may k (Unit left right) i c = one-of MayItem _ i tt c
  declarer-may k (Counter frame) i c = one-of MayItem _ i tt c
  declarer-may k (Reg frame slot first from) i c = one-of MayItem _ i tt c
  declarer-may k (EnReg frame enable resets first from) i c = one-of MayItem _ i tt c
  declarer-may k (Acc frame enable from) i c = one-of MayItem _ i tt c
  declarer-may k (Bridge frame live from) i c = two-of MayItem _ (hold_declarer cycles count naming net outputs k) i tt tt c

  item-may : (i : ModItem) → Contains (module_items cycles count naming net outputs) i → MayItem i
  item-may i c = elim (Contains-append_cases declaring (units ++ (others ++ showing)) i c) [
    | inl a ↦ (let r = of-one (λ k. declarers naming net k (net k).kind) (places count) i a in declarer-may r.0 (net r.0).kind i r.2)
    | inr a ↦ elim (Contains-append_cases units (others ++ showing) i a) [
      | inl b ↦ (let r = of-one (λ k. unit_drivers cycles naming net k (net k).kind) (places count) i b in
          driver-may r.0 (below-place count r.0 r.1) (net r.0).kind refl i (units-drive cycles count naming net outputs r.0 (net r.0).kind i r.2))
      | inr b ↦ elim (Contains-append_cases others showing i b) [
        | inl e ↦ (let r = of-one (λ k. other_drivers cycles naming net k (net k).kind) (places count) i e in
            driver-may r.0 (below-place count r.0 r.1) (net r.0).kind refl i (others-drive cycles count naming net outputs r.0 (net r.0).kind i r.2))
        | inr e ↦ (let r = of-mapped (output_item naming) outputs i e in subst MayItem r.2 (output-may r.0 r.1))
      ]
    ]
  ]

  reads-may : (names : List (List ℕ)) (x : Mention) → Contains (map Reads names) x → MayBe m x
  reads-may names x c = (let r = of-mapped Reads names x c in subst (MayBe m) r.2 tt)

  mention-may : (i : ModItem) → MayItem i → (x : Mention) → Contains (item_mentions i) x → MayBe m x
  mention-may (item.Wire signed width name) may x c = one-of (MayBe m) _ x tt c
  mention-may (item.Reg signed width name) may x c = one-of (MayBe m) _ x tt c
  mention-may (item.Assign name value) may x c = elim (first-or-later (Drives false name) x (map Reads (names_read value)) c) [
    | inl e ↦ subst (MayBe m) e may
    | inr after ↦ reads-may (names_read value) x after
  ]
  mention-may (item.Always name first condition value) may x c =
      let names : List (List ℕ) = condition_names condition ++ names_read value in
      elim (first-or-later Clocks x (Drives true name ∷ map Reads names) c) [
        | inl e ↦ subst (MayBe m) e tt
        | inr after ↦ elim (first-or-later (Drives true name) x (map Reads names) after) [
          | inl e ↦ subst (MayBe m) e may
          | inr more ↦ reads-may names x more
        ]
      ]

  pub emitted-once : doubly m ≡ None
  emitted-once =
      no-double m [] (mentions m) declarations-differ (subst (AllPairs DifferN) (sym mentions-driven) driven-differ)
      (λ x c. elim (Contains-append_cases port_mentions (flat_map item_mentions m.items) x c) [
        | inl a ↦ (let r = of-mapped (λ (port : Port). Declares (port_declared port)) m.ports x a in subst (MayBe m) r.2 tt)
        | inr a ↦ (let r = of-one item_mentions m.items x a in
            mention-may r.0 (item-may r.0 (subst (λ (l : List ModItem). Contains l r.0) emitted.items r.1)) x r.2)
      ])
