-- No assignments of the module of a netlist read each other in a cycle: the rank of the nets falls.
use Rattle.std.proofs.Common.{◌≡◌, ◌⊎◌, inl, inr, ℕ, zero, suc, ◌+◌, ◌-◌, ◌%◌, ◌<◌, ◌≤◌, true, false, List, [], ◌∷◌, ◌++◌, map, flat_map, length, get_or, slice_index_or, Contains, refl, ap, sym, ◌∙◌}
use Rattle.std.proofs.Common.{subst, arith}
use Rattle.std.specs.Prelude.{⊤}
use Rattle.std.proofs.lemmas.List.Elements.{Contains-append_cases}
use Rattle.std.proofs.lemmas.Nat.{mod_below}
use Rattle.std.proofs.Math.Nat.{mod-eq_of_lt, mod_self}
use Rattle.vl_ast.specs.declared.expressions.Expr.{Expr}
use Rattle.vl_ast.specs.declared.expressions.Expr.TheVariants as expression
use Rattle.vl_ast.specs.declared.modules.Port.{Port}
use Rattle.vl_ast.specs.declared.modules.ModItem.{ModItem}
use Rattle.vl_ast.specs.declared.modules.ModItem.TheVariants as item
use Rattle.vl_ast.specs.declared.modules.Module.{Module}
use Rattle.vl_ast.specs.Context.{Net as DeclaredNet}
use Rattle.vl_ast.specs.Nets.{names_read, nets_of}
use Rattle.vl_ast.specs.Conditions.{IsLoop, AssignmentReads}
use Rattle.hw_net.specs.declared.netlist.Net.{Net}
use Rattle.hw_net.specs.declared.netlist.NetPort.{NetPort}
use Rattle.hw_net.specs.declared.netlist.NetKind.{NetKind}
use Rattle.hw_net.specs.declared.netlist.NetKind.TheVariants.{Comb, Reg, EnReg, Acc, Bridge, Unit, Counter}
use Rattle.hw_net.specs.Operation.{arity}
use Rattle.hw_net.specs.Products.{places}
use Rattle.vl_emit.specs.inner.Clean.{IsClean, IsCleanItem}
use Rattle.vl_emit.specs.inner.NetItems.{Naming, wire_of, drivers, declarers, unit_drivers, other_drivers, output_item}
use Rattle.vl_emit.specs.inner.Sound.{NamedBy, IsSoundKind, HasOnly, IsSound, IsEmitted, HasNets}
use Rattle.vl_emit.proofs.ModuleNets.{no-element, first-or-later, below-place, of-one, of-mapped}
use Rattle.vl_emit.proofs.NetItems.{units-drive, others-drive, has-nets, hold_driver}
use Rattle.vl_emit.proofs.CleanForms.{Readable, name-clean}
use Rattle.vl_emit.proofs.Drivers.{multiplies, drivers-clean, bridge-clean}
use Rattle.vl_emit.proofs.Ports.{named-net}
use Rattle.vl_emit.proofs.Undriven.{declarers-are}

-- net j is read by net k in the same clock
abbrev NamedNow : Naming → NetKind → ℕ → Type 0
NamedNow naming (Comb op args) j = (place : ℕ) × (place < arity op) × (get_or args place 0 ≡ j)
NamedNow naming (Unit left right) j = (left ≡ j) ⊎ (right ≡ j)
NamedNow naming (Bridge frame live from) j = (from ≡ j) ⊎ (naming.counter frame ≡ j)
NamedNow naming (Counter frame) j = ⊥
NamedNow naming (Reg frame slot first from) j = ⊥
NamedNow naming (EnReg frame enable reset first from) j = ⊥
NamedNow naming (Acc frame enable from) j = ⊥

abbrev IsWire : NetKind → Type 0
IsWire (Comb op args) = ⊤
IsWire (Unit left right) = ⊤
IsWire (Bridge frame live from) = ⊤
IsWire (Counter frame) = ⊥
IsWire (Reg frame slot first from) = ⊥
IsWire (EnReg frame enable reset first from) = ⊥
IsWire (Acc frame enable from) = ⊥

module _ (cycles count : ℕ) (naming : Naming) (net : ℕ → Net) (rank : ℕ → ℕ) (outputs : List NetPort) (m : Module)
    (sound : IsSound cycles count naming net rank) (emitted : IsEmitted cycles count naming net outputs m) (alone : HasOnly outputs m) where
  abbrev IsInput : List ℕ → Type 0
  IsInput name = (p : Port) × Contains m.ports p × (p.input ≡ true) × (p.name ≡ name)

  abbrev IsNow : ℕ → List ℕ → Type 0
  IsNow k name = (j : ℕ) × (j < count) × (naming.net j ≡ name) × NamedNow naming (net k).kind j

  -- what the assignment of net k may read
  abbrev MayRead : ℕ → List ℕ → Type 0
  MayRead k name = IsNow k name ⊎ ((naming.hold k ≡ name) ⊎ IsInput name)

  has : HasNets cycles count naming net m
  has = has-nets cycles count naming net outputs m emitted.items emitted.names

  readable : (k j : ℕ) → j < count → NamedNow naming (net k).kind j → Readable (nets_of m) (MayRead k) (wire_of naming net j)
  readable k j below now = record { declared = has.declared j below; word = sound.word j below; may = inl (j, below, refl, now) }

  hold-clean : (k : ℕ) → k < count → (frame : _) (live from : ℕ) → (net k).kind ≡ Bridge frame live from → IsClean (nets_of m) (MayRead k) (net k).width (expression.Name (naming.hold k))
  hold-clean k h frame live from is = name-clean (nets_of m) (MayRead k) (naming.hold k) (net k).width (ap (λ (n : DeclaredNet). n.width) (has.held k h frame live from is)) (inr (inl refl))

  record OfNet (k : ℕ) (name : List ℕ) (value : Expr) : Type 0 where
    is : naming.net k ≡ name
    wire : IsWire (net k).kind
    reads : (read : List ℕ) → Contains (names_read value) read → MayRead k read

  only-item : (i j : ModItem) → Contains (i ∷ []) j → i ≡ j
  only-item i j c = elim (first-or-later i j [] c) [
    | inl same ↦ same
    | inr after ↦ absurd (no-element j after)
  ]

  -- by the kind of the net
  kind-of : (k : ℕ) (kind : NetKind) → (net k).kind ≡ kind → IsWire kind → IsWire (net k).kind
  kind-of k kind is w = subst IsWire (sym is) w

  now-of : (k : ℕ) (kind : NetKind) → (net k).kind ≡ kind → (j : ℕ) → NamedNow naming kind j → NamedNow naming (net k).kind j
  now-of k kind is j n = subst (λ (t : NetKind). NamedNow naming t j) (sym is) n

  named-of : (k : ℕ) (kind : NetKind) → (net k).kind ≡ kind → (j : ℕ) → NamedBy naming k (net k).kind j → NamedBy naming k kind j
  named-of k kind is j n = subst (λ (t : NetKind). NamedBy naming k t j) is n

  clean-item : (k : ℕ) → k < count → (kind : NetKind) → (net k).kind ≡ kind → ((j : ℕ) → NamedBy naming k kind j → NamedNow naming kind j) → (i : ModItem)
      → Contains (drivers cycles naming net k kind) i → IsCleanItem (nets_of m) (MayRead k) (multiplies kind) i
  clean-item k h kind is all_now i c =
      drivers-clean (nets_of m) (MayRead k) cycles count naming net rank sound k h
      (λ j below named. readable k j below (now-of k kind is j (all_now j (named-of k kind is j named))))
      (λ frame live from e. hold-clean k h frame live from e)
      (λ place args e. (let p = emitted.ports.inputs k place args h e in
      record {
        declared = named-net cycles count naming net rank outputs m sound emitted true (naming.port place) p;
        word = emitted.ports.words k place args h e;
        may = inr (inr (p.port, p.there, p.input, p.name));
      }))
      kind is i c

  of-net : (k : ℕ) → k < count → (kind : NetKind) → (net k).kind ≡ kind → (name : List ℕ) (value : Expr) → Contains (drivers cycles naming net k kind) (item.Assign name value) → OfNet k name value
  of-net k h (Comb op args) is name value c =
      record { is = (let e = only-item _ _ c in cc e); wire = kind-of k (Comb op args) is tt; reads = (clean-item k h (Comb op args) is (λ j n. n) (item.Assign name value) c).reads }
  of-net k h (Unit left right) is name value c =
      record { is = (let e = only-item _ _ c in cc e); wire = kind-of k (Unit left right) is tt; reads = (clean-item k h (Unit left right) is (λ j n. n) (item.Assign name value) c).reads }
  of-net k h (Counter frame) is name value c = (let e = only-item _ _ c in absurd (cc e))
  of-net k h (Reg frame slot first from) is name value c = (let e = only-item _ _ c in absurd (cc e))
  of-net k h (EnReg frame enable true first from) is name value c = (let e = only-item _ _ c in absurd (cc e))
  of-net k h (EnReg frame enable false first from) is name value c = (let e = only-item _ _ c in absurd (cc e))
  of-net k h (Acc frame enable from) is name value c = (let e = only-item _ _ c in absurd (cc e))
  of-net k h (Bridge frame live from) is name value c = elim (first-or-later _ (item.Assign name value) (hold_driver cycles count naming net outputs k ∷ []) c) [
    | inl same ↦ (let names = subst (IsSoundKind cycles count naming net rank k) is (sound.names k h) in
        let clean = bridge-clean (nets_of m) (MayRead k) cycles count naming net rank sound k h frame live from is
        (readable k from names.2.there (now-of k (Bridge frame live from) is from (inl refl)))
        (readable k (naming.counter frame) names.0.there (now-of k (Bridge frame live from) is (naming.counter frame) (inr refl)))
        (hold-clean k h frame live from is) in
        record { is = cc same; wire = kind-of k (Bridge frame live from) is tt; reads = subst (λ (v : Expr). (read : List ℕ) → Contains (names_read v) read → MayRead k read) (cc same) clean.reads })
    | inr after ↦ (let e = only-item _ _ after in absurd (cc e))
  ]

  -- an assignment is that of a net or of an output port
  abbrev OfOutput : List ℕ → Expr → Type 0
  OfOutput name value = (o : NetPort) × Contains outputs o × (output_item naming o ≡ item.Assign name value)

  assigned-where : (name : List ℕ) (value : Expr) → Contains m.items (item.Assign name value) → ((k : ℕ) × (k < count) × OfNet k name value) ⊎ OfOutput name value
  assigned-where name value c =
      let i : ModItem = item.Assign name value in
      let units : List ModItem = flat_map (λ k. unit_drivers cycles naming net k (net k).kind) (places count) in
      let others : List ModItem = flat_map (λ k. other_drivers cycles naming net k (net k).kind) (places count) in
      let declaring : List ModItem = flat_map (λ k. declarers naming net k (net k).kind) (places count) in
      elim (Contains-append_cases declaring (units ++ (others ++ map (output_item naming) outputs)) i (subst (λ (l : List ModItem). Contains l i) emitted.items c)) [
        | inl a ↦ (let r = of-one (λ k. declarers naming net k (net k).kind) (places count) i a in
            let f = declarers-are cycles count naming net rank outputs m sound emitted alone r.0 (net r.0).kind i r.2 in absurd (cc (f.0)))
        | inr a ↦ elim (Contains-append_cases units (others ++ map (output_item naming) outputs) i a) [
          | inl u ↦ (let r = of-one (λ k. unit_drivers cycles naming net k (net k).kind) (places count) i u in
              let h = below-place count r.0 r.1 in
              inl (r.0, h, of-net r.0 h (net r.0).kind refl name value (units-drive cycles count naming net outputs r.0 (net r.0).kind i r.2)))
          | inr v ↦ elim (Contains-append_cases others (map (output_item naming) outputs) i v) [
            | inl o ↦ (let r = of-one (λ k. other_drivers cycles naming net k (net k).kind) (places count) i o in
                let h = below-place count r.0 r.1 in
                inl (r.0, h, of-net r.0 h (net r.0).kind refl name value (others-drive cycles count naming net outputs r.0 (net r.0).kind i r.2)))
            | inr o ↦ inr (of-mapped (output_item naming) outputs i o)
          ]
        ]
      ]

  -- a wire is read only by those above it
  falls : (k j : ℕ) → k < count → (kind : NetKind) → (net k).kind ≡ kind → NamedNow naming kind j → IsWire (net j).kind → rank j < rank k
  falls k j h (Comb op args) is (place, below, e) w =
      let names = subst (IsSoundKind cycles count naming net rank k) is (sound.names k h) in
      subst (λ (i : ℕ). rank i < rank k) e (names.1 place below).before
  falls k j h (Unit left right) is (inl e) w = (let names = subst (IsSoundKind cycles count naming net rank k) is (sound.names k h) in subst (λ (i : ℕ). rank i < rank k) e names.0.before)
  falls k j h (Unit left right) is (inr e) w = (let names = subst (IsSoundKind cycles count naming net rank k) is (sound.names k h) in subst (λ (i : ℕ). rank i < rank k) e names.1.before)
  falls k j h (Bridge frame live from) is (inl e) w = (let names = subst (IsSoundKind cycles count naming net rank k) is (sound.names k h) in subst (λ (i : ℕ). rank i < rank k) e names.2.before)
  falls k j h (Bridge frame live from) is (inr e) w =
      let names = subst (IsSoundKind cycles count naming net rank k) is (sound.names k h) in
      absurd (subst IsWire (ap (λ (i : ℕ). (net i).kind) (sym e) ∙ names.0.is) w)
  falls k j h (Counter frame) is n w = absurd n
  falls k j h (Reg frame slot first from) is n w = absurd n
  falls k j h (EnReg frame enable reset_too first from) is n w = absurd n
  falls k j h (Acc frame enable from) is n w = absurd n

  just-name : (x : List ℕ) (k : ℕ) → k < count → (value : Expr) → expression.Name (naming.net k) ≡ value → Contains (names_read value) x → naming.net k ≡ x
  just-name x k h value e c =
      let clean = name-clean (nets_of m) (λ (n : List ℕ). naming.net k ≡ n) (naming.net k) (net k).width (ap (λ (n : DeclaredNet). n.width) (has.declared k h)) refl in
      clean.reads x (subst (λ (v : Expr). Contains (names_read v) x) (sym e) c)

  -- an output port is read by no assignment
  output-unread : (o : NetPort) → Contains outputs o → (k : ℕ) → MayRead k o.name → k < count → ⊥
  output-unread o c k may h =
      let p = emitted.ports.outputs_are o c in
      elim may [
        | inl n ↦ emitted.names.no_net p.port p.there n.0 n.1 (p.name ∙ sym n.2)
        | inr q ↦ elim q [
          | inl e ↦ emitted.names.no_hold p.port p.there k h (p.name ∙ sym e)
          | inr i ↦ (let same : p.port ≡ i.0 = emitted.ports.differ p.port i.0 p.there i.1 (p.name ∙ sym i.3) in
              let a : true ≡ false = sym i.2 ∙ ap (λ (x : Port). x.input) (sym same) ∙ p.input in absurd (cc a))
        ]
      ]

  -- a name that is assigned and is read by an assignment is a wire's
  abbrev IsWireName : List ℕ → Type 0
  IsWireName name = (k : ℕ) × (k < count) × (naming.net k ≡ name) × IsWire (net k).kind

  wire-name : (x y z : List ℕ) → AssignmentReads m x y → AssignmentReads m y z → IsWireName y
  wire-name x y z a b = elim (assigned-where y b.value b.assigned) [
    | inl n ↦ (let f = n.2 in (n.0, n.1, f.is, f.wire))
    | inr o ↦ (let same : o.0.name ≡ y = cc (o.2) in
        elim (assigned-where x a.value a.assigned) [
          | inl n ↦ (let f = n.2 in absurd (output-unread o.0 o.1 n.0 (subst (MayRead n.0) (sym same) (f.reads y a.reads)) n.1))
          | inr q ↦ (let h = emitted.ports.there q.0 q.1 in
              let p = emitted.ports.outputs_are o.0 o.1 in
              let e = just-name y q.0.net h a.value (cc (q.2)) a.reads in
              absurd (emitted.names.no_net p.port p.there q.0.net h (p.name ∙ same ∙ sym e)))
        ])
  ]

  -- from a name to the one that its assignment reads the rank falls
  step-down : (x y z : List ℕ) (k : ℕ) → k < count → naming.net k ≡ x → AssignmentReads m x y → AssignmentReads m y z → (j : ℕ) × (j < count) × (naming.net j ≡ y) × (rank j < rank k)
  step-down x y z k h e a b =
      let w = wire-name x y z a b in
      elim (assigned-where x a.value a.assigned) [
        | inr o ↦ (let p = emitted.ports.outputs_are o.0 o.1 in
            let same : o.0.name ≡ x = cc (o.2) in
            absurd (emitted.names.no_net p.port p.there k h (p.name ∙ same ∙ sym e)))
        | inl n ↦ (let f = n.2 in
            let own : n.0 ≡ k = emitted.names.nets n.0 k n.1 h (f.is ∙ sym e) in
            elim (f.reads y a.reads) [
              | inl i ↦ (let j : i.0 ≡ w.0 = emitted.names.nets i.0 w.0 i.1 w.1 (i.2 ∙ sym w.2) in
                  let less : rank i.0 < rank n.0 = falls n.0 i.0 n.1 (net n.0).kind refl i.3 (subst (λ (t : ℕ). IsWire (net t).kind) (sym j) w.3) in
                  (i.0, i.1, i.2, subst (λ (t : ℕ). rank i.0 < rank t) own less))
              | inr q ↦ elim q [
                | inl t ↦ absurd (emitted.names.apart w.0 n.0 w.1 n.1 (w.2 ∙ sym t))
                | inr t ↦ absurd (emitted.names.no_net t.0 t.1 w.0 w.1 (t.3 ∙ sym w.2))
              ]
            ])
      ]

  module _ (first : List ℕ) (others : List (List ℕ)) (loop : IsLoop m first others) where
    abbrev n : ℕ
    n = length (first ∷ others)

    abbrev name : ℕ → List ℕ
    name i = slice_index_or (first ∷ others) i []

    some : 0 < n
    some = omega arith

    after : ℕ → ℕ
    after i = (i + 1) % n

    reads-at : (i : ℕ) → i < n → AssignmentReads m (name i) (name ((i + 1) % n))
    reads-at i h = loop.reads i h

    start : IsWireName (name 0)
    start =
        let last : n - 1 < n = omega arith in
        let around : (n - 1 + 1) % n ≡ 0 = ap (λ (i : ℕ). i % n) (let e : n - 1 + 1 ≡ n = omega arith in e) ∙ mod_self n in
        wire-name (name (n - 1)) (name 0) (name ((0 + 1) % n)) (subst (λ (i : ℕ). AssignmentReads m (name (n - 1)) (name i)) around (reads-at (n - 1) last)) (reads-at 0 some)

    descend : (i : ℕ) → i ≤ n → (k : ℕ) × (k < count) × (naming.net k ≡ name (i % n)) × (rank k + i ≤ rank start.0)
    descend zero h =
        let e : 0 % n ≡ 0 = mod-eq_of_lt some in
        (start.0, start.1, start.2 ∙ ap name (sym e), omega arith)
    descend (suc i) h =
        let here = descend i (omega (arith, h)) in
        let below : i < n = omega (arith, h) in
        let at : i % n ≡ i = mod-eq_of_lt below in
        let next : suc i % n ≡ (i + 1) % n = ap (λ (t : ℕ). t % n) (omega arith) in
        let r = step-down (name i) (name ((i + 1) % n)) (name (((i + 1) % n + 1) % n)) here.0 here.1 (here.2 ∙ ap name at) (reads-at i below)
        (reads-at ((i + 1) % n) (mod_below (i + 1) n some)) in
        (r.0, r.1, r.2 ∙ ap name (sym next), omega (arith, r.3, here.3))

    pub no-loop : ⊥
    no-loop =
        let all = descend n (omega arith) in
        let e : n % n ≡ 0 = mod_self n in
        let same : all.0 ≡ start.0 = emitted.names.nets all.0 start.0 all.1 start.1 (all.2 ∙ ap name e ∙ sym start.2) in
        let ranks : rank all.0 ≡ rank start.0 = ap rank same in
        omega (arith, all.3, ranks, some)
