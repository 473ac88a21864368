-- Where an item of the module of a netlist comes from, and what it reads.
use Rattle.std.proofs.Common.{◌≡◌, ◌⊎◌, inl, inr, ℕ, ◌^◌, ◌<◌, true, false, List, [], ◌∷◌, ◌++◌, map, flat_map, length, get_or, Contains, Option, ℤ, refl, ap, sym, ◌∙◌, subst, arith}
use Rattle.std.specs.Prelude.{unwrap_or, ⊤}
use Rattle.std.proofs.lemmas.List.Elements.{Contains-append_right, Contains-append_cases}
use Rattle.vl_ast.specs.declared.expressions.Sized.{Sized}
use Rattle.vl_ast.specs.declared.expressions.Expr.{Expr}
use Rattle.vl_ast.specs.declared.expressions.Expr.TheVariants as expression
use Rattle.vl_ast.specs.declared.modules.ModItem.{ModItem}
use Rattle.vl_ast.specs.declared.modules.ModItem.TheVariants as item
use Rattle.vl_ast.specs.Context.{Net as DeclaredNet}
use Rattle.vl_ast.specs.Conditions.{item_name}
use Rattle.vl_ast.specs.Nets.{nets_of}
use Rattle.hw_net.specs.declared.netlist.Frame.{Frame}
use Rattle.hw_net.specs.declared.netlist.NetPort.{NetPort}
use Rattle.hw_net.specs.declared.netlist.NetOp.{NetOp}
use Rattle.hw_net.specs.declared.netlist.NetOp.TheVariants.{Input}
use Rattle.hw_net.specs.declared.netlist.NetKind.{NetKind}
use Rattle.hw_net.specs.declared.netlist.NetKind.TheVariants.{Comb, Reg, EnReg, Acc, Bridge, Unit, Counter}
use Rattle.hw_net.specs.Circuit.{Circuit}
use Rattle.hw_net.specs.Frames.{counter_of}
use Rattle.hw_net.specs.Netlist.{IsNetlist}
use Rattle.hw_net.specs.Operation.{arity}
use Rattle.hw_net.specs.Emittable.{IsEmittable}
use Rattle.vl_emit.specs.Names.{name_of, hold_name, input_wire}
use Rattle.hw_net.specs.Products.{net_at, places}
use Rattle.vl_emit.specs.Reads.{item_reads, IsNamed, IsCounterName, MayRead}
use Rattle.vl_emit.specs.inner.Clean.{IsCleanItem}
use Rattle.vl_emit.specs.inner.NetItems.{drivers, declarers, unit_drivers, other_drivers, output_item, naming_of, plain_module, items_of}
use Rattle.vl_emit.specs.inner.Ready.{IsReady, IsTimed}
use Rattle.vl_emit.specs.inner.Sound.{IsSound, HasNets, IsEmitted, NamedBy}
use Rattle.vl_emit.proofs.Sections.{Parts, parts_of}
use Rattle.vl_emit.proofs.CleanForms.{name-clean}
use Rattle.vl_emit.proofs.Drivers.{multiplies, drivers-clean}
use Rattle.vl_emit.proofs.ModuleNets.{no-element, first-or-later, here, later, of-one, of-mapped, below-place, one-of, two-of}
use Rattle.vl_emit.proofs.Interfaces.{emitted}
use Rattle.vl_emit.proofs.Lists.{at-contains, same-element}
use Rattle.vl_emit.proofs.NetItems.{units-drive, others-drive, hold_driver, hold_declarer, has-nets}
use Rattle.vl_emit.proofs.Ports.{named-net}
use Rattle.vl_emit.proofs.Sounds.{netlist-sound, netlist-ready}

module _ (netlist : Circuit) (runs : IsNetlist netlist) (emits : IsEmittable netlist) (few : length netlist.nets < 2 ^ 64) where
  abbrev parts : Parts
  parts = parts_of netlist

  open parts use {cycles, count, net, naming}

  abbrev is_emitted : IsEmitted netlist.cycles (length netlist.nets) (naming_of netlist) (net_at netlist.nets) netlist.outputs (plain_module netlist)
  is_emitted = emitted netlist runs emits few

  abbrev is_sound : IsSound netlist.cycles (length netlist.nets) (naming_of netlist) (net_at netlist.nets) runs.ranked.0
  is_sound = netlist-sound netlist runs emits.counters

  pub has : HasNets netlist.cycles (length netlist.nets) (naming_of netlist) (net_at netlist.nets) (plain_module netlist)
  has = has-nets netlist.cycles (length netlist.nets) (naming_of netlist) (net_at netlist.nets) netlist.outputs (plain_module netlist) refl (is_emitted.names)

  -- an item declares a net, drives one, or shows an output
  pub data Origin (i : ModItem) : Type 0 where
    Declaring : (k : ℕ) → k < length netlist.nets → Contains (declarers (naming_of netlist) (net_at netlist.nets) k (net_at netlist.nets k).kind) i → Origin i
    Driving : (k : ℕ) → k < length netlist.nets → Contains (drivers netlist.cycles (naming_of netlist) (net_at netlist.nets) k (net_at netlist.nets k).kind) i → Origin i
    Showing : (output : NetPort) → Contains netlist.outputs output → output_item (naming_of netlist) output ≡ i → Origin i

  pub origin : (i : ModItem) → Contains (items_of netlist) i → Origin i
  origin i c =
      let declaring : List ModItem = flat_map (λ k. declarers naming net k (net k).kind) (places count) in
      let units : List ModItem = flat_map (λ k. unit_drivers cycles naming net k (net k).kind) (places count) in
      let others : List ModItem = flat_map (λ k. other_drivers cycles naming net k (net k).kind) (places count) in
      elim (Contains-append_cases declaring (units ++ (others ++ map (output_item naming) netlist.outputs)) i c) [
        | inl a ↦ (let r = of-one (λ k. declarers naming net k (net k).kind) (places count) i a in Declaring r.0 (below-place count r.0 r.1) r.2)
        | inr a ↦ elim (Contains-append_cases units (others ++ map (output_item naming) netlist.outputs) i a) [
          | inl b ↦ (let r = of-one (λ k. unit_drivers cycles naming net k (net k).kind) (places count) i b in
              Driving r.0 (below-place count r.0 r.1) (units-drive cycles count naming net netlist.outputs r.0 (net r.0).kind i r.2))
          | inr b ↦ elim (Contains-append_cases others (map (output_item naming) netlist.outputs) i b) [
            | inl e ↦ (let r = of-one (λ k. other_drivers cycles naming net k (net k).kind) (places count) i e in
                Driving r.0 (below-place count r.0 r.1) (others-drive cycles count naming net netlist.outputs r.0 (net r.0).kind i r.2))
            | inr e ↦ (let r = of-mapped (output_item naming) netlist.outputs i e in Showing r.0 r.1 r.2)
          ]
        ]
      ]

  abbrev IsOf : ℕ → List ℕ → Type 0
  IsOf k name = (name ≡ name_of netlist k) ⊎ (name ≡ hold_name k)

  -- a declaration reads nothing, and is of its net
  abbrev Declares : ℕ → ModItem → Type 0
  Declares k i = IsOf k (item_name i) × (item_reads i ≡ [])

  pub declarer-of : (k : ℕ) (kind : NetKind) (i : ModItem) → Contains (declarers (naming_of netlist) (net_at netlist.nets) k kind) i → Declares k i
  declarer-of k (Comb op args) i c = one-of (Declares k) _ i (inl refl, refl) c
  declarer-of k (Unit left right) i c = one-of (Declares k) _ i (inl refl, refl) c
  declarer-of k (Counter frame) i c = one-of (Declares k) _ i (inl refl, refl) c
  declarer-of k (Reg frame slot first from) i c = one-of (Declares k) _ i (inl refl, refl) c
  declarer-of k (EnReg frame enable resets first from) i c = one-of (Declares k) _ i (inl refl, refl) c
  declarer-of k (Acc frame enable from) i c = one-of (Declares k) _ i (inl refl, refl) c
  declarer-of k (Bridge frame live from) i c = two-of (Declares k) _ (hold_declarer cycles count naming net netlist.outputs k) i (inl refl, refl) (inr refl, refl) c

  abbrev Drives : ℕ → ModItem → Type 0
  Drives k i = IsOf k (item_name i)

  pub driver-of : (k : ℕ) (kind : NetKind) (i : ModItem)
      → Contains (drivers netlist.cycles (naming_of netlist) (net_at netlist.nets) k kind) i
      → (item_name i ≡ name_of netlist k) ⊎ (item_name i ≡ hold_name k)
  driver-of k (Comb op args) i c = one-of (Drives k) _ i (inl refl) c
  driver-of k (Unit left right) i c = one-of (Drives k) _ i (inl refl) c
  driver-of k (Counter frame) i c = one-of (Drives k) _ i (inl refl) c
  driver-of k (Reg frame slot first from) i c = one-of (Drives k) _ i (inl refl) c
  driver-of k (EnReg frame enable true first from) i c = one-of (Drives k) _ i (inl refl) c
  driver-of k (EnReg frame enable false first from) i c = one-of (Drives k) _ i (inl refl) c
  driver-of k (Acc frame enable from) i c = one-of (Drives k) _ i (inl refl) c
  driver-of k (Bridge frame live from) i c = two-of (Drives k) _ (hold_driver cycles count naming net netlist.outputs k) i (inl refl) (inr refl) c

  same-net : (j k : ℕ) → j < length netlist.nets → k < length netlist.nets → (name : List ℕ) → IsOf j name → IsOf k name → j ≡ k
  same-net j k p q name (inl e) (inl f) = is_emitted.names.nets j k p q (sym e ∙ f)
  same-net j k p q name (inl e) (inr f) = absurd (is_emitted.names.apart j k p q (sym e ∙ f))
  same-net j k p q name (inr e) (inl f) = absurd (is_emitted.names.apart k j q p (sym f ∙ e))
  same-net j k p q name (inr e) (inr f) = is_emitted.names.holds j k p q (sym e ∙ f)

  -- an output's name is no net's
  no-output : (output : NetPort) → Contains netlist.outputs output → (k : ℕ) → k < length netlist.nets → IsOf k output.name → ⊥
  no-output output c k h (inl e) = (let p = is_emitted.ports.outputs_are output c in is_emitted.names.no_net p.port p.there k h (p.name ∙ e))
  no-output output c k h (inr e) = (let p = is_emitted.ports.outputs_are output c in is_emitted.names.no_hold p.port p.there k h (p.name ∙ e))

  -- the drivers of a net read allowed names, where what it names is allowed
  module _ (allowed : List ℕ → Type 0) (k : ℕ) (h : k < length netlist.nets)
      (named : (j : ℕ) → j < length netlist.nets → NamedBy (naming_of netlist) k (net_at netlist.nets k).kind j → allowed (name_of netlist j))
      (held : (frame : Frame) (live from : ℕ) → (net_at netlist.nets k).kind ≡ Bridge frame live from → allowed (hold_name k))
      (input : (port : ℕ) (args : List ℕ) → (net_at netlist.nets k).kind ≡ Comb (Input port) args → allowed (input_wire netlist port).name) where
    pub driver-clean : (i : ModItem) → Contains (drivers netlist.cycles (naming_of netlist) (net_at netlist.nets) k (net_at netlist.nets k).kind) i
        → IsCleanItem (nets_of (plain_module netlist)) allowed (multiplies (net_at netlist.nets k).kind) i
    driver-clean i c =
        drivers-clean (nets_of (plain_module netlist)) allowed cycles count naming net runs.ranked.0 is_sound k h
        (λ j below n. record { declared = has.declared j below; word = is_sound.word j below; may = named j below n })
        (λ frame live from is. name-clean (nets_of (plain_module netlist)) allowed (naming.hold k) (net k).width
        (ap (λ (n : DeclaredNet). n.width) (has.held k h frame live from is)) (held frame live from is))
        (λ place args is. (let p = is_emitted.ports.inputs k place args h is in
        record {
          declared = named-net cycles count naming net runs.ranked.0 netlist.outputs (plain_module netlist) is_sound is_emitted true (naming.port place) p;
          word = is_emitted.ports.words k place args h is;
          may = input place args is;
        }))
        (net k).kind refl i c

  -- what a net's items may read
  counter-name : (frame : Frame) → IsTimed netlist frame → (j : ℕ) → unwrap_or (counter_of netlist.nets frame) 0 ≡ j → IsCounterName netlist frame (name_of netlist j)
  counter-name frame t j e =
      let same : t.number ≡ j = sym (ap (λ (o : Option ℕ). unwrap_or o 0) t.counter) ∙ e in
      record { net = t.number; counter = t.counter; is = ap (name_of netlist) (sym same) }

  arg-named : (op : NetOp) (args : List ℕ) → length args ≡ arity op → (place j : ℕ) → place < arity op → get_or args place 0 ≡ j → IsNamed netlist (Comb op args) (name_of netlist j)
  arg-named op args e place j below is =
      let less : place < length args = omega (arith, e, below) in
      record { net = j; named = subst (Contains args) is (at-contains args place 0 less); is = refl }

  may-read : (k : ℕ) (kind : NetKind) → IsReady netlist kind → (j : ℕ) → NamedBy (naming_of netlist) k kind j → MayRead netlist k kind (name_of netlist j)
  may-read k (Comb op args) ready j (place, below, is) = inl (arg-named op args ready.0 place j below is)
  may-read k (Unit left right) ready j (inl e) = record { net = j; named = subst (Contains (left ∷ right ∷ [])) e (here left (right ∷ [])); is = refl }
  may-read k (Unit left right) ready j (inr e) = record { net = j; named = subst (Contains (left ∷ right ∷ [])) e (later left right (right ∷ []) (here right [])); is = refl }
  may-read k (Counter frame) ready j e = ap (name_of netlist) (sym e)
  may-read k (Reg frame slot first from) ready j (inl e) = inl (record { net = j; named = subst (Contains (from ∷ [])) e (here from []); is = refl })
  may-read k (Reg frame slot first from) ready j (inr e) = inr (counter-name frame ready.0 j e)
  may-read k (EnReg frame enable resets first from) ready j (inl e) =
      inl (record {
        net = j;
        named = subst (Contains (enable ∷ from ∷ [])) e
            (later enable from (from ∷ []) (here from []));
        is = refl;
      })
  may-read k (EnReg frame enable resets first from) ready j (inr (inl e)) = inr (counter-name frame ready.0 j e)
  may-read k (EnReg frame enable resets first from) ready j (inr (inr e)) = inl (record { net = j; named = subst (Contains (enable ∷ from ∷ [])) e (here enable (from ∷ [])); is = refl })
  may-read k (Acc frame enable from) ready j (inl e) =
      inl (record {
        net = j;
        named = subst (Contains (enable ∷ from ∷ [])) e
            (later enable from (from ∷ []) (here from []));
        is = refl;
      })
  may-read k (Acc frame enable from) ready j (inr (inl e)) = inr (inl (counter-name frame ready.0 j e))
  may-read k (Acc frame enable from) ready j (inr (inr (inl e))) = inl (record { net = j; named = subst (Contains (enable ∷ from ∷ [])) e (here enable (from ∷ [])); is = refl })
  may-read k (Acc frame enable from) ready j (inr (inr (inr e))) = inr (inr (ap (name_of netlist) (sym e)))
  may-read k (Bridge frame live from) ready j (inl e) = inl (record { net = j; named = subst (Contains (from ∷ [])) e (here from []); is = refl })
  may-read k (Bridge frame live from) ready j (inr (inl e)) = inr (inl (counter-name frame ready.0 j e))
  may-read k (Bridge frame live from) ready j (inr (inr e)) = inr (inr (inl (ap (name_of netlist) (sym e))))

  may-hold : (k : ℕ) (kind : NetKind) (frame : Frame) (live from : ℕ) → kind ≡ Bridge frame live from → MayRead netlist k kind (hold_name k)
  may-hold k kind frame live from e = subst (λ (t : NetKind). MayRead netlist k t (hold_name k)) (sym e) (inr (inr (inr refl)))

  may-input : (k : ℕ) (kind : NetKind) (port : ℕ) (args : List ℕ) → kind ≡ Comb (Input port) args → MayRead netlist k kind (input_wire netlist port).name
  may-input k kind port args e = subst (λ (t : NetKind). MayRead netlist k t (input_wire netlist port).name) (sym e) (inr (port, refl, refl))

  pub reads-of : (k : ℕ) → k < length netlist.nets → (i : ModItem) → Origin i → IsOf k (item_name i)
      → (read : List ℕ) → Contains (item_reads i) read → MayRead netlist k (net_at netlist.nets k).kind read
  reads-of k h i (Declaring j p c) of read r =
      let d = declarer-of j (net j).kind i c in absurd (no-element read (subst (λ (l : List (List ℕ)). Contains l read) d.1 r))
  reads-of k h i (Driving j p c) of read r =
      let same : j ≡ k = same-net j k p h (item_name i) (driver-of j (net j).kind i c) of in
      let c2 = subst (λ (n : ℕ). Contains (drivers netlist.cycles (naming_of netlist) (net_at netlist.nets) n (net_at netlist.nets n).kind) i) same c in
      let ready = (netlist-ready netlist runs emits.counters).kinds k h in
      (driver-clean (MayRead netlist k (net k).kind) k h (λ j below n. may-read k (net k).kind ready j n) (λ frame live from e. may-hold k (net k).kind frame live from e)
      (λ port args e. may-input k (net k).kind port args e) i c2).reads read r
  reads-of k h i (Showing output c e) of read r = absurd (no-output output c k h (subst (λ (x : ModItem). IsOf k (item_name x)) (sym e) of))

  abbrev IsDeclaration : ModItem → Type 0
  IsDeclaration (item.Wire signed width name) = ⊤
  IsDeclaration (item.Reg signed width name) = ⊤
  IsDeclaration (item.Assign name value) = ⊥
  IsDeclaration (item.Always name first condition value) = ⊥

  -- the value of a register
  pub register-by : (k from : ℕ) (name : List ℕ) (first : Sized) (condition : Option Expr) (value : Expr) → name ≡ name_of netlist k → k < length netlist.nets → (frame : Frame) (slot : ℕ) (start : ℤ)
      → (net_at netlist.nets k).kind ≡ Reg frame slot start from → Origin (item.Always name first condition value) → value ≡ expression.Name (name_of netlist from)
  register-by k from name first condition value same h frame slot start is (Declaring j p c) = absurd (not-always j (net j).kind c) where
    not-always : (j : ℕ) (kind : NetKind) → Contains (declarers (naming_of netlist) (net_at netlist.nets) j kind) (item.Always name first condition value) → ⊥
    not-always j (Comb op args) c = one-of IsDeclaration _ _ tt c
    not-always j (Unit left right) c = one-of IsDeclaration _ _ tt c
    not-always j (Counter frame) c = one-of IsDeclaration _ _ tt c
    not-always j (Reg frame slot first from) c = one-of IsDeclaration _ _ tt c
    not-always j (EnReg frame enable resets first from) c = one-of IsDeclaration _ _ tt c
    not-always j (Acc frame enable from) c = one-of IsDeclaration _ _ tt c
    not-always j (Bridge frame live from) c = two-of IsDeclaration _ (hold_declarer cycles count naming net netlist.outputs j) _ tt tt c
  register-by k from name first condition value same h frame slot start is (Driving j p c) =
      let own : j ≡ k = same-net j k p h name (driver-of j (net j).kind (item.Always name first condition value) c) (inl same) in
      let c2 = subst (λ (n : ℕ). Contains (drivers netlist.cycles (naming_of netlist) (net_at netlist.nets) n (net_at netlist.nets n).kind) (item.Always name first condition value)) own c in
      let c3 = subst (λ (t : NetKind). Contains (drivers netlist.cycles (naming_of netlist) (net_at netlist.nets) k t) (item.Always name first condition value)) is c2 in
      elim (first-or-later _ (item.Always name first condition value) [] c3) [
        | inl e ↦ sym (cc e)
        | inr after ↦ absurd (no-element _ after)
      ]
  register-by k from name first condition value same h frame slot start is (Showing output c e) = absurd (cc e)

  pub output-by : (output : NetPort) → Contains netlist.outputs output → (i : ModItem) → Origin i → item_name i ≡ output.name → i ≡ output_item (naming_of netlist) output
  output-by output c i (Declaring j p d) e = absurd (no-output output c j p (subst (IsOf j) e (declarer-of j (net j).kind i d).0))
  output-by output c i (Driving j p d) e = absurd (no-output output c j p (subst (IsOf j) e (driver-of j (net j).kind i d)))
  output-by output c i (Showing other d f) e =
      let names : other.name ≡ output.name = ap item_name f ∙ e in
      let same : other ≡ output = same-element (λ (p : NetPort). p.name) (netlist.inputs ++ netlist.outputs) emits.ports.differ other output
      (Contains-append_right netlist.inputs netlist.outputs other d) (Contains-append_right netlist.inputs netlist.outputs output c) names in
      sym f ∙ ap (output_item naming) same
