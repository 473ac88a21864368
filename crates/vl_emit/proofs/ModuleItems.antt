-- The items of the module of a netlist: there are those of the nets and of the outputs, and no others.
use Rattle.std.proofs.Common.{◌≡◌, ◌⊎◌, inl, inr, ℕ, ◌^◌, ◌<◌, true, false, List, [], ◌∷◌, ◌++◌, codes, length, Contains, refl, ap, sym, ◌∙◌, subst}
use Rattle.vl_ast.specs.declared.modules.ModItem.{ModItem}
use Rattle.vl_ast.specs.Conditions.{item_name}
use Rattle.vl_ast.specs.Gated.{gated_item, shows_enable}
use Rattle.vl_ast.specs.Nets.{Drives, mentions, nets_of}
use Rattle.hw_net.specs.declared.netlist.NetLabel.{NetLabel}
use Rattle.hw_net.specs.declared.netlist.NetOp.TheVariants.{Multiply}
use Rattle.hw_net.specs.declared.netlist.NetKind.{NetKind}
use Rattle.hw_net.specs.declared.netlist.NetKind.TheVariants.{Comb, Reg, EnReg, Acc, Bridge, Unit, Counter}
use Rattle.hw_net.specs.Circuit.{Circuit}
use Rattle.hw_net.specs.Netlist.{IsNetlist}
use Rattle.std.proofs.lemmas.List.Elements.{Contains-append_left}
use Rattle.hw_net.specs.Emittable.{IsEmittable}
use Rattle.vl_emit.specs.Items.{IsBridge, IsItemOf, IsItemOfOutput, ItemsAre, NamesDiffer}
use Rattle.vl_emit.specs.Labelled.{LabelsAreNames, is_clocked}
use Rattle.vl_emit.specs.Names.{port_at, name_of, hold_name}
use Rattle.hw_net.specs.Products.{net_at, places}
use Rattle.vl_emit.specs.Shown.{NetsFit}
use Rattle.vl_emit.specs.inner.NetItems.{declarers, drivers, naming_of, module_of, items_of}
use Rattle.vl_emit.proofs.ModuleNets.{DrivenBy, driven-item, here, later, in-one, mapped, place-below, one-of, two-of}
use Rattle.vl_emit.proofs.Interfaces.{emitted, labelled}
use Rattle.vl_emit.proofs.Lists.{at-contains}
use Rattle.vl_ast.specs.Header.{bit_input}
use Rattle.vl_emit.specs.Header.{input_port, input_ports, output_ports}
use Rattle.vl_emit.proofs.NetItems.{hold_declarer, hold_driver}
use Rattle.vl_emit.proofs.EnablePorts.{IsGated, gated-name, gated-there, item-where, kept-net, net-differs}
use Rattle.vl_emit.proofs.Origins.{Origin, Declaring, Driving, Showing, origin, has}
use Rattle.vl_emit.proofs.Numbers.{declaration-there}
use Rattle.vl_emit.proofs.OfOperations.{width-at-least}
use Rattle.vl_emit.proofs.Sounds.{netlist-sound}
use Rattle.vl_ast.specs.Context.{Net as DeclaredNet}

module _ (netlist : Circuit) (runs : IsNetlist netlist) (emits : IsEmittable netlist) (few : length netlist.nets < 2 ^ 64) where
  abbrev Named : ℕ → NetKind → ModItem → Type 0
  Named k kind i = (item_name i ≡ name_of netlist k) ⊎ (IsBridge kind × (item_name i ≡ hold_name k))

  declarer-named : (k : ℕ) (kind : NetKind) (i : ModItem) → Contains (declarers (naming_of netlist) (net_at netlist.nets) k kind) i → Named k kind i
  declarer-named k (Comb op args) i c = one-of (Named k (Comb op args)) _ i (inl refl) c
  declarer-named k (Unit left right) i c = one-of (Named k (Unit left right)) _ i (inl refl) c
  declarer-named k (Counter frame) i c = one-of (Named k (Counter frame)) _ i (inl refl) c
  declarer-named k (Reg frame slot first from) i c = one-of (Named k (Reg frame slot first from)) _ i (inl refl) c
  declarer-named k (EnReg frame enable resets first from) i c = one-of (Named k (EnReg frame enable resets first from)) _ i (inl refl) c
  declarer-named k (Acc frame enable from) i c = one-of (Named k (Acc frame enable from)) _ i (inl refl) c
  declarer-named k (Bridge frame live from) i c =
      two-of (Named k (Bridge frame live from)) _ (hold_declarer netlist.cycles (length netlist.nets) (naming_of netlist) (net_at netlist.nets) netlist.outputs k) i (inl refl) (inr (tt, refl)) c

  driver-named : (k : ℕ) (kind : NetKind) (i : ModItem) → Contains (drivers netlist.cycles (naming_of netlist) (net_at netlist.nets) k kind) i → Named k kind i
  driver-named k (Comb op args) i c = one-of (Named k (Comb op args)) _ i (inl refl) c
  driver-named k (Unit left right) i c = one-of (Named k (Unit left right)) _ i (inl refl) c
  driver-named k (Counter frame) i c = one-of (Named k (Counter frame)) _ i (inl refl) c
  driver-named k (Reg frame slot first from) i c = one-of (Named k (Reg frame slot first from)) _ i (inl refl) c
  driver-named k (EnReg frame enable true first from) i c = one-of (Named k (EnReg frame enable true first from)) _ i (inl refl) c
  driver-named k (EnReg frame enable false first from) i c = one-of (Named k (EnReg frame enable false first from)) _ i (inl refl) c
  driver-named k (Acc frame enable from) i c = one-of (Named k (Acc frame enable from)) _ i (inl refl) c
  driver-named k (Bridge frame live from) i c =
      two-of (Named k (Bridge frame live from)) _ (hold_driver netlist.cycles (length netlist.nets) (naming_of netlist) (net_at netlist.nets) netlist.outputs k) i (inl refl) (inr (tt, refl)) c

  only-these : (i : ModItem) → Origin netlist runs emits few i → IsItemOf netlist i ⊎ (IsItemOfOutput netlist i ⊎ (i ≡ shows_enable))
  only-these i (Declaring k h c) = inl (record { net = k; there = h; name = declarer-named k (net_at netlist.nets k).kind i c })
  only-these i (Driving k h c) = inl (record { net = k; there = h; name = driver-named k (net_at netlist.nets k).kind i c })
  only-these i (Showing output c e) = inr (inl (record { output = output; there = c; name = sym (ap item_name e) }))

  abbrev IsKnown : ModItem → Type 0
  IsKnown i = IsItemOf netlist i ⊎ (IsItemOfOutput netlist i ⊎ (i ≡ shows_enable))

  shows-gated : (i : ModItem) → i ≡ shows_enable → gated_item i ≡ shows_enable
  shows-gated i e = ap gated_item e

  known-gated : (i : ModItem) → IsKnown i → IsKnown (gated_item i)
  known-gated i (inl a) = inl (record { net = a.net; there = a.there; name = named-so i a.net a.name }) where
    named-so : (i : ModItem) (k : ℕ) → Named k (net_at netlist.nets k).kind i → Named k (net_at netlist.nets k).kind (gated_item i)
    named-so i k (inl e) = inl (gated-name i ∙ e)
    named-so i k (inr b) = inr (b.0, gated-name i ∙ b.1)
  known-gated i (inr (inl a)) = inr (inl (record { output = a.output; there = a.there; name = gated-name i ∙ a.name }))
  known-gated i (inr (inr e)) = inr (inr (shows-gated i e))

  known-where : (i : ModItem) → IsGated netlist runs emits few i ⊎ (shows_enable ≡ i) → IsKnown i
  known-where i (inl g) = subst IsKnown g.is (known-gated g.was (only-these g.was (origin netlist runs emits few g.was g.there)))
  known-where i (inr e) = inr (inr (sym e))

  -- what declares a net is an item
  declared : (k : ℕ) → k < length netlist.nets → (kind : NetKind) → (net_at netlist.nets k).kind ≡ kind → (i : ModItem) → Contains (declarers (naming_of netlist) (net_at netlist.nets) k kind) i
      → Contains (items_of netlist) i
  declared k h kind is i c =
      Contains-append_left _ _ i
      (in-one (λ j. declarers (naming_of netlist) (net_at netlist.nets) j (net_at netlist.nets j).kind) (places (length netlist.nets)) k i (place-below (length netlist.nets) k h)
      (subst (λ (t : NetKind). Contains (declarers (naming_of netlist) (net_at netlist.nets) k t) i) (sym is) c))

  driven : (k : ℕ) → k < length netlist.nets → (kind : NetKind) → (net_at netlist.nets k).kind ≡ kind
      → (i : ModItem) → Contains (drivers netlist.cycles (naming_of netlist) (net_at netlist.nets) k kind) i
      → Contains (items_of netlist) i
  driven k h kind is i c =
      (has netlist runs emits few).items k h i
      (subst (λ (t : NetKind). Contains (drivers netlist.cycles (naming_of netlist) (net_at netlist.nets) k t) i) (sym is) c)

  pub items-are : ItemsAre netlist (module_of netlist)
  items-are = record {
    only = λ i c. known-where i (item-where netlist runs emits few i c);
    wires = λ k h op args is. gated-there netlist runs emits few _ (declared k h (Comb op args) is _ (here _ []));
    products = λ k h args is. record { left = _; right = _; there = gated-there netlist runs emits few _ (driven k h (Comb Multiply args) is _ (here _ [])) };
    units = λ k h left right is. record { left = _; right = _; there = gated-there netlist runs emits few _ (driven k h (Unit left right) is _ (here _ [])) };
    registers = λ k h frame slot first from is. record {
      signed = (net_at netlist.nets k).signed;
      width = (net_at netlist.nets k).width;
      first = _;
      condition = _;
      declared = gated-there netlist runs emits few _ (declared k h (Reg frame slot first from) is _ (here _ []));
      takes = gated-there netlist runs emits few _ (driven k h (Reg frame slot first from) is _ (here _ []));
    };
  }

  pub names-differ : NamesDiffer netlist
  names-differ = (let names = (emitted netlist runs emits few).names in
      record {
        nets = names.nets;
        holds = names.apart;
        enable = λ k h. net-differs netlist runs emits few (codes "clk_enable") refl k (name_of netlist k) (inl refl);
        inputs = λ k input h below e.
            names.no_net (input_port netlist (port_at netlist.inputs input))
            (later (bit_input (codes "clk")) _
            (bit_input (codes "reset") ∷ (input_ports netlist ++ output_ports netlist))
            (later (bit_input (codes "reset")) _ (input_ports netlist ++ output_ports netlist)
            (Contains-append_left (input_ports netlist) (output_ports netlist) _
            (mapped (input_port netlist) netlist.inputs (port_at netlist.inputs input)
            (at-contains netlist.inputs input _ below)))))
            k h (sym e);
      })

  pub nets-fit : NetsFit netlist (module_of netlist)
  nets-fit = record {
    fit = λ total start inputs rows run k below net h.
        let word = (netlist-sound netlist runs emits.counters).word net h in
        let some = width-at-least (net_at netlist.nets net).signed (net_at netlist.nets net).width word in
        let own = kept-net netlist runs emits few (name_of netlist net) (net_at netlist.nets net).width (net_at netlist.nets net).signed ((has netlist runs emits few).declared net h) some in
        let d = declaration-there (module_of netlist) (name_of netlist net) (net_at netlist.nets net).width (net_at netlist.nets net).signed own some in
        subst (λ (n : DeclaredNet). rows k (name_of netlist net) < 2 ^ n.width) d.net_is
        (subst (λ (name : List ℕ). rows k name < 2 ^ d.declared.net.width) d.name_is (run.fits k below d.declared d.there));
  }

  -- the item that drives the name of a net
  abbrev IsDriven : ℕ → NetKind → Type 0
  IsDriven k kind = Contains (mentions (module_of netlist)) (Drives (is_clocked kind) (name_of netlist k))

  mentioned : (k : ℕ) → k < length netlist.nets → (kind : NetKind) → (net_at netlist.nets k).kind ≡ kind
      → (i : ModItem) → Contains (drivers netlist.cycles (naming_of netlist) (net_at netlist.nets) k kind) i
      → DrivenBy (gated_item i) (Drives (is_clocked kind) (name_of netlist k)) → IsDriven k kind
  mentioned k h kind is i c e =
      driven-item (module_of netlist) (gated_item i) (Drives (is_clocked kind) (name_of netlist k)) (gated-there netlist runs emits few i (driven k h kind is i c)) e

  name-driven : (k : ℕ) → k < length netlist.nets → (kind : NetKind) → (net_at netlist.nets k).kind ≡ kind → IsDriven k kind
  name-driven k h (Comb op args) is = mentioned k h (Comb op args) is _ (here _ []) refl
  name-driven k h (Unit left right) is = mentioned k h (Unit left right) is _ (here _ []) refl
  name-driven k h (Counter frame) is = mentioned k h (Counter frame) is _ (here _ []) refl
  name-driven k h (Reg frame slot first from) is = mentioned k h (Reg frame slot first from) is _ (here _ []) refl
  name-driven k h (EnReg frame enable true first from) is = mentioned k h (EnReg frame enable true first from) is _ (here _ []) refl
  name-driven k h (EnReg frame enable false first from) is = mentioned k h (EnReg frame enable false first from) is _ (here _ []) refl
  name-driven k h (Acc frame enable from) is = mentioned k h (Acc frame enable from) is _ (here _ []) refl
  name-driven k h (Bridge frame live from) is =
      mentioned k h (Bridge frame live from) is _ (here _ (hold_driver netlist.cycles (length netlist.nets) (naming_of netlist) (net_at netlist.nets) netlist.outputs k ∷ [])) refl

  label-name : (label : NetLabel) → Contains netlist.labels label → name_of netlist label.net ≡ label.name
  label-name label c = labelled (length netlist.nets) few netlist.labels emits.labels label c

  pub labels-are : LabelsAreNames netlist (module_of netlist)
  labels-are = record {
    are = label-name;
    declared = λ label c.
        let h = emits.labels.there label c in
        let word = (netlist-sound netlist runs emits.counters).word label.net h in
        let own = kept-net netlist runs emits few (name_of netlist label.net) (net_at netlist.nets label.net).width
        (net_at netlist.nets label.net).signed ((has netlist runs emits few).declared label.net h)
        (width-at-least (net_at netlist.nets label.net).signed (net_at netlist.nets label.net).width word) in
        subst (λ (name : List ℕ). nets_of (module_of netlist) name
        ≡ record {
          width = (net_at netlist.nets label.net).width;
          signed =
              (net_at netlist.nets label.net).signed;
        }) (label-name label c) own;
    driven = λ label c.
        subst (λ (name : List ℕ). Contains (mentions (module_of netlist)) (Drives (is_clocked (net_at netlist.nets label.net).kind) name)) (label-name label c)
        (name-driven label.net (emits.labels.there label c) (net_at netlist.nets label.net).kind refl);
  }
