-- The module of a netlist is its plain module with the ports of the clock enable, where no register takes
-- its value without it.
use Rattle.std.proofs.Common.{◌≡◌, ◌≢◌, ◌⊎◌, inl, inr, ℕ, ◌^◌, ◌<◌, ◌≤◌, Bool, true, false, List, [], ◌∷◌, ◌++◌, map, flat_map, length, get_or, Contains, codes, refl, sym, ap, subst, ◌∙◌, arith}
use Rattle.std.proofs.lemmas.List.{append_assoc, map-append}
use Rattle.std.proofs.lemmas.List.Elements.{Contains-append_left, Contains-append_right, Contains-append_cases}
use Rattle.vl_ast.specs.declared.modules.ModItem.{ModItem}
use Rattle.vl_ast.specs.declared.modules.ModItem.TheVariants as item
use Rattle.vl_ast.specs.declared.modules.Port.{Port}
use Rattle.vl_ast.specs.Conditions.{BreaksNone, IsAcyclic, item_name}
use Rattle.vl_ast.specs.Context.{Net as DeclaredNet}
use Rattle.vl_ast.specs.Control.{is_stallable}
use Rattle.vl_ast.specs.Gated.{IsFresh, IsOpened, HasAllOf, gated_item, shows_enable}
use Rattle.vl_ast.specs.Header.{bit_output, bit_input}
use Rattle.vl_ast.specs.Stalls.{KeepsBits}
use Rattle.vl_ast.specs.Nets.{Declared, declarations, nets_of, port_declared}
use Rattle.vl_ast.specs.Runs.{Row, Rows, Runs}
use Rattle.vl_ast.proofs.Facts.{listed-mention}
use Rattle.vl_ast.proofs.Gates.{gated-keeps, gated-nets, gated-runs}
use Rattle.vl_ast.proofs.GatesSound.{enable-net, gated-breaks-none}
use Rattle.vl_ast.proofs.Layers.{value_by_layer}
use Rattle.vl_ast.proofs.ClockEnable.{opened-acyclic, opened-has}
use Rattle.vl_ast.proofs.ClockEnableRuns.{opened-stallable}
use Rattle.vl_ast.proofs.ClockEnableSound.{opened-breaks-none}
use Rattle.vl_ast.proofs.Parts.{part-runs}
use Rattle.vl_ast.proofs.OneRun.{net-is}
use Rattle.hw_net.specs.declared.netlist.NetPort.{NetPort}
use Rattle.hw_net.specs.declared.netlist.NetKind.{NetKind}
use Rattle.hw_net.specs.declared.netlist.NetKind.TheVariants.{Comb}
use Rattle.hw_net.specs.Circuit.{Circuit}
use Rattle.hw_net.specs.Netlist.{IsNetlist}
use Rattle.hw_net.specs.Emittable.{IsEmittable}
use Rattle.vl_emit.specs.Header.{input_ports, output_ports, HasHeader}
use Rattle.vl_emit.specs.Names.{name_of, hold_name}
use Rattle.hw_net.specs.Products.{places, net_at}
use Rattle.vl_emit.specs.inner.NetItems.{declarers_at, units_at, others_at, first_declared, first_units, first_gated, naming_of, output_item, items_of, plain_module, opened_module, module_of}
use Rattle.vl_emit.proofs.Clocks.{breaks-none}
use Rattle.vl_emit.proofs.ModuleNets.{declared-where, declared-item, declared-port, DeclaredBy, of-mapped, mapped, here, later, no-element, first-or-later}
use Rattle.vl_emit.proofs.Interfaces.{Origin as PortOrigin, OfClock, OfReset, OfInput, OfOutput, port-where, name-begins}
use Rattle.vl_emit.proofs.Lists.{flat_map-same}
use Rattle.vl_emit.proofs.Numbers.{declaration-there}
use Rattle.vl_emit.proofs.Origins.{Origin, Declaring, Driving, Showing, origin, declarer-of, driver-of}

-- ---- the items

map-each : (g : ModItem → ModItem) (f : ℕ → List ModItem) (xs : List ℕ) → map g (flat_map f xs) ≡ flat_map (λ k. map g (f k)) xs
map-each g f [] = refl
map-each g f (x ∷ xs) = map-append g (f x) (flat_map f xs) ∙ ap (λ ys. map g (f x) ++ ys) (map-each g f xs)

declarer-kept : (netlist : Circuit) (k : ℕ) (kind : NetKind) → map gated_item (declarers_at netlist k kind) ≡ declarers_at netlist k kind
declarer-kept netlist k (Comb op args) = refl
declarer-kept netlist k _ = refl

unit-kept : (netlist : Circuit) (k : ℕ) (kind : NetKind) → map gated_item (units_at netlist k kind) ≡ units_at netlist k kind
unit-kept netlist k (Comb op args) = refl
unit-kept netlist k _ = refl

shown-kept : (netlist : Circuit) (outputs : List NetPort) → map gated_item (map (output_item (naming_of netlist)) outputs) ≡ map (output_item (naming_of netlist)) outputs
shown-kept netlist [] = refl
shown-kept netlist (output ∷ outputs) = ap (λ is. output_item (naming_of netlist) output ∷ is) (shown-kept netlist outputs)

-- the items of the module as they are put one behind the other
pub gated-items : (netlist : Circuit) → map gated_item (items_of netlist ++ shows_enable ∷ [])
    ≡ first_declared netlist (length netlist.nets) ++ (first_units netlist (length netlist.nets) ++ (first_gated netlist (length netlist.nets)
    ++ (map (output_item (naming_of netlist)) netlist.outputs ++ shows_enable ∷ [])))
gated-items netlist =
    let n : ℕ = length netlist.nets in
    let d : List ModItem = first_declared netlist n in
    let u : List ModItem = first_units netlist n in
    let o : List ModItem = flat_map (λ k. others_at netlist k (net_at netlist.nets k).kind) (places n) in
    let s : List ModItem = map (output_item (naming_of netlist)) netlist.outputs in
    let declared : map gated_item d ≡ d =
    map-each gated_item (λ k. declarers_at netlist k (net_at netlist.nets k).kind) (places n)
    ∙ flat_map-same (λ k. map gated_item (declarers_at netlist k (net_at netlist.nets k).kind))
    (λ k. declarers_at netlist k (net_at netlist.nets k).kind)
    (λ k. declarer-kept netlist k (net_at netlist.nets k).kind) (places n) in
    let units : map gated_item u ≡ u =
    map-each gated_item (λ k. units_at netlist k (net_at netlist.nets k).kind) (places n)
    ∙ flat_map-same (λ k. map gated_item (units_at netlist k (net_at netlist.nets k).kind))
    (λ k. units_at netlist k (net_at netlist.nets k).kind)
    (λ k. unit-kept netlist k (net_at netlist.nets k).kind) (places n) in
    let others : map gated_item o ≡ first_gated netlist n = map-each gated_item (λ k. others_at netlist k (net_at netlist.nets k).kind) (places n) in
    let shown : map gated_item s ≡ s = shown-kept netlist netlist.outputs in
    map-append gated_item (d ++ (u ++ (o ++ s))) (shows_enable ∷ [])
    ∙ ap (λ is. is ++ shows_enable ∷ []) (map-append gated_item d (u ++ (o ++ s))
    ∙ (λ i. declared i ++ (map-append gated_item u (o ++ s)
    ∙ (λ j. units j ++ (map-append gated_item o s ∙ (λ k. others k ++ shown k)) j)) i))
    ∙ append_assoc d (u ++ (first_gated netlist n ++ s)) (shows_enable ∷ [])
    ∙ ap (λ is. d ++ is) (append_assoc u (first_gated netlist n ++ s) (shows_enable ∷ []) ∙ ap (λ is. u ++ is) (append_assoc (first_gated netlist n) s (shows_enable ∷ [])))

-- a gated item has its name
pub gated-name : (i : ModItem) → item_name (gated_item i) ≡ item_name i
gated-name (item.Wire signed width name) = refl
gated-name (item.Reg signed width name) = refl
gated-name (item.Assign name value) = refl
gated-name (item.Always name first condition value) = refl

-- ---- the names

own-name : (name rest other : List ℕ) → name ≡ codes "fx_" ++ rest → get_or other 0 0 ≡ 99 → name ≢ other
own-name name rest other e f same = let g : 102 ≡ 99 = ap (λ (n : List ℕ). get_or n 0 0) (sym e ∙ same) ∙ f in omega (arith, g)

module _ (netlist : Circuit) (runs : IsNetlist netlist) (emits : IsEmittable netlist) (few : length netlist.nets < 2 ^ 64) where
  abbrev pub IsOf : ℕ → List ℕ → Type 0
  IsOf k name = (name ≡ name_of netlist k) ⊎ (name ≡ hold_name k)

  -- the name of a net, or of what a bridge holds, is none that begins with a c
  pub net-differs : (other : List ℕ) → get_or other 0 0 ≡ 99 → (k : ℕ) (name : List ℕ) → IsOf k name → name ≢ other
  net-differs other begins k name (inl e) = (let b = name-begins (length netlist.nets) few netlist.labels emits.labels k in own-name name b.0 other (e ∙ b.1) begins)
  net-differs other begins k name (inr e) = (λ same. let g : 102 ≡ 99 = ap (λ (n : List ℕ). get_or n 0 0) (sym e ∙ same) ∙ begins in omega (arith, g))

  module _ (other : List ℕ) (begins : get_or other 0 0 ≡ 99) (clk : codes "clk" ≢ other) (port-new : (x : NetPort) → Contains (netlist.inputs ++ netlist.outputs) x → x.name ≢ other) where
    port-differs : (port : Port) → PortOrigin netlist runs emits port → port.name ≢ other
    port-differs port (OfClock e) same = clk (ap (λ (p : Port). p.name) e ∙ same)
    port-differs port (OfReset e) same = (let g : 114 ≡ 99 = ap (λ (n : List ℕ). get_or n 0 0) (ap (λ (p : Port). p.name) e ∙ same) ∙ begins in omega (arith, g))
    port-differs port (OfInput x c e) same = port-new x (Contains-append_left netlist.inputs netlist.outputs x c) (ap (λ (p : Port). p.name) e ∙ same)
    port-differs port (OfOutput x c e) same = port-new x (Contains-append_right netlist.inputs netlist.outputs x c) (ap (λ (p : Port). p.name) e ∙ same)

    named-by : (i : ModItem) (d : Declared) → DeclaredBy i d → item_name i ≡ d.name
    named-by (item.Wire signed width name) d e = ap (λ (x : Declared). x.name) e
    named-by (item.Reg signed width name) d e = ap (λ (x : Declared). x.name) e
    named-by (item.Assign name value) d e = absurd e
    named-by (item.Always name first condition value) d e = absurd e

    item-differs : (i : ModItem) (d : Declared) → Origin netlist runs emits few i → DeclaredBy i d → d.name ≢ other
    item-differs i d (Declaring k h c) by same =
        net-differs other begins k (item_name i) (declarer-of netlist runs emits few k (net_at netlist.nets k).kind i c).0 (named-by i d by ∙ same)
    item-differs i d (Driving k h c) by same =
        net-differs other begins k (item_name i) (driver-of netlist runs emits few k (net_at netlist.nets k).kind i c) (named-by i d by ∙ same)
    item-differs i d (Showing output c e) by same = subst (λ (j : ModItem). DeclaredBy j d) (sym e) by

    declared-differs : (d : Declared) → Contains (declarations (plain_module netlist)) d → d.name ≢ other
    declared-differs d c same = elim (declared-where (plain_module netlist) d c) [
      | inl p ↦ port-differs p.0 (port-where netlist runs emits p.0 p.1) (ap (λ (x : Declared). x.name) p.2 ∙ same)
      | inr i ↦ item-differs i.0 d (origin netlist runs emits few i.0 i.1) i.2 same
    ]

  pub fresh : IsFresh (plain_module netlist)
  fresh = record {
    enable = declared-differs (codes "clk_enable") refl (λ e. let g : 0 ≡ 95 = ap (λ (n : List ℕ). get_or n 3 0) e in omega (arith, g)) (λ x c. (emits.ports.names x c).no_enable);
    out = declared-differs (codes "ce_out") refl (λ e. let g : 108 ≡ 101 = ap (λ (n : List ℕ). get_or n 1 0) e in omega (arith, g)) (λ x c. (emits.ports.names x c).no_enabled);
  }

  pub is-opened : IsOpened (plain_module netlist) (opened_module netlist)
  is-opened = record {
    name = refl;
    attrs = refl;
    front = bit_input (codes "clk") ∷ bit_input (codes "reset") ∷ [];
    middle = input_ports netlist;
    back = output_ports netlist;
    were = refl;
    ports = refl;
    items = refl;
  }

  small : IsAcyclic (plain_module netlist)
  small = (breaks-none netlist runs emits few).acyclic

  large : IsAcyclic (opened_module netlist)
  large = opened-acyclic (plain_module netlist) (opened_module netlist) (breaks-none netlist runs emits few).acyclic fresh is-opened

  has-all : HasAllOf (plain_module netlist) (opened_module netlist)
  has-all = opened-has (plain_module netlist) (opened_module netlist) (breaks-none netlist runs emits few).acyclic fresh is-opened

  stallable : is_stallable (opened_module netlist) ≡ true
  stallable = opened-stallable (plain_module netlist) (opened_module netlist) is-opened

  -- ---- the conditions, and the registers without the clock enable

  pub header : HasHeader netlist (module_of netlist)
  header = record { name = refl; attrs = refl; ports = refl }

  pub gated-breaks : BreaksNone (module_of netlist)
  gated-breaks =
      gated-breaks-none value_by_layer (opened_module netlist) stallable
      (opened-breaks-none value_by_layer (plain_module netlist) (opened_module netlist) (breaks-none netlist runs emits few) fresh is-opened)

  plain-enable : (nets_of (opened_module netlist) (codes "clk_enable")).signed ≡ false
  plain-enable = ap (λ (n : DeclaredNet). n.signed) (enable-net value_by_layer (opened_module netlist) large stallable)

  pub keeps-bits : KeepsBits (module_of netlist)
  keeps-bits = gated-keeps (opened_module netlist) plain-enable

  -- a run with the clock enable in every row is one of the plain module
  pub plain-run : (count : ℕ) (start : Row) (inputs rows : Rows) → Runs (module_of netlist) count start inputs rows
      → ((k : ℕ) → k < count → rows k (codes "clk_enable") ≡ 1) → Runs (plain_module netlist) count start inputs rows
  plain-run count start inputs rows run on =
      part-runs value_by_layer (plain_module netlist) (opened_module netlist) small large has-all count start inputs rows
      (gated-runs (opened_module netlist) plain-enable count start inputs rows run on)

  -- ---- what is declared

  declared-too : (d : Declared) → Contains (declarations (plain_module netlist)) d → Contains (declarations (opened_module netlist)) d
  declared-too d c = elim (declared-where (plain_module netlist) d c) [
    | inl p ↦ subst (λ (x : Declared). Contains (declarations (opened_module netlist)) x) p.2 (declared-port (opened_module netlist) p.0 (has-all.ports p.0 p.1))
    | inr i ↦ declared-item (opened_module netlist) i.0 d (has-all.items i.0 i.1) i.2
  ]

  -- a name has the word that it has in the plain module
  pub kept-net : (name : List ℕ) (width : ℕ) (signed : Bool) → nets_of (plain_module netlist) name ≡ record { width = width; signed = signed } → 1 ≤ width
      → nets_of (module_of netlist) name ≡ record { width = width; signed = signed }
  kept-net name width signed e some =
      let d = declaration-there (plain_module netlist) name width signed e some in
      ap (λ (nets : List ℕ → DeclaredNet). nets name) (gated-nets (opened_module netlist))
      ∙ subst (λ (n : List ℕ). nets_of (opened_module netlist) n ≡ d.declared.net) d.name_is
      (net-is value_by_layer (opened_module netlist) large.driven large.once large.acyclic d.declared
      (listed-mention (opened_module netlist) large.driven large.once d.declared (declared-too d.declared d.there)))
      ∙ d.net_is

  -- the clock enable and what shows it have one bit
  pub enable-nets : (nets_of (module_of netlist) (codes "clk_enable") ≡ record { width = 1; signed = false })
      × (nets_of (module_of netlist) (codes "ce_out") ≡ record { width = 1; signed = false })
  enable-nets =
      let rest : List Port = input_ports netlist ++ bit_output (codes "ce_out") ∷ output_ports netlist in
      let out = declared-port (opened_module netlist) (bit_output (codes "ce_out"))
      (later (bit_input (codes "clk")) _ (bit_input (codes "reset") ∷ bit_input (codes "clk_enable") ∷ rest)
      (later (bit_input (codes "reset")) _ (bit_input (codes "clk_enable") ∷ rest)
      (later (bit_input (codes "clk_enable")) _ rest (Contains-append_right (input_ports netlist) _ _ (here (bit_output (codes "ce_out")) (output_ports netlist)))))) in
      let same = ap (λ (nets : List ℕ → DeclaredNet). nets (codes "clk_enable")) (gated-nets (opened_module netlist)) in (
        same ∙ enable-net value_by_layer (opened_module netlist) large stallable,
        ap (λ (nets : List ℕ → DeclaredNet). nets (codes "ce_out")) (gated-nets (opened_module netlist))
            ∙ net-is value_by_layer (opened_module netlist) large.driven large.once large.acyclic (port_declared (bit_output (codes "ce_out")))
            (listed-mention (opened_module netlist) large.driven large.once (port_declared (bit_output (codes "ce_out"))) out),
      )

  -- ---- where the items come from

  -- an item is that of the plain module, gated, or that of `ce_out`
  pub record IsGated (i : ModItem) : Type 0 where
    pub was : ModItem
    pub there : Contains (items_of netlist) was
    pub is : gated_item was ≡ i

  pub item-where : (i : ModItem) → Contains (module_of netlist).items i → IsGated i ⊎ (shows_enable ≡ i)
  item-where i c =
      let r = of-mapped gated_item (items_of netlist ++ shows_enable ∷ []) i c in
      elim (Contains-append_cases (items_of netlist) (shows_enable ∷ []) r.0 r.1) [
        | inl a ↦ inl (record { was = r.0; there = a; is = r.2 })
        | inr a ↦ elim (first-or-later shows_enable r.0 [] a) [
          | inl e ↦ inr (ap gated_item e ∙ r.2)
          | inr none ↦ absurd (no-element r.0 none)
        ]
      ]

  pub gated-there : (i : ModItem) → Contains (items_of netlist) i → Contains (module_of netlist).items (gated_item i)
  gated-there i c = mapped gated_item (items_of netlist ++ shows_enable ∷ []) i (Contains-append_left (items_of netlist) (shows_enable ∷ []) i c)

  pub enable-there : Contains (module_of netlist).items shows_enable
  enable-there = mapped gated_item (items_of netlist ++ shows_enable ∷ []) shows_enable (Contains-append_right (items_of netlist) (shows_enable ∷ []) shows_enable (here shows_enable []))
