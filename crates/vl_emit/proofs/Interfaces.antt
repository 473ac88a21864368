-- The names and the ports of the module of a netlist.
use Rattle.std.proofs.Common.{◌≡◌, ◌≢◌, ◌⊎◌, inl, inr, ℕ, ◌^◌, ◌<◌, ◌==◌, Bool, true, false, if◌then◌else◌, List, [], ◌∷◌, ◌++◌, map, length, get_or, Contains, codes, refl, ap, sym, ◌∙◌, subst, arith}
use Rattle.std.specs.Fmt.{decimal}
use Rattle.std.specs.List.{AllPairs}
use Rattle.std.proofs.lemmas.Bool.{eqb-true, eqb-false}
use Rattle.std.proofs.lemmas.List.Elements.{All-contains, Contains-append_left, Contains-append_right, Contains-append_cases}
use Rattle.vl_ast.specs.declared.modules.Port.{Port}
use Rattle.vl_ast.specs.Conditions.{is_width}
use Rattle.hw_net.specs.declared.netlist.NetPort.{NetPort}
use Rattle.hw_net.specs.declared.netlist.NetLabel.{NetLabel}
use Rattle.hw_net.specs.declared.netlist.NetOp.TheVariants.{Input}
use Rattle.hw_net.specs.declared.netlist.NetKind.TheVariants.{Comb}
use Rattle.hw_net.specs.Circuit.{Circuit}
use Rattle.hw_net.specs.Netlist.{IsNetlist}
use Rattle.hw_net.specs.Emittable.{IsPortName, IsLabelName, AreLabels, IsEmittable}
use Rattle.vl_ast.specs.Header.{bit_input}
use Rattle.vl_emit.specs.Header.{input_port, output_port}
use Rattle.vl_emit.specs.Names.{net_name, hold_name, port_at, name_by}
use Rattle.hw_net.specs.Products.{net_at}
use Rattle.vl_emit.specs.inner.NetItems.{naming_of, plain_module, plain_ports}
use Rattle.vl_emit.specs.inner.Ready.{IsReady}
use Rattle.vl_emit.specs.inner.Sound.{AreNames, HasPorts, HasOnly, IsEmitted}
use Rattle.vl_emit.proofs.Drivers.{net-width}
use Rattle.vl_emit.proofs.ModuleNets.{no-element, first-or-later, here, later, mapped, of-mapped, names-differ, holds-differ, net-is-no-hold}
use Rattle.std.proofs.lemmas.List.{get_or_default}
use Rattle.vl_emit.proofs.Lists.{at-contains, head-pairs, tail-pairs, same-element, pairs-cons, map-pairs}
use Rattle.vl_emit.proofs.Sounds.{word-at, netlist-ready}

-- a net's name is that of its number, or that of its label
abbrev IsOwn : List NetLabel → ℕ → List ℕ → Type 0
IsOwn labels k name = (name ≡ net_name k) ⊎ ((label : NetLabel) × Contains labels label × (label.net ≡ k) × (name ≡ label.name))

name-own-by : (label : NetLabel) (labels : List NetLabel) (k : ℕ) (t : Bool) → (label.net == k) ≡ t → IsOwn labels k (name_by labels k)
    → IsOwn (label ∷ labels) k (if t then label.name else name_by labels k)
name-own-by label labels k true is r = inr (label, here label labels, eqb-true label.net k is, refl)
name-own-by label labels k false is (inl e) = inl e
name-own-by label labels k false is (inr f) = inr (f.0, later label f.0 labels f.1, f.2, f.3)

name-own : (labels : List NetLabel) (k : ℕ) → IsOwn labels k (name_by labels k)
name-own [] k = inl refl
name-own (label ∷ labels) k = name-own-by label labels k (label.net == k) refl (name-own labels k)

-- the letter behind `fx_`
abbrev letter : List ℕ → ℕ
letter name = get_or name 3 0

label-letter : (name : List ℕ) → IsLabelName name → (letter name ≡ 109) ⊎ (letter name ≡ 112)
label-letter name is = elim is.begins [
  | inl m ↦ inl (ap letter m.1)
  | inr p ↦ inr (ap letter p.1)
]

no-label : (name other : List ℕ) (c : ℕ) → IsLabelName name → letter other ≡ c → c ≢ 109 → c ≢ 112 → name ≢ other
no-label name other c is e no_m no_p same = elim (label-letter name is) [
  | inl m ↦ no_m (sym e ∙ ap letter (sym same) ∙ m)
  | inr p ↦ no_p (sym e ∙ ap letter (sym same) ∙ p)
]

begins-label : (name : List ℕ) → IsLabelName name → (rest : List ℕ) × (name ≡ codes "fx_" ++ rest)
begins-label name is = elim is.begins [
  | inl m ↦ (109 ∷ m.0, m.1)
  | inr p ↦ (112 ∷ p.0, p.1)
]

module _ (count : ℕ) (few : count < 2 ^ 64) (labels : List NetLabel) (are : AreLabels count labels) where
  pub labels-differ : (j k : ℕ) → j < count → k < count → name_by labels j ≡ name_by labels k → j ≡ k
  labels-differ j k p q e = by (name-own labels j) (name-own labels k) where
    by : IsOwn labels j (name_by labels j) → IsOwn labels k (name_by labels k) → j ≡ k
    by (inl a) (inl b) = names-differ j k (omega (arith, p, few)) (omega (arith, q, few)) (sym a ∙ e ∙ b)
    by (inl a) (inr b) = absurd (no-label b.0.name (net_name j) 110 (are.names b.0 b.1) refl (λ x. omega (arith, x)) (λ x. omega (arith, x)) (sym b.3 ∙ sym e ∙ a))
    by (inr a) (inl b) = absurd (no-label a.0.name (net_name k) 110 (are.names a.0 a.1) refl (λ x. omega (arith, x)) (λ x. omega (arith, x)) (sym a.3 ∙ e ∙ b))
    by (inr a) (inr b) =
        let same : a.0 ≡ b.0 = same-element (λ (label : NetLabel). label.name) labels are.names_differ a.0 b.0 a.1 b.1 (sym a.3 ∙ e ∙ b.3) in
        sym a.2 ∙ ap (λ (label : NetLabel). label.net) same ∙ b.2

  pub no-name-holds : (j k : ℕ) → name_by labels j ≢ hold_name k
  no-name-holds j k e = by (name-own labels j) where
    by : IsOwn labels j (name_by labels j) → ⊥
    by (inl a) = net-is-no-hold j k (sym a ∙ e)
    by (inr a) = no-label a.0.name (hold_name k) 104 (are.names a.0 a.1) refl (λ x. omega (arith, x)) (λ x. omega (arith, x)) (sym a.3 ∙ e)

  pub name-begins : (k : ℕ) → (rest : List ℕ) × (name_by labels k ≡ codes "fx_" ++ rest)
  name-begins k = by (name-own labels k) where
    by : IsOwn labels k (name_by labels k) → (rest : List ℕ) × (name_by labels k ≡ codes "fx_" ++ rest)
    by (inl a) = (110 ∷ decimal k, a)
    by (inr a) = let b = begins-label a.0.name (are.names a.0 a.1) in (b.0, a.3 ∙ b.1)

  -- a labelled net has its label as name
  pub labelled : (label : NetLabel) → Contains labels label → name_by labels label.net ≡ label.name
  labelled label c = by labels are.nets_differ c where
    found : (one : NetLabel) (others : List NetLabel) (t : Bool) → (one.net == label.net) ≡ t → AllPairs (λ one other. one.net ≢ other.net) (one ∷ others) → Contains (one ∷ others) label
        → (Contains others label → name_by others label.net ≡ label.name) → (if t then one.name else name_by others label.net) ≡ label.name
    found one others true is p d further =
        let same : one ≡ label = same-element (λ (label : NetLabel). label.net) (one ∷ others) p one label (here one others) d (eqb-true one.net label.net is) in
        ap (λ (label : NetLabel). label.name) same
    found one others false is p d further = elim (first-or-later one label others d) [
      | inl same ↦ absurd (let e : (one.net == one.net) ≡ false = subst (λ (l : NetLabel). (one.net == l.net) ≡ false) (sym same) is in eqb-false one.net one.net e refl)
      | inr after ↦ further after
    ]

    by : (others : List NetLabel) → AllPairs (λ one other. one.net ≢ other.net) others → Contains others label → name_by others label.net ≡ label.name
    by [] p d = absurd (no-element label d)
    by (one ∷ others) p d = found one others (one.net == label.net) refl p d (λ after. by others (tail-pairs (λ one other. one.net ≢ other.net) one others p) after)

-- ports of which no two have one name
abbrev Differ : Port → Port → Type 0
Differ one other = one.name ≢ other.name

abbrev DifferOf : NetPort → NetPort → Type 0
DifferOf one other = one.name ≢ other.name

two-pairs : (f g : NetPort → Port) → ((x : NetPort) → (f x).name ≡ x.name) → ((x : NetPort) → (g x).name ≡ x.name) → (xs ys : List NetPort) → AllPairs DifferOf (xs ++ ys)
    → AllPairs Differ (map f xs ++ map g ys)
two-pairs f g same also [] ys p = map-pairs DifferOf Differ g (λ a b ne e. ne (sym (also a) ∙ e ∙ also b)) ys p
two-pairs f g same also (x ∷ xs) ys p =
    pairs-cons Differ (f x) (map f xs ++ map g ys)
    (λ y c e. elim (Contains-append_cases (map f xs) (map g ys) y c) [
      | inl l ↦ (let r = of-mapped f xs y l in head-pairs DifferOf x (xs ++ ys) p r.0 (Contains-append_left xs ys r.0 r.1) (sym (same x) ∙ e ∙ ap (λ (q : Port). q.name) (sym r.2) ∙ same r.0))
      | inr l ↦ (let r = of-mapped g ys y l in head-pairs DifferOf x (xs ++ ys) p r.0 (Contains-append_right xs ys r.0 r.1) (sym (same x) ∙ e ∙ ap (λ (q : Port). q.name) (sym r.2) ∙ also r.0))
    ])
    (two-pairs f g same also xs ys (tail-pairs DifferOf x (xs ++ ys) p))

module _ (netlist : Circuit) (runs : IsNetlist netlist) (emits : IsEmittable netlist) where
  abbrev clk : Port
  clk = bit_input (codes "clk")

  abbrev reset : Port
  reset = bit_input (codes "reset")

  abbrev ins : List Port
  ins = map (input_port netlist) netlist.inputs

  abbrev outs : List Port
  outs = map (output_port netlist) netlist.outputs

  -- a port is one of the module's own, or that of an input or an output
  pub data Origin (port : Port) : Type 0 where
    OfClock : bit_input (codes "clk") ≡ port → Origin port
    OfReset : bit_input (codes "reset") ≡ port → Origin port
    OfInput : (x : NetPort) → Contains netlist.inputs x → input_port netlist x ≡ port → Origin port
    OfOutput : (x : NetPort) → Contains netlist.outputs x → output_port netlist x ≡ port → Origin port

  pub port-where : (port : Port) → Contains (plain_ports netlist) port → Origin port
  port-where port c = elim (first-or-later clk port (reset ∷ (ins ++ outs)) c) [
    | inl e ↦ OfClock e
    | inr c ↦ elim (first-or-later reset port (ins ++ outs) c) [
      | inl e ↦ OfReset e
      | inr c ↦ elim (Contains-append_cases ins outs port c) [
        | inl l ↦ (let r = of-mapped (input_port netlist) netlist.inputs port l in OfInput r.0 r.1 r.2)
        | inr l ↦ (let r = of-mapped (output_port netlist) netlist.outputs port l in OfOutput r.0 r.1 r.2)
      ]
    ]
  ]

  pub input-name : (x : NetPort) → Contains netlist.inputs x → IsPortName x.name
  input-name x c = emits.ports.names x (Contains-append_left netlist.inputs netlist.outputs x c)

  pub output-name : (x : NetPort) → Contains netlist.outputs x → IsPortName x.name
  output-name x c = emits.ports.names x (Contains-append_right netlist.inputs netlist.outputs x c)

  abbrev first : List ℕ → ℕ
  first name = get_or name 0 0

  no-own : (port : Port) → Origin port → (rest : List ℕ) → port.name ≢ codes "fx_" ++ rest
  no-own port (OfClock e) rest same = (let f : 99 ≡ 102 = ap first (ap (λ (p : Port). p.name) e ∙ same) in omega (arith, f))
  no-own port (OfReset e) rest same = (let f : 114 ≡ 102 = ap first (ap (λ (p : Port). p.name) e ∙ same) in omega (arith, f))
  no-own port (OfInput x c e) rest same = (input-name x c).no_own rest (ap (λ (p : Port). p.name) e ∙ same)
  no-own port (OfOutput x c e) rest same = (output-name x c).no_own rest (ap (λ (p : Port). p.name) e ∙ same)

  clock-new : (port : Port) → Contains (reset ∷ (ins ++ outs)) port → Differ clk port
  clock-new port c same = elim (first-or-later reset port (ins ++ outs) c) [
    | inl e ↦ (let f : 99 ≡ 114 = ap first (same ∙ ap (λ (p : Port). p.name) (sym e)) in omega (arith, f))
    | inr c ↦ elim (Contains-append_cases ins outs port c) [
      | inl l ↦ (let r = of-mapped (input_port netlist) netlist.inputs port l in (input-name r.0 r.1).no_clock (ap (λ (p : Port). p.name) r.2 ∙ sym same))
      | inr l ↦ (let r = of-mapped (output_port netlist) netlist.outputs port l in (output-name r.0 r.1).no_clock (ap (λ (p : Port). p.name) r.2 ∙ sym same))
    ]
  ]

  reset-new : (port : Port) → Contains (ins ++ outs) port → Differ reset port
  reset-new port c same = elim (Contains-append_cases ins outs port c) [
    | inl l ↦ (let r = of-mapped (input_port netlist) netlist.inputs port l in (input-name r.0 r.1).no_reset (ap (λ (p : Port). p.name) r.2 ∙ sym same))
    | inr l ↦ (let r = of-mapped (output_port netlist) netlist.outputs port l in (output-name r.0 r.1).no_reset (ap (λ (p : Port). p.name) r.2 ∙ sym same))
  ]

  pub ports-differ : AllPairs Differ (plain_ports netlist)
  ports-differ =
      pairs-cons Differ clk (reset ∷ (ins ++ outs)) clock-new (pairs-cons Differ reset (ins ++ outs) reset-new
      (two-pairs (input_port netlist) (output_port netlist) (λ x. refl) (λ x. refl) netlist.inputs netlist.outputs emits.ports.differ))

  module _ (few : length netlist.nets < 2 ^ 64) where
    pub names-are : AreNames (length netlist.nets) (naming_of netlist) (plain_ports netlist)
    names-are = record {
      nets = λ j k p q e. labels-differ (length netlist.nets) few netlist.labels emits.labels j k p q e;
      holds = λ j k p q e. holds-differ j k (omega (arith, p, few)) (omega (arith, q, few)) e;
      apart = λ j k p q. no-name-holds (length netlist.nets) few netlist.labels emits.labels j k;
      no_net = λ port c k p e. (let b = name-begins (length netlist.nets) few netlist.labels emits.labels k in no-own port (port-where port c) b.0 (e ∙ b.1));
      no_hold = λ port c k p e. no-own port (port-where port c) (104 ∷ decimal k) e;
    }

    pub input-there : (k port : ℕ) (args : List ℕ) → k < length netlist.nets → (net_at netlist.nets k).kind ≡ Comb (Input port) args → port < length netlist.inputs
    input-there k port args h is =
        let ready = subst (IsReady netlist) is ((netlist-ready netlist runs emits.counters).kinds k h) in ready.3 port refl

    pub ports-are : HasPorts (length netlist.nets) (naming_of netlist) (net_at netlist.nets) netlist.outputs (plain_module netlist)
    ports-are = record {
      differ = λ one other c d e. same-element (λ (p : Port). p.name) (plain_ports netlist) ports-differ one other c d e;
      inputs = λ k port args h is. (let x : NetPort = port_at netlist.inputs port in
          let below = input-there k port args h is in
          record {
            port = input_port netlist (port_at netlist.inputs port);
            there = later clk _ (reset ∷ (ins ++ outs))
                (later reset _ (ins ++ outs) (Contains-append_left ins outs _
                (mapped (input_port netlist) netlist.inputs (port_at netlist.inputs port)
                (at-contains netlist.inputs port _ below))));
            input = refl;
            name = refl;
            width = refl;
            signed = refl;
          });
      words = λ k port args h is. word-at netlist runs emits.counters (port_at netlist.inputs port).net ((netlist-ready netlist runs emits.counters).inputs port (input-there k port args h is));
      there = λ output c. All-contains (λ (p : NetPort). p.net < length netlist.nets) netlist.outputs output runs.outputs c;
      outputs_are = λ output c. record {
        port = output_port netlist output;
        there = later clk _ (reset ∷ (ins ++ outs)) (later reset _ (ins ++ outs) (Contains-append_right ins outs _ (mapped (output_port netlist) netlist.outputs output c)));
        input = refl;
        name = refl;
        width = refl;
        signed = refl;
      };
    }

    pub emitted : IsEmitted netlist.cycles (length netlist.nets) (naming_of netlist) (net_at netlist.nets) netlist.outputs (plain_module netlist)
    emitted = record { items = refl; names = names-are; ports = ports-are }

    width-of : (port : Port) → Origin port → is_width port.width ≡ true
    width-of port (OfClock e) = ap (λ (p : Port). is_width p.width) (sym e)
    width-of port (OfReset e) = ap (λ (p : Port). is_width p.width) (sym e)
    width-of port (OfInput x c e) =
        let h : x.net < length netlist.nets = input-net x c in
        ap (λ (p : Port). is_width p.width) (sym e) ∙ net-width (net_at netlist.nets x.net).width (net_at netlist.nets x.net).signed (word-at netlist runs emits.counters x.net h)
      where
        input-net : (x : NetPort) → Contains netlist.inputs x → x.net < length netlist.nets
        input-net x c =
            let got : port_at netlist.inputs c.0 ≡ x = get_or_default netlist.inputs c.0 _ x c.1 ∙ c.2 in
            subst (λ (y : NetPort). y.net < length netlist.nets) got ((netlist-ready netlist runs emits.counters).inputs c.0 c.1)
    width-of port (OfOutput x c e) =
        let h = All-contains (λ (p : NetPort). p.net < length netlist.nets) netlist.outputs x runs.outputs c in
        ap (λ (p : Port). is_width p.width) (sym e) ∙ net-width (net_at netlist.nets x.net).width (net_at netlist.nets x.net).signed (word-at netlist runs emits.counters x.net h)

    shown-by : (port : Port) → Origin port → port.input ≡ false → (output : NetPort) × Contains netlist.outputs output × (output.name ≡ port.name)
    shown-by port (OfClock e) f = absurd (let g : true ≡ false = ap (λ (p : Port). p.input) e ∙ f in cc g)
    shown-by port (OfReset e) f = absurd (let g : true ≡ false = ap (λ (p : Port). p.input) e ∙ f in cc g)
    shown-by port (OfInput x c e) f = absurd (let g : true ≡ false = ap (λ (p : Port). p.input) e ∙ f in cc g)
    shown-by port (OfOutput x c e) f = (x, c, ap (λ (p : Port). p.name) e)

    pub only : HasOnly netlist.outputs (plain_module netlist)
    only = record {
      widths = λ port c. width-of port (port-where port c);
      shown = λ port c e. shown-by port (port-where port c) e;
    }
