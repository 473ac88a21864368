-- Some text spells the module of a netlist.
use Rattle.std.proofs.Common.{◌≡◌, ◌⊎◌, inl, inr, ℕ, ◌-◌, ◌*◌, ◌^◌, ◌<◌, ◌≤◌, ◌==◌, if◌then◌else◌, get_or, Bool, true, false, ◌&&◌, List, [], ◌∷◌, ◌++◌, length, Contains, Some, None, codes, refl, ap}
use Rattle.std.proofs.Common.{sym, ◌∙◌, subst, arith}
use Rattle.std.specs.Prelude.{⊤}
use Rattle.std.specs.List.{list_all}
use Rattle.std.proofs.lemmas.List.Elements.{Contains-append_left, Contains-append_right, Contains-append_cases}
use Rattle.vl_ast.specs.declared.expressions.BinOp.TheVariants as binary
use Rattle.vl_ast.specs.declared.expressions.Expr.{Expr}
use Rattle.vl_ast.specs.declared.expressions.Expr.TheVariants as expression
use Rattle.vl_ast.specs.declared.modules.Attr.{Attr}
use Rattle.vl_ast.specs.declared.modules.Port.{Port}
use Rattle.vl_ast.specs.declared.modules.ModItem.{ModItem}
use Rattle.vl_ast.specs.declared.modules.ModItem.TheVariants as item
use Rattle.vl_ast.specs.Conditions.{item_name}
use Rattle.vl_ast.specs.Gated.{gated_condition, gated_item, shows_enable}
use Rattle.vl_ast.specs.Grammar.{IsExpr, Spells}
use Rattle.vl_ast.specs.Nets.{Declared, declarations}
use Rattle.vl_ast.specs.Spellable.{IsShortAttr, HasExprs, IsSpellable}
use Rattle.vl_ast.specs.Spelling.{spelling}
use Rattle.vl_names.specs.Identifiers.{continues_name, is_identifier}
use Rattle.vl_ast.proofs.Gates.{gated-declares}
use Rattle.vl_ast.proofs.Layers.{value_by_layer}
use Rattle.vl_ast.proofs.ModuleTokens.{module-spells}
use Rattle.hw_net.specs.declared.netlist.Frame.{Frame}
use Rattle.hw_net.specs.declared.netlist.NetLabel.{NetLabel}
use Rattle.hw_net.specs.declared.netlist.NetPort.{NetPort}
use Rattle.hw_net.specs.declared.netlist.NetKind.{NetKind}
use Rattle.hw_net.specs.declared.netlist.NetKind.TheVariants.{Comb, Reg, EnReg, Acc, Bridge, Unit, Counter}
use Rattle.hw_net.specs.Circuit.{Circuit}
use Rattle.hw_net.specs.Netlist.{IsNetlist}
use Rattle.hw_net.specs.Emittable.{IsEmittable}
use Rattle.vl_ast.specs.Header.{attribute_of, bit_input, bit_output}
use Rattle.vl_names.proofs.Digits.{number_plain}
use Rattle.vl_emit.specs.Header.{input_port, input_ports, output_port, output_ports, ports_of}
use Rattle.vl_emit.specs.Names.{Wire, name_by, net_name, hold_name}
use Rattle.hw_net.specs.Products.{net_at}
use Rattle.vl_emit.specs.inner.NetItems.{wire_of, declarers, drivers, items_of, module_of, naming_of, opened_module}
use Rattle.vl_emit.proofs.ModuleNets.{DeclaredBy, declared-where, first-or-later, here, later, no-element, of-mapped, one-of, two-of}
use Rattle.vl_emit.proofs.NetItems.{hold_declarer, hold_driver}
use Rattle.vl_emit.proofs.EnablePorts.{IsGated, IsOf, gated-breaks, item-where}
use Rattle.vl_emit.proofs.Origins.{Origin, Declaring, Driving, Showing, origin, declarer-of, driver-of}
use Rattle.vl_emit.proofs.Short.{IsShort, deeper, short-binary, short-choose, short-literal, short-live, short-name, short-operation, short-product, short-slot, short-test}

-- ---- identifiers

abbrev IsPlain : List ℕ → Type 0
IsPlain bytes = list_all continues_name bytes ≡ true

net-identifier : (k : ℕ) → k < 2 ^ 64 → is_identifier (net_name k) ≡ true
net-identifier k small = ap (λ all. all && true) (number_plain k small)

hold-identifier : (k : ℕ) → k < 2 ^ 64 → is_identifier (hold_name k) ≡ true
hold-identifier k small = ap (λ all. all && true) (number_plain k small)

label-identifier : (labels : List NetLabel) (k : ℕ) → k < 2 ^ 64 → ((label : NetLabel) → Contains labels label → is_identifier label.name ≡ true) → is_identifier (name_by labels k) ≡ true
label-identifier [] k small all = net-identifier k small
label-identifier (label ∷ labels) k small all = by (label.net == k) (label-identifier labels k small (λ other c. all other (later label other labels c))) where
  by : (b : Bool) → is_identifier (name_by labels k) ≡ true → is_identifier (if b then label.name else name_by labels k) ≡ true
  by true rest = all label (here label labels)
  by false rest = rest

-- ---- expressions

abbrev AreShort : ModItem → Type 0
AreShort (item.Wire signed width name) = ⊤
AreShort (item.Reg signed width name) = ⊤
AreShort (item.Assign name value) = IsShort 5 value
AreShort (item.Always name first None value) = IsShort 5 value
AreShort (item.Always name first (Some condition) value) = IsShort 5 condition × IsShort 5 value

expr-of : (n : ℕ) (e : Expr) → n ≤ 256 → IsShort n e → IsExpr e
expr-of n e h s = let d = s.deep in (omega (arith, d, h), s.filled)

gated-short : (i : ModItem) → AreShort i → HasExprs (gated_item i)
gated-short (item.Wire signed width name) s = tt
gated-short (item.Reg signed width name) s = tt
gated-short (item.Assign name value) s = expr-of 5 value (omega arith) s
gated-short (item.Always name first None value) s = (expr-of 0 (expression.Name (codes "clk_enable")) (omega arith) (short-name (codes "clk_enable")), expr-of 5 value (omega arith) s)
gated-short (item.Always name first (Some condition) value) s = (
  expr-of 6 (gated_condition (Some condition)) (omega arith)
      (short-binary 5 binary.Both (expression.Name (codes "clk_enable")) condition (deeper 0 5 _ (omega arith) (short-name (codes "clk_enable"))) s.0),
  expr-of 5 value (omega arith) s.1,
)

module _ (netlist : Circuit) (runs : IsNetlist netlist) (emits : IsEmittable netlist) (few : length netlist.nets < 2 ^ 64) where
  declarer-short : (k : ℕ) (kind : NetKind) (i : ModItem) → Contains (declarers (naming_of netlist) (net_at netlist.nets) k kind) i → AreShort i
  declarer-short k (Comb op args) i c = one-of AreShort _ i tt c
  declarer-short k (Unit left right) i c = one-of AreShort _ i tt c
  declarer-short k (Counter frame) i c = one-of AreShort _ i tt c
  declarer-short k (Reg frame slot first from) i c = one-of AreShort _ i tt c
  declarer-short k (EnReg frame enable reset first from) i c = one-of AreShort _ i tt c
  declarer-short k (Acc frame enable from) i c = one-of AreShort _ i tt c
  declarer-short k (Bridge frame live from) i c = two-of AreShort _ (hold_declarer netlist.cycles (length netlist.nets) (naming_of netlist) (net_at netlist.nets) netlist.outputs k) i tt tt c

  up : (n : ℕ) (e : Expr) → n ≤ 5 → IsShort n e → IsShort 5 e
  up n e h s = deeper n 5 e h s

  abbrev wire : ℕ → Wire
  wire k = wire_of (naming_of netlist) (net_at netlist.nets) k

  abbrev counter : Frame → Wire
  counter frame = wire_of (naming_of netlist) (net_at netlist.nets) ((naming_of netlist).counter frame)

  abbrev last : Frame → ℕ
  last frame = frame.period * netlist.cycles - 1

  driver-short : (k : ℕ) (kind : NetKind) (i : ModItem) → Contains (drivers netlist.cycles (naming_of netlist) (net_at netlist.nets) k kind) i → AreShort i
  driver-short k (Comb op args) i c = one-of AreShort _ i (short-operation (naming_of netlist).port (λ j. wire (get_or args j 0)) (net_at netlist.nets k).width op) c
  driver-short k (Unit left right) i c = one-of AreShort _ i (up 4 _ (omega arith) (short-product (net_at netlist.nets k).width (wire left) (wire right))) c
  driver-short k (Counter frame) i c =
      one-of AreShort _ i (up 2 _ (omega arith)
      (short-choose 1 _ _ _ (short-test (wire k))
      (short-binary 0 binary.Subtract _ _ (short-name _) (short-literal _))
      (deeper 0 1 _ (omega arith) (short-literal _)))) c
  driver-short k (Reg frame slot first from) i c = one-of AreShort _ i (up 1 _ (omega arith) (short-slot netlist.cycles frame (counter frame) slot), up 0 _ (omega arith) (short-name _)) c
  driver-short k (EnReg frame enable true first from) i c =
      one-of AreShort _ i (
        up 1 _ (omega arith) (short-slot netlist.cycles frame (counter frame) (last frame)),
        up 2 _ (omega arith) (short-choose 1 _ _ _ (short-test (wire enable)) (deeper 0 1 _ (omega arith) (short-name _)) (deeper 0 1 _ (omega arith) (short-literal _))),
      ) c
  driver-short k (EnReg frame enable false first from) i c =
      one-of AreShort _ i (
        up 2 _ (omega arith) (short-binary 1 binary.Both _ _ (short-slot netlist.cycles frame (counter frame) (last frame)) (short-test (wire enable))),
        up 0 _ (omega arith) (short-name _),
      ) c
  driver-short k (Acc frame enable from) i c =
      one-of AreShort _ i (
        up 2 _ (omega arith) (short-binary 1 binary.Either _ _ (short-slot netlist.cycles frame (counter frame) (last frame)) (short-test (wire enable))),
        up 2 _ (omega arith) (short-choose 1 _ _ _ (short-slot netlist.cycles frame (counter frame) (last frame)) (deeper 0 1 _ (omega arith) (short-literal _)) (short-binary 0 binary.Add _ _ (short-name _) (short-name _))),
      ) c
  driver-short k (Bridge frame live from) i c =
      two-of AreShort _ (hold_driver netlist.cycles (length netlist.nets) (naming_of netlist) (net_at netlist.nets) netlist.outputs k) i
      (up 2 _ (omega arith) (short-choose 1 _ _ _ (short-live netlist.cycles frame (counter frame) live) (deeper 0 1 _ (omega arith) (short-name _)) (deeper 0 1 _ (omega arith) (short-name _))))
      (up 0 _ (omega arith) (short-name _)) c

  origin-short : (i : ModItem) → Origin netlist runs emits few i → AreShort i
  origin-short i (Declaring k h c) = declarer-short k (net_at netlist.nets k).kind i c
  origin-short i (Driving k h c) = driver-short k (net_at netlist.nets k).kind i c
  origin-short i (Showing output c e) = subst AreShort e (up 0 _ (omega arith) (short-name _))

  exprs-of : (i : ModItem) → IsGated netlist runs emits few i ⊎ (shows_enable ≡ i) → HasExprs i
  exprs-of i (inl g) = subst HasExprs g.is (gated-short g.was (origin-short g.was (origin netlist runs emits few g.was g.there)))
  exprs-of i (inr e) = subst HasExprs e (expr-of 0 _ (omega arith) (short-name (codes "clk_enable")))

  -- ---- names

  abbrev IsNamedWell : List ℕ → Type 0
  IsNamedWell name = is_identifier name ≡ true

  own-name : (k : ℕ) (name : List ℕ) → k < length netlist.nets → IsOf netlist runs emits few k name → is_identifier name ≡ true
  own-name k name h (inl e) = ap is_identifier e ∙ label-identifier netlist.labels k (omega (arith, h, few)) (λ label c. (emits.labels.names label c).identifier)
  own-name k name h (inr e) = ap is_identifier e ∙ hold-identifier k (omega (arith, h, few))

  named-by : (i : ModItem) (d : Declared) → DeclaredBy i d → item_name i ≡ d.name
  named-by (item.Wire signed width name) d e = ap (λ (x : Declared). x.name) e
  named-by (item.Reg signed width name) d e = ap (λ (x : Declared). x.name) e
  named-by (item.Assign name value) d e = absurd e
  named-by (item.Always name first condition value) d e = absurd e

  item-named : (i : ModItem) (d : Declared) → Origin netlist runs emits few i → DeclaredBy i d → is_identifier d.name ≡ true
  item-named i d (Declaring k h c) by = subst IsNamedWell (named-by i d by) (own-name k (item_name i) h (declarer-of netlist runs emits few k (net_at netlist.nets k).kind i c).0)
  item-named i d (Driving k h c) by = subst IsNamedWell (named-by i d by) (own-name k (item_name i) h (driver-of netlist runs emits few k (net_at netlist.nets k).kind i c))
  item-named i d (Showing output c e) by = absurd (subst (λ (j : ModItem). DeclaredBy j d) (sym e) by)

  item-declared : (i : ModItem) (d : Declared) → Contains (items_of netlist ++ shows_enable ∷ []) i → DeclaredBy i d → is_identifier d.name ≡ true
  item-declared i d c by = elim (Contains-append_cases (items_of netlist) (shows_enable ∷ []) i c) [
    | inl a ↦ item-named i d (origin netlist runs emits few i a) by
    | inr a ↦ elim (first-or-later shows_enable i [] a) [
      | inl e ↦ absurd (subst (λ (j : ModItem). DeclaredBy j d) (sym e) by)
      | inr none ↦ absurd (no-element i none)
    ]
  ]

  -- a port has an identifier and short attributes
  record IsFine (port : Port) : Type 0 where
    named : is_identifier port.name ≡ true
    short : (attr : Attr) → Contains port.attrs attr → IsShortAttr attr

  no-attrs : (name : List ℕ) → is_identifier name ≡ true → (port : Port) → port.name ≡ name → port.attrs ≡ [] → IsFine port
  no-attrs name e port same none = record {
    named = ap is_identifier same ∙ e;
    short = λ attr c. absurd (no-element attr (subst (λ (l : List Attr). Contains l attr) none c));
  }

  period-short : (period : ℕ) → period ≤ 4096 → IsShortAttr (attribute_of (codes "fx_period") period)
  period-short period h = record { name = refl; value = omega (arith, h) }

  latency-short : (latency : ℕ) → latency ≤ 16777216 → IsShortAttr (attribute_of (codes "fx_latency") latency)
  latency-short latency h = record { name = refl; value = omega (arith, h) }

  input-fine : (x : NetPort) → Contains netlist.inputs x → IsFine (input_port netlist x)
  input-fine x c =
      let all = Contains-append_left netlist.inputs netlist.outputs x c in
      record {
        named = (emits.ports.names x all).identifier;
        short = λ attr d. elim (first-or-later (attribute_of (codes "fx_period") x.period) attr [] d) [
          | inl e ↦ subst IsShortAttr e (period-short x.period (emits.ports.periods x all).most)
          | inr none ↦ absurd (no-element attr none)
        ];
      }

  output-fine : (x : NetPort) → Contains netlist.outputs x → IsFine (output_port netlist x)
  output-fine x c =
      let all = Contains-append_right netlist.inputs netlist.outputs x c in
      record {
        named = (emits.ports.names x all).identifier;
        short = λ attr d. elim (first-or-later (attribute_of (codes "fx_period") x.period) attr (attribute_of (codes "fx_latency") x.latency ∷ []) d) [
          | inl e ↦ subst IsShortAttr e (period-short x.period (emits.ports.periods x all).most)
          | inr more ↦ elim (first-or-later (attribute_of (codes "fx_latency") x.latency) attr [] more) [
            | inl e ↦ subst IsShortAttr e (latency-short x.latency (emits.ports.latencies x c))
            | inr none ↦ absurd (no-element attr none)
          ]
        ];
      }

  port-fine : (port : Port) → Contains (ports_of netlist) port → IsFine port
  port-fine port c =
      let rest : List Port = input_ports netlist ++ bit_output (codes "ce_out") ∷ output_ports netlist in
      elim (first-or-later (bit_input (codes "clk")) port (bit_input (codes "reset") ∷ bit_input (codes "clk_enable") ∷ rest) c) [
        | inl e ↦ subst IsFine e (no-attrs (codes "clk") refl (bit_input (codes "clk")) refl refl)
        | inr c1 ↦ elim (first-or-later (bit_input (codes "reset")) port (bit_input (codes "clk_enable") ∷ rest) c1) [
          | inl e ↦ subst IsFine e (no-attrs (codes "reset") refl (bit_input (codes "reset")) refl refl)
          | inr c2 ↦ elim (first-or-later (bit_input (codes "clk_enable")) port rest c2) [
            | inl e ↦ subst IsFine e (no-attrs (codes "clk_enable") refl (bit_input (codes "clk_enable")) refl refl)
            | inr c3 ↦ elim (Contains-append_cases (input_ports netlist) (bit_output (codes "ce_out") ∷ output_ports netlist) port c3) [
              | inl l ↦ (let r = of-mapped (input_port netlist) netlist.inputs port l in subst IsFine r.2 (input-fine r.0 r.1))
              | inr l ↦ elim (first-or-later (bit_output (codes "ce_out")) port (output_ports netlist) l) [
                | inl e ↦ subst IsFine e (no-attrs (codes "ce_out") refl (bit_output (codes "ce_out")) refl refl)
                | inr o ↦ (let r = of-mapped (output_port netlist) netlist.outputs port o in subst IsFine r.2 (output-fine r.0 r.1))
              ]
            ]
          ]
        ]
      ]

  declared-named : (d : Declared) → Contains (declarations (module_of netlist)) d → is_identifier d.name ≡ true
  declared-named d c = elim (declared-where (opened_module netlist) d (subst (λ (ds : List Declared). Contains ds d) (gated-declares (opened_module netlist)) c)) [
    | inl p ↦ subst (λ (x : Declared). is_identifier x.name ≡ true) p.2 (port-fine p.0 p.1).named
    | inr i ↦ item-declared i.0 d i.1 i.2
  ]

  spellable : IsSpellable (module_of netlist)
  spellable = record {
    name = refl;
    has_port = λ e. absurd (cc e);
    declared = declared-named;
    attrs = λ attr c. elim (first-or-later (attribute_of (codes "fx_cycles") netlist.cycles) attr [] c) [
      | inl e ↦ subst IsShortAttr e (let h = emits.cycles in record { name = refl; value = omega (arith, h) })
      | inr none ↦ absurd (no-element attr none)
    ];
    port_attrs = λ port c attr d. (port-fine port c).short attr d;
    items = λ i c. exprs-of i (item-where netlist runs emits few i c);
  }

  -- its written text spells it
  pub spells : Spells (spelling (module_of netlist)) (module_of netlist)
  spells = (let b = gated-breaks netlist runs emits few in module-spells value_by_layer (module_of netlist) b.acyclic b.narrow spellable)
