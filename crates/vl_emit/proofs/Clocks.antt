-- The clock, the reset and the attributes of the module of a netlist.
use Rattle.std.proofs.Common.{◌≡◌, ◌≢◌, inl, inr, ℕ, ◌^◌, ◌<◌, ◌≤◌, nat_le, Bool, true, false, not, ◌&&◌, ◌||◌, if◌then◌else◌, List, [], ◌∷◌, ◌++◌, map, flat_map, find, option_map, length, get_or}
use Rattle.std.proofs.Common.{Contains, codes, Some, None, refl, ap, sym, ◌∙◌, subst, arith}
use Rattle.std.specs.Prelude.{is_none}
use Rattle.std.specs.List.{list_any, AllPairs}
use Rattle.std.proofs.lemmas.Bool.{le-leb, and_right}
use Rattle.std.proofs.lemmas.List.Elements.{Contains-append_left, Contains-append_right, Contains-append_cases}
use Rattle.vl_ast.specs.declared.modules.ModItem.{ModItem}
use Rattle.vl_ast.specs.declared.modules.ModItem.TheVariants as item
use Rattle.vl_ast.specs.declared.modules.Port.{Port}
use Rattle.vl_ast.specs.declared.modules.Module.{Module}
use Rattle.vl_ast.specs.Attributes.{cycles_of, period_of, latency_of}
use Rattle.vl_ast.specs.Conditions.{BreaksNone, is_read_of, is_reset_at_fault, no_reset, lacks_attribute, no_attribute}
use Rattle.vl_ast.specs.Control.{is_control_input, is_control_output, is_stallable}
use Rattle.vl_ast.specs.Nets.{Mention, Declares, Drives, Reads, Clocks, port_declared, item_mentions, mentions, names_read, condition_names, nets_of, place_of}
use Rattle.vl_ast.specs.Context.{Net as DeclaredNet}
use Rattle.hw_net.specs.declared.netlist.NetPort.{NetPort}
use Rattle.hw_net.specs.declared.netlist.NetOp.TheVariants.{Input}
use Rattle.hw_net.specs.declared.netlist.NetKind.TheVariants.{Comb}
use Rattle.hw_net.specs.Circuit.{Circuit}
use Rattle.hw_net.specs.Netlist.{IsNetlist}
use Rattle.hw_net.specs.Emittable.{IsPeriod, IsEmittable}
use Rattle.vl_ast.specs.Header.{bit_input}
use Rattle.vl_emit.specs.Header.{input_port, output_port}
use Rattle.vl_emit.specs.Names.{name_of, hold_name, port_at, input_wire}
use Rattle.hw_net.specs.Products.{net_at}
use Rattle.vl_emit.specs.Reads.{item_reads}
use Rattle.vl_emit.specs.inner.NetItems.{naming_of, plain_module}
use Rattle.vl_emit.proofs.CleanForms.{name-clean}
use Rattle.math_list.proofs.Tests.{unequal}
use Rattle.vl_emit.proofs.Doubly.{emitted-once}
use Rattle.vl_emit.proofs.ModuleNets.{no-element, first-or-later, of-one, of-mapped}
use Rattle.vl_emit.proofs.Interfaces.{Origin as PortOrigin, OfClock, OfReset, OfInput, OfOutput, port-where, input-name, ports-differ, emitted, only, name-begins, input-there}
use Rattle.vl_emit.proofs.Lists.{none-of, at-contains, back-pairs}
use Rattle.vl_emit.proofs.NoLoop.{no-loop}
use Rattle.vl_emit.proofs.Origins.{Origin, Declaring, Driving, Showing, origin, declarer-of, driver-clean, has}
use Rattle.vl_emit.proofs.Sounds.{netlist-sound}
use Rattle.vl_emit.proofs.DeclarationOrder.{find-none}
use Rattle.vl_emit.proofs.Undriven.{emitted-undriven, emitted-narrow}

module _ (netlist : Circuit) (runs : IsNetlist netlist) (emits : IsEmittable netlist) (few : length netlist.nets < 2 ^ 64) where
  abbrev count : ℕ
  count = length netlist.nets

  abbrev m : Module
  m = plain_module netlist

  abbrev NotClock : List ℕ → Type 0
  NotClock name = name ≢ codes "clk"

  own-not-clock : (name rest : List ℕ) → name ≡ codes "fx_" ++ rest → name ≢ codes "clk"
  own-not-clock name rest e same = let f : 102 ≡ 99 = ap (λ (n : List ℕ). get_or n 0 0) (sym e ∙ same) in omega (arith, f)

  net-not-clock : (k : ℕ) → name_of netlist k ≢ codes "clk"
  net-not-clock k = (let b = name-begins count few netlist.labels emits.labels k in own-not-clock (name_of netlist k) b.0 b.1)

  hold-not-clock : (k : ℕ) → hold_name k ≢ codes "clk"
  hold-not-clock k same = let f : 102 ≡ 99 = ap (λ (n : List ℕ). get_or n 0 0) same in omega (arith, f)

  input-not-clock : (k port : ℕ) (args : List ℕ) → k < length netlist.nets → (net_at netlist.nets k).kind ≡ Comb (Input port) args → (input_wire netlist port).name ≢ codes "clk"
  input-not-clock k port args h is =
      (input-name netlist runs emits (port_at netlist.inputs port) (at-contains netlist.inputs port _ (input-there netlist runs emits few k port args h is))).no_clock

  not-read : (i : ModItem) → Origin netlist runs emits few i → (read : List ℕ) → Contains (item_reads i) read → read ≢ codes "clk"
  not-read i (Declaring k h c) read r =
      let d = declarer-of netlist runs emits few k (net_at netlist.nets k).kind i c in absurd (no-element read (subst (λ (l : List (List ℕ)). Contains l read) d.1 r))
  not-read i (Driving k h c) read r =
      (driver-clean netlist runs emits few NotClock k h (λ j below n. net-not-clock j) (λ frame live from is. hold-not-clock k) (λ port args is. input-not-clock k port args h is) i c).reads read r
  not-read i (Showing output c e) read r =
      let em = emitted netlist runs emits few in
      let h = em.ports.there output c in
      let clean = name-clean (nets_of (plain_module netlist)) NotClock (name_of netlist output.net) (net_at netlist.nets output.net).width
      (ap (λ (n : DeclaredNet). n.width) ((has netlist runs emits few).declared output.net h)) (net-not-clock output.net) in
      clean.reads read (subst (λ (x : ModItem). Contains (item_reads x) read) (sym e) r)

  abbrev Fine : Mention → Type 0
  Fine x = is_read_of (codes "clk") x ≡ false

  one-fine : (x y : Mention) → Fine x → Contains (x ∷ []) y → Fine y
  one-fine x y p c = elim (first-or-later x y [] c) [
    | inl e ↦ subst Fine e p
    | inr after ↦ absurd (no-element y after)
  ]

  reads-fine : (names : List (List ℕ)) → ((name : List ℕ) → Contains names name → name ≢ codes "clk") → (x : Mention) → Contains (map Reads names) x → Fine x
  reads-fine names h x c = (let r = of-mapped Reads names x c in subst Fine r.2 (unequal r.0 (codes "clk") (h r.0 r.1)))

  mention-fine : (i : ModItem) → ((read : List ℕ) → Contains (item_reads i) read → read ≢ codes "clk") → (x : Mention) → Contains (item_mentions i) x → Fine x
  mention-fine (item.Wire signed width name) h x c = one-fine _ x refl c
  mention-fine (item.Reg signed width name) h x c = one-fine _ x refl c
  mention-fine (item.Assign name value) h x c = elim (first-or-later (Drives false name) x (map Reads (names_read value)) c) [
    | inl e ↦ subst Fine e refl
    | inr after ↦ reads-fine (names_read value) h x after
  ]
  mention-fine (item.Always name first condition value) h x c =
      let names : List (List ℕ) = condition_names condition ++ names_read value in
      elim (first-or-later Clocks x (Drives true name ∷ map Reads names) c) [
        | inl e ↦ subst Fine e refl
        | inr after ↦ elim (first-or-later (Drives true name) x (map Reads names) after) [
          | inl e ↦ subst Fine e refl
          | inr more ↦ reads-fine names h x more
        ]
      ]

  clock-unread : list_any (is_read_of (codes "clk")) (mentions (plain_module netlist)) ≡ false
  clock-unread =
      none-of (is_read_of (codes "clk")) (mentions m)
      (λ x c. elim (Contains-append_cases (map (λ (port : Port). Declares (port_declared port)) m.ports) (flat_map item_mentions m.items) x c) [
        | inl a ↦ (let r = of-mapped (λ (port : Port). Declares (port_declared port)) m.ports x a in subst Fine r.2 refl)
        | inr a ↦ (let r = of-one item_mentions m.items x a in mention-fine r.0 (not-read r.0 (origin netlist runs emits few r.0 r.1)) x r.2)
      ])

  pub clocked : no_reset (plain_module netlist) ≡ None
  clocked =
      (λ i. if clock-unread i && is_reset_at_fault m
      then Some (if nat_le (place_of m (codes "clk")) (place_of m (codes "reset")) then codes "clk" else codes "reset")
      else (if clock-unread i then Some (codes "clk") else (if is_reset_at_fault m then Some (codes "reset") else None)))

  cycles-of : cycles_of (plain_module netlist) ≡ Some netlist.cycles
  cycles-of =
      let a : nat_le 1 netlist.cycles ≡ true = le-leb 1 netlist.cycles runs.cycles in
      let b : nat_le netlist.cycles 1024 ≡ true = le-leb netlist.cycles 1024 emits.cycles in
      (λ i. if a i && b i then Some netlist.cycles else None)

  period-in : (x : NetPort) → IsPeriod x.period → period_of (input_port netlist x) ≡ Some x.period
  period-in x p =
      let a : nat_le 1 x.period ≡ true = le-leb 1 x.period p.some in
      let b : nat_le x.period 4096 ≡ true = le-leb x.period 4096 p.most in
      (λ i. if a i && b i then Some x.period else None)

  period-out : (x : NetPort) → IsPeriod x.period → period_of (output_port netlist x) ≡ Some x.period
  period-out x p =
      let a : nat_le 1 x.period ≡ true = le-leb 1 x.period p.some in
      let b : nat_le x.period 4096 ≡ true = le-leb x.period 4096 p.most in
      (λ i. if a i && b i then Some x.period else None)

  latency-out : (x : NetPort) → x.latency ≤ 16777216 → latency_of (output_port netlist x) ≡ Some x.latency
  latency-out x h =
      let a : nat_le 0 x.latency ≡ true = le-leb 0 x.latency (omega arith) in
      let b : nat_le x.latency 16777216 ≡ true = le-leb x.latency 16777216 h in
      (λ i. if a i && b i then Some x.latency else None)

  clock-has : (stalls : Bool) → lacks_attribute stalls (bit_input (codes "clk")) ≡ false
  clock-has true = refl
  clock-has false = refl

  reset-has : (stalls : Bool) → lacks_attribute stalls (bit_input (codes "reset")) ≡ false
  reset-has true = refl
  reset-has false = refl

  has-all : (stalls : Bool) (port : Port) → PortOrigin netlist runs emits port → lacks_attribute stalls port ≡ false
  has-all stalls port (OfClock e) = subst (λ (p : Port). lacks_attribute stalls p ≡ false) e (clock-has stalls)
  has-all stalls port (OfReset e) = subst (λ (p : Port). lacks_attribute stalls p ≡ false) e (reset-has stalls)
  has-all stalls port (OfInput x c e) =
      let p = period-in x (emits.ports.periods x (Contains-append_left netlist.inputs netlist.outputs x c)) in
      subst (λ (q : Port). lacks_attribute stalls q ≡ false) e
      (and_right (not (is_control_input stalls (input_port netlist x))) (is_none (period_of (input_port netlist x))) (ap is_none p))
  has-all stalls port (OfOutput x c e) =
      let p = ap is_none (period-out x (emits.ports.periods x (Contains-append_right netlist.inputs netlist.outputs x c))) in
      let l = ap is_none (latency-out x (emits.ports.latencies x c)) in
      subst (λ (q : Port). lacks_attribute stalls q ≡ false) e
      (and_right (not (is_control_output stalls (output_port netlist x))) (is_none (period_of (output_port netlist x)) || is_none (latency_of (output_port netlist x))) (λ i. p i || l i))

  pub attributed : no_attribute (plain_module netlist) ≡ None
  attributed =
      let none : find (lacks_attribute (is_stallable m)) m.ports ≡ None =
      find-none (lacks_attribute (is_stallable m)) m.ports
      (λ port c. has-all (is_stallable m) port (port-where netlist runs emits port c)) in
      (λ i. if is_none (cycles-of i) then Some m.name else option_map (λ port. port.name) (find (lacks_attribute (is_stallable m)) m.ports))
      ∙ ap (option_map (λ (port : Port). port.name)) none

  outputs-differ : AllPairs (λ (one other : NetPort). one.name ≢ other.name) netlist.outputs
  outputs-differ = back-pairs (λ (one other : NetPort). one.name ≢ other.name) netlist.inputs netlist.outputs emits.ports.differ

  pub breaks-none : BreaksNone (plain_module netlist)
  breaks-none =
      let sound = netlist-sound netlist runs emits.counters in
      let em = emitted netlist runs emits few in
      let alone = only netlist runs emits few in
      record {
        acyclic = record {
          driven = emitted-undriven netlist.cycles count (naming_of netlist) (net_at netlist.nets) runs.ranked.0 netlist.outputs m sound em alone;
          once = emitted-once netlist.cycles count (naming_of netlist) (net_at netlist.nets) netlist.outputs m em (ports-differ netlist runs emits) outputs-differ;
          acyclic = λ first others loop. no-loop netlist.cycles count (naming_of netlist) (net_at netlist.nets) runs.ranked.0 netlist.outputs m sound em alone first others loop;
        };
        narrow = emitted-narrow netlist.cycles count (naming_of netlist) (net_at netlist.nets) runs.ranked.0 netlist.outputs m sound em alone;
        clocked = clocked;
        attributed = attributed;
      }
