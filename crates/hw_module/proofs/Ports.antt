-- The ports of a netlist's module: the header, what drives its inputs, and what its outputs show.
use Rattle.std.proofs.Common.{◌≡◌, ℕ, ◌+◌, ◌*◌, ◌%◌, ◌<◌, ◌≤◌, nat_le, Bool, true, false, not, ◌&&◌, ◌||◌, if◌then◌else◌, List, ◌∷◌, ◌++◌, length, filter, Contains, bytes_eq, codes, Some, None}
use Rattle.std.proofs.Common.{slice_get, refl, ap, sym, ◌∙◌, subst, append-nil}
use Rattle.std.specs.List.{list_any}
use Rattle.std.proofs.lemmas.Bool.{le-leb}
use Rattle.std.proofs.lemmas.List.Elements.{All-contains, Contains-append_left, filter-append}
use Rattle.std.proofs.lemmas.Option.{get_or_from_slice_get}
use Rattle.math_num.specs.Word.{IsWord, InWord}
use Rattle.vl_ast.specs.declared.modules.Attr.{Attr}
use Rattle.vl_ast.specs.declared.modules.Port.{Port}
use Rattle.vl_ast.specs.declared.modules.Module.{Module}
use Rattle.vl_ast.specs.Attributes.{attribute, cycles_of, period_of}
use Rattle.vl_ast.specs.Control.{is_bit_input, is_clock_or_reset, is_stallable}
use Rattle.vl_ast.specs.Driven.{Driven, IsEnabled, stimulus_ports}
use Rattle.vl_ast.specs.Header.{bit_output, bit_input}
use Rattle.vl_ast.specs.Windows.{PortNumbers, Window, row_at}
use Rattle.vl_ast.specs.Runs.{Row, Rows, Runs}
use Rattle.vl_ast.specs.Value.{bits_of}
use Rattle.vl_ast.proofs.FullCounts.{enabled-count, place-clock}
use Rattle.hw_net.specs.declared.netlist.NetPort.{NetPort}
use Rattle.hw_net.specs.Circuit.{Circuit}
use Rattle.hw_net.specs.Netlist.{IsNetlist}
use Rattle.hw_net.specs.Emittable.{IsEmittable, IsPortName}
use Rattle.vl_emit.specs.Header.{input_port, output_port, input_ports, output_ports}
use Rattle.vl_emit.specs.Names.{port_at, name_of, port_wire, shown}
use Rattle.hw_net.specs.Products.{net_at}
use Rattle.vl_emit.specs.Shown.{IsReset, inputs_from, rows_from}
use Rattle.vl_emit.proofs.ModuleNets.{of-mapped, mapped, later, here}
use Rattle.vl_emit.proofs.Numbers.{number-bits, number-is}
use Rattle.vl_emit.proofs.Sounds.{word-at}
use Rattle.hw_module.specs.inner.Emission.{IsEmissionOf}
use Rattle.hw_module.proofs.Lists.{get-map, filter-all, filter-none, got}
use Rattle.math_list.proofs.Tests.{unequal}

pub can-stall : {netlist : Circuit} {m : Module} → IsEmissionOf netlist m → is_stallable m ≡ true
can-stall made = ap (list_any (is_bit_input (codes "clk_enable"))) made.header.ports

module _ {netlist : Circuit} {m : Module} (runs : IsNetlist netlist) (emits : IsEmittable netlist) (made : IsEmissionOf netlist m) where
  port-word : (k : ℕ) → k < length netlist.nets → IsWord (net_at netlist.nets k).width (net_at netlist.nets k).signed
  port-word k h = word-at netlist runs emits.counters k h

  -- whether a port carries numbers inwards, of a module that can be stalled or not
  abbrev IsNumberInput : Bool → Port → Bool
  IsNumberInput stalls port = port.input && not ((stalls && bytes_eq port.name (codes "clk_enable")) || is_clock_or_reset port)

  input-named : (x : NetPort) → Contains netlist.inputs x → IsPortName x.name
  input-named x c = emits.ports.names x (Contains-append_left netlist.inputs netlist.outputs x c)

  input-is : (port : Port) → Contains (input_ports netlist) port → IsNumberInput true port ≡ true
  input-is port c =
      let r = of-mapped (input_port netlist) netlist.inputs port c in
      let named = input-named r.0 r.1 in
      let a : bytes_eq r.0.name (codes "clk") ≡ false = unequal r.0.name (codes "clk") named.no_clock in
      let b : bytes_eq r.0.name (codes "reset") ≡ false = unequal r.0.name (codes "reset") named.no_reset in
      let d : bytes_eq r.0.name (codes "clk_enable") ≡ false = unequal r.0.name (codes "clk_enable") named.no_enable in
      subst (λ (p : Port). IsNumberInput true p ≡ true) r.2 (λ i. not (d i || (a i || b i)))

  output-isnt : (port : Port) → Contains (output_ports netlist) port → IsNumberInput true port ≡ false
  output-isnt port c = (let r = of-mapped (output_port netlist) netlist.outputs port c in subst (λ (p : Port). IsNumberInput true p ≡ false) r.2 refl)

  abbrev own-ports : List Port
  own-ports = input_ports netlist ++ bit_output (codes "ce_out") ∷ output_ports netlist

  -- the input ports that carry numbers are those of the netlist
  pub numbers-are : stimulus_ports m ≡ input_ports netlist
  numbers-are =
      let a = filter-all (IsNumberInput true) (input_ports netlist) input-is in
      let b = filter-none (IsNumberInput true) (output_ports netlist) output-isnt in
      ap (λ (stalls : Bool). filter (IsNumberInput stalls) m.ports) (can-stall made)
      ∙ ap (filter (IsNumberInput true)) made.header.ports
      ∙ filter-append (IsNumberInput true) (input_ports netlist) (bit_output (codes "ce_out") ∷ output_ports netlist)
      ∙ (λ i. a i ++ b i)
      ∙ append-nil (input_ports netlist)

  pub cycles-are : cycles_of m ≡ Some netlist.cycles
  cycles-are =
      let a : nat_le 1 netlist.cycles ≡ true = le-leb 1 netlist.cycles runs.cycles in
      let b : nat_le netlist.cycles 1024 ≡ true = le-leb netlist.cycles 1024 emits.cycles in
      ap (λ (attrs : List Attr). attribute attrs (codes "fx_cycles") 1 1024) made.header.attrs
      ∙ (λ i. if a i && b i then Some netlist.cycles else None)

  period-is : (x : NetPort) → Contains netlist.inputs x → period_of (input_port netlist x) ≡ Some x.period
  period-is x c =
      let p = emits.ports.periods x (Contains-append_left netlist.inputs netlist.outputs x c) in
      let a : nat_le 1 x.period ≡ true = le-leb 1 x.period p.some in
      let b : nat_le x.period 4096 ≡ true = le-leb x.period 4096 p.most in
      (λ i. if a i && b i then Some x.period else None)

  input-there : (port : Port) → Contains (input_ports netlist) port → Contains m.ports port
  input-there port c =
      subst (λ (l : List Port). Contains l port) (sym made.header.ports)
      (later (bit_input (codes "clk")) port (bit_input (codes "reset") ∷ bit_input (codes "clk_enable") ∷ own-ports)
      (later (bit_input (codes "reset")) port (bit_input (codes "clk_enable") ∷ own-ports)
      (later (bit_input (codes "clk_enable")) port own-ports (Contains-append_left (input_ports netlist) (bit_output (codes "ce_out") ∷ output_ports netlist) port c))))

  reset-there : Contains m.ports (bit_input (codes "reset"))
  reset-there =
      subst (λ (l : List Port). Contains l (bit_input (codes "reset"))) (sym made.header.ports)
      (later (bit_input (codes "clk")) (bit_input (codes "reset")) (bit_input (codes "reset") ∷ bit_input (codes "clk_enable") ∷ own-ports)
      (here (bit_input (codes "reset")) (bit_input (codes "clk_enable") ∷ own-ports)))

  enable-there : Contains m.ports (bit_input (codes "clk_enable"))
  enable-there =
      subst (λ (l : List Port). Contains l (bit_input (codes "clk_enable"))) (sym made.header.ports)
      (later (bit_input (codes "clk")) (bit_input (codes "clk_enable")) (bit_input (codes "reset") ∷ bit_input (codes "clk_enable") ∷ own-ports)
      (later (bit_input (codes "reset")) (bit_input (codes "clk_enable")) (bit_input (codes "clk_enable") ∷ own-ports) (here (bit_input (codes "clk_enable")) own-ports)))

  module _ {samples : ℕ} {window : Window} {column : PortNumbers} {start : Row} {inputs rows : Rows}
      (driven : Driven m column samples window inputs) (on : IsEnabled window inputs) (run : Runs m window.rows start inputs rows) where
    -- the rows are those of a run that is reset, and then not
    pub is-reset : IsReset m window.rows window.last_reset start inputs rows
    is-reset = record {
      runs = run;
      within = driven.reset.within;
      reset = run.driven window.last_reset driven.reset.within (bit_input (codes "reset")) reset-there refl ∙ driven.reset.reset;
      released = λ k after below. run.driven k below (bit_input (codes "reset")) reset-there refl ∙ driven.reset.released k after below;
    }

    pub enabled-rows : (k : ℕ) → k < window.rows → rows k (codes "clk_enable") ≡ 1
    enabled-rows k below = run.driven k below (bit_input (codes "clk_enable")) enable-there refl ∙ on.at k below

    -- an input shows the number of each hit in its whole frame
    pub input-shows : (place : ℕ) (x : NetPort) → slice_get netlist.inputs place ≡ Some x → (t clock : ℕ) → t < samples → t % x.period ≡ 0
        → t * netlist.cycles ≤ clock → clock < (t + x.period) * netlist.cycles → row_at window clock < window.rows
        → InWord (net_at netlist.nets x.net).width (net_at netlist.nets x.net).signed (column place t) → x.net < length netlist.nets
        → inputs_from netlist window.last_reset rows place clock ≡ column place t
    input-shows place x is t clock early hit from until below within there =
        let c = got netlist.inputs place x is in
        let at : slice_get (stimulus_ports m) place ≡ Some (input_port netlist x) = ap (λ (l : List Port). slice_get l place) numbers-are ∙ get-map (input_port netlist) netlist.inputs place x is in
        let counts = place-clock m window inputs (enabled-count m window inputs on) clock below in
        let bits : rows (row_at window clock) x.name ≡ bits_of (net_at netlist.nets x.net).width (column place t) =
        run.driven (row_at window clock) below (input_port netlist x) (input-there (input_port netlist x) (mapped (input_port netlist) netlist.inputs x c)) refl
        ∙ driven.shows netlist.cycles cycles-are place (input_port netlist x) at x.period (period-is x c) t early hit clock clock from until counts in
        let same : port_at netlist.inputs place ≡ x = get_or_from_slice_get netlist.inputs place x _ is in
        ap (λ (p : NetPort). shown (rows (row_at window clock)) (port_wire netlist p)) same
        ∙ number-is (net_at netlist.nets x.net).width (net_at netlist.nets x.net).signed (rows (row_at window clock) x.name) (column place t) (port-word x.net there) within bits

    -- a net's name has the bits of its number
    pub net-bits : (k clock : ℕ) → k < length netlist.nets → row_at window clock < window.rows
        → rows (row_at window clock) (name_of netlist k) ≡ bits_of (net_at netlist.nets k).width (rows_from netlist window.last_reset rows k clock)
    net-bits k clock h below =
        sym (number-bits (net_at netlist.nets k).width (net_at netlist.nets k).signed (rows (row_at window clock) (name_of netlist k)) (port-word k h)
        (made.fit.fit window.rows start inputs rows run (row_at window clock) below k h))

    -- and an output port those of its net
    pub output-bits : (x : NetPort) → Contains netlist.outputs x → (clock : ℕ) → row_at window clock < window.rows
        → rows (row_at window clock) x.name ≡ bits_of (net_at netlist.nets x.net).width (rows_from netlist window.last_reset rows x.net clock)
    output-bits x c clock below =
        made.outputs.are window.rows start inputs rows run (row_at window clock) below x c
        ∙ net-bits x.net clock (All-contains (λ (p : NetPort). p.net < length netlist.nets) netlist.outputs x runs.outputs c) below
