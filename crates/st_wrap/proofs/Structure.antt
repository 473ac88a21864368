-- What the wrapper has: its control, and the core by other names.
use Rattle.std.proofs.Common.{◌≡◌, ⊎_elim, ℕ, nat_le, not, ◌||◌, Bool, true, false, if◌then◌else◌, List, [], ◌∷◌, ◌++◌, map, flat_map, Contains, bytes_eq, codes, Some, refl, sym, ap, subst, ◌∙◌}
use Rattle.std.proofs.Common.{arith}
use Rattle.std.specs.List.{list_any}
use Rattle.std.proofs.lemmas.Bool.{cases_Bool, cond-false, or_parts, not-false}
use Rattle.std.proofs.lemmas.List.Elements.{Contains-append_left, Contains-append_right}
use Rattle.std.proofs.lemmas.Slice.Eq.{bytes_eq-Decides}
use Rattle.vl_ast.specs.declared.modules.ModItem.{ModItem}
use Rattle.vl_ast.specs.declared.modules.ModItem.TheVariants.{Wire}
use Rattle.vl_ast.specs.declared.modules.Port.{Port}
use Rattle.vl_ast.specs.declared.modules.Module.{Module}
use Rattle.vl_ast.specs.Conditions.{BreaksNone, IsAcyclic, is_clk_at_fault, is_read_of, is_reset_at_fault}
use Rattle.vl_ast.specs.Control.{is_bit_input, is_stallable}
use Rattle.vl_ast.specs.Context.{Net}
use Rattle.vl_ast.specs.Header.{bit_input, input_port, output_port}
use Rattle.vl_ast.specs.Nets.{Declared, Declares, Kind, PlainWire, Register, declaration_of, mentions, place_of, port_declared}
use Rattle.vl_ast.proofs.Facts.{Declaration, OfPort, OfReg, OfWire, declaration-by, in-port, is-declared, listed-mention, mention-listed, reg-declared, wire-declared}
use Rattle.vl_ast.proofs.GatesSound.{neither}
use Rattle.math_list.proofs.Elements.{flat-in, head-in, map-in}
use Rattle.vl_ast.proofs.StallFree.{bit-port}
use Rattle.st_wrap.specs.declared.columns.Column.{Column}
use Rattle.st_wrap.specs.declared.pace.Counters.{Counters}
use Rattle.st_wrap.specs.Header.{flag}
use Rattle.st_wrap.specs.inner.Columns.{column_port, held_declared, held_driven, late_declared, late_driven}
use Rattle.st_wrap.specs.inner.Control.{control_declared, control_driven}
use Rattle.st_wrap.specs.inner.Names.{enable_name, inner_name, is_shared}
use Rattle.st_wrap.specs.inner.CoreNames.{core_items, renamed_item, wires_for, wires_of}
use Rattle.st_wrap.specs.inner.Wrapper.{declared_items, driven_items, made_of, ports_of}
use Rattle.st_wrap.proofs.ControlSignals.{HasControl, in_flag, out_flag}
use Rattle.st_wrap.proofs.CoreRows.{Embeds, IsThere}

-- a module has some items, and those that are made of each column of two lists
pub record HasParts (m : Module) (inputs outputs : List Column) (first : List ModItem) (of_input of_output : Column → List ModItem) : Type 0 where
  pub front : (i : ModItem) → Contains first i → Contains m.items i
  pub input : (column : Column) → Contains inputs column → (i : ModItem) → Contains (of_input column) i → Contains m.items i
  pub output : (column : Column) → Contains outputs column → (i : ModItem) → Contains (of_output column) i → Contains m.items i

has-parts : (m : Module) (inputs outputs : List Column) (front : List ModItem) (of_input of_output : Column → List ModItem)
    → ((i : ModItem) → Contains (front ++ (flat_map of_input inputs ++ flat_map of_output outputs)) i → Contains m.items i) → HasParts m inputs outputs front of_input of_output
has-parts m inputs outputs front of_input of_output within =
    let ins = flat_map of_input inputs in
    let outs = flat_map of_output outputs in
    record {
      front = λ i h. within i (Contains-append_left front (ins ++ outs) i h);
      input = λ column c i h. within i (Contains-append_right front (ins ++ outs) i (Contains-append_left ins outs i (flat-in of_input inputs column i c h)));
      output = λ column c i h. within i (Contains-append_right front (ins ++ outs) i (Contains-append_right ins outs i (flat-in of_output outputs column i c h)));
    }

module _ (core : Module) (counters : Counters) (inputs outputs : List Column) where
  abbrev made : Module
  made = made_of core counters inputs outputs

  abbrev held : List ModItem
  held = flat_map held_declared inputs

  abbrev late : List ModItem
  late = flat_map late_declared outputs

  in-declared : (i : ModItem) → Contains (declared_items core counters inputs outputs) i → Contains (made_of core counters inputs outputs).items i
  in-declared i h = Contains-append_left (declared_items core counters inputs outputs) (core_items core ++ driven_items counters inputs outputs) i h

  in-later : (i : ModItem) → Contains (core_items core ++ driven_items counters inputs outputs) i → Contains (made_of core counters inputs outputs).items i
  in-later i h = Contains-append_right (declared_items core counters inputs outputs) (core_items core ++ driven_items counters inputs outputs) i h

  pub wire-there : (i : ModItem) → Contains (wires_of core) i → Contains (made_of core counters inputs outputs).items i
  wire-there i h = in-declared i (Contains-append_left (wires_of core) (control_declared counters ++ (held ++ late)) i h)

  behind-wires : (i : ModItem) → Contains (control_declared counters ++ (held ++ late)) i → Contains (made_of core counters inputs outputs).items i
  behind-wires i h = in-declared i (Contains-append_right (wires_of core) (control_declared counters ++ (held ++ late)) i h)

  pub declared-there : HasParts (made_of core counters inputs outputs) inputs outputs (control_declared counters) held_declared late_declared
  declared-there = has-parts (made_of core counters inputs outputs) inputs outputs (control_declared counters) held_declared late_declared behind-wires

  pub core-there : (i : ModItem) → Contains core.items i → Contains (made_of core counters inputs outputs).items (renamed_item i)
  core-there i h = in-later (renamed_item i) (Contains-append_left (core_items core) (driven_items counters inputs outputs) (renamed_item i) (map-in renamed_item core.items i h))

  in-driven : (i : ModItem) → Contains (driven_items counters inputs outputs) i → Contains (made_of core counters inputs outputs).items i
  in-driven i h = in-later i (Contains-append_right (core_items core) (driven_items counters inputs outputs) i h)

  pub driven-there : HasParts (made_of core counters inputs outputs) inputs outputs (control_driven counters) held_driven late_driven
  driven-there = has-parts (made_of core counters inputs outputs) inputs outputs (control_driven counters) held_driven late_driven in-driven

  -- ---- ports

  abbrev ins : List Port
  ins = map (λ column. input_port (column_port column)) inputs

  abbrev outs : List Port
  outs = map (λ column. output_port (column_port column)) outputs

  abbrev behind_inputs : List Port
  behind_inputs = input_port (flag (codes "out_ready")) ∷ output_port (flag (codes "in_ready")) ∷ output_port (flag (codes "out_valid")) ∷ outs

  abbrev front : List Port
  front = bit_input (codes "clk") ∷ bit_input (codes "reset") ∷ input_port (flag (codes "in_valid")) ∷ []

  abbrev flags : List Port
  flags = input_port (flag (codes "out_ready")) ∷ output_port (flag (codes "in_ready")) ∷ output_port (flag (codes "out_valid")) ∷ []

  pub front-there : (port : Port) → Contains front port → Contains (ports_of inputs outputs) port
  front-there port h = Contains-append_left front (ins ++ behind_inputs) port h

  behind : (port : Port) → Contains behind_inputs port → Contains (ports_of inputs outputs) port
  behind port h = Contains-append_right front (ins ++ behind_inputs) port (Contains-append_right ins behind_inputs port h)

  pub flag-there : (port : Port) → Contains flags port → Contains (ports_of inputs outputs) port
  flag-there port h = behind port (Contains-append_left flags outs port h)

  pub input-port : (column : Column) → Contains inputs column → Contains (ports_of inputs outputs) (input_port (column_port column))
  input-port column c =
      let port : Port = input_port (column_port column) in
      Contains-append_right front (ins ++ behind_inputs) port (Contains-append_left ins behind_inputs port (map-in (λ column. input_port (column_port column)) inputs column c))

  pub output-port : (column : Column) → Contains outputs column → Contains (ports_of inputs outputs) (output_port (column_port column))
  output-port column c =
      let port : Port = output_port (column_port column) in
      behind port (Contains-append_right flags outs port (map-in (λ column. output_port (column_port column)) outputs column c))

  -- ---- the control

  pub wire-of : (port : Port) → Contains core.ports port → is_shared port.name ≡ false → Contains (wires_of core) (Wire port.signed port.width (inner_name port.name))
  wire-of port h off = flat-in wires_for core.ports port _ h
      (subst (λ items. Contains items (Wire port.signed port.width (inner_name port.name)))
      (sym (cond-false (is_shared port.name) [] (Wire port.signed port.width (inner_name port.name) ∷ []) off)) (head-in _ []))

  pub has-control : is_stallable core ≡ true → HasControl (made_of core counters inputs outputs) counters
  has-control stallable = record {
    declared = λ i h. declared-there.front i h;
    driven = λ i h. driven-there.front i h;
    enable =
        let p = bit-port (codes "clk_enable") core.ports stallable in
        let off : is_shared p.0.name ≡ false = ap is_shared p.2 in
        let w = wire-there _ (wire-of p.0 p.1 off) in
        let name : inner_name p.0.name ≡ enable_name = ap inner_name p.2 in
        subst (λ (i : ModItem). Contains (made_of core counters inputs outputs).items i) (λ i. Wire (p.5 i) (p.4 i) (name i)) w;
    in_valid = front-there in_flag (2, omega arith, refl);
    out_ready = flag-there out_flag (0, omega arith, refl);
    in_ready = flag-there (output_port (flag (codes "in_ready"))) (1, omega arith, refl);
    out_valid = flag-there (output_port (flag (codes "out_valid"))) (2, omega arith, refl);
  }

  -- ---- the core

  module _ (small : BreaksNone core) (large : IsAcyclic (made_of core counters inputs outputs)) where
    there-as : (d other : Declared) → Contains (mentions (made_of core counters inputs outputs)) (Declares other)
        → other.name ≡ inner_name d.name → other.net ≡ d.net → IsThere (made_of core counters inputs outputs) d
    there-as d other h name net = record { other = other; listed = mention-listed (made_of core counters inputs outputs) large.driven large.once other h; name = name; net = net }

    some-same : {d e : Declared} → Some d ≡ Some e → d ≡ e
    some-same {d} {e} p = cc p

    -- a port that the core shares with the wrapper is an input of one bit
    shared-net : (name : List ℕ) → (p : (port : Port) × Contains core.ports port × (port.name ≡ name) × (port.input ≡ true) × (port.width ≡ 1) × (port.signed ≡ false))
        → (d : Declared) → Contains (mentions core) (Declares d) → d.name ≡ name → d.net ≡ record { width = 1; signed = false }
    shared-net name p d h same =
        let mine = is-declared core small.acyclic.driven small.acyclic.once d h in
        let its = is-declared core small.acyclic.driven small.acyclic.once (port_declared p.0) (in-port core small.acyclic.driven small.acyclic.once p.0 p.1) in
        let one : d ≡ port_declared p.0 = some-same (sym mine ∙ ap (declaration_of core) (same ∙ sym p.2) ∙ its) in
        ap (λ (e : Declared). e.net) one ∙ (λ i. let n : Net = record { width = p.4 i; signed = p.5 i } in n)

    faults : (is_clk_at_fault core ≡ false) × (is_reset_at_fault core ≡ false)
    faults = neither (if nat_le (place_of core (codes "clk")) (place_of core (codes "reset")) then codes "clk" else codes "reset") (is_clk_at_fault core) (is_reset_at_fault core) small.clocked

    clk-bit : list_any (is_bit_input (codes "clk")) core.ports ≡ true
    clk-bit = not-false (list_any (is_bit_input (codes "clk")) core.ports)
        (or_parts (not (list_any (is_bit_input (codes "clk")) core.ports))
        (list_any (is_read_of (codes "clk")) (mentions core)) faults.0).0

    reset-bit : list_any (is_bit_input (codes "reset")) core.ports ≡ true
    reset-bit = not-false (list_any (is_bit_input (codes "reset")) core.ports) faults.1

    or-other : (a b : Bool) → (a || b) ≡ true → a ≡ false → b ≡ true
    or-other true b e f = absurd (cc f)
    or-other false b e f = e

    shared : (d : Declared) → Contains (mentions core) (Declares d) → (name : List ℕ)
        → ((port : Port) × Contains core.ports port × (port.name ≡ name) × (port.input ≡ true) × (port.width ≡ 1) × (port.signed ≡ false))
        → Contains (ports_of inputs outputs) (bit_input name) → inner_name name ≡ name → d.name ≡ name → IsThere (made_of core counters inputs outputs) d
    shared d h name p there kept same =
        there-as d (port_declared (bit_input name)) (in-port (made_of core counters inputs outputs) large.driven large.once (bit_input name) there)
        (sym kept ∙ ap inner_name (sym same)) (sym (shared-net name p d h same))

    -- a wire or a register, by its declarations
    moved : (d : Declared) → Contains (mentions core) (Declares d) → (kind : Kind) (net : Net) → Contains (mentions core) (Declares (record { name = d.name; kind = kind; net = net }))
        → Contains (mentions (made_of core counters inputs outputs)) (Declares (record { name = inner_name d.name; kind = kind; net = net })) → IsThere (made_of core counters inputs outputs) d
    moved d h kind net mine theirs =
        let it : Declared = record { name = d.name; kind = kind; net = net } in
        let its = is-declared core small.acyclic.driven small.acyclic.once it mine in
        let same : d ≡ it = some-same (sym (is-declared core small.acyclic.driven small.acyclic.once d h) ∙ its) in
        there-as d (record { name = inner_name d.name; kind = kind; net = net }) theirs refl (ap (λ (e : Declared). e.net) (sym same))

    by-declaration : (d : Declared) → Contains (mentions core) (Declares d) → Declaration core small.acyclic.driven small.acyclic.once d → IsThere (made_of core counters inputs outputs) d
    by-declaration d h (OfWire signed width there kind) = moved d h PlainWire (record { width = width; signed = signed })
        (wire-declared core small.acyclic.driven small.acyclic.once signed width d.name there)
        (wire-declared (made_of core counters inputs outputs) large.driven large.once signed width
        (inner_name d.name) (core-there _ there))
    by-declaration d h (OfReg signed width there kind) = moved d h Register (record { width = width; signed = signed })
        (reg-declared core small.acyclic.driven small.acyclic.once signed width d.name there)
        (reg-declared (made_of core counters inputs outputs) large.driven large.once signed width
        (inner_name d.name) (core-there _ there))
    by-declaration d h (OfPort port there same) = ⊎_elim
        (λ on. ⊎_elim
        (λ clk. shared d h (codes "clk") (bit-port (codes "clk") core.ports clk-bit)
        (front-there (bit_input (codes "clk")) (0, omega arith, refl)) refl
        (sym (ap (λ (e : Declared). e.name) same) ∙ (bytes_eq-Decides port.name (codes "clk")).0 clk))
        (λ other. shared d h (codes "reset") (bit-port (codes "reset") core.ports reset-bit) (front-there (bit_input (codes "reset")) (1, omega arith, refl)) refl
        (sym (ap (λ (e : Declared). e.name) same) ∙ (bytes_eq-Decides port.name (codes "reset")).0 (or-other (bytes_eq port.name (codes "clk")) (bytes_eq port.name (codes "reset")) on other)))
        (cases_Bool (bytes_eq port.name (codes "clk"))))
        (λ off.
        there-as d (record { name = inner_name port.name; kind = PlainWire; net = record { width = port.width; signed = port.signed } })
        (wire-declared (made_of core counters inputs outputs) large.driven large.once port.signed port.width (inner_name port.name) (wire-there _ (wire-of port there off)))
        (ap inner_name (ap (λ (e : Declared). e.name) same)) (ap (λ (e : Declared). e.net) same))
        (cases_Bool (is_shared port.name))

    pub embeds : Embeds core (made_of core counters inputs outputs)
    embeds = record {
      items = λ i h. core-there i h;
      declared = λ d h.
          let m = listed-mention core small.acyclic.driven small.acyclic.once d h in
          by-declaration d m (declaration-by core small.acyclic.driven small.acyclic.once d m);
    }
