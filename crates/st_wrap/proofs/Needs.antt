-- Each wire, register and output of the wrapper has a driver.
use Rattle.std.proofs.Common.{◌≡◌, ℕ, ◌+◌, ◌≤◌, ⊎_elim, Bool, true, false, not, ◌&&◌, ◌||◌, if◌then◌else◌, List, [], ◌∷◌, ◌++◌, map, flat_map, length, Contains, bytes_eq, codes, Some, None, refl, sym}
use Rattle.std.proofs.Common.{ap, subst, ◌∙◌, arith}
use Rattle.std.specs.List.{list_any, range_with_len}
use Rattle.std.proofs.lemmas.Bool.{and_parts, cases_Bool, false≢true, not-false}
use Rattle.std.proofs.lemmas.List.{append-nil}
use Rattle.std.proofs.lemmas.List.Elements.{Contains-append_left, Contains-append_right, Contains-append_cases}
use Rattle.std.proofs.lemmas.Slice.Eq.{bytes_eq-Decides}
use Rattle.vl_ast.specs.declared.modules.ModItem.{ModItem}
use Rattle.vl_ast.specs.declared.modules.ModItem.TheVariants.{Wire, Reg, Assign, Always}
use Rattle.vl_ast.specs.declared.modules.Port.{Port}
use Rattle.vl_ast.specs.declared.modules.Module.{Module}
use Rattle.vl_ast.specs.Conditions.{BreaksNone, is_driver_of, needs_driver, undriven}
use Rattle.vl_ast.specs.Control.{is_clock_or_reset, is_control_input, is_number_input, is_stallable}
use Rattle.vl_ast.specs.Driven.{stimulus_ports}
use Rattle.vl_ast.specs.Header.{bit_input, input_port}
use Rattle.vl_ast.specs.Nets.{Declared, InputPort, OutputPort, PlainWire, Register, Mention, Declares, Drives, Reads, Clocks, condition_names, names_read, declaration_of, item_mentions, mentions}
use Rattle.vl_ast.specs.Nets.{port_declared}
use Rattle.vl_ast.proofs.Facts.{has-driver, in-port}
use Rattle.math_list.proofs.Elements.{cons-cases, flat-in, from-flat, from-map, head-in, map-in, none-in, tail-in}
use Rattle.st_wrap.specs.declared.columns.Column.{Column}
use Rattle.st_wrap.specs.declared.pace.Counters.{Counters}
use Rattle.st_wrap.specs.Header.{named_inputs}
use Rattle.st_wrap.specs.Names.{AreColumnNames}
use Rattle.st_wrap.specs.inner.Columns.{column_port, input_column, stage_driven}
use Rattle.st_wrap.specs.inner.Control.{control_driven}
use Rattle.st_wrap.specs.inner.Names.{begin_name, end_name, due_name, fed_name, open_name, enable_name, held_name, inner_name, is_shared, late_name, phase_name, wait_name}
use Rattle.st_wrap.specs.inner.Wrapper.{inputs_of, outputs_of, ports_of, wrapped}
use Rattle.math_list.proofs.Places.{seen}
use Rattle.st_wrap.proofs.Apart.{declared_names}
use Rattle.st_wrap.proofs.ColumnPorts.{got-in, paired, to-filter}
use Rattle.st_wrap.proofs.ControlSignals.{in_flag, out_flag}
use Rattle.st_wrap.proofs.Drivers.{declared-is, item-mention, port-mention}
use Rattle.st_wrap.proofs.FirstCondition.{undriven-none}
use Rattle.st_wrap.proofs.NamesOnce.{column_name, declared_in, in-each}
use Rattle.st_wrap.proofs.Once.{control_names, declared-list, flag_names, front_names, held_names, in-control, in-wire, in_names, late_names, out_names, own_declared, port_name, wire_names, wires}
use Rattle.st_wrap.proofs.NamePlaces.{are-known, core_part, declared_part, mentions-are, own_part, ports_part}
use Rattle.st_wrap.proofs.NameReads.{renamed_mention}
use Rattle.st_wrap.proofs.Structure.{driven-there, flag-there, front-there, input-port}
use Rattle.st_wrap.proofs.NameWords.{named-mention}

declared-kind : (d e : Declared) → Declares d ≡ Declares e → d.kind ≡ e.kind
declared-kind d e p = ap (λ x. (or_this d x).kind) p where
  or_this : Declared → Mention → Declared
  or_this d (Declares e) = e
  or_this d (Drives c m) = d
  or_this d (Reads m) = d
  or_this d Clocks = d

no-reads : (d : Declared) (ns : List (List ℕ)) → Contains (map Reads ns) (Declares d) → ⊥
no-reads d ns h = let r = from-map Reads ns (Declares d) h in absurd (cc (r.2))

-- what the places of items declare needs a driver
declares-needs : (i : ModItem) (d : Declared) → Contains (item_mentions i) (Declares d) → needs_driver d.kind ≡ true
declares-needs (Wire signed width name) d h =
    let it : Declared = record { name = name; kind = PlainWire; net = record { width = width; signed = signed } } in
    ⊎_elim (λ e. ap needs_driver (sym (declared-kind it d e))) (λ t. absurd (none-in (Declares d) t)) (cons-cases (Declares it) (Declares d) [] h)
declares-needs (Reg signed width name) d h =
    let it : Declared = record { name = name; kind = Register; net = record { width = width; signed = signed } } in
    ⊎_elim (λ e. ap needs_driver (sym (declared-kind it d e))) (λ t. absurd (none-in (Declares d) t)) (cons-cases (Declares it) (Declares d) [] h)
declares-needs (Assign name value) d h =
    ⊎_elim (λ e. absurd (cc e)) (λ t. absurd (no-reads d (names_read value) t)) (cons-cases (Drives false name) (Declares d) (map Reads (names_read value)) h)
declares-needs (Always name first condition value) d h =
    let ns = condition_names condition ++ names_read value in
    ⊎_elim (λ e. absurd (cc e))
    (λ s. ⊎_elim (λ e. absurd (cc e)) (λ t. absurd (no-reads d (condition_names condition ++ names_read value) t))
    (cons-cases (Drives true name) (Declares d) (map Reads (condition_names condition ++ names_read value)) s))
    (cons-cases Clocks (Declares d) (Drives true name ∷ map Reads (condition_names condition ++ names_read value)) h)

module _ (core : Module) (sound : BreaksNone core) (stallable : is_stallable core ≡ true) (names : List (List ℕ)) (named : AreColumnNames core names) (counters : Counters) where
  abbrev Has : List ℕ → Type 0
  Has n = list_any (is_driver_of n) (mentions (wrapped core names counters)) ≡ true

  has-by : (c : Bool) (n : List ℕ) → Contains (mentions (wrapped core names counters)) (Drives c n) → Has n
  has-by c n h = seen (is_driver_of n) (mentions (wrapped core names counters)) (Drives c n) h ((bytes_eq-Decides n n).1 refl)

  signal-has : (i : ModItem) (c : Bool) (n : List ℕ) → Contains (control_driven counters) i → Contains (item_mentions i) (Drives c n) → Has n
  signal-has i c n h d = has-by c n (item-mention core sound stallable names named counters i (Drives c n) ((driven-there core counters (inputs_of core names) (outputs_of core names)).front i h) d)

  second-in : (x y : Mention) (xs : List Mention) → Contains (x ∷ y ∷ xs) y
  second-in x y xs = tail-in x y (y ∷ xs) (head-in y xs)

  enable-has : Has enable_name
  enable-has = signal-has _ false enable_name (5, omega arith, refl) (head-in _ _)

  -- what drives a name of the core drives it in the wrapper
  core-has : (d : Declared) → Contains (mentions core) (Declares d) → needs_driver d.kind ≡ true → Has (inner_name d.name)
  core-has d h needs =
      let r = has-driver core sound.acyclic.driven sound.acyclic.once d h needs in
      let inside : Contains (flat_map item_mentions core.items) (Drives r.0 d.name) = ⊎_elim
      (λ a. let s = from-map (λ port. Declares (port_declared port)) core.ports (Drives r.0 d.name) a in absurd (cc (s.2)))
      (λ b. b)
      (Contains-append_cases (map (λ port. Declares (port_declared port)) core.ports) (flat_map item_mentions core.items) (Drives r.0 d.name) r.1) in
      let renamed : Contains (map renamed_mention (flat_map item_mentions core.items))
      (Drives r.0 (inner_name d.name)) =
      map-in renamed_mention (flat_map item_mentions core.items) (Drives r.0 d.name) inside in
      let x : Mention = Drives r.0 (inner_name d.name) in
      has-by r.0 (inner_name d.name) (subst (λ xs. Contains xs (Drives r.0 (inner_name d.name))) (sym (mentions-are core sound stallable names named counters))
      (Contains-append_right (ports_part core names) (declared_part core names counters ++ (core_part core ++ own_part core names)) x
      (Contains-append_right (declared_part core names counters) (core_part core ++ own_part core names) x (Contains-append_left (core_part core) (own_part core names) x renamed))))

  input-has : (column : Column) → Contains (inputs_of core names) column → Has (inner_name column.inner)
  input-has column c = has-by false (inner_name column.inner) (item-mention core sound stallable names named counters _ (Drives false (inner_name column.inner))
      ((driven-there core counters (inputs_of core names) (outputs_of core names)).input column c _ (0, omega arith, refl)) (head-in _ _))

  held-has : (column : Column) → Contains (inputs_of core names) column → Has (held_name column.name)
  held-has column c = has-by true (held_name column.name) (item-mention core sound stallable names named counters _ (Drives true (held_name column.name))
      ((driven-there core counters (inputs_of core names) (outputs_of core names)).input column c _ (1, omega arith, refl)) (second-in _ _ _))

  late-has : (column : Column) → Contains (outputs_of core names) column → (place : ℕ) → Contains (range_with_len 0 column.late) place → Has (late_name column.name (place + 1))
  late-has column c place h = has-by true (late_name column.name (place + 1))
      (item-mention core sound stallable names named counters (stage_driven column place)
      (Drives true (late_name column.name (place + 1)))
      ((driven-there core counters (inputs_of core names) (outputs_of core names)).output column c (stage_driven column place)
      (Contains-append_left (map (stage_driven column) (range_with_len 0 column.late)) _ (stage_driven column place)
      (map-in (stage_driven column) (range_with_len 0 column.late) place h))) (second-in _ _ _))

  output-has : (column : Column) → Contains (outputs_of core names) column → Has column.name
  output-has column c = has-by false column.name (item-mention core sound stallable names named counters _ (Drives false column.name)
      ((driven-there core counters (inputs_of core names) (outputs_of core names)).output column c _
      (Contains-append_right (map (stage_driven column) (range_with_len 0 column.late)) _ _ (head-in _ []))) (head-in _ _))

  -- a wire of a port of the core
  wire-has : (port : Port) → Contains core.ports port → is_shared port.name ≡ false → Has (inner_name port.name)
  wire-has port h off = ⊎_elim (λ on. of-input on)
      (λ out. core-has (port_declared port) (in-port core sound.acyclic.driven sound.acyclic.once port h)
      (ap (λ (b : Bool). needs_driver (if b then InputPort else OutputPort)) out)) (cases_Bool port.input) where
        or-other : (a b : Bool) → (a || b) ≡ true → b ≡ false → a ≡ true
        or-other true b e f = refl
        or-other false b e f = absurd (cc (e, f))

        of-input : port.input ≡ true → Has (inner_name port.name)
        of-input on = ⊎_elim
            (λ t.
            let enough : length (stimulus_ports core) ≤ length names = (let n = named.count in omega (arith, n)) in
            let pr = paired (stimulus_ports core) names port enough (to-filter (is_number_input (is_stallable core)) core.ports port h t) in
            input-has (input_column (port, pr.partner)) (map-in input_column (named_inputs core names) (port, pr.partner) (got-in (named_inputs core names) pr.place (port, pr.partner) pr.at)))
            (λ f.
            let ctrl : is_control_input (is_stallable core) port ≡ true =
            not-false (is_control_input (is_stallable core) port) (sym (ap (λ b. b && not (is_control_input (is_stallable core) port)) on) ∙ f) in
            let e = and_parts (is_stallable core) (bytes_eq port.name (codes "clk_enable"))
            (or-other (is_stallable core && bytes_eq port.name (codes "clk_enable"))
            (is_clock_or_reset port) ctrl off) in
            subst (λ n. Has (inner_name n)) (sym ((bytes_eq-Decides port.name (codes "clk_enable")).0 e.1)) enable-has)
            (cases_Bool (is_number_input (is_stallable core) port))

  some-same : {d e : Declared} → Some d ≡ Some e → d ≡ e
  some-same {d} {e} p = cc p

  -- an input needs none
  no-need : (d : Declared) → Contains (mentions (wrapped core names counters)) (Declares d) → needs_driver d.kind ≡ true
      → (port : Port) → Contains (ports_of (inputs_of core names) (outputs_of core names)) port → port.input ≡ true → port.name ≡ d.name → ⊥
  no-need d h needs port p on e =
      let mine = declared-is core sound stallable names named counters d h in
      let its = declared-is core sound stallable names named counters (port_declared port) (port-mention core sound stallable names named counters port p) in
      let one : d ≡ port_declared port = some-same (sym mine ∙ ap (declaration_of (wrapped core names counters)) (sym e) ∙ its) in
      let none : needs_driver d.kind ≡ false = ap (λ (x : Declared). needs_driver x.kind) one ∙ ap (λ (b : Bool). needs_driver (if b then InputPort else OutputPort)) on in
      false≢true (sym none ∙ needs)

  module _ (d : Declared) (h : Contains (mentions (wrapped core names counters)) (Declares d)) (needs : needs_driver d.kind ≡ true) where
    of-front : Contains front_names d.name → Has d.name
    of-front c = absurd (in-each (λ n. n ≡ d.name → ⊥) front_names (
      no-need d h needs (bit_input (codes "clk")) (front-there core counters (inputs_of core names) (outputs_of core names) _ (0, omega arith, refl)) refl,
      (
        no-need d h needs (bit_input (codes "reset")) (front-there core counters (inputs_of core names) (outputs_of core names) _ (1, omega arith, refl)) refl,
        (no-need d h needs in_flag (front-there core counters (inputs_of core names) (outputs_of core names) _ (2, omega arith, refl)) refl, tt),
      ),
    )
        d.name c refl)

    of-flags : Contains flag_names d.name → Has d.name
    of-flags c = in-each (λ n. n ≡ d.name → Has d.name) flag_names (
      λ e. absurd (no-need d h needs out_flag (flag-there core counters (inputs_of core names) (outputs_of core names) out_flag (0, omega arith, refl)) refl e),
      (
        λ e. subst Has e (signal-has _ false (codes "in_ready") (6, omega arith, refl) (head-in _ _)),
        (λ e. subst Has e (signal-has _ false (codes "out_valid") (7, omega arith, refl) (head-in _ _)), tt),
      ),
    )
        d.name c refl

    of-port : Contains (front_names ++ (in_names core names ++ (flag_names ++ out_names core names))) d.name → Has d.name
    of-port c = ⊎_elim (λ a. of-front a)
        (λ c1. ⊎_elim
        (λ a. let r = from-map column_name (inputs_of core names) d.name a in
        absurd (no-need d h needs (input_port (column_port r.0)) (input-port core counters (inputs_of core names) (outputs_of core names) r.0 r.1) refl r.2))
        (λ c2. ⊎_elim (λ a. of-flags a) (λ b. let r = from-map column_name (outputs_of core names) d.name b in
        subst Has r.2 (output-has r.0 r.1)) (Contains-append_cases flag_names (out_names core names) d.name c2))
        (Contains-append_cases (in_names core names) (flag_names ++ out_names core names) d.name c1))
        (Contains-append_cases front_names (in_names core names ++ (flag_names ++ out_names core names)) d.name c)

    of-own : Contains (own_declared core names) d.name → Has d.name
    of-own c = ⊎_elim
        (λ a. in-control Has d.name a
        (signal-has _ false begin_name (0, omega arith, refl) (head-in _ _))
        (signal-has _ false end_name (1, omega arith, refl) (head-in _ _))
        (signal-has _ false due_name (2, omega arith, refl) (head-in _ _))
        (signal-has _ false fed_name (3, omega arith, refl) (head-in _ _))
        (signal-has _ false open_name (4, omega arith, refl) (head-in _ _))
        (signal-has _ true phase_name (8, omega arith, refl) (second-in _ _ _))
        (signal-has _ true wait_name (9, omega arith, refl) (second-in _ _ _)))
        (λ b. ⊎_elim
        (λ a. let r = from-map (λ (column : Column). held_name column.name) (inputs_of core names) d.name a in subst Has r.2 (held-has r.0 r.1))
        (λ l.
        let r = from-flat late_names (outputs_of core names) d.name l in
        let k = from-map (λ place. late_name r.0.name (place + 1)) (range_with_len 0 r.0.late) d.name r.2 in
        subst Has k.2 (late-has r.0 r.1 k.0 k.1))
        (Contains-append_cases (held_names (inputs_of core names)) (flat_map late_names (outputs_of core names)) d.name b))
        (Contains-append_cases control_names (held_names (inputs_of core names) ++ flat_map late_names (outputs_of core names)) d.name c)

    of-wires : Contains (wires core) d.name → Has d.name
    of-wires c =
        let r = from-flat wire_names (map port_name core.ports) d.name c in
        let w = in-wire r.0 d.name r.2 in
        let p = from-map port_name core.ports r.0 r.1 in
        subst Has (ap inner_name p.2 ∙ sym w.1) (wire-has p.0 p.1 (ap is_shared p.2 ∙ w.0))

    of-core : Contains (map inner_name (declared_in core.items)) d.name → Has d.name
    of-core c =
        let r = from-map inner_name (declared_in core.items) d.name c in
        let x = from-flat declared_names (flat_map item_mentions core.items) r.0 r.1 in
        let is = named-mention x.0 r.0 x.2 in
        let i = from-flat item_mentions core.items x.0 x.1 in
        let inside : Contains (mentions core) (Declares is.0) = subst (λ y. Contains (mentions core) y) is.1
        (Contains-append_right (map (λ port. Declares (port_declared port)) core.ports) (flat_map item_mentions core.items) x.0 x.1) in
        subst Has (ap inner_name is.2 ∙ r.2) (core-has is.0 inside (declares-needs i.0 is.0 (subst (λ y. Contains (item_mentions i.0) y) is.1 i.2)))

    has-one : Has d.name
    has-one =
        let all = subst (λ xs. Contains xs d.name) (declared-list core sound stallable names named counters)
        (flat-in declared_names (mentions (wrapped core names counters)) (Declares d) d.name h (head-in d.name [])) in
        ⊎_elim (λ p. of-port p)
        (λ b. ⊎_elim
        (λ e. ⊎_elim (λ w. of-wires w) (λ own. of-own own) (Contains-append_cases (wires core) (own_declared core names) d.name e))
        (λ k. of-core (subst (λ xs. Contains xs d.name) (append-nil (map inner_name (declared_in core.items))) k))
        (Contains-append_cases (wires core ++ own_declared core names) (map inner_name (declared_in core.items) ++ []) d.name b))
        (Contains-append_cases (front_names ++ (in_names core names ++ (flag_names ++ out_names core names)))
        ((wires core ++ own_declared core names) ++ (map inner_name (declared_in core.items) ++ [])) d.name all)

  pub driven : undriven (wrapped core names counters) ≡ None
  driven = undriven-none (wrapped core names counters) (λ d h needs. has-one d h needs) (are-known core sound stallable names named counters)
