-- The wrapper declares and drives no name twice.
use Rattle.std.proofs.Common.{◌≡◌, ◌≢◌, ℕ, ◌+◌, ◌⊎◌, inl, inr, ⊎_elim, Bool, true, false, if◌then◌else◌, List, [], ◌∷◌, ◌++◌, map, flat_map, Contains, codes, refl, sym, ap, subst, ◌∙◌, arith}
use Rattle.std.specs.List.{range_with_len}
use Rattle.std.proofs.lemmas.Bool.{cases_Bool, eqb-false}
use Rattle.std.proofs.lemmas.List.{append-nil, map-append}
use Rattle.std.proofs.lemmas.List.Concat.{flat_map-append, flat_map_single}
use Rattle.std.proofs.lemmas.List.Elements.{Contains-append_left, Contains-append_right, Contains-append_cases}
use Rattle.vl_ast.specs.declared.expressions.Expr.TheVariants.{Name}
use Rattle.vl_ast.specs.declared.modules.ModItem.TheVariants.{Wire, Assign}
use Rattle.vl_ast.specs.declared.modules.Port.{Port}
use Rattle.vl_ast.specs.declared.modules.Module.{Module}
use Rattle.vl_ast.specs.Conditions.{BreaksNone}
use Rattle.vl_ast.specs.Control.{is_stallable}
use Rattle.vl_ast.specs.Header.{input_port, output_port}
use Rattle.vl_ast.specs.Nets.{Declares, item_mentions, mentions, port_declared}
use Rattle.vl_ast.proofs.Alone.{reset-port}
use Rattle.math_list.proofs.Elements.{cons-cases, from-flat, from-map, map-in, none-in}
use Rattle.st_wrap.specs.declared.columns.Column.{Column}
use Rattle.st_wrap.specs.declared.pace.Counters.{Counters}
use Rattle.st_wrap.specs.Header.{flag}
use Rattle.st_wrap.specs.Names.{AreColumnNames, IsColumnName, own_names}
use Rattle.st_wrap.specs.inner.Columns.{column_port, held_declared, held_driven, late_declared, late_driven, stage_declared, stage_driven, stage_name}
use Rattle.st_wrap.specs.inner.Control.{control_declared, control_driven}
use Rattle.st_wrap.specs.inner.Names.{begin_name, end_name, due_name, fed_name, open_name, held_name, inner_name, is_shared, late_name, phase_name, wait_name}
use Rattle.st_wrap.specs.inner.CoreNames.{core_items, wires_for, wires_of}
use Rattle.st_wrap.specs.inner.Wrapper.{declared_items, driven_items, inputs_of, items_of, outputs_of, ports_of, wrapped}
use Rattle.st_wrap.proofs.Apart.{Apart, apart-append, apart-between, apart-flat, apart-left, apart-map, apart-right, declared-once, declared_names}
use Rattle.st_wrap.proofs.OneRun.{clk-port}
use Rattle.st_wrap.proofs.Letters.{column-letter, held-same, inner-letter, inner-same, late-same, letter, off, shared-cases}
use Rattle.st_wrap.proofs.NamesOnce.{apart-range, by-test, column_name, columns-apart, declared-renamed, declared_in, flat-empty, in-each, in-range, input-name, items-renamed, late-small, map-twice}
use Rattle.st_wrap.proofs.NamesOnce.{names-append, names-flat, names-map, output-name}
use Rattle.st_wrap.proofs.NameReads.{control-mentions, held-mentions, shown-mentions, stage-mentions}

-- ---- parts, by names

-- the wire of a port by its name
abbrev pub wire_names : List ℕ → List (List ℕ)
wire_names n = if is_shared n then [] else inner_name n ∷ []

abbrev pub port_name : Port → List ℕ
port_name port = port.name

wire-part : (port : Port) → declared_in (wires_for port) ≡ wire_names port.name
wire-part port = by (is_shared port.name) where
  by : (b : Bool) → declared_in (if b then [] else Wire port.signed port.width (inner_name port.name) ∷ []) ≡ (if b then [] else inner_name port.name ∷ [])
  by true = refl
  by false = refl

over-names : {A : Type 0} (f : List ℕ → List (List ℕ)) (g : A → List ℕ) (xs : List A) → flat_map (λ x. f (g x)) xs ≡ flat_map f (map g xs)
over-names f g [] = refl
over-names f g (x ∷ xs) = ap (λ ys. f (g x) ++ ys) (over-names f g xs)

wires-are : (core : Module) → declared_in (wires_of core) ≡ flat_map wire_names (map port_name core.ports)
wires-are core = names-flat declared_names wires_for (λ port. wire_names port.name) core.ports wire-part ∙ over-names wire_names port_name core.ports

-- what a wire's name is
pub in-wire : (n x : List ℕ) → Contains (wire_names n) x → (is_shared n ≡ false) × (x ≡ inner_name n)
in-wire n x = by (is_shared n) refl where
  by : (b : Bool) → is_shared n ≡ b → Contains (if b then [] else inner_name n ∷ []) x → (is_shared n ≡ false) × (x ≡ inner_name n)
  by true e h = absurd (none-in x h)
  by false e h = (e, ⊎_elim (λ s. sym s) (λ t. absurd (none-in x t)) (cons-cases (inner_name n) x [] h))

wire-apart : (n : List ℕ) → Apart (wire_names n)
wire-apart n = by (is_shared n) where
  by : (b : Bool) → Apart (if b then [] else inner_name n ∷ [])
  by true = tt
  by false = ((λ h. none-in (inner_name n) h), tt)

map-self : {A : Type 0} (xs : List A) → map (λ x. x) xs ≡ xs
map-self [] = refl
map-self (x ∷ xs) = ap (λ ys. x ∷ ys) (map-self xs)

wires-apart : (ns : List (List ℕ)) → Apart ns → Apart (flat_map wire_names ns)
wires-apart ns a = apart-flat wire_names (λ n. n) ns (λ n c. wire-apart n)
    (λ x y b c d e f. inner-same x y (sym (in-wire x b e).1 ∙ (in-wire y b f).1)) (subst (λ xs. Apart xs) (sym (map-self ns)) a)

abbrev pub control_names : List (List ℕ)
control_names = begin_name ∷ end_name ∷ due_name ∷ fed_name ∷ open_name ∷ phase_name ∷ wait_name ∷ []

control-apart : Apart control_names
control-apart = by-test control_names refl

abbrev pub held_names : List Column → List (List ℕ)
held_names inputs = map (λ column. held_name column.name) inputs

helds-are : (inputs : List Column) → declared_in (flat_map held_declared inputs) ≡ held_names inputs
helds-are inputs = names-flat declared_names held_declared (λ column. held_name column.name ∷ []) inputs (λ column. refl) ∙ flat_map_single (λ column. held_name column.name) inputs

abbrev pub late_names : Column → List (List ℕ)
late_names column = map (λ place. late_name column.name (place + 1)) (range_with_len 0 column.late)

late-declared : (column : Column) → declared_in (late_declared column) ≡ late_names column
late-declared column =
    names-map declared_names (stage_declared column) (λ place. late_name column.name (place + 1) ∷ []) (range_with_len 0 column.late) (λ place. refl)
    ∙ flat_map_single (λ place. late_name column.name (place + 1)) (range_with_len 0 column.late)

lates-are : (outputs : List Column) → declared_in (flat_map late_declared outputs) ≡ flat_map late_names outputs
lates-are outputs = names-flat declared_names late_declared late_names outputs late-declared

-- each part's letters

pub in-control : (P : List ℕ → Type 0) (n : List ℕ) → Contains control_names n
    → P begin_name → P end_name → P due_name → P fed_name → P open_name → P phase_name → P wait_name → P n
in-control P n h p1 p2 p3 p4 p5 p6 p7 = in-each P control_names (p1, (p2, (p3, (p4, (p5, (p6, (p7, tt))))))) n h

in-held : (inputs : List Column) (n : List ℕ) → Contains (held_names inputs) n → letter n ≡ 104
in-held inputs n h = let r = from-map (λ (column : Column). held_name column.name) inputs n h in subst (λ x. letter x ≡ 104) r.2 refl

pub in-late : (column : Column) (n : List ℕ) → Contains (late_names column) n → letter n ≡ 108
in-late column n h = let r = from-map (λ place. late_name column.name (place + 1)) (range_with_len 0 column.late) n h in subst (λ x. letter x ≡ 108) r.2 refl

in-lates : (outputs : List Column) (n : List ℕ) → Contains (flat_map late_names outputs) n → letter n ≡ 108
in-lates outputs n h = let r = from-flat late_names outputs n h in in-late r.0 n r.2

-- ---- the names that are declared, part by part

abbrev pub front_names : List (List ℕ)
front_names = codes "clk" ∷ codes "reset" ∷ codes "in_valid" ∷ []

abbrev pub flag_names : List (List ℕ)
flag_names = codes "out_ready" ∷ codes "in_ready" ∷ codes "out_valid" ∷ []

abbrev pub in_names : Module → List (List ℕ) → List (List ℕ)
in_names core names = map column_name (inputs_of core names)

abbrev pub out_names : Module → List (List ℕ) → List (List ℕ)
out_names core names = map column_name (outputs_of core names)

abbrev pub wires : Module → List (List ℕ)
wires core = flat_map wire_names (map port_name core.ports)

abbrev pub own_declared : Module → List (List ℕ) → List (List ℕ)
own_declared core names = control_names ++ (held_names (inputs_of core names) ++ flat_map late_names (outputs_of core names))

module _ (core : Module) (sound : BreaksNone core) (stallable : is_stallable core ≡ true) (names : List (List ℕ)) (named : AreColumnNames core names) (counters : Counters) where
  abbrev inputs : List Column
  inputs = inputs_of core names

  abbrev outputs : List Column
  outputs = outputs_of core names

  lates-apart : Apart (flat_map late_names (outputs_of core names))
  lates-apart = apart-flat late_names column_name (outputs_of core names)
      (λ column c. apart-map (λ place. late_name column.name (place + 1)) (range_with_len 0 column.late)
      (λ x y p q e. let a = (in-range 0 column.late x p).1 in let b = (in-range 0 column.late y q).1 in let s = late-small core names named column c in
      let r = (late-same column.name column.name (x + 1) (y + 1) (omega (arith, a, s)) (omega (arith, b, s)) e).0 in omega (arith, r))
      (apart-range 0 column.late))
      (λ x y b c d e f.
      let r = from-map (λ place. late_name x.name (place + 1)) (range_with_len 0 x.late) b e in
      let t = from-map (λ place. late_name y.name (place + 1)) (range_with_len 0 y.late) b f in
      let i = (in-range 0 x.late r.0 r.1).1 in let j = (in-range 0 y.late t.0 t.1).1 in
      let s = late-small core names named x c in let u = late-small core names named y d in
      (late-same x.name y.name (r.0 + 1) (t.0 + 1) (omega (arith, i, s)) (omega (arith, j, u)) (r.2 ∙ sym t.2)).1)
      (apart-right (map column_name (inputs_of core names)) (map column_name (outputs_of core names)) (columns-apart core names named))

  helds-apart : Apart (held_names (inputs_of core names))
  helds-apart = subst (λ xs. Apart xs) (map-twice held_name column_name (inputs_of core names))
      (apart-map held_name (map column_name (inputs_of core names)) (λ x y c d e. held-same x y e)
      (apart-left (map column_name (inputs_of core names)) (map column_name (outputs_of core names)) (columns-apart core names named)))

  -- ---- the ports

  pub port-mentions : (ports : List Port) → flat_map declared_names (map (λ port. Declares (port_declared port)) ports) ≡ map port_name ports
  port-mentions [] = refl
  port-mentions (port ∷ ports) = ap (λ xs. port.name ∷ xs) (port-mentions ports)

  ports-are : map port_name (ports_of (inputs_of core names) (outputs_of core names)) ≡ front_names ++ (in_names core names ++ (flag_names ++ out_names core names))
  ports-are =
      let ins : List Port = map (λ column. input_port (column_port column)) (inputs_of core names) in
      let outs : List Port = map (λ column. output_port (column_port column)) (outputs_of core names) in
      ap (λ xs. codes "clk" ∷ codes "reset" ∷ codes "in_valid" ∷ xs)
      (map-append port_name ins (input_port (flag (codes "out_ready")) ∷ output_port (flag (codes "in_ready")) ∷ output_port (flag (codes "out_valid")) ∷ outs)
      ∙ (λ i. map-twice port_name (λ column. input_port (column_port column)) (inputs_of core names) i
      ++ (codes "out_ready" ∷ codes "in_ready" ∷ codes "out_valid" ∷ map-twice port_name (λ column. output_port (column_port column)) (outputs_of core names) i)))

  of-columns : (n : List ℕ) → Contains (map column_name (inputs_of core names) ++ map column_name (outputs_of core names)) n → IsColumnName n
  of-columns n h = ⊎_elim
      (λ a. let r = from-map column_name (inputs_of core names) n a in subst IsColumnName r.2 (input-name core names named r.0 r.1))
      (λ b. let r = from-map column_name (outputs_of core names) n b in subst IsColumnName r.2 (output-name core names named r.0 r.1))
      (Contains-append_cases (map column_name (inputs_of core names)) (map column_name (outputs_of core names)) n h)

  in-own : (n : List ℕ) → Contains front_names n ⊎ Contains flag_names n → Contains own_names n
  in-own n (inl h) = in-each (λ x. Contains own_names x) front_names ((0, omega arith, refl), ((1, omega arith, refl), ((4, omega arith, refl), tt))) n h
  in-own n (inr h) = in-each (λ x. Contains own_names x) flag_names ((5, omega arith, refl), ((6, omega arith, refl), ((7, omega arith, refl), tt))) n h

  ports-apart : Apart (front_names ++ (in_names core names ++ (flag_names ++ out_names core names)))
  ports-apart =
      let both = columns-apart core names named in
      apart-append front_names (in_names core names ++ (flag_names ++ out_names core names)) (by-test front_names refl)
      (apart-append (in_names core names) (flag_names ++ out_names core names) (apart-left (in_names core names) (out_names core names) both)
      (apart-append flag_names (out_names core names) (by-test flag_names refl) (apart-right (in_names core names) (out_names core names) both)
      (λ n f c. (of-columns n (Contains-append_right (in_names core names) (out_names core names) n c)).free (in-own n (inr f))))
      (λ n a b. ⊎_elim (λ f. (of-columns n
      (Contains-append_left (in_names core names) (out_names core names) n a)).free (in-own n (inr f)))
      (λ c. apart-between (in_names core names) (out_names core names) n both a c)
      (Contains-append_cases flag_names (out_names core names) n b)))
      (λ n f h. ⊎_elim
      (λ a. (of-columns n (Contains-append_left (in_names core names) (out_names core names) n a)).free (in-own n (inl f)))
      (λ b. ⊎_elim (λ g. flags-differ n f g)
      (λ c. (of-columns n (Contains-append_right (in_names core names) (out_names core names) n c)).free
      (in-own n (inl f))) (Contains-append_cases flag_names (out_names core names) n b))
      (Contains-append_cases (in_names core names) (flag_names ++ out_names core names) n h))
    where
      flags-differ : (n : List ℕ) → Contains front_names n → Contains flag_names n → ⊥
      flags-differ n f g = apart-between front_names flag_names n (by-test (front_names ++ flag_names) refl) f g

  -- a port's name has no letter
  port-letter : (n : List ℕ) → Contains (front_names ++ (in_names core names ++ (flag_names ++ out_names core names))) n → letter n ≡ 0
  port-letter n h = ⊎_elim
      (λ f. own-letter n (inl f))
      (λ h1. ⊎_elim
      (λ a. column-letter n (of-columns n (Contains-append_left (in_names core names) (out_names core names) n a)))
      (λ h2. ⊎_elim (λ g. own-letter n (inr g))
      (λ c. column-letter n (of-columns n
      (Contains-append_right (in_names core names) (out_names core names) n c)))
      (Contains-append_cases flag_names (out_names core names) n h2))
      (Contains-append_cases (in_names core names) (flag_names ++ out_names core names) n h1))
      (Contains-append_cases front_names (in_names core names ++ (flag_names ++ out_names core names)) n h)
    where
      own-letter : (n : List ℕ) → Contains front_names n ⊎ Contains flag_names n → letter n ≡ 0
      own-letter n (inl h) = in-each (λ x. letter x ≡ 0) front_names (refl, (refl, (refl, tt))) n h
      own-letter n (inr h) = in-each (λ x. letter x ≡ 0) flag_names (refl, (refl, (refl, tt))) n h

  -- ---- all that is declared

  abbrev pub core_declared : List (List ℕ)
  core_declared = map inner_name (declared_in core.items)

  core-apart : Apart (map port_name core.ports ++ declared_in core.items)
  core-apart = subst (λ xs. Apart xs)
      (flat_map-append declared_names (map (λ port. Declares (port_declared port)) core.ports) (flat_map item_mentions core.items) ∙ ap (λ xs. xs ++ declared_in core.items) (port-mentions core.ports))
      (declared-once core sound.acyclic.driven sound.acyclic.once)

  shared-port : (n : List ℕ) → is_shared n ≡ true → Contains (map port_name core.ports) n
  shared-port n on = shared-cases (λ n. Contains (map port_name core.ports) n) n on
      (let p = clk-port core sound in subst (λ n. Contains (map port_name core.ports) n) p.2 (map-in port_name core.ports p.0 p.1))
      (let p = reset-port core sound.clocked in subst (λ n. Contains (map port_name core.ports) n) p.2 (map-in port_name core.ports p.0 p.1))

  -- an item of the core declares no shared name
  item-unshared : (n : List ℕ) → Contains (declared_in core.items) n → is_shared n ≡ false
  item-unshared n h = ⊎_elim (λ t. absurd (apart-between (map port_name core.ports) (declared_in core.items) n core-apart (shared-port n t) h)) (λ f. f) (cases_Bool (is_shared n))

  core-letter : (n : List ℕ) → Contains core_declared n → letter n ≡ 99
  core-letter n h = let r = from-map inner_name (declared_in core.items) n h in subst (λ x. letter x ≡ 99) r.2 (inner-letter r.0 (item-unshared r.0 r.1))

  wire-letter : (n : List ℕ) → Contains (wires core) n → letter n ≡ 99
  wire-letter n h =
      let r = from-flat wire_names (map port_name core.ports) n h in
      let w = in-wire r.0 n r.2 in
      subst (λ x. letter x ≡ 99) (sym w.1) (inner-letter r.0 w.0)

  -- a name of the wrapper's own has another letter
  own-other : (n : List ℕ) → Contains (own_declared core names) n → (letter n ≢ 0) × (letter n ≢ 99)
  own-other n h = ⊎_elim
      (λ c. in-control (λ n. (letter n ≢ 0) × (letter n ≢ 99)) n c
      (off begin_name 0 refl, off begin_name 99 refl) (off end_name 0 refl, off end_name 99 refl)
      (off due_name 0 refl, off due_name 99 refl) (off fed_name 0 refl, off fed_name 99 refl)
      (off open_name 0 refl, off open_name 99 refl) (off phase_name 0 refl, off phase_name 99 refl)
      (off wait_name 0 refl, off wait_name 99 refl))
      (λ o. ⊎_elim
      (λ a. let l = in-held (inputs_of core names) n a in ((λ e. eqb-false 104 0 refl (sym l ∙ e)), (λ e. eqb-false 104 99 refl (sym l ∙ e))))
      (λ b. let l = in-lates (outputs_of core names) n b in ((λ e. eqb-false 108 0 refl (sym l ∙ e)), (λ e. eqb-false 108 99 refl (sym l ∙ e))))
      (Contains-append_cases (held_names (inputs_of core names)) (flat_map late_names (outputs_of core names)) n o))
      (Contains-append_cases control_names (held_names (inputs_of core names) ++ flat_map late_names (outputs_of core names)) n h)

  control-letter : (n : List ℕ) → Contains control_names n → (letter n ≢ 104) × (letter n ≢ 108)
  control-letter n c = in-control (λ n. (letter n ≢ 104) × (letter n ≢ 108)) n c
      (off begin_name 104 refl, off begin_name 108 refl) (off end_name 104 refl, off end_name 108 refl)
      (off due_name 104 refl, off due_name 108 refl) (off fed_name 104 refl, off fed_name 108 refl)
      (off open_name 104 refl, off open_name 108 refl) (off phase_name 104 refl, off phase_name 108 refl)
      (off wait_name 104 refl, off wait_name 108 refl)

  own-apart : Apart (own_declared core names)
  own-apart =
      apart-append control_names (held_names (inputs_of core names) ++ flat_map late_names (outputs_of core names)) control-apart
      (apart-append (held_names (inputs_of core names)) (flat_map late_names (outputs_of core names)) helds-apart lates-apart
      (λ n a b. eqb-false 104 108 refl (sym (in-held (inputs_of core names) n a) ∙ in-lates (outputs_of core names) n b)))
      (λ n c h. ⊎_elim
      (λ a. (control-letter n c).0 (in-held (inputs_of core names) n a))
      (λ b. (control-letter n c).1 (in-lates (outputs_of core names) n b))
      (Contains-append_cases (held_names (inputs_of core names)) (flat_map late_names (outputs_of core names)) n h))

  abbrev all_declared : List (List ℕ)
  all_declared = (front_names ++ (in_names core names ++ (flag_names ++ out_names core names))) ++ ((wires core ++ own_declared core names) ++ (core_declared ++ []))

  driven-part : declared_in (driven_items counters (inputs_of core names) (outputs_of core names)) ≡ []
  driven-part =
      names-append declared_names (control_driven counters) (flat_map held_driven (inputs_of core names) ++ flat_map late_driven (outputs_of core names))
      ∙ (λ i. ap (flat_map declared_names) (control-mentions counters) i ++ names-append declared_names (flat_map held_driven (inputs_of core names)) (flat_map late_driven (outputs_of core names)) i)
      ∙ (λ i. (names-flat declared_names held_driven (λ column. []) (inputs_of core names) (λ column. ap (flat_map declared_names) (held-mentions column)) ∙ flat-empty (inputs_of core names)) i
      ++ (names-flat declared_names late_driven (λ column. []) (outputs_of core names) late-none ∙ flat-empty (outputs_of core names)) i)
    where
      late-none : (column : Column) → declared_in (late_driven column) ≡ []
      late-none column =
          names-append declared_names (map (stage_driven column) (range_with_len 0 column.late)) (Assign column.name (Name (stage_name column column.late)) ∷ [])
          ∙ (λ i. (names-map declared_names (stage_driven column) (λ place. []) (range_with_len 0 column.late)
          (λ place. ap (flat_map declared_names) (stage-mentions column place))
          ∙ flat-empty (range_with_len 0 column.late)) i
          ++ (ap (λ ms. flat_map declared_names (ms ++ [])) (shown-mentions column)) i)

  pub declared-list : flat_map declared_names (mentions (wrapped core names counters)) ≡ all_declared
  declared-list =
      let ports = ports_of (inputs_of core names) (outputs_of core names) in
      flat_map-append declared_names (map (λ port. Declares (port_declared port))
      (ports_of (inputs_of core names) (outputs_of core names)))
      (flat_map item_mentions (items_of core counters (inputs_of core names) (outputs_of core names)))
      ∙ (λ i. (port-mentions (ports_of (inputs_of core names) (outputs_of core names)) ∙ ports-are) i
      ++ names-append declared_names (declared_items core counters (inputs_of core names) (outputs_of core names))
      (core_items core ++ driven_items counters (inputs_of core names) (outputs_of core names)) i)
      ∙ (λ i. (front_names ++ (in_names core names ++ (flag_names ++ out_names core names)))
      ++ (d-part i ++ names-append declared_names (core_items core) (driven_items counters (inputs_of core names) (outputs_of core names)) i))
      ∙ (λ i. (front_names ++ (in_names core names ++ (flag_names ++ out_names core names)))
      ++ ((wires core ++ own_declared core names) ++ ((ap (flat_map declared_names) (items-renamed core.items) ∙ declared-renamed (flat_map item_mentions core.items)) i ++ driven-part i)))
    where
      d-part : declared_in (declared_items core counters (inputs_of core names) (outputs_of core names)) ≡ wires core ++ own_declared core names
      d-part =
          names-append declared_names (wires_of core) (control_declared counters ++ (flat_map held_declared (inputs_of core names) ++ flat_map late_declared (outputs_of core names)))
          ∙ (λ i. wires-are core i ++ names-append declared_names (control_declared counters) (flat_map held_declared (inputs_of core names) ++ flat_map late_declared (outputs_of core names)) i)
          ∙ (λ i. wires core ++ (control_names ++ names-append declared_names (flat_map held_declared (inputs_of core names)) (flat_map late_declared (outputs_of core names)) i))
          ∙ (λ i. wires core ++ (control_names ++ (helds-are (inputs_of core names) i ++ lates-are (outputs_of core names) i)))

  pub all-declared-once : Apart (flat_map declared_names (mentions (wrapped core names counters)))
  all-declared-once = subst (λ xs. Apart xs) (sym declared-list)
      (apart-append (front_names ++ (in_names core names ++ (flag_names ++ out_names core names))) ((wires core ++ own_declared core names) ++ (core_declared ++ [])) ports-apart
      (subst (λ xs. Apart ((wires core ++ own_declared core names) ++ xs)) (sym (append-nil core_declared)) behind)
      (λ n p h. not-port n (port-letter n p) (subst (λ xs. Contains ((wires core ++ own_declared core names) ++ xs) n) (append-nil core_declared) h)))
    where
      not-port : (n : List ℕ) → letter n ≡ 0 → Contains ((wires core ++ own_declared core names) ++ core_declared) n → ⊥
      not-port n l h = ⊎_elim
          (λ d. ⊎_elim (λ w. eqb-false 99 0 refl (sym (wire-letter n w) ∙ l)) (λ o. (own-other n o).0 l) (Contains-append_cases (wires core) (own_declared core names) n d))
          (λ c. eqb-false 99 0 refl (sym (core-letter n c) ∙ l))
          (Contains-append_cases (wires core ++ own_declared core names) core_declared n h)

      wire-core : (n : List ℕ) → Contains (wires core) n → Contains core_declared n → ⊥
      wire-core n w c =
          let r = from-flat wire_names (map port_name core.ports) n w in
          let s = from-map inner_name (declared_in core.items) n c in
          let same : r.0 ≡ s.0 = inner-same r.0 s.0 (sym (in-wire r.0 n r.2).1 ∙ sym s.2) in
          apart-between (map port_name core.ports) (declared_in core.items) s.0 core-apart (subst (λ x. Contains (map port_name core.ports) x) same r.1) s.1

      behind : Apart ((wires core ++ own_declared core names) ++ core_declared)
      behind =
          apart-append (wires core ++ own_declared core names) core_declared
          (apart-append (wires core) (own_declared core names) (wires-apart (map port_name core.ports) (apart-left (map port_name core.ports) (declared_in core.items) core-apart)) own-apart
          (λ n w o. (own-other n o).1 (wire-letter n w)))
          (apart-map inner_name (declared_in core.items) (λ x y c d e. inner-same x y e) (apart-right (map port_name core.ports) (declared_in core.items) core-apart))
          (λ n d c. ⊎_elim (λ w. wire-core n w c) (λ o. (own-other n o).1 (core-letter n c)) (Contains-append_cases (wires core) (own_declared core names) n d))
