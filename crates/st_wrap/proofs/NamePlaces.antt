-- Each name of the wrapper that is read or driven is declared before, what must be driven is, and by what may drive it.
use Rattle.std.proofs.Common.{◌≡◌, ℕ, ◌+◌, ◌-◌, ◌<◌, ◌≤◌, ◌==◌, ⊎_elim, Bool, true, false, if◌then◌else◌, List, [], ◌∷◌, ◌++◌, map, flat_map, length, drop, Contains, codes, Some, refl, sym, ap, subst}
use Rattle.std.proofs.Common.{◌∙◌, arith}
use Rattle.std.specs.List.{list_any, range_with_len}
use Rattle.std.proofs.lemmas.Bool.{cases_Bool, cases_eq, cond-false, ne_eqb}
use Rattle.std.proofs.lemmas.List.{append_assoc}
use Rattle.std.proofs.lemmas.List.Concat.{flat_map-append}
use Rattle.std.proofs.lemmas.List.Elements.{Contains-append_left, Contains-append_right}
use Rattle.std.proofs.lemmas.List.Folds.{Any-from_list_any}
use Rattle.std.proofs.lemmas.Slice.Eq.{bytes_eq-Decides}
use Rattle.vl_ast.specs.declared.expressions.Expr.TheVariants.{Name}
use Rattle.vl_ast.specs.declared.modules.ModItem.{ModItem}
use Rattle.vl_ast.specs.declared.modules.ModItem.TheVariants.{Wire, Reg, Assign, Always}
use Rattle.vl_ast.specs.declared.modules.Port.{Port}
use Rattle.vl_ast.specs.declared.modules.Module.{Module}
use Rattle.vl_ast.specs.Conditions.{BreaksNone, is_declaration_of}
use Rattle.vl_ast.specs.Control.{is_number_output, is_stallable}
use Rattle.vl_ast.specs.Driven.{output_ports, stimulus_ports}
use Rattle.vl_ast.specs.Header.{bit_input, input_port, output_port}
use Rattle.vl_ast.specs.Nets.{Declared, InputPort, OutputPort, Mention, Declares, Drives, Reads, Clocks, declaration_of, item_mentions, mentions, port_declared}
use Rattle.vl_ast.proofs.Alone.{reset-port}
use Rattle.vl_ast.proofs.Facts.{in-port, is-declared}
use Rattle.math_list.proofs.Elements.{cons-cases, flat-in, from-map, head-in, map-in, none-in, tail-in}
use Rattle.vl_ast.proofs.StallFree.{bit-port}
use Rattle.vl_ast.specs.Attributes.{clocks_of}
use Rattle.st_wrap.specs.declared.columns.Column.{Column}
use Rattle.st_wrap.specs.declared.pace.Counters.{Counters}
use Rattle.st_wrap.specs.Header.{flag, named_outputs}
use Rattle.st_wrap.specs.Names.{AreColumnNames}
use Rattle.st_wrap.specs.Pace.{latest_in}
use Rattle.st_wrap.specs.inner.Columns.{column_port, held_declared, held_driven, late_declared, late_driven, output_column, stage_declared, stage_driven, stage_name}
use Rattle.st_wrap.specs.inner.Control.{control_declared, control_driven}
use Rattle.st_wrap.specs.inner.Names.{begin_name, end_name, due_name, fed_name, open_name, enable_name, held_name, inner_name, is_shared, late_name, phase_name, wait_name}
use Rattle.st_wrap.specs.inner.CoreNames.{core_items, wires_for, wires_of}
use Rattle.st_wrap.specs.inner.Wrapper.{declared_items, driven_items, inputs_of, outputs_of, ports_of, wrapped}
use Rattle.math_list.proofs.Places.{seen}
use Rattle.st_wrap.proofs.ColumnPorts.{from-filter, number-output, range-in, zip-left}
use Rattle.st_wrap.proofs.ControlSignals.{in_flag, out_flag}
use Rattle.st_wrap.proofs.OneRun.{clk-port}
use Rattle.st_wrap.proofs.SingleDrivers.{column-port}
use Rattle.st_wrap.proofs.EachItem.{EachHas, declared-have, have-flat, have-map}
use Rattle.st_wrap.proofs.FirstCondition.{AreKnown, Renames, known-append, known-of, known-renamed, known-right, still-declared}
use Rattle.st_wrap.proofs.Letters.{shared-cases}
use Rattle.st_wrap.proofs.NamesOnce.{in-range, items-renamed}
use Rattle.st_wrap.proofs.NameReads.{control_mentions, control-mentions, held_mentions, held-mentions, renamed_mention, shown-mentions, stage_mentions, stage-mentions}
use Rattle.st_wrap.proofs.Structure.{input-port, output-port, wire-of, front-there, flag-there}

-- ---- items that declare alone

abbrev pub DeclaresAlone : ModItem → Type 0
DeclaresAlone (Wire signed width name) = Unit {0}
DeclaresAlone (Reg signed width name) = Unit {0}
DeclaresAlone (Assign name value) = ⊥
DeclaresAlone (Always name first condition value) = ⊥

abbrev pub DeclareAlone : List ModItem → Type 0
DeclareAlone items = EachHas DeclaresAlone items

known-alone : (before : List Mention) (items : List ModItem) → DeclareAlone items → AreKnown before (flat_map item_mentions items)
known-alone before [] a = tt
known-alone before (Wire signed width name ∷ items) a = (tt, known-alone _ items a.1)
known-alone before (Reg signed width name ∷ items) a = (tt, known-alone _ items a.1)
known-alone before (Assign name value ∷ items) a = absurd a.0
known-alone before (Always name first condition value ∷ items) a = absurd a.0

known-ports : (before : List Mention) (ports : List Port) → AreKnown before (map (λ port. Declares (port_declared port)) ports)
known-ports before [] = tt
known-ports before (port ∷ ports) = (tt, known-ports (before ++ Declares (port_declared port) ∷ []) ports)

-- ---- a fact of each name that is read or driven

abbrev EachIn : (List ℕ → Type 0) → List Mention → Type 0
EachIn P [] = Unit {0}
EachIn P (Declares d ∷ xs) = EachIn P xs
EachIn P (Drives c n ∷ xs) = P n × EachIn P xs
EachIn P (Reads n ∷ xs) = P n × EachIn P xs
EachIn P (Clocks ∷ xs) = EachIn P xs

abbrev DeclaredIn : List Mention → List ℕ → Type 0
DeclaredIn base n = list_any (is_declaration_of n) base ≡ true

each-append : (P : List ℕ → Type 0) (xs ys : List Mention) → EachIn P xs → EachIn P ys → EachIn P (xs ++ ys)
each-append P [] ys a b = b
each-append P (Declares d ∷ xs) ys a b = each-append P xs ys a b
each-append P (Drives c n ∷ xs) ys a b = (a.0, each-append P xs ys a.1 b)
each-append P (Reads n ∷ xs) ys a b = (a.0, each-append P xs ys a.1 b)
each-append P (Clocks ∷ xs) ys a b = each-append P xs ys a b

each-flat : {A : Type 0} (P : List ℕ → Type 0) (f : A → List Mention) (xs : List A) → ((x : A) → Contains xs x → EachIn P (f x)) → EachIn P (flat_map f xs)
each-flat P f [] each = tt
each-flat P f (x ∷ xs) each = each-append P (f x) (flat_map f xs) (each x (head-in x xs)) (each-flat P f xs (λ y c. each y (tail-in x y xs c)))

known-in : (base more xs : List Mention) → EachIn (DeclaredIn base) xs → AreKnown (base ++ more) xs
known-in base more [] e = tt
known-in base more (Declares d ∷ xs) e = (tt, subst (λ bs. AreKnown bs xs) (sym (append_assoc base more (Declares d ∷ []))) (known-in base (more ++ Declares d ∷ []) xs e))
known-in base more (Drives c n ∷ xs) e = (
  still-declared (is_declaration_of n) base more e.0,
  subst (λ bs. AreKnown bs xs) (sym (append_assoc base more (Drives c n ∷ [])))
      (known-in base (more ++ Drives c n ∷ []) xs e.1),
)
known-in base more (Reads n ∷ xs) e = (
  still-declared (is_declaration_of n) base more e.0,
  subst (λ bs. AreKnown bs xs) (sym (append_assoc base more (Reads n ∷ [])))
      (known-in base (more ++ Reads n ∷ []) xs e.1),
)
known-in base more (Clocks ∷ xs) e = (tt, subst (λ bs. AreKnown bs xs) (sym (append_assoc base more (Clocks ∷ []))) (known-in base (more ++ Clocks ∷ []) xs e))

-- ---- a fact of each place that drives

abbrev pub EachDrives : (Bool → List ℕ → Type 0) → List Mention → Type 0
EachDrives P [] = Unit {0}
EachDrives P (Declares d ∷ xs) = EachDrives P xs
EachDrives P (Drives c n ∷ xs) = P c n × EachDrives P xs
EachDrives P (Reads n ∷ xs) = EachDrives P xs
EachDrives P (Clocks ∷ xs) = EachDrives P xs

pub drives-at : (P : Bool → List ℕ → Type 0) (xs : List Mention) → EachDrives P xs → (c : Bool) (n : List ℕ) → Contains xs (Drives c n) → P c n
drives-at P [] e c n h = absurd (none-in (Drives c n) h)
drives-at P (Declares d ∷ xs) e c n h = drives-at P xs e c n (⊎_elim (λ q. absurd (cc q)) (λ t. t) (cons-cases (Declares d) (Drives c n) xs h))
drives-at P (Reads m ∷ xs) e c n h = drives-at P xs e c n (⊎_elim (λ q. absurd (cc q)) (λ t. t) (cons-cases (Reads m) (Drives c n) xs h))
drives-at P (Clocks ∷ xs) e c n h = drives-at P xs e c n (⊎_elim (λ q. absurd (cc q)) (λ t. t) (cons-cases Clocks (Drives c n) xs h))
drives-at P (Drives b m ∷ xs) e c n h = ⊎_elim
    (λ q. let s : b ≡ c = cc q in let t : m ≡ n = cc q in subst (λ x. P x n) s (subst (λ y. P b y) t e.0))
    (λ t. drives-at P xs e.1 c n t)
    (cons-cases (Drives b m) (Drives c n) xs h)

pub drives-append : (P : Bool → List ℕ → Type 0) (xs ys : List Mention) → EachDrives P xs → EachDrives P ys → EachDrives P (xs ++ ys)
drives-append P [] ys a b = b
drives-append P (Declares d ∷ xs) ys a b = drives-append P xs ys a b
drives-append P (Drives c n ∷ xs) ys a b = (a.0, drives-append P xs ys a.1 b)
drives-append P (Reads n ∷ xs) ys a b = drives-append P xs ys a b
drives-append P (Clocks ∷ xs) ys a b = drives-append P xs ys a b

pub drives-flat : {A : Type 0} (P : Bool → List ℕ → Type 0) (f : A → List Mention) (xs : List A) → ((x : A) → Contains xs x → EachDrives P (f x)) → EachDrives P (flat_map f xs)
drives-flat P f [] each = tt
drives-flat P f (x ∷ xs) each = drives-append P (f x) (flat_map f xs) (each x (head-in x xs)) (drives-flat P f xs (λ y c. each y (tail-in x y xs c)))

pub drives-alone : (P : Bool → List ℕ → Type 0) (items : List ModItem) → DeclareAlone items → EachDrives P (flat_map item_mentions items)
drives-alone P [] a = tt
drives-alone P (Wire signed width name ∷ items) a = drives-alone P items a.1
drives-alone P (Reg signed width name ∷ items) a = drives-alone P items a.1
drives-alone P (Assign name value ∷ items) a = absurd a.0
drives-alone P (Always name first condition value ∷ items) a = absurd a.0

pub drives-ports : (P : Bool → List ℕ → Type 0) (ports : List Port) → EachDrives P (map (λ port. Declares (port_declared port)) ports)
drives-ports P [] = tt
drives-ports P (port ∷ ports) = drives-ports P ports

-- the core's drivers, by its own
pub drives-renamed : (P : Bool → List ℕ → Type 0) (xs : List Mention) → ((c : Bool) (n : List ℕ) → Contains xs (Drives c n) → P c (inner_name n)) → EachDrives P (map renamed_mention xs)
drives-renamed P [] each = tt
drives-renamed P (Declares d ∷ xs) each = drives-renamed P xs (λ c n h. each c n (tail-in _ _ xs h))
drives-renamed P (Drives b m ∷ xs) each = (each b m (head-in (Drives b m) xs), drives-renamed P xs (λ c n h. each c n (tail-in _ _ xs h)))
drives-renamed P (Reads m ∷ xs) each = drives-renamed P xs (λ c n h. each c n (tail-in _ _ xs h))
drives-renamed P (Clocks ∷ xs) each = drives-renamed P xs (λ c n h. each c n (tail-in _ _ xs h))

-- ---- the places of names, part by part

abbrev pub ports_part : Module → List (List ℕ) → List Mention
ports_part core names = map (λ port. Declares (port_declared port)) (ports_of (inputs_of core names) (outputs_of core names))

abbrev pub declared_part : Module → List (List ℕ) → Counters → List Mention
declared_part core names counters = flat_map item_mentions (declared_items core counters (inputs_of core names) (outputs_of core names))

abbrev pub core_part : Module → List Mention
core_part core = map renamed_mention (flat_map item_mentions core.items)

abbrev pub late_mentions : Column → List Mention
late_mentions column = flat_map (stage_mentions column) (range_with_len 0 column.late) ++ (Drives false column.name ∷ Reads (stage_name column column.late) ∷ [])

abbrev pub helds : Module → List (List ℕ) → List Mention
helds core names = flat_map held_mentions (inputs_of core names)

abbrev pub lates : Module → List (List ℕ) → List Mention
lates core names = flat_map late_mentions (outputs_of core names)

abbrev pub own_part : Module → List (List ℕ) → List Mention
own_part core names = control_mentions ++ (helds core names ++ lates core names)

module _ (core : Module) (sound : BreaksNone core) (stallable : is_stallable core ≡ true) (names : List (List ℕ)) (named : AreColumnNames core names) (counters : Counters) where
  mentions-flat : {A : Type 0} (f : A → List ModItem) (g : A → List Mention) (xs : List A) → ((x : A) → flat_map item_mentions (f x) ≡ g x) → flat_map item_mentions (flat_map f xs) ≡ flat_map g xs
  mentions-flat f g [] each = refl
  mentions-flat f g (x ∷ xs) each = flat_map-append item_mentions (f x) (flat_map f xs) ∙ (λ i. each x i ++ mentions-flat f g xs each i)

  mentions-map : {A : Type 0} (f : A → ModItem) (g : A → List Mention) (xs : List A) → ((x : A) → item_mentions (f x) ≡ g x) → flat_map item_mentions (map f xs) ≡ flat_map g xs
  mentions-map f g [] each = refl
  mentions-map f g (x ∷ xs) each = (λ i. each x i ++ mentions-map f g xs each i)

  late-part : (column : Column) → flat_map item_mentions (late_driven column) ≡ late_mentions column
  late-part column =
      flat_map-append item_mentions (map (stage_driven column) (range_with_len 0 column.late)) (Assign column.name (Name (stage_name column column.late)) ∷ [])
      ∙ (λ i. mentions-map (stage_driven column) (stage_mentions column) (range_with_len 0 column.late) (stage-mentions column) i ++ (shown-mentions column i ++ []))

  pub mentions-are : mentions (wrapped core names counters) ≡ ports_part core names ++ (declared_part core names counters ++ (core_part core ++ own_part core names))
  mentions-are = ap (λ xs. ports_part core names ++ xs)
      (flat_map-append item_mentions (declared_items core counters (inputs_of core names) (outputs_of core names))
      (core_items core ++ driven_items counters (inputs_of core names) (outputs_of core names))
      ∙ ap (λ xs. declared_part core names counters ++ xs)
      (flat_map-append item_mentions (core_items core) (driven_items counters (inputs_of core names) (outputs_of core names))
      ∙ (λ i. items-renamed core.items i ++ driven-are i)))
    where
      driven-are : flat_map item_mentions (driven_items counters (inputs_of core names) (outputs_of core names)) ≡ own_part core names
      driven-are =
          flat_map-append item_mentions (control_driven counters) (flat_map held_driven (inputs_of core names) ++ flat_map late_driven (outputs_of core names))
          ∙ (λ i. control-mentions counters i ++ flat_map-append item_mentions (flat_map held_driven (inputs_of core names)) (flat_map late_driven (outputs_of core names)) i)
          ∙ (λ i. control_mentions ++ (mentions-flat held_driven held_mentions (inputs_of core names) held-mentions i ++ mentions-flat late_driven late_mentions (outputs_of core names) late-part i))

  -- ---- what is declared first

  abbrev base : List Mention
  base = ports_part core names ++ declared_part core names counters

  pub declared-alone : DeclareAlone (declared_items core counters (inputs_of core names) (outputs_of core names))
  declared-alone =
      declared-have DeclaresAlone core counters (inputs_of core names) (outputs_of core names) (have-flat DeclaresAlone wires_for core.ports (λ port h. wire-alone port))
      (tt, (tt, (tt, (tt, (tt, (tt, (tt, tt))))))) (λ column h. (tt, tt)) (λ column h. have-map DeclaresAlone (stage_declared column) (range_with_len 0 column.late) (λ place h. tt))
    where
      wire-alone : (port : Port) → DeclareAlone (wires_for port)
      wire-alone port = by (is_shared port.name) where
        by : (b : Bool) → DeclareAlone (if b then [] else Wire port.signed port.width (inner_name port.name) ∷ [])
        by true = tt
        by false = (tt, tt)

  in-base : (d : Declared) → Contains (ports_part core names ++ declared_part core names counters) (Declares d)
      → (n : List ℕ) → d.name ≡ n
      → list_any (is_declaration_of n) (ports_part core names ++ declared_part core names counters) ≡ true
  in-base d h n e = seen (is_declaration_of n) (ports_part core names ++ declared_part core names counters) (Declares d) h ((bytes_eq-Decides d.name n).1 e)

  port-base : (port : Port) → Contains (ports_of (inputs_of core names) (outputs_of core names)) port
      → list_any (is_declaration_of port.name) (ports_part core names ++ declared_part core names counters) ≡ true
  port-base port h = in-base (port_declared port) (Contains-append_left (ports_part core names) (declared_part core names counters) (Declares (port_declared port))
      (map-in (λ port. Declares (port_declared port)) (ports_of (inputs_of core names) (outputs_of core names)) port h)) port.name refl

  item-base : (i : ModItem) → Contains (declared_items core counters (inputs_of core names) (outputs_of core names)) i → (d : Declared) → Contains (item_mentions i) (Declares d)
      → list_any (is_declaration_of d.name) (ports_part core names ++ declared_part core names counters) ≡ true
  item-base i h d c = in-base d (Contains-append_right (ports_part core names) (declared_part core names counters)
      (Declares d) (flat-in item_mentions (declared_items core counters (inputs_of core names)
      (outputs_of core names)) i (Declares d) h c)) d.name refl

  wire-base : (port : Port) → Contains core.ports port → is_shared port.name ≡ false
      → list_any (is_declaration_of (inner_name port.name))
      (ports_part core names ++ declared_part core names counters) ≡ true
  wire-base port h off = item-base (Wire port.signed port.width (inner_name port.name))
      (Contains-append_left (wires_of core) (control_declared counters ++ (flat_map held_declared (inputs_of core names) ++ flat_map late_declared (outputs_of core names))) _
      (wire-of core counters (inputs_of core names) (outputs_of core names) port h off)) _ (head-in _ [])

  abbrev behind_wires : List ModItem
  behind_wires = control_declared counters ++ (flat_map held_declared (inputs_of core names) ++ flat_map late_declared (outputs_of core names))

  control-base : (i : ModItem) → Contains (control_declared counters) i → (d : Declared)
      → Contains (item_mentions i) (Declares d)
      → list_any (is_declaration_of d.name) (ports_part core names ++ declared_part core names counters) ≡ true
  control-base i h d c = item-base i (Contains-append_right (wires_of core) behind_wires i
      (Contains-append_left (control_declared counters) (flat_map held_declared (inputs_of core names) ++ flat_map late_declared (outputs_of core names)) i h)) d c

  held-base : (column : Column) → Contains (inputs_of core names) column → list_any (is_declaration_of (held_name column.name)) (ports_part core names ++ declared_part core names counters) ≡ true
  held-base column c =
      let i : ModItem = Reg column.signed column.width (held_name column.name) in
      item-base i (Contains-append_right (wires_of core) behind_wires i
      (Contains-append_right (control_declared counters) (flat_map held_declared (inputs_of core names) ++ flat_map late_declared (outputs_of core names)) i
      (Contains-append_left (flat_map held_declared (inputs_of core names)) (flat_map late_declared (outputs_of core names)) i
      (flat-in held_declared (inputs_of core names) column i c (head-in i []))))) _ (head-in _ [])

  late-base : (column : Column) → Contains (outputs_of core names) column → (place : ℕ) → place < column.late
      → list_any (is_declaration_of (late_name column.name (place + 1)))
      (ports_part core names ++ declared_part core names counters) ≡ true
  late-base column c place low =
      let i : ModItem = stage_declared column place in
      let e : 0 + place ≡ place = omega arith in
      item-base i (Contains-append_right (wires_of core) behind_wires i
      (Contains-append_right (control_declared counters) (flat_map held_declared (inputs_of core names) ++ flat_map late_declared (outputs_of core names)) i
      (Contains-append_right (flat_map held_declared (inputs_of core names)) (flat_map late_declared (outputs_of core names)) i
      (flat-in late_declared (outputs_of core names) column i c
      (map-in (stage_declared column) (range_with_len 0 column.late) place (subst (λ n. Contains (range_with_len 0 column.late) n) e (range-in 0 column.late place low))))))) _ (head-in _ [])

  enable-base : list_any (is_declaration_of enable_name) (ports_part core names ++ declared_part core names counters) ≡ true
  enable-base =
      let p = bit-port (codes "clk_enable") core.ports stallable in
      subst (λ n. list_any (is_declaration_of (inner_name n)) (ports_part core names ++ declared_part core names counters) ≡ true) p.2 (wire-base p.0 p.1 (ap is_shared p.2))

  -- an output of the core isn't shared
  pub output-unshared : (port : Port) → Contains core.ports port → port.input ≡ false → is_shared port.name ≡ false
  output-unshared port h off = ⊎_elim
      (λ t. absurd (shared-cases (λ n. port.name ≡ n → ⊥) port.name t
      (λ e. let p = clk-port core sound in kinds-differ p.0 p.1 p.3 (e ∙ sym p.2))
      (λ e. let p = reset-port core sound.clocked in kinds-differ p.0 p.1 p.3 (e ∙ sym p.2)) refl))
      (λ f. f) (cases_Bool (is_shared port.name))
    where
      some-same : {d e : Declared} → Some d ≡ Some e → d ≡ e
      some-same {d} {e} p = cc p

      outs-differ : InputPort ≡ OutputPort → ⊥
      outs-differ e = cc e

      kinds-differ : (other : Port) → Contains core.ports other → other.input ≡ true → port.name ≡ other.name → ⊥
      kinds-differ other c on e =
          let mine = is-declared core sound.acyclic.driven sound.acyclic.once (port_declared port) (in-port core sound.acyclic.driven sound.acyclic.once port h) in
          let its = is-declared core sound.acyclic.driven sound.acyclic.once (port_declared other) (in-port core sound.acyclic.driven sound.acyclic.once other c) in
          let one : port_declared port ≡ port_declared other = some-same (sym mine ∙ ap (declaration_of core) e ∙ its) in
          outs-differ (sym (ap (λ (b : Bool). if b then InputPort else OutputPort) on) ∙ sym (ap (λ (x : Declared). x.kind) one) ∙ ap (λ (b : Bool). if b then InputPort else OutputPort) off)

  -- the core's port of a column of outputs
  pub output-of : (column : Column) → Contains (outputs_of core names) column → (port : Port) × Contains core.ports port × (is_shared port.name ≡ false) × (port.name ≡ column.inner)
  output-of column c =
      let r = from-map (output_column (clocks_of core) (latest_in core)) (named_outputs core names) column c in
      let f = from-filter (is_number_output (is_stallable core)) core.ports r.0.0 (zip-left (output_ports core) (drop (length (stimulus_ports core)) names) r.0 r.1) in
      let off = number-output core r.0.0 f.1 in
      (r.0.0, f.0, output-unshared r.0.0 f.0 off, ap (λ (x : Column). x.inner) r.2)

  inner-base : (column : Column) → Contains (outputs_of core names) column → list_any (is_declaration_of (inner_name column.inner)) (ports_part core names ++ declared_part core names counters) ≡ true
  inner-base column c = let p = output-of column c in
      subst (λ n. list_any (is_declaration_of (inner_name n))
      (ports_part core names ++ declared_part core names counters) ≡ true) p.3 (wire-base p.0 p.1 p.2)

  stage-base : (column : Column) → Contains (outputs_of core names) column → (k : ℕ) → k ≤ column.late
      → list_any (is_declaration_of (stage_name column k))
      (ports_part core names ++ declared_part core names counters) ≡ true
  stage-base column c k low = ⊎_elim
      (λ z. subst (λ n. list_any (is_declaration_of (stage_name column n)) (ports_part core names ++ declared_part core names counters) ≡ true) (sym z) (inner-base column c))
      (λ some.
      let e : k - 1 + 1 ≡ k = omega (arith, some) in
      let name : stage_name column k ≡ late_name column.name (k - 1 + 1) =
      cond-false (k == 0) (inner_name column.inner) (late_name column.name k) (ne_eqb k 0 some) ∙ ap (late_name column.name) (sym e) in
      subst (λ n. list_any (is_declaration_of n) (ports_part core names ++ declared_part core names counters) ≡ true) (sym name) (late-base column c (k - 1) (omega (arith, low, some))))
      (cases_eq k 0)

  -- ---- the first condition

  abbrev Here : List ℕ → Type 0
  Here n = list_any (is_declaration_of n) (ports_part core names ++ declared_part core names counters) ≡ true

  control-known : EachIn Here control_mentions
  control-known =
      let b : Here begin_name = control-base _ (0, omega arith, refl) _ (head-in _ []) in
      let e : Here end_name = control-base _ (1, omega arith, refl) _ (head-in _ []) in
      let d : Here due_name = control-base _ (2, omega arith, refl) _ (head-in _ []) in
      let f : Here fed_name = control-base _ (3, omega arith, refl) _ (head-in _ []) in
      let p : Here open_name = control-base _ (4, omega arith, refl) _ (head-in _ []) in
      let ph : Here phase_name = control-base _ (5, omega arith, refl) _ (head-in _ []) in
      let w : Here wait_name = control-base _ (6, omega arith, refl) _ (head-in _ []) in
      let n : Here enable_name = enable-base in
      let iv : Here (codes "in_valid") = port-base in_flag (front-there core counters (inputs_of core names) (outputs_of core names) in_flag (2, omega arith, refl)) in
      let rd : Here (codes "out_ready") = port-base out_flag (flag-there core counters (inputs_of core names) (outputs_of core names) out_flag (0, omega arith, refl)) in
      let ir : Here (codes "in_ready") = port-base (output_port (flag (codes "in_ready"))) (flag-there core counters (inputs_of core names) (outputs_of core names) _ (1, omega arith, refl)) in
      let ov : Here (codes "out_valid") = port-base (output_port (flag (codes "out_valid"))) (flag-there core counters (inputs_of core names) (outputs_of core names) _ (2, omega arith, refl)) in
      (b, (ph, (e, (ph, (d, (e, (w, (f, (b, (iv, (p, (d, (rd, (n, (f, (p, (ir, (b, (p, (ov, (d, (f, (ph, (n, (e, (ph, (w, (n, (e, (w, (w, tt)))))))))))))))))))))))))))))))

  held-known : (column : Column) → Contains (inputs_of core names) column → EachIn Here (held_mentions column)
  held-known column c =
      let b : Here begin_name = control-base _ (0, omega arith, refl) _ (head-in _ []) in
      let n : Here enable_name = enable-base in
      let p = column-port core sound stallable names named counters column c in
      let i : Here (inner_name column.inner) = subst (λ n. Here (inner_name n)) p.4 (wire-base p.0 p.1 p.3) in
      let u : Here column.name = port-base (input_port (column_port column)) (input-port core counters (inputs_of core names) (outputs_of core names) column c) in
      let h : Here (held_name column.name) = held-base column c in
      (i, (b, (u, (h, (h, (n, (b, (u, tt))))))))

  late-known : (column : Column) → Contains (outputs_of core names) column → EachIn Here (late_mentions column)
  late-known column c =
      let e : Here end_name = control-base _ (1, omega arith, refl) _ (head-in _ []) in
      let n : Here enable_name = enable-base in
      let y : Here column.name = port-base (output_port (column_port column)) (output-port core counters (inputs_of core names) (outputs_of core names) column c) in
      each-append Here (flat_map (stage_mentions column) (range_with_len 0 column.late)) (Drives false column.name ∷ Reads (stage_name column column.late) ∷ [])
      (each-flat Here (stage_mentions column) (range_with_len 0 column.late) (λ place h.
      let low = (in-range 0 column.late place h).1 in
      (late-base column c place (omega (arith, low)), (n, (e, (stage-base column c place (omega (arith, low)), tt))))))
      (y, (stage-base column c column.late (omega arith), tt))

  own-known : EachIn Here (own_part core names)
  own-known =
      each-append Here control_mentions (flat_map held_mentions (inputs_of core names) ++ flat_map late_mentions (outputs_of core names)) control-known
      (each-append Here (flat_map held_mentions (inputs_of core names)) (flat_map late_mentions (outputs_of core names))
      (each-flat Here held_mentions (inputs_of core names) held-known) (each-flat Here late_mentions (outputs_of core names) late-known))

  abbrev core_ports : List Mention
  core_ports = map (λ port. Declares (port_declared port)) core.ports

  -- the core's ports are declared in the wrapper
  ports-renamed : Renames core_ports (ports_part core names ++ declared_part core names counters)
  ports-renamed = record {
    at = λ n e.
        let a = Any-from_list_any (is_declaration_of n) core_ports e in
        let p = from-map (λ port. Declares (port_declared port)) core.ports a.1 (a.0, a.2, a.3) in
        let name : p.0.name ≡ n = (bytes_eq-Decides p.0.name n).0 (subst (λ x. is_declaration_of n x ≡ true) (sym p.2) a.4) in
        subst (λ n. list_any (is_declaration_of (inner_name n)) (ports_part core names ++ declared_part core names counters) ≡ true) name (of-port p.0 p.1);
  } where
    of-port : (port : Port) → Contains core.ports port → list_any (is_declaration_of (inner_name port.name)) (ports_part core names ++ declared_part core names counters) ≡ true
    of-port port h = ⊎_elim
        (λ t. shared-cases (λ n. list_any (is_declaration_of (inner_name n)) (ports_part core names ++ declared_part core names counters) ≡ true) port.name t
        (port-base (bit_input (codes "clk")) (front-there core counters (inputs_of core names) (outputs_of core names) _ (0, omega arith, refl)))
        (port-base (bit_input (codes "reset")) (front-there core counters (inputs_of core names) (outputs_of core names) _ (1, omega arith, refl))))
        (λ f. wire-base port h f)
        (cases_Bool (is_shared port.name))

  pub are-known : AreKnown [] (mentions (wrapped core names counters))
  are-known = subst (λ xs. AreKnown [] xs) (sym mentions-are)
      (known-append [] (ports_part core names) (declared_part core names counters ++ (core_part core ++ own_part core names)) (known-ports [] (ports_of (inputs_of core names) (outputs_of core names)))
      (known-append (ports_part core names) (declared_part core names counters)
      (core_part core ++ own_part core names)
      (known-alone (ports_part core names)
      (declared_items core counters (inputs_of core names) (outputs_of core names)) declared-alone)
      (known-append (ports_part core names ++ declared_part core names counters) (core_part core) (own_part core names)
      (known-renamed one-name core_ports (ports_part core names ++ declared_part core names counters) (flat_map item_mentions core.items) ports-renamed
      (known-right [] core_ports (flat_map item_mentions core.items) (known-of (mentions core) [] (mentions core) sound.acyclic.driven)))
      (known-in (ports_part core names ++ declared_part core names counters) (core_part core) (own_part core names) own-known))))
    where
      one-name : (d : Declared) (n : List ℕ) → is_declaration_of n (Declares d) ≡ true → is_declaration_of (inner_name n) (renamed_mention (Declares d)) ≡ true
      one-name d n e = (bytes_eq-Decides (inner_name d.name) (inner_name n)).1 (ap inner_name ((bytes_eq-Decides d.name n).0 e))
