-- The wrapper drives no name twice.
use Rattle.std.proofs.Common.{◌≡◌, ◌≢◌, ℕ, ◌+◌, ◌≤◌, ◌⊎◌, inl, inr, ⊎_elim, Bool, true, false, not, ◌&&◌, if◌then◌else◌, List, [], ◌∷◌, ◌++◌, map, flat_map, filter, length, Contains, bytes_eq, codes}
use Rattle.std.proofs.Common.{refl, sym, ap, subst, ◌∙◌, arith}
use Rattle.std.specs.List.{range_with_len, zip}
use Rattle.std.proofs.lemmas.Bool.{and_parts, cases_Bool, eqb-false, false≢true, not-true, or_parts}
use Rattle.std.proofs.lemmas.List.Concat.{flat_map-append, flat_map_single}
use Rattle.std.proofs.lemmas.List.Elements.{Contains-append_right, Contains-append_cases}
use Rattle.std.proofs.lemmas.Slice.Eq.{bytes_eq-Decides}
use Rattle.vl_ast.specs.declared.expressions.Expr.TheVariants.{Name}
use Rattle.vl_ast.specs.declared.modules.ModItem.TheVariants.{Assign, Wire}
use Rattle.vl_ast.specs.declared.modules.Port.{Port}
use Rattle.vl_ast.specs.declared.modules.Module.{Module}
use Rattle.vl_ast.specs.Conditions.{BreaksNone, may_drive, may_drive_it}
use Rattle.vl_ast.specs.Control.{is_clock_or_reset, is_control_input, is_number_input, is_stallable}
use Rattle.vl_ast.specs.Driven.{stimulus_ports}
use Rattle.vl_ast.specs.Nets.{InputPort, OutputPort, Declares, Drives, item_mentions, mentions, port_declared}
use Rattle.vl_ast.proofs.Alone.{reset-port}
use Rattle.vl_ast.proofs.Facts.{in-port, is-declared, may-drive}
use Rattle.math_list.proofs.Elements.{cons-cases, from-flat, from-map, head-in, map-in, none-in, tail-in}
use Rattle.vl_ast.proofs.StallFree.{bit-port}
use Rattle.st_wrap.specs.declared.columns.Column.{Column}
use Rattle.st_wrap.specs.declared.pace.Counters.{Counters}
use Rattle.st_wrap.specs.Header.{named_inputs}
use Rattle.st_wrap.specs.Names.{AreColumnNames, own_names}
use Rattle.st_wrap.specs.inner.Columns.{held_declared, held_driven, input_column, late_declared, late_driven, stage_declared, stage_driven, stage_name}
use Rattle.st_wrap.specs.inner.Control.{control_declared, control_driven}
use Rattle.st_wrap.specs.inner.Names.{begin_name, end_name, due_name, fed_name, open_name, enable_name, held_name, inner_name, is_shared, late_name, phase_name, wait_name}
use Rattle.st_wrap.specs.inner.CoreNames.{core_items, wires_for, wires_of}
use Rattle.st_wrap.specs.inner.Wrapper.{declared_items, driven_items, inputs_of, items_of, outputs_of, ports_of, wrapped}
use Rattle.st_wrap.proofs.Apart.{Apart, apart-append, apart-flat, apart-left, apart-map, apart-right, declared-once, declared_names, driven-once, driven_names, drives-it}
use Rattle.st_wrap.proofs.ColumnPorts.{from-filter, number-input, zip-left}
use Rattle.st_wrap.proofs.OneRun.{clk-port}
use Rattle.st_wrap.proofs.Letters.{by-letter, column-letter, held-same, inner-letter, inner-same, late-same, letter, off, shared-cases}
use Rattle.st_wrap.proofs.NamesOnce.{apart-range, by-test, column_name, columns-apart, driven-renamed, driven_in, flat-empty, in-each, in-range, items-renamed, late-small, map-twice, names-append}
use Rattle.st_wrap.proofs.NamesOnce.{names-flat, names-map, output-name}
use Rattle.st_wrap.proofs.Once.{in-late, late_names, port-mentions, port_name}
use Rattle.st_wrap.proofs.NameReads.{control-mentions, held-mentions, shown-mentions, stage-mentions}

-- two names for each of a list
module _ {A B : Type 0} (f g : A → B) where
  abbrev two_of : A → List B
  two_of x = f x ∷ g x ∷ []

  among : (xs : List A) (b : B) → ((z : A) → Contains xs z → f z ≡ b → ⊥) → ((z : A) → Contains xs z → g z ≡ b → ⊥) → Contains (flat_map two_of xs) b → ⊥
  among xs b p q t =
      let r = from-flat two_of xs b t in
      ⊎_elim (λ e. p r.0 r.1 e) (λ s. ⊎_elim (λ e. q r.0 r.1 e) (λ u. none-in b u) (cons-cases (g r.0) b [] s)) (cons-cases (f r.0) b (g r.0 ∷ []) r.2)

  apart-pairs : (xs : List A) → Apart (map f xs) → Apart (map g xs) → ((x y : A) → Contains xs x → Contains xs y → f x ≢ g y) → Apart (flat_map two_of xs)
  apart-pairs [] a b other = tt
  apart-pairs (x ∷ xs) a b other =
      let first : Contains (g x ∷ flat_map two_of xs) (f x) → ⊥ = λ h. ⊎_elim
      (λ e. other x x (head-in x xs) (head-in x xs) (sym e))
      (λ t. among xs (f x) (λ z c e. a.0 (subst (λ k. Contains (map f xs) k) e (map-in f xs z c))) (λ z c e. other x z (head-in x xs) (tail-in x z xs c) (sym e)) t)
      (cons-cases (g x) (f x) (flat_map two_of xs) h) in
      let second : Contains (flat_map two_of xs) (g x) → ⊥ =
      λ t. among xs (g x) (λ z c e. other z x (tail-in x z xs c) (head-in x xs) e) (λ z c e. b.0 (subst (λ k. Contains (map g xs) k) e (map-in g xs z c))) t in
      (first, (second, apart-pairs xs a.1 b.1 (λ y z c d. other y z (tail-in x y xs c) (tail-in x z xs d))))

-- the firsts of pairs
firsts : {A B : Type 0} (xs : List A) (ys : List B) → length xs ≤ length ys → map (λ (p : A × B). p.0) (zip xs ys) ≡ xs
firsts [] ys h = refl
firsts (x ∷ xs) [] h = absurd (omega (arith, h))
firsts (x ∷ xs) (y ∷ ys) h = ap (λ zs. x ∷ zs) (firsts xs ys (omega (arith, h)))

apart-filter : {A B : Type 0} (f : A → B) (p : A → Bool) (xs : List A) → Apart (map f xs) → Apart (map f (filter p xs))
apart-filter f p [] a = tt
apart-filter f p (x ∷ xs) a = by (apart-filter f p xs a.1) (p x) where
  by : Apart (map f (filter p xs)) → (b : Bool) → Apart (map f (if b then x ∷ filter p xs else filter p xs))
  by rest true = ((λ h. let r = from-map f (filter p xs) (f x) h in a.0 (subst (λ k. Contains (map f xs) k) r.2 (map-in f xs r.0 (from-filter p xs r.0 r.1).0))), rest)
  by rest false = rest

abbrev pub control_drives : List (List ℕ)
control_drives =
    begin_name ∷ end_name ∷ due_name ∷ fed_name ∷ open_name ∷ enable_name ∷ codes "in_ready" ∷ codes "out_valid" ∷ phase_name ∷ wait_name ∷ []

pub in-drives : (P : List ℕ → Type 0) (n : List ℕ) → Contains control_drives n → P begin_name → P end_name → P due_name → P fed_name → P open_name → P enable_name
    → P (codes "in_ready") → P (codes "out_valid") → P phase_name → P wait_name → P n
in-drives P n h p1 p2 p3 p4 p5 p6 p7 p8 p9 p10 = in-each P control_drives (p1, (p2, (p3, (p4, (p5, (p6, (p7, (p8, (p9, (p10, tt)))))))))) n h

abbrev pub inner_of : Column → List ℕ
inner_of column = inner_name column.inner

abbrev pub held_of : Column → List ℕ
held_of column = held_name column.name

abbrev pub held_pair : Column → List (List ℕ)
held_pair column = inner_of column ∷ held_of column ∷ []

abbrev pub late_drives : Column → List (List ℕ)
late_drives column = late_names column ++ column.name ∷ []

late-driven : (column : Column) → driven_in (late_driven column) ≡ late_drives column
late-driven column =
    names-append driven_names (map (stage_driven column) (range_with_len 0 column.late)) (Assign column.name (Name (stage_name column column.late)) ∷ [])
    ∙ (λ i. (names-map driven_names (stage_driven column) (λ place. late_name column.name (place + 1) ∷ [])
    (range_with_len 0 column.late) (λ place. ap (flat_map driven_names) (stage-mentions column place))
    ∙ flat_map_single (λ place. late_name column.name (place + 1)) (range_with_len 0 column.late)) i
    ++ (ap (λ ms. flat_map driven_names (ms ++ [])) (shown-mentions column)) i)

in-late-drives : (column : Column) (n : List ℕ) → Contains (late_drives column) n → (letter n ≡ 108) ⊎ (n ≡ column.name)
in-late-drives column n h = ⊎_elim (λ a. inl (in-late column n a)) (λ b. inr (⊎_elim (λ e. sym e) (λ t. absurd (none-in n t)) (cons-cases column.name n [] b)))
    (Contains-append_cases (late_names column) (column.name ∷ []) n h)

module _ (core : Module) (sound : BreaksNone core) (stallable : is_stallable core ≡ true) (names : List (List ℕ)) (named : AreColumnNames core names) (counters : Counters) where
  -- ---- the core drives none of its inputs

  not-driven-input : (c : Bool) → may_drive c InputPort ≡ true → ⊥
  not-driven-input true e = absurd (cc e)
  not-driven-input false e = absurd (cc e)

  input-undriven : (port : Port) → Contains core.ports port → port.input ≡ true → (c : Bool) → Contains (mentions core) (Drives c port.name) → ⊥
  input-undriven port h on c d =
      let may = may-drive core sound.acyclic.driven sound.acyclic.once c port.name d in
      let found = is-declared core sound.acyclic.driven sound.acyclic.once (port_declared port) (in-port core sound.acyclic.driven sound.acyclic.once port h) in
      let kind : may_drive c (if port.input then InputPort else OutputPort) ≡ true = sym (ap (may_drive_it c) found) ∙ may in
      not-driven-input c (sym (ap (λ (b : Bool). may_drive c (if b then InputPort else OutputPort)) on) ∙ kind)

  pub mention-of : (n : List ℕ) → Contains (driven_in core.items) n → (c : Bool) × Contains (mentions core) (Drives c n)
  mention-of n h =
      let r = from-flat driven_names (flat_map item_mentions core.items) n h in
      let is = drives-it core sound.acyclic.driven sound.acyclic.once r.0 n r.2 in
      (is.0, subst (λ x. Contains (mentions core) x) is.1 (Contains-append_right (map (λ port. Declares (port_declared port)) core.ports) (flat_map item_mentions core.items) r.0 r.1))

  not-input : (port : Port) → Contains core.ports port → port.input ≡ true → Contains (driven_in core.items) port.name → ⊥
  not-input port h on d = let m = mention-of port.name d in input-undriven port h on m.0 m.1

  pub item-unshared : (n : List ℕ) → Contains (driven_in core.items) n → is_shared n ≡ false
  item-unshared n h = ⊎_elim
      (λ t. absurd (shared-cases (λ n. Contains (driven_in core.items) n → ⊥) n t
      (λ d. let p = clk-port core sound in not-input p.0 p.1 p.3 (subst (λ x. Contains (driven_in core.items) x) (sym p.2) d))
      (λ d. let p = reset-port core sound.clocked in not-input p.0 p.1 p.3 (subst (λ x. Contains (driven_in core.items) x) (sym p.2) d))
      h))
      (λ f. f) (cases_Bool (is_shared n))

  not-enable : (n : List ℕ) → Contains (driven_in core.items) n → n ≢ codes "clk_enable"
  not-enable n h e = let p = bit-port (codes "clk_enable") core.ports stallable in not-input p.0 p.1 p.3 (subst (λ x. Contains (driven_in core.items) x) (e ∙ sym p.2) h)

  -- ---- the inputs' columns

  -- a column's port
  pub column-port : (column : Column) → Contains (inputs_of core names) column
      → (port : Port) × Contains core.ports port × (port.input ≡ true) × (is_shared port.name ≡ false)
      × (port.name ≡ column.inner) × (port.name ≢ codes "clk_enable")
  column-port column c =
      let r = from-map input_column (named_inputs core names) column c in
      let z = zip-left (stimulus_ports core) names r.0 r.1 in
      let f = from-filter (is_number_input (is_stallable core)) core.ports r.0.0 z in
      let n = number-input core r.0.0 f.1 in
      let off = or_parts (is_stallable core && bytes_eq r.0.0.name (codes "clk_enable")) (is_clock_or_reset r.0.0)
      (not-true (is_control_input (is_stallable core) r.0.0) (and_parts r.0.0.input (not (is_control_input (is_stallable core) r.0.0)) f.1).1) in (
        r.0.0,
        f.0,
        n.0,
        n.1,
        ap (λ (x : Column). x.inner) r.2,
        λ e. false≢true (sym off.0 ∙ (λ i. stallable i && (bytes_eq-Decides r.0.0.name (codes "clk_enable")).1 e i)),
      )

  column-letter' : (column : Column) → Contains (inputs_of core names) column → letter (inner_of column) ≡ 99
  column-letter' column c = let p = column-port column c in subst (λ n. letter (inner_name n) ≡ 99) p.4 (inner-letter p.0.name p.3)

  core-ports-apart : Apart (map port_name core.ports)
  core-ports-apart = subst (λ xs. Apart xs) (port-mentions core sound stallable names named counters core.ports)
      (apart-left (flat_map declared_names (map (λ port. Declares (port_declared port)) core.ports)) (flat_map declared_names (flat_map item_mentions core.items))
      (subst (λ xs. Apart xs) (flat_map-append declared_names (map (λ port. Declares (port_declared port)) core.ports) (flat_map item_mentions core.items))
      (declared-once core sound.acyclic.driven sound.acyclic.once)))

  inners-apart : Apart (map inner_of (inputs_of core names))
  inners-apart =
      let enough : length (stimulus_ports core) ≤ length names = (let n = named.count in omega (arith, n)) in
      let are : map port_name (stimulus_ports core) ≡ map (λ (p : Port × List ℕ). p.0.name) (named_inputs core names) =
      ap (map port_name) (sym (firsts (stimulus_ports core) names enough)) ∙ map-twice port_name (λ (p : Port × List ℕ). p.0) (named_inputs core names) in
      subst (λ xs. Apart xs) (map-twice inner_name (λ (p : Port × List ℕ). p.0.name) (named_inputs core names) ∙ sym (map-twice inner_of input_column (named_inputs core names)))
      (apart-map inner_name (map (λ (p : Port × List ℕ). p.0.name) (named_inputs core names)) (λ x y c d e. inner-same x y e)
      (subst (λ xs. Apart xs) are (apart-filter port_name (is_number_input (is_stallable core)) core.ports core-ports-apart)))

  helds-apart : Apart (map held_of (inputs_of core names))
  helds-apart = subst (λ xs. Apart xs) (map-twice held_name column_name (inputs_of core names))
      (apart-map held_name (map column_name (inputs_of core names)) (λ x y c d e. held-same x y e)
      (apart-left (map column_name (inputs_of core names)) (map column_name (outputs_of core names)) (columns-apart core names named)))

  pairs-apart : Apart (flat_map held_pair (inputs_of core names))
  pairs-apart = apart-pairs inner_of held_of (inputs_of core names) inners-apart helds-apart
      (λ x y c d e. by-letter (inner_of x) (held_of y) 99 104 (column-letter' x c) refl (eqb-false 99 104 refl) e)

  -- ---- the outputs' columns

  late-apart : (column : Column) → Contains (outputs_of core names) column → Apart (late_drives column)
  late-apart column c = apart-append (late_names column) (column.name ∷ [])
      (apart-map (λ place. late_name column.name (place + 1)) (range_with_len 0 column.late)
      (λ x y p q e. let a = (in-range 0 column.late x p).1 in let b = (in-range 0 column.late y q).1 in let s = late-small core names named column c in
      let r = (late-same column.name column.name (x + 1) (y + 1) (omega (arith, a, s)) (omega (arith, b, s)) e).0 in omega (arith, r))
      (apart-range 0 column.late))
      ((λ h. none-in column.name h), tt)
      (λ n a b. let e : column.name ≡ n = ⊎_elim (λ e. e) (λ t. absurd (none-in n t)) (cons-cases column.name n [] b) in
      by-letter n column.name 108 0 (in-late column n a) (column-letter column.name (output-name core names named column c)) (eqb-false 108 0 refl) (sym e))

  lates-apart : Apart (flat_map late_drives (outputs_of core names))
  lates-apart = apart-flat late_drives column_name (outputs_of core names) late-apart
      (λ x y b c d e f. by x y b c d (Contains-append_cases (late_names x) (x.name ∷ []) b e) (Contains-append_cases (late_names y) (y.name ∷ []) b f))
      (apart-right (map column_name (inputs_of core names)) (map column_name (outputs_of core names)) (columns-apart core names named))
    where
      only : (n b : List ℕ) → Contains (n ∷ []) b → n ≡ b
      only n b h = ⊎_elim (λ e. e) (λ t. absurd (none-in b t)) (cons-cases n b [] h)

      by : (x y : Column) (b : List ℕ) → Contains (outputs_of core names) x → Contains (outputs_of core names) y
          → Contains (late_names x) b ⊎ Contains (x.name ∷ []) b → Contains (late_names y) b ⊎ Contains (y.name ∷ []) b → x.name ≡ y.name
      by x y b c d (inl e) (inl f) =
          let r = from-map (λ place. late_name x.name (place + 1)) (range_with_len 0 x.late) b e in
          let t = from-map (λ place. late_name y.name (place + 1)) (range_with_len 0 y.late) b f in
          let i = (in-range 0 x.late r.0 r.1).1 in let j = (in-range 0 y.late t.0 t.1).1 in
          let s = late-small core names named x c in let u = late-small core names named y d in
          (late-same x.name y.name (r.0 + 1) (t.0 + 1) (omega (arith, i, s)) (omega (arith, j, u)) (r.2 ∙ sym t.2)).1
      by x y b c d (inl e) (inr f) = absurd (by-letter b y.name 108 0 (in-late x b e) (column-letter y.name (output-name core names named y d)) (eqb-false 108 0 refl) (sym (only y.name b f)))
      by x y b c d (inr e) (inl f) = absurd (by-letter b x.name 108 0 (in-late y b f) (column-letter x.name (output-name core names named x c)) (eqb-false 108 0 refl) (sym (only x.name b e)))
      by x y b c d (inr e) (inr f) = only x.name b e ∙ sym (only y.name b f)

  -- ---- all that is driven

  abbrev pub core_drives : List (List ℕ)
  core_drives = map inner_name (driven_in core.items)

  abbrev pub all_driven : List (List ℕ)
  all_driven = core_drives ++ (control_drives ++ (flat_map held_pair (inputs_of core names) ++ flat_map late_drives (outputs_of core names)))

  pub core-letter : (n : List ℕ) → Contains core_drives n → (m : List ℕ) × Contains (driven_in core.items) m × (inner_name m ≡ n) × (letter n ≡ 99)
  core-letter n h = let r = from-map inner_name (driven_in core.items) n h in (r.0, r.1, r.2, subst (λ x. letter x ≡ 99) r.2 (inner-letter r.0 (item-unshared r.0 r.1)))

  pub in-pair : (n : List ℕ) → Contains (flat_map held_pair (inputs_of core names)) n
      → (column : Column) × Contains (inputs_of core names) column × ((n ≡ inner_of column) ⊎ (n ≡ held_of column))
  in-pair n h =
      let r = from-flat held_pair (inputs_of core names) n h in
      (r.0, r.1, ⊎_elim (λ e. inl (sym e)) (λ t. inr (⊎_elim (λ e. sym e) (λ u. absurd (none-in n u)) (cons-cases (held_of r.0) n [] t))) (cons-cases (inner_of r.0) n (held_of r.0 ∷ []) r.2))

  pub in-lates : (n : List ℕ) → Contains (flat_map late_drives (outputs_of core names)) n → (letter n ≡ 108) ⊎ ((column : Column) × Contains (outputs_of core names) column × (n ≡ column.name))
  in-lates n h =
      let r = from-flat late_drives (outputs_of core names) n h in
      ⊎_elim (λ l. inl l) (λ e. inr (r.0, r.1, e)) (in-late-drives r.0 n r.2)

  -- the letters of what the control drives
  abbrev Letters : List ℕ → Type 0
  Letters n = (letter n ≢ 104) × (letter n ≢ 108) × ((letter n ≡ 99) → n ≡ enable_name) × ((letter n ≡ 0) → Contains own_names n)

  control-letters : (n : List ℕ) → Contains control_drives n → Letters n
  control-letters n h = in-drives Letters n h
      (off begin_name 104 refl, off begin_name 108 refl, (λ e. absurd (off begin_name 99 refl e)), (λ e. absurd (off begin_name 0 refl e)))
      (off end_name 104 refl, off end_name 108 refl, (λ e. absurd (off end_name 99 refl e)), (λ e. absurd (off end_name 0 refl e)))
      (off due_name 104 refl, off due_name 108 refl, (λ e. absurd (off due_name 99 refl e)), (λ e. absurd (off due_name 0 refl e)))
      (off fed_name 104 refl, off fed_name 108 refl, (λ e. absurd (off fed_name 99 refl e)), (λ e. absurd (off fed_name 0 refl e)))
      (off open_name 104 refl, off open_name 108 refl, (λ e. absurd (off open_name 99 refl e)), (λ e. absurd (off open_name 0 refl e)))
      (off enable_name 104 refl, off enable_name 108 refl, (λ e. refl), (λ e. absurd (off enable_name 0 refl e)))
      (off (codes "in_ready") 104 refl, off (codes "in_ready") 108 refl, (λ e. absurd (off (codes "in_ready") 99 refl e)), (λ e. (6, omega arith, refl)))
      (off (codes "out_valid") 104 refl, off (codes "out_valid") 108 refl, (λ e. absurd (off (codes "out_valid") 99 refl e)), (λ e. (7, omega arith, refl)))
      (off phase_name 104 refl, off phase_name 108 refl, (λ e. absurd (off phase_name 99 refl e)), (λ e. absurd (off phase_name 0 refl e)))
      (off wait_name 104 refl, off wait_name 108 refl, (λ e. absurd (off wait_name 99 refl e)), (λ e. absurd (off wait_name 0 refl e)))

  pub output-letter : (column : Column) → Contains (outputs_of core names) column → letter column.name ≡ 0
  output-letter column c = column-letter column.name (output-name core names named column c)

  pair-late : (n : List ℕ) → Contains (flat_map held_pair (inputs_of core names)) n → Contains (flat_map late_drives (outputs_of core names)) n → ⊥
  pair-late n p q = let r = in-pair n p in ⊎_elim
      (λ a. let l : letter n ≡ 99 = ap letter a ∙ column-letter' r.0 r.1 in late n 99 l (eqb-false 99 108 refl) (eqb-false 99 0 refl) q)
      (λ b. let l : letter n ≡ 104 = ap letter b in late n 104 l (eqb-false 104 108 refl) (eqb-false 104 0 refl) q)
      r.2
    where
      late : (n : List ℕ) (x : ℕ) → letter n ≡ x → x ≢ 108 → x ≢ 0 → Contains (flat_map late_drives (outputs_of core names)) n → ⊥
      late n x l u v q = ⊎_elim (λ e. u (sym l ∙ e)) (λ c. v (sym l ∙ ap letter c.2 ∙ output-letter c.0 c.1)) (in-lates n q)

  control-other : (n : List ℕ) → Contains control_drives n → Contains (flat_map held_pair (inputs_of core names) ++ flat_map late_drives (outputs_of core names)) n → ⊥
  control-other n c h =
      let l = control-letters n c in
      ⊎_elim
      (λ p. let r = in-pair n p in ⊎_elim
      (λ a. let e : n ≡ enable_name = l.2 (ap letter a ∙ column-letter' r.0 r.1) in
      let port = column-port r.0 r.1 in
      port.5 (port.4 ∙ inner-same r.0.inner (codes "clk_enable") (sym a ∙ e)))
      (λ b. l.0 (ap letter b))
      r.2)
      (λ q. ⊎_elim (λ e. l.1 e) (λ c. (output-name core names named c.0 c.1).free (subst (λ x. Contains own_names x) c.2 (l.3 (ap letter c.2 ∙ output-letter c.0 c.1)))) (in-lates n q))
      (Contains-append_cases (flat_map held_pair (inputs_of core names)) (flat_map late_drives (outputs_of core names)) n h)

  core-other : (n : List ℕ) → Contains core_drives n → Contains (control_drives ++ (flat_map held_pair (inputs_of core names) ++ flat_map late_drives (outputs_of core names))) n → ⊥
  core-other n d h =
      let k = core-letter n d in
      ⊎_elim
      (λ c. let e : n ≡ enable_name = (control-letters n c).2 k.3 in not-enable k.0 k.1 (inner-same k.0 (codes "clk_enable") (k.2 ∙ e)))
      (λ o. ⊎_elim
      (λ p. let r = in-pair n p in ⊎_elim
      (λ a. let port = column-port r.0 r.1 in
      not-input port.0 port.1 port.2 (subst (λ x. Contains (driven_in core.items) x) (inner-same k.0 r.0.inner (k.2 ∙ a) ∙ sym port.4) k.1))
      (λ b. eqb-false 104 99 refl (sym (ap letter b) ∙ k.3))
      r.2)
      (λ q. ⊎_elim (λ e. eqb-false 108 99 refl (sym e ∙ k.3)) (λ c. eqb-false 0 99 refl (sym (ap letter c.2 ∙ output-letter c.0 c.1) ∙ k.3)) (in-lates n q))
      (Contains-append_cases (flat_map held_pair (inputs_of core names)) (flat_map late_drives (outputs_of core names)) n o))
      (Contains-append_cases control_drives (flat_map held_pair (inputs_of core names) ++ flat_map late_drives (outputs_of core names)) n h)

  core-driven-apart : Apart (driven_in core.items)
  core-driven-apart =
      apart-right (flat_map driven_names (map (λ port. Declares (port_declared port)) core.ports)) (driven_in core.items)
      (subst (λ xs. Apart xs) (flat_map-append driven_names (map (λ port. Declares (port_declared port)) core.ports) (flat_map item_mentions core.items))
      (driven-once core sound.acyclic.driven sound.acyclic.once))

  all-apart : Apart all_driven
  all-apart =
      apart-append core_drives (control_drives ++ (flat_map held_pair (inputs_of core names) ++ flat_map late_drives (outputs_of core names)))
      (apart-map inner_name (driven_in core.items) (λ x y c d e. inner-same x y e) core-driven-apart)
      (apart-append control_drives (flat_map held_pair (inputs_of core names) ++ flat_map late_drives (outputs_of core names)) (by-test control_drives refl)
      (apart-append (flat_map held_pair (inputs_of core names)) (flat_map late_drives (outputs_of core names)) pairs-apart lates-apart pair-late)
      control-other)
      core-other

  ports-drive-none : (ports : List Port) → flat_map driven_names (map (λ port. Declares (port_declared port)) ports) ≡ []
  ports-drive-none [] = refl
  ports-drive-none (port ∷ ports) = ports-drive-none ports

  declared-drive-none : driven_in (declared_items core counters (inputs_of core names) (outputs_of core names)) ≡ []
  declared-drive-none =
      names-append driven_names (wires_of core) (control_declared counters ++ (flat_map held_declared (inputs_of core names) ++ flat_map late_declared (outputs_of core names)))
      ∙ (λ i. (names-flat driven_names wires_for (λ port. []) core.ports wire-none ∙ flat-empty core.ports) i
      ++ names-append driven_names (control_declared counters) (flat_map held_declared (inputs_of core names) ++ flat_map late_declared (outputs_of core names)) i)
      ∙ names-append driven_names (flat_map held_declared (inputs_of core names)) (flat_map late_declared (outputs_of core names))
      ∙ (λ i. (names-flat driven_names held_declared (λ column. []) (inputs_of core names) (λ column. refl) ∙ flat-empty (inputs_of core names)) i
      ++ (names-flat driven_names late_declared (λ column. []) (outputs_of core names) late-none ∙ flat-empty (outputs_of core names)) i)
    where
      wire-none : (port : Port) → driven_in (wires_for port) ≡ []
      wire-none port = by (is_shared port.name) where
        by : (b : Bool) → driven_in (if b then [] else Wire port.signed port.width (inner_name port.name) ∷ []) ≡ []
        by true = refl
        by false = refl

      late-none : (column : Column) → driven_in (late_declared column) ≡ []
      late-none column = names-map driven_names (stage_declared column) (λ place. []) (range_with_len 0 column.late) (λ place. refl) ∙ flat-empty (range_with_len 0 column.late)

  pub driven-list : flat_map driven_names (mentions (wrapped core names counters)) ≡ all_driven
  driven-list =
      flat_map-append driven_names (map (λ port. Declares (port_declared port))
      (ports_of (inputs_of core names) (outputs_of core names)))
      (flat_map item_mentions (items_of core counters (inputs_of core names) (outputs_of core names)))
      ∙ (λ i. ports-drive-none (ports_of (inputs_of core names) (outputs_of core names)) i
      ++ names-append driven_names (declared_items core counters (inputs_of core names) (outputs_of core names))
      (core_items core ++ driven_items counters (inputs_of core names) (outputs_of core names)) i)
      ∙ (λ i. declared-drive-none i ++ names-append driven_names (core_items core) (driven_items counters (inputs_of core names) (outputs_of core names)) i)
      ∙ (λ i. (ap (flat_map driven_names) (items-renamed core.items) ∙ driven-renamed (flat_map item_mentions core.items)) i ++ own-part i)
    where
      own-part : driven_in (driven_items counters (inputs_of core names) (outputs_of core names))
          ≡ control_drives
          ++ (flat_map held_pair (inputs_of core names) ++ flat_map late_drives (outputs_of core names))
      own-part =
          names-append driven_names (control_driven counters) (flat_map held_driven (inputs_of core names) ++ flat_map late_driven (outputs_of core names))
          ∙ (λ i. ap (flat_map driven_names) (control-mentions counters) i ++ names-append driven_names (flat_map held_driven (inputs_of core names)) (flat_map late_driven (outputs_of core names)) i)
          ∙ (λ i. control_drives ++ (names-flat driven_names held_driven held_pair (inputs_of core names) (λ column. ap (flat_map driven_names) (held-mentions column)) i
          ++ names-flat driven_names late_driven late_drives (outputs_of core names) late-driven i))

  pub all-driven-once : Apart (flat_map driven_names (mentions (wrapped core names counters)))
  all-driven-once = subst (λ xs. Apart xs) (sym driven-list) all-apart
