-- The wrapper's assignments read each other in no cycle, where the core's don't.
use Rattle.std.proofs.Common.{◌≡◌, ℕ, suc, ◌+◌, ◌-◌, ◌%◌, ◌<◌, ◌==◌, ◌⊎◌, inl, inr, ⊎_elim, Bool, true, false, if◌then◌else◌, List, [], ◌∷◌, ◌++◌, map, flat_map, length, slice_index_or, Contains}
use Rattle.std.proofs.Common.{codes, Option, None, refl, sym, ap, subst, ◌∙◌, arith}
use Rattle.std.specs.List.{range_with_len}
use Rattle.std.proofs.lemmas.Bool.{cases_Bool, cases_eq, cond-false, eqb-false, ne_eqb}
use Rattle.std.proofs.lemmas.Nat.{mod_below}
use Rattle.std.proofs.lemmas.List.Elements.{Contains-append_left, Contains-append_right, Contains-append_cases}
use Rattle.vl_ast.specs.declared.expressions.BinOp.TheVariants.{Equal}
use Rattle.vl_ast.specs.declared.expressions.Sized.{Sized}
use Rattle.vl_ast.specs.declared.expressions.Expr.{Expr}
use Rattle.vl_ast.specs.declared.expressions.Expr.TheVariants.{Name, Choose}
use Rattle.vl_ast.specs.declared.modules.ModItem.TheVariants.{Assign, Always}
use Rattle.vl_ast.specs.declared.modules.Port.{Port}
use Rattle.vl_ast.specs.declared.modules.Module.{Module}
use Rattle.vl_ast.specs.Conditions.{AssignmentReads, BreaksNone, IsLoop, doubly, may_drive, may_drive_it, undriven}
use Rattle.vl_ast.specs.Control.{is_stallable}
use Rattle.vl_ast.specs.Header.{input_port}
use Rattle.vl_ast.specs.Nets.{InputPort, OutputPort, Drives, mentions, names_read, port_declared}
use Rattle.vl_ast.proofs.Chains.{owed-of-none}
use Rattle.vl_ast.proofs.Facts.{ByAlways, ByAssign, Driver, assign-drives, driver-of, in-port, is-declared, may-drive, not-both, one-assign}
use Rattle.math_list.proofs.Elements.{cons-cases, flat-in, from-flat, from-map, head-in, map-in, none-in}
use Rattle.st_wrap.specs.declared.columns.Column.{Column}
use Rattle.st_wrap.specs.declared.pace.Counters.{Counters}
use Rattle.st_wrap.specs.Names.{AreColumnNames, own_names}
use Rattle.st_wrap.specs.inner.Columns.{column_port, stage_driven, stage_name}
use Rattle.st_wrap.specs.inner.Control.{both, control_driven, is_due_now, is_last, is_zero, unless}
use Rattle.st_wrap.specs.inner.Names.{begin_name, end_name, due_name, fed_name, open_name, enable_name, held_name, inner_name, is_shared, late_name, phase_name, wait_name}
use Rattle.st_wrap.specs.inner.CoreNames.{renamed}
use Rattle.st_wrap.specs.inner.Wrapper.{inputs_of, outputs_of, ports_of, wrapped}
use Rattle.st_wrap.proofs.Apart.{driven_names}
use Rattle.st_wrap.proofs.ColumnPorts.{range-in}
use Rattle.st_wrap.proofs.ControlSignals.{in_flag, out_flag}
use Rattle.st_wrap.proofs.SingleDrivers.{control_drives, core_drives, core-letter, driven-list, held_pair, in-drives, in-lates, in-pair, late_drives, mention-of, output-letter}
use Rattle.st_wrap.proofs.Letters.{inner-letter, inner-same, inner-shared, letter, shared-cases, shared-letter}
use Rattle.st_wrap.proofs.NamesOnce.{in-range, output-name}
use Rattle.st_wrap.proofs.Once.{late_names}
use Rattle.vl_ast.proofs.Copies.{reads-Name}
use Rattle.st_wrap.proofs.NameReads.{reads-both, reads-chosen, reads-counted, reads-due, reads-renamed, reads-unless, reads-zero}
use Rattle.st_wrap.proofs.Structure.{core-there, driven-there, flag-there, front-there, input-port}

module _ (core : Module) (sound : BreaksNone core) (stallable : is_stallable core ≡ true) (names : List (List ℕ)) (named : AreColumnNames core names) (counters : Counters)
    (driven : undriven (wrapped core names counters) ≡ None) (once : doubly (wrapped core names counters) ≡ None)
    (first : List ℕ) (others : List (List ℕ)) (loop : IsLoop (wrapped core names counters) first others) where
  abbrev o : Module
  o = wrapped core names counters

  abbrev name_at : ℕ → List ℕ
  name_at k = slice_index_or (first ∷ others) k []

  abbrev next : ℕ → ℕ
  next k = (k + 1) % length (first ∷ others)

  next-below : (k : ℕ) → next k < length (first ∷ others)
  next-below k = mod_below (k + 1) (length (first ∷ others)) (omega arith)

  -- a name that doesn't stand in the cycle
  abbrev Cold : List ℕ → Type 0
  Cold name = (k : ℕ) → k < length (first ∷ others) → slice_index_or (first ∷ others) k [] ≡ name → ⊥

  assigned-at : (k : ℕ) → k < length (first ∷ others) → (name : List ℕ) → name_at k ≡ name → AssignmentReads (wrapped core names counters) name (name_at (next k))
  assigned-at k below name e = subst (λ n. AssignmentReads (wrapped core names counters) n (name_at (next k))) e (loop.reads k below)

  -- an assignment that reads only such names
  cold-assigned : (name : List ℕ) (value : Expr) → Contains (wrapped core names counters).items (Assign name value) → ((x : List ℕ) → Contains (names_read value) x → Cold x) → Cold name
  cold-assigned name value h reads k below e =
      let a = assigned-at k below name e in
      let same = one-assign (wrapped core names counters) driven once name a.value value a.assigned h in
      reads (name_at (next k)) (subst (λ v. Contains (names_read v) (name_at (next k))) same a.reads) (next k) (next-below k) refl

  cold-clocked : (name : List ℕ) (first' : Sized) (condition : Option Expr) (value : Expr) → Contains (wrapped core names counters).items (Always name first' condition value) → Cold name
  cold-clocked name first' condition value h k below e =
      let a = assigned-at k below name e in
      not-both (wrapped core names counters) driven once name a.value first' condition value a.assigned h

  no-input : may_drive false InputPort ≡ true → ⊥
  no-input e = absurd (cc e)

  cold-port : (port : Port) → Contains (ports_of (inputs_of core names) (outputs_of core names)) port → port.input ≡ true → Cold port.name
  cold-port port h on k below e =
      let a = assigned-at k below port.name e in
      let d = assign-drives (wrapped core names counters) driven once port.name a.value a.assigned in
      let may = may-drive (wrapped core names counters) driven once false port.name d in
      let found = is-declared (wrapped core names counters) driven once (port_declared port) (in-port (wrapped core names counters) driven once port h) in
      let kind : may_drive false (if port.input then InputPort else OutputPort) ≡ true = sym (ap (may_drive_it false) found) ∙ may in
      no-input (sym (ap (λ (b : Bool). may_drive false (if b then InputPort else OutputPort)) on) ∙ kind)

  one-of : (x y : List ℕ) → Cold x → Contains (x ∷ []) y → Cold y
  one-of x y c h = ⊎_elim (λ e. subst Cold e c) (λ t. absurd (none-in y t)) (cons-cases x y [] h)

  two-of : (x z y : List ℕ) → Cold x → Cold z → Contains (x ∷ z ∷ []) y → Cold y
  two-of x z y c d h = ⊎_elim (λ e. subst Cold e c) (λ t. one-of z y d t) (cons-cases x y (z ∷ []) h)

  signal : (name : List ℕ) (value : Expr) → Contains (control_driven counters) (Assign name value) → ((x : List ℕ) → Contains (names_read value) x → Cold x) → Cold name
  signal name value h reads = cold-assigned name value ((driven-there core counters (inputs_of core names) (outputs_of core names)).front (Assign name value) h) reads

  cold-phase : Cold phase_name
  cold-phase = cold-clocked phase_name _ _ _ ((driven-there core counters (inputs_of core names) (outputs_of core names)).front _ (8, omega arith, refl))

  cold-wait : Cold wait_name
  cold-wait = cold-clocked wait_name _ _ _ ((driven-there core counters (inputs_of core names) (outputs_of core names)).front _ (9, omega arith, refl))

  cold-begin : Cold begin_name
  cold-begin = signal begin_name (is_zero phase_name) (0, omega arith, refl) (λ x c. one-of phase_name x cold-phase (subst (λ ns. Contains ns x) (reads-zero phase_name) c))

  cold-end : Cold end_name
  cold-end = signal end_name (is_last counters.phase) (1, omega arith, refl)
      (λ x c. one-of phase_name x cold-phase (subst (λ ns. Contains ns x) (reads-counted Equal phase_name counters.phase.width counters.phase.most) c))

  cold-due : Cold due_name
  cold-due = signal due_name is_due_now (2, omega arith, refl) (λ x c. two-of end_name wait_name x cold-end cold-wait (subst (λ ns. Contains ns x) reads-due c))

  cold-fed : Cold fed_name
  cold-fed = signal fed_name (unless begin_name (codes "in_valid")) (3, omega arith, refl)
      (λ x c. two-of begin_name (codes "in_valid") x cold-begin (cold-port in_flag (front-there core counters (inputs_of core names) (outputs_of core names) in_flag (2, omega arith, refl)) refl)
      (subst (λ ns. Contains ns x) (reads-unless begin_name (codes "in_valid")) c))

  cold-open : Cold open_name
  cold-open = signal open_name (unless due_name (codes "out_ready")) (4, omega arith, refl)
      (λ x c. two-of due_name (codes "out_ready") x cold-due (cold-port out_flag (flag-there core counters (inputs_of core names) (outputs_of core names) out_flag (0, omega arith, refl)) refl)
      (subst (λ ns. Contains ns x) (reads-unless due_name (codes "out_ready")) c))

  cold-enable : Cold enable_name
  cold-enable = signal enable_name (both fed_name open_name) (5, omega arith, refl)
      (λ x c. two-of fed_name open_name x cold-fed cold-open
      (subst (λ ns. Contains ns x) (reads-both fed_name open_name) c))

  cold-ready : Cold (codes "in_ready")
  cold-ready = signal (codes "in_ready") (both begin_name open_name) (6, omega arith, refl)
      (λ x c. two-of begin_name open_name x cold-begin cold-open
      (subst (λ ns. Contains ns x) (reads-both begin_name open_name) c))

  cold-valid : Cold (codes "out_valid")
  cold-valid = signal (codes "out_valid") (both due_name fed_name) (7, omega arith, refl)
      (λ x c. two-of due_name fed_name x cold-due cold-fed
      (subst (λ ns. Contains ns x) (reads-both due_name fed_name) c))

  cold-control : (n : List ℕ) → Contains control_drives n → Cold n
  cold-control n h = in-drives Cold n h cold-begin cold-end cold-due cold-fed cold-open cold-enable cold-ready cold-valid cold-phase cold-wait

  cold-held : (column : Column) → Contains (inputs_of core names) column → Cold (held_name column.name)
  cold-held column c = cold-clocked (held_name column.name) _ _ _ ((driven-there core counters (inputs_of core names) (outputs_of core names)).input column c _ (1, omega arith, refl))

  cold-inner : (column : Column) → Contains (inputs_of core names) column → Cold (inner_name column.inner)
  cold-inner column c =
      cold-assigned (inner_name column.inner) (Choose (Name begin_name) (Name column.name) (Name (held_name column.name)))
      ((driven-there core counters (inputs_of core names) (outputs_of core names)).input column c _ (0, omega arith, refl))
      (λ x r. three x (subst (λ ns. Contains ns x) (reads-chosen begin_name column.name (held_name column.name)) r))
    where
      three : (x : List ℕ) → Contains (begin_name ∷ column.name ∷ held_name column.name ∷ []) x → Cold x
      three x h = ⊎_elim (λ e. subst Cold e cold-begin)
          (λ t. two-of column.name (held_name column.name) x
          (cold-port (input_port (column_port column)) (input-port core counters (inputs_of core names) (outputs_of core names) column c) refl) (cold-held column c) t)
          (cons-cases begin_name x (column.name ∷ held_name column.name ∷ []) h)

  cold-pair : (n : List ℕ) → Contains (flat_map held_pair (inputs_of core names)) n → Cold n
  cold-pair n h =
      let r = in-pair core sound stallable names named counters n h in
      ⊎_elim (λ e. subst Cold (sym e) (cold-inner r.0 r.1)) (λ e. subst Cold (sym e) (cold-held r.0 r.1)) r.2

  -- ---- what is left

  abbrev InCore : List ℕ → Type 0
  InCore n = Contains (core_drives core sound stallable names named counters) n

  abbrev InLate : List ℕ → Type 0
  InLate n = Contains (flat_map late_drives (outputs_of core names)) n

  -- what is assigned in the cycle is the core's, or an output's
  kept : (k : ℕ) → k < length (first ∷ others) → InCore (name_at k) ⊎ InLate (name_at k)
  kept k below =
      let a = loop.reads k below in
      let d = assign-drives (wrapped core names counters) driven once (name_at k) a.value a.assigned in
      let all = subst (λ xs. Contains xs (name_at k)) (driven-list core sound stallable names named counters)
      (flat-in driven_names (mentions (wrapped core names counters)) (Drives false (name_at k)) (name_at k) d (head-in (name_at k) [])) in
      ⊎_elim (λ c. inl c)
      (λ b. ⊎_elim (λ s. absurd (cold-control (name_at k) s k below refl))
      (λ t. ⊎_elim (λ p. absurd (cold-pair (name_at k) p k below refl)) (λ l. inr l)
      (Contains-append_cases (flat_map held_pair (inputs_of core names)) (flat_map late_drives (outputs_of core names)) (name_at k) t))
      (Contains-append_cases control_drives (flat_map held_pair (inputs_of core names) ++ flat_map late_drives (outputs_of core names)) (name_at k) b))
      (Contains-append_cases (core_drives core sound stallable names named counters)
      (control_drives ++ (flat_map held_pair (inputs_of core names)
      ++ flat_map late_drives (outputs_of core names))) (name_at k) all)

  abbrev InLoop : ℕ → List ℕ → Type 0
  InLoop j name = (k : ℕ) × (k < length (first ∷ others)) × (slice_index_or (first ∷ others) k [] ≡ inner_name name)

  -- an assignment of the core in the cycle
  core-step : (k : ℕ) → k < length (first ∷ others) → (m : List ℕ) → (c : Bool) × Contains (mentions core) (Drives c m) → name_at k ≡ inner_name m
      → (read : List ℕ) × AssignmentReads core m read × (name_at (next k) ≡ inner_name read)
  core-step k below m (c, h) e = by c (driver-of core sound.acyclic.driven sound.acyclic.once c m h) where
    by : (c : Bool) → Driver core sound.acyclic.driven sound.acyclic.once m c → (read : List ℕ) × AssignmentReads core m read × (name_at (next k) ≡ inner_name read)
    by false (ByAssign value there) =
        let a = assigned-at k below (inner_name m) e in
        let h' = core-there core counters (inputs_of core names) (outputs_of core names) (Assign m value) there in
        let same = one-assign (wrapped core names counters) driven once (inner_name m) a.value (renamed value) a.assigned h' in
        let r = from-map inner_name (names_read value) (name_at (next k)) (subst (λ ns. Contains ns (name_at (next k))) (ap names_read same ∙ reads-renamed value) a.reads) in
        (r.0, record { value = value; assigned = there; reads = r.1 }, sym r.2)
    by true (ByAlways first' condition value there) =
        let a = assigned-at k below (inner_name m) e in
        absurd (not-both (wrapped core names counters) driven once (inner_name m) a.value first' _ (renamed value) a.assigned
        (core-there core counters (inputs_of core names) (outputs_of core names) (Always m first' condition value) there))

  -- no output has a name of the core's
  not-late : (m : List ℕ) → InLate (inner_name m) → ⊥
  not-late m l = ⊎_elim
      (λ e. by (is_shared m) refl e)
      (λ c. ⊎_elim
      (λ on. (output-name core names named c.0 c.1).free
      (subst (λ x. Contains own_names x) (sym (inner-shared m on) ∙ c.2)
      (shared-cases (λ n. Contains own_names n) m on (0, omega arith, refl) (1, omega arith, refl))))
      (λ out. eqb-false 99 0 refl (sym (inner-letter m out) ∙ ap letter c.2 ∙ output-letter core sound stallable names named counters c.0 c.1))
      (cases_Bool (is_shared m)))
      (in-lates core sound stallable names named counters (inner_name m) l)
    where
      by : (b : Bool) → is_shared m ≡ b → letter (inner_name m) ≡ 108 → ⊥
      by true on e = eqb-false 0 108 refl (sym (shared-letter m on) ∙ ap letter (sym (inner-shared m on)) ∙ e)
      by false out e = eqb-false 99 108 refl (sym (inner-letter m out) ∙ e)

  in-loop : (j : ℕ) (name : List ℕ) → InLoop (suc j) name → (read : List ℕ) × AssignmentReads core name read × InLoop j read
  in-loop j name (k, below, e) = ⊎_elim
      (λ c.
      let r = core-letter core sound stallable names named counters (name_at k) c in
      let same : r.0 ≡ name = inner-same r.0 name (r.2 ∙ e) in
      let s = core-step k below name (subst (λ x. (c : Bool) × Contains (mentions core) (Drives c x)) same (mention-of core sound stallable names named counters r.0 r.1)) e in
      (s.0, s.1, (next k, next-below k, s.2)))
      (λ l. absurd (not-late name (subst InLate e l)))
      (kept k below)

  -- an output reads the core's, or a register
  output-step : (k : ℕ) → k < length (first ∷ others) → (column : Column) → Contains (outputs_of core names) column → name_at k ≡ column.name → name_at (next k) ≡ stage_name column column.late
  output-step k below column c e =
      let a = assigned-at k below column.name e in
      let h = (driven-there core counters (inputs_of core names) (outputs_of core names)).output column c (Assign column.name (Name (stage_name column column.late)))
      (Contains-append_right (map (stage_driven column) (range_with_len 0 column.late)) (Assign column.name (Name (stage_name column column.late)) ∷ []) _ (head-in _ [])) in
      let same = one-assign (wrapped core names counters) driven once column.name a.value (Name (stage_name column column.late)) a.assigned h in
      ⊎_elim (λ e. sym e) (λ t. absurd (none-in (name_at (next k)) t))
      (cons-cases (stage_name column column.late) (name_at (next k)) [] (subst (λ ns. Contains ns (name_at (next k))) (ap names_read same ∙ reads-Name (stage_name column column.late)) a.reads))

  cold-late : (column : Column) → Contains (outputs_of core names) column → (place : ℕ) → place < column.late → Cold (late_name column.name (place + 1))
  cold-late column c place low =
      let e : 0 + place ≡ place = omega arith in
      cold-clocked (late_name column.name (place + 1)) _ _ _ ((driven-there core counters (inputs_of core names) (outputs_of core names)).output column c (stage_driven column place)
      (Contains-append_left (map (stage_driven column) (range_with_len 0 column.late)) _ (stage_driven column place)
      (map-in (stage_driven column) (range_with_len 0 column.late) place (subst (λ n. Contains (range_with_len 0 column.late) n) e (range-in 0 column.late place low)))))

  -- the cycle stands in the core
  begins : (m : List ℕ) × InLoop 0 m
  begins = ⊎_elim
      (λ c. let r = core-letter core sound stallable names named counters (name_at 0) c in (r.0, (0, omega arith, sym r.2)))
      (λ l.
      let r = from-flat late_drives (outputs_of core names) (name_at 0) l in
      ⊎_elim
      (λ a.
      let p = from-map (λ place. late_name r.0.name (place + 1)) (range_with_len 0 r.0.late) (name_at 0) a in
      let low = (in-range 0 r.0.late p.0 p.1).1 in
      absurd (cold-late r.0 r.1 p.0 (omega (arith, low)) 0 (omega arith) (sym p.2)))
      (λ b. of-output r.0 r.1 (output-step 0 (omega arith) r.0 r.1 (⊎_elim (λ e. sym e) (λ t. absurd (none-in (name_at 0) t)) (cons-cases r.0.name (name_at 0) [] b))))
      (Contains-append_cases (late_names r.0) (r.0.name ∷ []) (name_at 0) r.2))
      (kept 0 (omega arith))
    where
      of-output : (column : Column) → Contains (outputs_of core names) column → name_at (next 0) ≡ stage_name column column.late → (m : List ℕ) × InLoop 0 m
      of-output column c e = ⊎_elim
          (λ z. (column.inner, (next 0, next-below 0, e ∙ ap (stage_name column) z)))
          (λ some.
          let more : column.late - 1 + 1 ≡ column.late = omega (arith, some) in
          let name : stage_name column column.late ≡ late_name column.name (column.late - 1 + 1) =
          cond-false (column.late == 0) (inner_name column.inner) (late_name column.name column.late) (ne_eqb column.late 0 some) ∙ ap (late_name column.name) (sym more) in
          absurd (cold-late column c (column.late - 1) (omega (arith, some)) (next 0) (next-below 0) (e ∙ name)))
          (cases_eq column.late 0)

  pub no-loop : ⊥
  no-loop = let b = begins in owed-of-none core sound.acyclic.acyclic (λ j name. InLoop j name) in-loop b.0 b.1
