-- Two lists of rows that run from one start over one list of inputs give each declared name the same bits.
use Rattle.std.proofs.Common.{◌≡◌, ◌≢◌, ◌<◌, ◌+◌, ⊎_elim, ℕ, zero, suc, Bool, true, false, not, ◌&&◌, if◌then◌else◌, nat_le, ◌==◌, List, ◌++◌, Contains, bytes_eq, codes, Option, Some, None, refl, sym}
use Rattle.std.proofs.Common.{ap, subst, ◌∙◌, arith}
use Rattle.std.specs.List.{list_any}
use Rattle.std.proofs.lemmas.List.Folds.{Any-from_list_any}
use Rattle.std.proofs.lemmas.List.Elements.{Contains-append_left, Contains-append_right}
use Rattle.std.proofs.lemmas.Bool.{and_parts, cond-false, cases_eq, cases_Bool, not-false, eqb-true}
use Rattle.std.proofs.lemmas.Slice.Eq.{bytes_eq-Decides}
use Rattle.vl_ast.specs.declared.expressions.Sized.{Sized}
use Rattle.vl_ast.specs.declared.expressions.Expr.{Expr}
use Rattle.vl_ast.specs.declared.modules.Port.{Port}
use Rattle.vl_ast.specs.declared.modules.ModItem.TheVariants.{Reg, Assign, Always}
use Rattle.vl_ast.specs.declared.modules.Module.{Module}
use Rattle.vl_ast.specs.Context.{own_length, is_signed}
use Rattle.vl_ast.specs.Nets.{InputPort, OutputPort, Register, Declared, port_declared, Mention, Declares, Drives, Reads, mentions, nets_of, names_read, condition_names, place_of}
use Rattle.vl_ast.specs.Value.{assigned_number}
use Rattle.vl_ast.specs.Runs.{Runs, next_bits, takes_value}
use Rattle.vl_ast.specs.Conditions.{undriven, doubly, no_reset, may_drive, needs_driver, AssignmentReads, IsLoop, is_reset_at_fault, is_clk_at_fault}
use Rattle.vl_ast.specs.Control.{is_bit_input}
use Rattle.vl_ast.specs.Room.{AreSame}
use Rattle.vl_ast.proofs.Agree.{ByLayer, values-agree}
use Rattle.vl_ast.proofs.Chains.{owed-of-none}
use Rattle.vl_ast.proofs.Facts.{has-driver, read-declared, in-port, Driver, ByAssign, ByAlways, driver-of, reads-of-assign, reads-of-always, Declaration, OfPort, OfWire, OfReg, declaration-by}
use Rattle.vl_ast.proofs.Facts.{listed-mention, reg-declared}
use Rattle.vl_ast.proofs.OneRun.{assigned-agree, may-not, differs}

-- the port of `reset`, where condition five holds
pub reset-port : (m : Module) → no_reset m ≡ None → (port : Port) × Contains m.ports port × (port.name ≡ codes "reset") × (port.input ≡ true) × (port.width ≡ 1)
reset-port m e =
    let sound = by (if nat_le (place_of m (codes "clk")) (place_of m (codes "reset")) then codes "clk" else codes "reset") (is_clk_at_fault m) (is_reset_at_fault m) e in
    let any = not-false (list_any (is_bit_input (codes "reset")) m.ports) sound in
    let a = Any-from_list_any (is_bit_input (codes "reset")) m.ports any in
    let p = and_parts (bytes_eq a.1.name (codes "reset") && a.1.input && not a.1.signed) (a.1.width == 1) a.4 in
    let q = and_parts (bytes_eq a.1.name (codes "reset") && a.1.input) (not a.1.signed) p.0 in
    let r = and_parts (bytes_eq a.1.name (codes "reset")) a.1.input q.0 in
    (a.1, (a.0, a.2, a.3), (bytes_eq-Decides a.1.name (codes "reset")).0 r.0, r.1, eqb-true a.1.width 1 p.1)
  where
    by : (name : List ℕ) (clk reset : Bool) → (if clk && reset then Some name else (if clk then Some (codes "clk") else (if reset then Some (codes "reset") else None))) ≡ None → reset ≡ false
    by name true true e = absurd (cc e)
    by name true false e = refl
    by name false true e = absurd (cc e)
    by name false false e = refl

module _ (by_layer : ByLayer) (m : Module) (driven : undriven m ≡ None) (once : doubly m ≡ None) (none : (first : List ℕ) (others : List (List ℕ)) → ¬ IsLoop m first others)
    (clocked : no_reset m ≡ None) where
  abbrev all : List Mention
  all = mentions m

  -- a wire or an output has an assignment
  pub wired : (d : Declared) → Contains all (Declares d) → needs_driver d.kind ≡ true → may_drive true d.kind ≡ false → (value : Expr) × Contains m.items (Assign d.name value)
  wired d h needs only = by (has-driver m driven once d h needs) where
    of : (c : Bool) → Driver m driven once d.name c → Contains all (Drives c d.name) → (value : Expr) × Contains m.items (Assign d.name value)
    of false (ByAssign value i) dr = (value, i)
    of true (ByAlways first condition value i) dr = absurd (may-not by_layer m driven once none true d h only dr)

    by : (c : Bool) × Contains all (Drives c d.name) → (value : Expr) × Contains m.items (Assign d.name value)
    by (c, dr) = of c (driver-of m driven once c d.name dr) dr

  pub record Always' (name : List ℕ) : Type 0 where
    pub first : Sized
    pub condition : Option Expr
    pub value : Expr
    pub item : Contains m.items (Always name first condition value)

  -- a register has a clocked item
  pub stored : (signed : Bool) (width : ℕ) (name : List ℕ) → Contains m.items (Reg signed width name) → Always' name
  stored signed width name h =
      let d : Declared = record { name = name; kind = Register; net = record { width = width; signed = signed } } in
      let there = reg-declared m driven once signed width name h in
      by d there (has-driver m driven once d there refl) refl
    where
      of : (d : Declared) → Contains all (Declares d) → (c : Bool) → Driver m driven once d.name c → Contains all (Drives c d.name) → d.kind ≡ Register → Always' d.name
      of d there false (ByAssign value i) dr kind = absurd (may-not by_layer m driven once none false d there (ap (may_drive false) kind) dr)
      of d there true (ByAlways first condition value i) dr kind = record { first = first; condition = condition; value = value; item = i }

      by : (d : Declared) → Contains all (Declares d) → (c : Bool) × Contains all (Drives c d.name) → d.kind ≡ Register → Always' d.name
      by d there (c, dr) kind = of d there c (driver-of m driven once c d.name dr) dr kind

  module _ (count : ℕ) (start : List ℕ → ℕ) (inputs rows other : ℕ → List ℕ → ℕ) (one : Runs m count start inputs rows) (two : Runs m count start inputs other) where
    abbrev SameAt : ℕ → Type 0
    SameAt k = (d : Declared) → Contains all (Declares d) → rows k d.name ≡ other k d.name

    abbrev SameStates : ℕ → Type 0
    SameStates k = (signed : Bool) (width : ℕ) (name : List ℕ) → Contains m.items (Reg signed width name) → rows k name ≡ other k name

    record Differs (k : ℕ) (name : List ℕ) : Type 0 where
      declared : Declared
      there : Contains all (Declares declared)
      named : declared.name ≡ name
      apart : rows k name ≢ other k name

    through : (k : ℕ) → k < count → (name : List ℕ) (value : Expr) → Contains m.items (Assign name value) → rows k name ≢ other k name
        → (next : List ℕ) × AssignmentReads m name next × Differs k next
    through k below name value h apart = ⊎_elim
        (λ (found : (x : List ℕ) × Contains (names_read value) x × (rows k x ≢ other k x)).
        let d = read-declared m driven once found.0 (reads-of-assign m driven once name found.0 value h found.1) in
        (found.0, record { value = value; assigned = h; reads = found.1 }, record { declared = d.0; there = d.1; named = d.2; apart = found.2 }))
        (λ (same : (x : List ℕ) → Contains (names_read value) x → rows k x ≡ other k x). absurd
        (apart (one.assigns k below name value h
        ∙ assigned-agree by_layer m driven once none (rows k) (other k) (nets_of m name).width value same
        ∙ sym (two.assigns k below name value h))))
        (differs (rows k) (other k) (names_read value))

    owed : (k : ℕ) → k < count → SameStates k → (j : ℕ) (name : List ℕ) → Differs k name → (next : List ℕ) × AssignmentReads m name next × Differs k next
    owed k below states j name x = subst (λ n. (next : List ℕ) × AssignmentReads m n next × Differs k next) x.named
        (by x.declared x.there (subst (λ n. rows k n ≢ other k n) (sym x.named) x.apart) (declaration-by m driven once x.declared x.there))
      where
        from : (d : Declared) → Contains all (Declares d) → rows k d.name ≢ other k d.name → needs_driver d.kind ≡ true → may_drive true d.kind ≡ false
            → (next : List ℕ) × AssignmentReads m d.name next × Differs k next
        from d h apart needs only = let w = wired d h needs only in through k below d.name w.0 w.1 apart

        by : (d : Declared) → Contains all (Declares d) → rows k d.name ≢ other k d.name → Declaration m driven once d → (next : List ℕ) × AssignmentReads m d.name next × Differs k next
        by d h apart (OfPort port p e) = ⊎_elim
            (λ (input : port.input ≡ true). absurd (apart (subst (λ (d : Declared). rows k d.name ≡ other k d.name) e (one.driven k below port p input ∙ sym (two.driven k below port p input)))))
            (λ (output : port.input ≡ false).
            let kind : d.kind ≡ OutputPort = sym (ap (λ (d : Declared). d.kind) e) ∙ cond-false port.input InputPort OutputPort output in
            from d h apart (ap needs_driver kind) (ap (may_drive true) kind))
            (cases_Bool port.input)
        by d h apart (OfWire signed width i kind) = from d h apart (ap needs_driver kind) (ap (may_drive true) kind)
        by d h apart (OfReg signed width i kind) = absurd (apart (states signed width d.name i))

    same-row : (k : ℕ) → k < count → SameStates k → SameAt k
    same-row k below states d h = ⊎_elim
        (λ same. same)
        (λ apart. absurd (owed-of-none m none (λ j name. Differs k name) (owed k below states) d.name (record { declared = d; there = h; named = refl; apart = apart })))
        (cases_eq (rows k d.name) (other k d.name))

    same-read : (k : ℕ) → SameAt k → (name : List ℕ) → Contains all (Reads name) → rows k name ≡ other k name
    same-read k same name h = let d = read-declared m driven once name h in subst (λ n. rows k n ≡ other k n) d.2 (same d.0 d.1)

    same-reset : (k : ℕ) → SameAt k → rows k (codes "reset") ≡ other k (codes "reset")
    same-reset k same = let p = reset-port m clocked in subst (λ n. rows k n ≡ other k n) p.2 (same (port_declared p.0) (in-port m driven once p.0 p.1))

    takes-same : (k : ℕ) (condition : Option Expr)
        → ((x : List ℕ) → Contains (condition_names condition) x → rows k x ≡ other k x)
        → takes_value m (rows k) condition ≡ takes_value m (other k) condition
    takes-same k None same = refl
    takes-same k (Some e) same = ap (λ v. not (v == 0)) (values-agree by_layer (nets_of m) (rows k) (other k) e (own_length (nets_of m) e) (is_signed (nets_of m) e) same)

    next-same : (k : ℕ) (name : List ℕ) (first : Sized) (condition : Option Expr) (value : Expr) → SameAt k → rows k name ≡ other k name → Contains m.items (Always name first condition value)
        → next_bits m (rows k) name first condition value ≡ next_bits m (other k) name first condition value
    next-same k name first condition value same here h =
        let read : (x : List ℕ) → Contains (condition_names condition ++ names_read value) x → rows k x ≡ other k x =
        λ x c. same-read k same x (reads-of-always m driven once name x first condition value h c) in
        let takes = takes-same k condition (λ x c. read x (Contains-append_left (condition_names condition) (names_read value) x c)) in
        let gives = assigned-agree by_layer m driven once none (rows k) (other k) (nets_of m name).width value
        (λ x c. read x (Contains-append_right (condition_names condition) (names_read value) x c)) in
        let reset = same-reset k same in
        joined (assigned_number (nets_of m name).width first) reset takes gives here
      where
        joined : {r r' : ℕ} {t t' : Bool} {v v' h h' : ℕ} (f : ℕ) → r ≡ r' → t ≡ t' → v ≡ v' → h ≡ h' → (if r == 1 then f else (if t then v else h)) ≡ (if r' == 1 then f else (if t' then v' else h'))
        joined f a b c d = rw (a, b, c, d) refl

    same-rows : (k : ℕ) → k < count → SameAt k
    same-rows zero below = same-row 0 below (λ signed width name h. one.starts below signed width name h ∙ sym (two.starts below signed width name h))
    same-rows (suc k) below =
        let before = same-rows k (omega arith) in
        let e : suc k ≡ k + 1 = omega arith in
        same-row (suc k) below (λ signed width name h.
        let a = stored signed width name h in
        let d = reg-declared m driven once signed width name h in
        let next = next-same k name a.first a.condition a.value before (before _ d) a.item in
        let steps = one.steps k (omega arith) name a.first a.condition a.value a.item ∙ next ∙ sym (two.steps k (omega arith) name a.first a.condition a.value a.item) in
        subst (λ j. rows j name ≡ other j name) (sym e) steps)

    pub rows-are-one : AreSame m count rows other
    rows-are-one k below d h = same-rows k below d (listed-mention m driven once d h)
