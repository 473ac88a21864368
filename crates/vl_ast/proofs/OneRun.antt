-- A module with no loops has rows, and no two lists of them.
use Rattle.std.proofs.Common.{◌≡◌, ◌≢◌, ◌<◌, ◌+◌, ◌%◌, ◌^◌, ◌⊎◌, inl, inr, ⊎_elim, ℕ, zero, suc, max, Bool, true, false, ◌&&◌, if◌then◌else◌, ◌==◌, List, [], ◌∷◌, length, Contains, bytes_eq, codes}
use Rattle.std.proofs.Common.{Option, Some, None, refl, sym, ap, subst, ◌∙◌, arith}
use Rattle.std.specs.List.{list_any}
use Rattle.std.proofs.lemmas.List.Folds.{Any-from_list_any, list_any-from_Any}
use Rattle.std.proofs.lemmas.Bool.{and_parts, false≢true, cond-true, cond-false, cases_eq, cases_Bool}
use Rattle.std.proofs.lemmas.Nat.{mod_below, pow_pos}
use Rattle.std.proofs.Math.Nat.{mod-eq_of_lt}
use Rattle.std.proofs.lemmas.Slice.Eq.{bytes_eq-Decides}
use Rattle.vl_ast.specs.declared.expressions.Sized.{Sized}
use Rattle.vl_ast.specs.declared.expressions.Expr.{Expr}
use Rattle.vl_ast.specs.declared.modules.Port.{Port}
use Rattle.vl_ast.specs.declared.modules.ModItem.{ModItem}
use Rattle.vl_ast.specs.declared.modules.ModItem.TheVariants.{Wire, Reg, Assign, Always}
use Rattle.vl_ast.specs.declared.modules.Module.{Module}
use Rattle.vl_ast.specs.Context.{Net, own_length, is_signed}
use Rattle.vl_ast.specs.Nets.{Kind, InputPort, OutputPort, Register, Declared, port_declared, Mention, Declares, Drives, mentions, declaration_of, nets_of, net_or_none, names_read}
use Rattle.vl_ast.specs.Value.{value_in, assigned, assigned_number}
use Rattle.vl_ast.specs.Runs.{next_bits, takes_value}
use Rattle.vl_ast.specs.Conditions.{undriven, doubly, may_drive, may_drive_it, AssignmentReads, IsLoop}
use Rattle.vl_ast.specs.Room.{HasRoom, HasRows}
use Rattle.vl_ast.proofs.Agree.{ByLayer, values-agree}
use Rattle.vl_ast.proofs.Chains.{owed-of-none}
use Rattle.math_list.proofs.Elements.{cons-cases, head-in, tail-in, none-in}
use Rattle.vl_ast.proofs.Facts.{may-drive, is-declared, in-port, assign-drives, always-drives, one-assign, one-always, Clocked, taken, not-both, listed-mention, reg-declared}

-- the first assignment of a name
assignment : List ModItem → List ℕ → Option Expr
assignment [] name = None
assignment (Wire signed width n ∷ items) name = assignment items name
assignment (Reg signed width n ∷ items) name = assignment items name
assignment (Assign n value ∷ items) name = if bytes_eq n name then Some value else assignment items name
assignment (Always n first condition value ∷ items) name = assignment items name

assignment-in : (items : List ModItem) (name : List ℕ) (value : Expr) → assignment items name ≡ Some value → Contains items (Assign name value)
unfolding assignment
assignment-in [] name value e = absurd (cc e)
assignment-in (Wire signed width n ∷ items) name value e = tail-in _ _ items (assignment-in items name value e)
assignment-in (Reg signed width n ∷ items) name value e = tail-in _ _ items (assignment-in items name value e)
assignment-in (Assign n v ∷ items) name value e = by (assignment-in items name value) (bytes_eq n name) refl where
  by : (assignment items name ≡ Some value → Contains items (Assign name value)) → (t : Bool) → bytes_eq n name ≡ t → Contains (Assign n v ∷ items) (Assign name value)
  by rest true s =
      let same : n ≡ name = (bytes_eq-Decides n name).0 s in
      let found : Some v ≡ Some value = sym (cond-true (bytes_eq n name) (Some v) (assignment items name) s) ∙ e in
      let it : v ≡ value = cc found in
      subst (λ x. Contains (Assign n v ∷ items) x) (cc (same, it)) (head-in (Assign n v) items)
  by rest false s = tail-in _ _ items (rest (subst (λ (t : Bool). (if t then Some v else assignment items name) ≡ Some value) s e))
assignment-in (Always n first condition v ∷ items) name value e = tail-in _ _ items (assignment-in items name value e)

assignment-none : (items : List ModItem) (name : List ℕ) (value : Expr) → assignment items name ≡ None → Contains items (Assign name value) → ⊥
unfolding assignment
assignment-none [] name value e h = none-in _ h
assignment-none (Wire signed width n ∷ items) name value e h = ⊎_elim (λ s. absurd (cc s)) (λ t. assignment-none items name value e t) (cons-cases _ _ items h)
assignment-none (Reg signed width n ∷ items) name value e h = ⊎_elim (λ s. absurd (cc s)) (λ t. assignment-none items name value e t) (cons-cases _ _ items h)
assignment-none (Assign n v ∷ items) name value e h = by (assignment-none items name value) (bytes_eq n name) refl where
  by : (assignment items name ≡ None → Contains items (Assign name value) → ⊥) → (t : Bool) → bytes_eq n name ≡ t → ⊥
  by rest true s = let found : Some v ≡ None = sym (cond-true (bytes_eq n name) (Some v) (assignment items name) s) ∙ e in absurd (cc found)
  by rest false s = ⊎_elim
      (λ f. let same : n ≡ name = cc f in absurd (false≢true (sym s ∙ (bytes_eq-Decides n name).1 same)))
      (λ t. rest (subst (λ (t : Bool). (if t then Some v else assignment items name) ≡ None) s e) t)
      (cons-cases _ _ items h)
assignment-none (Always n first condition v ∷ items) name value e h = ⊎_elim (λ s. absurd (cc s)) (λ t. assignment-none items name value e t) (cons-cases _ _ items h)

-- what clocks a name first
clocked : List ModItem → List ℕ → Option Clocked
clocked [] name = None
clocked (Wire signed width n ∷ items) name = clocked items name
clocked (Reg signed width n ∷ items) name = clocked items name
clocked (Assign n value ∷ items) name = clocked items name
clocked (Always n first condition value ∷ items) name =
    if bytes_eq n name then Some (record { first = first; condition = condition; value = value }) else clocked items name

abbrev item-of : List ℕ → Clocked → ModItem
item-of name c = Always name c.first c.condition c.value

clocked-in : (items : List ModItem) (name : List ℕ) (c : Clocked) → clocked items name ≡ Some c → Contains items (item-of name c)
unfolding clocked
clocked-in [] name c e = absurd (cc e)
clocked-in (Wire signed width n ∷ items) name c e = tail-in _ _ items (clocked-in items name c e)
clocked-in (Reg signed width n ∷ items) name c e = tail-in _ _ items (clocked-in items name c e)
clocked-in (Assign n v ∷ items) name c e = tail-in _ _ items (clocked-in items name c e)
clocked-in (Always n first condition v ∷ items) name c e = by (clocked-in items name c) (bytes_eq n name) refl where
  by : (clocked items name ≡ Some c → Contains items (item-of name c)) → (t : Bool) → bytes_eq n name ≡ t → Contains (Always n first condition v ∷ items) (item-of name c)
  by rest true s =
      let same : n ≡ name = (bytes_eq-Decides n name).0 s in
      let found : Some (taken first condition v) ≡ Some c = sym (cond-true (bytes_eq n name) (Some (taken first condition v)) (clocked items name) s) ∙ e in
      let it : taken first condition v ≡ c = cc found in
      subst (λ x. Contains (Always n first condition v ∷ items) x) ((λ i. item-of (same i) (it i))) (head-in (Always n first condition v) items)
  by rest false s = tail-in _ _ items (rest (subst (λ (t : Bool). (if t then Some (taken first condition v) else clocked items name) ≡ Some c) s e))

clocked-none : (items : List ModItem) (name : List ℕ) (first : Sized) (condition : Option Expr) (value : Expr) → clocked items name ≡ None → Contains items (Always name first condition value) → ⊥
unfolding clocked
clocked-none [] name first condition value e h = none-in _ h
clocked-none (Wire signed width n ∷ items) name first condition value e h = ⊎_elim (λ s. absurd (cc s)) (λ t. clocked-none items name first condition value e t) (cons-cases _ _ items h)
clocked-none (Reg signed width n ∷ items) name first condition value e h = ⊎_elim (λ s. absurd (cc s)) (λ t. clocked-none items name first condition value e t) (cons-cases _ _ items h)
clocked-none (Assign n v ∷ items) name first condition value e h = ⊎_elim (λ s. absurd (cc s)) (λ t. clocked-none items name first condition value e t) (cons-cases _ _ items h)
clocked-none (Always n f c v ∷ items) name first condition value e h = by (clocked-none items name first condition value) (bytes_eq n name) refl where
  by : (clocked items name ≡ None → Contains items (Always name first condition value) → ⊥) → (t : Bool) → bytes_eq n name ≡ t → ⊥
  by rest true s = let found : Some (taken f c v) ≡ None = sym (cond-true (bytes_eq n name) (Some (taken f c v)) (clocked items name) s) ∙ e in absurd (cc found)
  by rest false s = ⊎_elim
      (λ g. let same : n ≡ name = cc g in absurd (false≢true (sym s ∙ (bytes_eq-Decides n name).1 same)))
      (λ t. rest (subst (λ (t : Bool). (if t then Some (taken f c v) else clocked items name) ≡ None) s e) t)
      (cons-cases _ _ items h)

-- a name at which two rows differ, or none
pub differs : (row other : List ℕ → ℕ) (names : List (List ℕ))
    → ((x : List ℕ) × Contains names x × (row x ≢ other x)) ⊎ ((x : List ℕ) → Contains names x → row x ≡ other x)
differs row other [] = inr (λ x h. absurd (none-in x h))
differs row other (name ∷ names) = by (differs row other names) (cases_eq (row name) (other name)) where
  by : ((x : List ℕ) × Contains names x × (row x ≢ other x)) ⊎ ((x : List ℕ) → Contains names x → row x ≡ other x)
      → (row name ≡ other name) ⊎ (row name ≡ other name → ⊥)
      → ((x : List ℕ) × Contains (name ∷ names) x × (row x ≢ other x)) ⊎ ((x : List ℕ) → Contains (name ∷ names) x → row x ≡ other x)
  by (inl found) e = inl (found.0, tail-in name found.0 names found.1, found.2)
  by (inr same) (inl e) = inr (λ x h. ⊎_elim (λ s. subst (λ x. row x ≡ other x) s e) (λ t. same x t) (cons-cases name x names h))
  by (inr same) (inr e) = inl (name, head-in name names, e)

module _ (by_layer : ByLayer) (m : Module) (driven : undriven m ≡ None) (once : doubly m ≡ None) (none : (first : List ℕ) (others : List (List ℕ)) → ¬ IsLoop m first others) where
  abbrev all : List Mention
  all = mentions m

  pub assigned-agree : (row other : List ℕ → ℕ) (width : ℕ) (value : Expr) → ((x : List ℕ) → Contains (names_read value) x → row x ≡ other x)
      → assigned (nets_of m) row width value ≡ assigned (nets_of m) other width value
  assigned-agree row other width value same =
      ap (λ v. v % 2 ^ width) (values-agree by_layer (nets_of m) row other value (max width (own_length (nets_of m) value)) (is_signed (nets_of m) value) same)

  -- one more round of all assignments at once
  abbrev relaid : (List ℕ → ℕ) → (List ℕ → ℕ) → List ℕ → Option Expr → ℕ
  relaid base row name None = base name
  relaid base row name (Some value) = assigned (nets_of m) row (nets_of m name).width value

  rounds : (List ℕ → ℕ) → ℕ → List ℕ → ℕ
  rounds base zero name = base name
  rounds base (suc j) name = relaid base (rounds base j) name (assignment m.items name)

  abbrev Moves : (List ℕ → ℕ) → ℕ → List ℕ → Type 0
  Moves base j name = rounds base j name ≢ rounds base (suc j) name

  moved : (base : List ℕ → ℕ) (j : ℕ) (name : List ℕ) → Moves base (suc j) name → (next : List ℕ) × AssignmentReads m name next × Moves base j next
  unfolding rounds
  moved base j name d = by (assignment m.items name) refl where
    by : (a : Option Expr) → assignment m.items name ≡ a → (next : List ℕ) × AssignmentReads m name next × Moves base j next
    by None e = absurd (d (ap (λ a. relaid base (rounds base j) name a) e ∙ sym (ap (λ a. relaid base (rounds base (suc j)) name a) e)))
    by (Some value) e = ⊎_elim
        (λ found. (found.0, record { value = value; assigned = assignment-in m.items name value e; reads = found.1 }, found.2))
        (λ same. absurd (d (ap (λ a. relaid base (rounds base j) name a) e
        ∙ assigned-agree (rounds base j) (rounds base (suc j)) (nets_of m name).width value same
        ∙ sym (ap (λ a. relaid base (rounds base (suc j)) name a) e))))
        (differs (rounds base j) (rounds base (suc j)) (names_read value))

  settled : (List ℕ → ℕ) → List ℕ → ℕ
  settled base = rounds base (length m.items + 1)

  settled-fixed : (base : List ℕ → ℕ) (name : List ℕ) → settled base name ≡ relaid base (settled base) name (assignment m.items name)
  unfolding settled rounds
  settled-fixed base name = ⊎_elim
      (λ same. same)
      (λ other. absurd (owed-of-none m none (Moves base) (moved base) name other))
      (cases_eq (rounds base (length m.items + 1) name) (rounds base (suc (length m.items + 1)) name))

  pub net-is : (d : Declared) → Contains all (Declares d) → nets_of m d.name ≡ d.net
  net-is d h = ap net_or_none (is-declared m driven once d h)

  pub may-not : (c : Bool) (d : Declared) → Contains all (Declares d) → may_drive c d.kind ≡ false → Contains all (Drives c d.name) → ⊥
  may-not c d h may dr =
      let ok = may-drive m driven once c d.name dr in
      let is = is-declared m driven once d h in
      false≢true (sym may ∙ subst (λ o. may_drive_it c o ≡ true) is ok)

  is_input : List ℕ → Bool
  is_input name = list_any (λ port. port.input && bytes_eq port.name name) m.ports

  input-seen : (port : Port) → Contains m.ports port → port.input ≡ true → is_input port.name ≡ true
  unfolding is_input
  input-seen port h input =
      list_any-from_Any (λ p. p.input && bytes_eq p.name port.name) m.ports (
        h.0,
        port,
        h.1,
        h.2,
        both (port.input) (bytes_eq port.name port.name) input
            ((bytes_eq-Decides port.name port.name).1 refl),
      )
    where
      both : (a b : Bool) → a ≡ true → b ≡ true → (a && b) ≡ true
      both a b e f = rw (e, f) refl

  seen-input : (name : List ℕ) → is_input name ≡ true → (port : Port) × Contains m.ports port × (port.input ≡ true) × (port.name ≡ name)
  unfolding is_input
  seen-input name e =
      let a = Any-from_list_any (λ p. p.input && bytes_eq p.name name) m.ports e in
      let parts = and_parts a.1.input (bytes_eq a.1.name name) a.4 in
      (a.1, (a.0, a.2, a.3), parts.0, (bytes_eq-Decides a.1.name name).0 parts.1)

  input-kind : (port : Port) → port.input ≡ true → (port_declared port).kind ≡ InputPort
  input-kind port e = cond-true port.input InputPort OutputPort e

  unassigned-if : (name : List ℕ) → (Contains all (Drives false name) → ⊥) → assignment m.items name ≡ None
  unassigned-if name never = by (assignment m.items name) refl where
    by : (a : Option Expr) → assignment m.items name ≡ a → assignment m.items name ≡ None
    by None e = e
    by (Some value) e = absurd (never (assign-drives m driven once name value (assignment-in m.items name value e)))

  input-unassigned : (port : Port) → Contains m.ports port → port.input ≡ true → assignment m.items port.name ≡ None
  input-unassigned port h input = unassigned-if port.name (may-not false (port_declared port) (in-port m driven once port h)
      (ap (λ kind. may_drive false kind) (input-kind port input)))

  abbrev reg : Bool → ℕ → List ℕ → Declared
  reg signed width name = record { name = name; kind = Register; net = record { width = width; signed = signed } }

  reg-unassigned : (signed : Bool) (width : ℕ) (name : List ℕ) → Contains m.items (Reg signed width name) → assignment m.items name ≡ None
  reg-unassigned signed width name h = unassigned-if name (may-not false (reg signed width name) (reg-declared m driven once signed width name h) refl)

  reg-no-input : (signed : Bool) (width : ℕ) (name : List ℕ) → Contains m.items (Reg signed width name) → is_input name ≡ false
  reg-no-input signed width name h = ⊎_elim
      (λ e. let p = seen-input name e in
      let one = is-declared m driven once (port_declared p.0) (in-port m driven once p.0 p.1) in
      let other = is-declared m driven once (reg signed width name) (reg-declared m driven once signed width name h) in
      let same : Some (port_declared p.0) ≡ Some (reg signed width name) = sym one ∙ ap (declaration_of m) p.3 ∙ other in
      let kinds : (port_declared p.0).kind ≡ Register = ap (λ (o : Option Declared). kind-or o) same in
      absurd (differ (sym (input-kind p.0 p.2) ∙ kinds)))
      (λ e. e)
      (cases_Bool (is_input name))
    where
      kind-or : Option Declared → Kind
      kind-or None = Register
      kind-or (Some d) = d.kind

      differ : InputPort ≡ Register → ⊥
      differ e = absurd (cc e)

  always-no-input : (name : List ℕ) (first : Sized) (condition : Option Expr) (value : Expr) → Contains m.items (Always name first condition value) → is_input name ≡ false
  always-no-input name first condition value h = ⊎_elim
      (λ e. let p = seen-input name e in
      absurd (may-not true (port_declared p.0) (in-port m driven once p.0 p.1) (ap (λ kind. may_drive true kind) (input-kind p.0 p.2))
      (subst (λ n. Contains all (Drives true n)) (sym p.3) (always-drives m driven once name first condition value h))))
      (λ e. e)
      (cases_Bool (is_input name))

  assign-found : (name : List ℕ) (value : Expr) → Contains m.items (Assign name value) → assignment m.items name ≡ Some value
  assign-found name value h = by (assignment m.items name) refl where
    by : (a : Option Expr) → assignment m.items name ≡ a → assignment m.items name ≡ Some value
    by None e = absurd (assignment-none m.items name value e h)
    by (Some v) e = e ∙ ap Some (one-assign m driven once name v value (assignment-in m.items name v e) h)

  always-unassigned : (name : List ℕ) (first : Sized) (condition : Option Expr) (value : Expr) → Contains m.items (Always name first condition value) → assignment m.items name ≡ None
  always-unassigned name first condition value h = by (assignment m.items name) refl where
    by : (a : Option Expr) → assignment m.items name ≡ a → assignment m.items name ≡ None
    by None e = e
    by (Some v) e = absurd (not-both m driven once name v first condition value (assignment-in m.items name v e) h)

  clocked-found : (name : List ℕ) (first : Sized) (condition : Option Expr) (value : Expr) → Contains m.items (Always name first condition value)
      → clocked m.items name ≡ Some (taken first condition value)
  clocked-found name first condition value h = by (clocked m.items name) refl where
    by : (a : Option Clocked) → clocked m.items name ≡ a → clocked m.items name ≡ Some (taken first condition value)
    by None e = absurd (clocked-none m.items name first condition value e h)
    by (Some c) e = e ∙ ap Some (one-always m driven once name c.first first c.condition condition c.value value (clocked-in m.items name c e) h)

  -- inputs and registers before the first round
  basis : (List ℕ → ℕ) → (List ℕ → ℕ) → List ℕ → ℕ
  basis input state name = (if is_input name then input name else state name) % 2 ^ (nets_of m name).width

  abbrev next-by : (List ℕ → ℕ) → List ℕ → Option Clocked → ℕ
  next-by row name None = 0
  next-by row name (Some c) = next_bits m row name c.first c.condition c.value

  rows-of : (List ℕ → ℕ) → (ℕ → List ℕ → ℕ) → ℕ → List ℕ → ℕ
  rows-of start inputs zero = settled (basis (inputs 0) start)
  rows-of start inputs (suc k) = settled (basis (inputs (suc k)) (λ name. next-by (rows-of start inputs k) name (clocked m.items name)))

  basis-fits : (input state : List ℕ → ℕ) (name : List ℕ) → basis input state name < 2 ^ (nets_of m name).width
  unfolding basis
  basis-fits input state name = mod_below (if is_input name then input name else state name) (2 ^ (nets_of m name).width) (pow_pos (nets_of m name).width)

  settled-fits : (input state : List ℕ → ℕ) (name : List ℕ) → settled (basis input state) name < 2 ^ (nets_of m name).width
  settled-fits input state name = subst (λ v. v < 2 ^ (nets_of m name).width) (sym (settled-fixed (basis input state) name)) (by (assignment m.items name)) where
    by : (a : Option Expr) → relaid (basis input state) (settled (basis input state)) name a < 2 ^ (nets_of m name).width
    by None = basis-fits input state name
    by (Some value) = mod_below (value_in (nets_of m) (settled (basis input state))
        (max (nets_of m name).width (own_length (nets_of m) value)) (is_signed (nets_of m) value) value)
        (2 ^ (nets_of m name).width) (pow_pos (nets_of m name).width)

  row-fits : (start : List ℕ → ℕ) (inputs : ℕ → List ℕ → ℕ) (k : ℕ) (name : List ℕ) → rows-of start inputs k name < 2 ^ (nets_of m name).width
  unfolding rows-of
  row-fits start inputs zero name = settled-fits (inputs 0) start name
  row-fits start inputs (suc k) name = settled-fits (inputs (suc k)) (λ name. next-by (rows-of start inputs k) name (clocked m.items name)) name

  row-assigned : (start : List ℕ → ℕ) (inputs : ℕ → List ℕ → ℕ) (k : ℕ) (name : List ℕ) (value : Expr) → Contains m.items (Assign name value)
      → rows-of start inputs k name ≡ assigned (nets_of m) (rows-of start inputs k) (nets_of m name).width value
  unfolding rows-of
  row-assigned start inputs zero name value h =
      settled-fixed (basis (inputs 0) start) name ∙ ap (λ a. relaid (basis (inputs 0) start) (settled (basis (inputs 0) start)) name a) (assign-found name value h)
  row-assigned start inputs (suc k) name value h =
      let base = basis (inputs (suc k)) (λ name. next-by (rows-of start inputs k) name (clocked m.items name)) in
      settled-fixed base name ∙ ap (λ a. relaid base (settled base) name a) (assign-found name value h)

  settled-base : (base : List ℕ → ℕ) (name : List ℕ) → assignment m.items name ≡ None → settled base name ≡ base name
  settled-base base name e = settled-fixed base name ∙ ap (λ a. relaid base (settled base) name a) e

  basis-input : (input state : List ℕ → ℕ) (name : List ℕ) → is_input name ≡ true → input name < 2 ^ (nets_of m name).width → basis input state name ≡ input name
  unfolding basis
  basis-input input state name e below = ap (λ v. v % 2 ^ (nets_of m name).width) (cond-true (is_input name) (input name) (state name) e) ∙ mod-eq_of_lt below

  basis-state : (input state : List ℕ → ℕ) (name : List ℕ) → is_input name ≡ false → state name < 2 ^ (nets_of m name).width → basis input state name ≡ state name
  unfolding basis
  basis-state input state name e below = ap (λ v. v % 2 ^ (nets_of m name).width) (cond-false (is_input name) (input name) (state name) e) ∙ mod-eq_of_lt below

  next-fits : (row : List ℕ → ℕ) (name : List ℕ) (first : Sized) (condition : Option Expr) (value : Expr) → row name < 2 ^ (nets_of m name).width
      → next_bits m row name first condition value < 2 ^ (nets_of m name).width
  next-fits row name first condition value below = by (row (codes "reset") == 1) (takes_value m row condition) where
    width : ℕ
    width = (nets_of m name).width

    by : (reset takes : Bool) → (if reset then assigned_number (nets_of m name).width first else
        (if takes then assigned (nets_of m) row (nets_of m name).width value else row name))
        < 2 ^ (nets_of m name).width
    by true takes = mod_below _ (2 ^ (nets_of m name).width) (pow_pos (nets_of m name).width)
    by false true = mod_below _ (2 ^ (nets_of m name).width) (pow_pos (nets_of m name).width)
    by false false = below

  row-driven : (start : List ℕ → ℕ) (inputs : ℕ → List ℕ → ℕ) (k : ℕ) (port : Port) → Contains m.ports port → port.input ≡ true → inputs k port.name < 2 ^ port.width
      → rows-of start inputs k port.name ≡ inputs k port.name
  unfolding rows-of
  row-driven start inputs zero port h input below =
      settled-base _ port.name (input-unassigned port h input)
      ∙ basis-input (inputs 0) start port.name (input-seen port h input)
      (subst (λ (net : Net). inputs 0 port.name < 2 ^ net.width) (sym (net-is (port_declared port) (in-port m driven once port h))) below)
  row-driven start inputs (suc k) port h input below =
      settled-base _ port.name (input-unassigned port h input)
      ∙ basis-input (inputs (suc k)) (λ name. next-by (rows-of start inputs k) name (clocked m.items name)) port.name (input-seen port h input)
      (subst (λ (net : Net). inputs (suc k) port.name < 2 ^ net.width) (sym (net-is (port_declared port) (in-port m driven once port h))) below)

  row-started : (start : List ℕ → ℕ) (inputs : ℕ → List ℕ → ℕ) (signed : Bool) (width : ℕ) (name : List ℕ) → Contains m.items (Reg signed width name) → start name < 2 ^ width
      → rows-of start inputs 0 name ≡ start name
  unfolding rows-of
  row-started start inputs signed width name h below =
      settled-base _ name (reg-unassigned signed width name h)
      ∙ basis-state (inputs 0) start name (reg-no-input signed width name h)
      (subst (λ (net : Net). start name < 2 ^ net.width) (sym (net-is (reg signed width name) (reg-declared m driven once signed width name h))) below)

  row-stepped : (start : List ℕ → ℕ) (inputs : ℕ → List ℕ → ℕ) (k : ℕ) (name : List ℕ) (first : Sized) (condition : Option Expr) (value : Expr)
      → Contains m.items (Always name first condition value) → rows-of start inputs (suc k) name ≡ next_bits m (rows-of start inputs k) name first condition value
  unfolding rows-of
  row-stepped start inputs k name first condition value h =
      let state : List ℕ → ℕ = λ name. next-by (rows-of start inputs k) name (clocked m.items name) in
      let next : state name ≡ next_bits m (rows-of start inputs k) name first condition value = ap (λ c. next-by (rows-of start inputs k) name c) (clocked-found name first condition value h) in
      let below = next-fits (rows-of start inputs k) name first condition value (row-fits start inputs k name) in
      settled-base _ name (always-unassigned name first condition value h)
      ∙ basis-state (inputs (suc k)) state name (always-no-input name first condition value h) (subst (λ v. v < 2 ^ (nets_of m name).width) (sym next) below)
      ∙ next

  pub rows-run : (count : ℕ) (start : List ℕ → ℕ) (inputs : ℕ → List ℕ → ℕ) → HasRoom m count start inputs → HasRows m count start inputs
  rows-run count start inputs room = (
    rows-of start inputs,
    record {
      fits = λ k below d h. subst (λ (net : Net). rows-of start inputs k d.name < 2 ^ net.width) (net-is d (listed-mention m driven once d h)) (row-fits start inputs k d.name);
      starts = λ some signed width name h. row-started start inputs signed width name h (room.started signed width name h);
      driven = λ k below port h input. row-driven start inputs k port h input (room.driven k below port h input);
      assigns = λ k below name value h. row-assigned start inputs k name value h;
      steps = λ k below name first condition value h.
          let e : suc k ≡ k + 1 = omega arith in
          subst (λ j. rows-of start inputs j name ≡ next_bits m (rows-of start inputs k) name first condition value) e (row-stepped start inputs k name first condition value h);
    },
  )
