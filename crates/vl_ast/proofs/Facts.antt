-- What the first two conditions give: each name has one declaration and one driver of its kind, and
-- what is read is declared.
use Rattle.std.proofs.Common.{◌≡◌, ◌<◌, length, slice_index_or, ⊎_elim, ℕ, Bool, true, false, not, ◌&&◌, if◌then◌else◌, List, [], ◌∷◌, ◌++◌, map, flat_map, find, Contains, bytes_eq, Option, Some}
use Rattle.std.proofs.Common.{None, refl, sym, ap, subst, ◌∙◌}
use Rattle.std.specs.List.{list_any}
use Rattle.std.proofs.lemmas.List.{append_assoc, append-nil}
use Rattle.std.proofs.lemmas.List.Concat.{flat_map-append}
use Rattle.std.proofs.lemmas.List.Folds.{Any-from_list_any, list_any-from_Any}
use Rattle.std.proofs.lemmas.List.Elements.{Contains-append_left, Contains-append_right, Contains-append_cases}
use Rattle.std.proofs.lemmas.Bool.{or_parts, not-false, false≢true, cond-true}
use Rattle.std.proofs.lemmas.Slice.Eq.{bytes_eq-Decides}
use Rattle.vl_ast.specs.declared.expressions.Sized.{Sized}
use Rattle.vl_ast.specs.declared.expressions.Expr.{Expr}
use Rattle.vl_ast.specs.declared.modules.Port.{Port}
use Rattle.vl_ast.specs.declared.modules.ModItem.{ModItem}
use Rattle.vl_ast.specs.declared.modules.ModItem.TheVariants.{Wire, Reg, Assign, Always}
use Rattle.vl_ast.specs.declared.modules.Module.{Module}
use Rattle.vl_ast.specs.Nets.{PlainWire, Register, Declared, port_declared, Mention, Declares, Drives, Reads, Clocks, mentions, item_mentions, declared_by, declarations, declaration_of, names_read}
use Rattle.vl_ast.specs.Nets.{condition_names}
use Rattle.vl_ast.specs.Conditions.{first_fault, mentioned, is_declaration_of, is_driver_of, is_undriven, undriven, is_double, doubly, needs_driver, may_drive_it}
use Rattle.math_list.proofs.Elements.{cons-cases, head-in, tail-in, none-in, Cut, cut-at, map-in, from-map, flat-in, from-flat, Order, AreOne, Before, After, order-of}
use Rattle.math_list.proofs.Tests.{same_bytes}

-- where no place is at fault, the test is false at each
no-fault : (test : List Mention → Mention → Bool) (before passed : List Mention) (here : Mention) (after : List Mention)
    → first_fault test before (passed ++ here ∷ after) ≡ None → test (before ++ passed) here ≡ false
no-fault test before [] here after e = by (test before here) refl where
  by : (t : Bool) → test before here ≡ t → test (before ++ []) here ≡ false
  by true s = absurd (cc (s, e))
  by false s = subst (λ bs. test bs here ≡ false) (sym (append-nil before)) s
no-fault test before (first ∷ passed) here after e = by (no-fault test (before ++ first ∷ []) passed here after) (test before first) refl where
  by : (first_fault test (before ++ first ∷ []) (passed ++ here ∷ after) ≡ None → test ((before ++ first ∷ []) ++ passed) here ≡ false)
      → (t : Bool) → test before first ≡ t → test (before ++ first ∷ passed) here ≡ false
  by rest true s = absurd (cc (s, e))
  by rest false s = subst (λ bs. test bs here ≡ false) (append_assoc before (first ∷ []) passed)
      (rest (subst (λ (t : Bool). (if t then Some (mentioned first) else first_fault test (before ++ first ∷ []) (passed ++ here ∷ after)) ≡ None) s e))

pub fault-free : (test : List Mention → Mention → Bool) (all : List Mention) (here : Mention) → first_fault test [] all ≡ None → (cut : Cut all here) → test cut.before here ≡ false
fault-free test all here e cut = no-fault test [] cut.before here cut.after (subst (λ xs. first_fault test [] xs ≡ None) cut.whole e)

-- tests of a list of mentions, and what stands in it
driver-seen : (c : Bool) (name : List ℕ) (xs : List Mention) → Contains xs (Drives c name) → list_any (is_driver_of name) xs ≡ true
driver-seen c name xs h = list_any-from_Any (is_driver_of name) xs (h.0, Drives c name, h.1, h.2, same_bytes name)

declaration-seen : (d : Declared) (xs : List Mention) → Contains xs (Declares d) → list_any (is_declaration_of d.name) xs ≡ true
declaration-seen d xs h = list_any-from_Any (is_declaration_of d.name) xs (h.0, Declares d, h.1, h.2, same_bytes d.name)

a-driver : (name : List ℕ) (x : Mention) → is_driver_of name x ≡ true → (c : Bool) × (x ≡ Drives c name)
a-driver name (Declares d) e = absurd (false≢true e)
a-driver name (Drives c driven) e = (c, ap (λ n. Drives c n) ((bytes_eq-Decides driven name).0 e))
a-driver name (Reads read) e = absurd (false≢true e)
a-driver name Clocks e = absurd (false≢true e)

a-declaration : (name : List ℕ) (x : Mention) → is_declaration_of name x ≡ true → (d : Declared) × (x ≡ Declares d) × (d.name ≡ name)
a-declaration name (Declares d) e = (d, refl, (bytes_eq-Decides d.name name).0 e)
a-declaration name (Drives c driven) e = absurd (false≢true e)
a-declaration name (Reads read) e = absurd (false≢true e)
a-declaration name Clocks e = absurd (false≢true e)

find-driver : (name : List ℕ) (xs : List Mention) → list_any (is_driver_of name) xs ≡ true → (c : Bool) × Contains xs (Drives c name)
find-driver name xs e =
    let a = Any-from_list_any (is_driver_of name) xs e in
    let d = a-driver name a.1 a.4 in
    (d.0, subst (λ x. Contains xs x) d.1 (contains-at xs a.0 a.1 a.2 a.3))
  where
    contains-at : (xs : List Mention) (k : ℕ) (x : Mention) → k < length xs → slice_index_or xs k x ≡ x → Contains xs x
    contains-at xs k x below e = (k, below, e)

find-declaration : (name : List ℕ) (xs : List Mention) → list_any (is_declaration_of name) xs ≡ true → (d : Declared) × Contains xs (Declares d) × (d.name ≡ name)
find-declaration name xs e =
    let a = Any-from_list_any (is_declaration_of name) xs e in
    let d = a-declaration name a.1 a.4 in
    (d.0, subst (λ x. Contains xs x) d.1 (contains-at xs a.0 a.1 a.2 a.3), d.2)
  where
    contains-at : (xs : List Mention) (k : ℕ) (x : Mention) → k < length xs → slice_index_or xs k x ≡ x → Contains xs x
    contains-at xs k x below e = (k, below, e)

-- the declaration of a name that no place before declares
not-found : (name : List ℕ) (xs : List Mention) → list_any (is_declaration_of name) xs ≡ false → (ys : List Declared)
    → find (λ d. bytes_eq d.name name) (flat_map declared_by xs ++ ys) ≡ find (λ d. bytes_eq d.name name) ys
not-found name [] e ys = refl
not-found name (Declares d ∷ xs) e ys =
    let parts = or_parts (bytes_eq d.name name) (list_any (is_declaration_of name) xs) e in
    rw parts.0 (not-found name xs parts.1 ys)
not-found name (Drives c driven ∷ xs) e ys = not-found name xs e ys
not-found name (Reads read ∷ xs) e ys = not-found name xs e ys
not-found name (Clocks ∷ xs) e ys = not-found name xs e ys

-- what a register takes
pub record Clocked : Type 0 where
  pub first : Sized
  pub condition : Option Expr
  pub value : Expr

abbrev pub taken : Sized → Option Expr → Expr → Clocked
taken first condition value = record { first = first; condition = condition; value = value }

always-same : {name name' : List ℕ} {first first' : Sized} {condition condition' : Option Expr} {value value' : Expr}
    → Always name first condition value ≡ Always name' first' condition' value' → taken first condition value ≡ taken first' condition' value'
always-same {first = first} {condition = condition} {value = value} p =
    let a : first ≡ _ = cc p in let b : condition ≡ _ = cc p in let c : value ≡ _ = cc p in (λ i. taken (a i) (b i) (c i))

declared-same : {d e : Declared} → Declares d ≡ Declares e → d ≡ e
declared-same {d} {e} p = ap (λ x. or_this d x) p where
  or_this : Declared → Mention → Declared
  or_this d (Declares e) = e
  or_this d (Drives c n) = d
  or_this d (Reads n) = d
  or_this d Clocks = d

declared-name : {d e : Declared} → Declares d ≡ Declares e → d.name ≡ e.name
declared-name p = ap (λ (x : Declared). x.name) (declared-same p)

declared-kind : {d e : Declared} → Declares d ≡ Declares e → d.kind ≡ e.kind
declared-kind p = ap (λ (x : Declared). x.kind) (declared-same p)

pub declares-it : (x : Mention) (d : Declared) → Contains (declared_by x) d → x ≡ Declares d
declares-it (Declares e) d h = ⊎_elim (λ s. ap Declares s) (λ t. absurd (none-in d t)) (cons-cases e d [] h)
declares-it (Drives c n) d h = absurd (none-in d h)
declares-it (Reads n) d h = absurd (none-in d h)
declares-it Clocks d h = absurd (none-in d h)

module _ (m : Module) (driven : undriven m ≡ None) (once : doubly m ≡ None) where
  abbrev all : List Mention
  all = mentions m

  -- no two places drive one name, or declare one
  no-earlier-driver : (c c' : Bool) (name : List ℕ) (cut : Cut all (Drives c name)) → Contains cut.before (Drives c' name) → ⊥
  no-earlier-driver c c' name cut h =
      let parts = or_parts (list_any (is_driver_of name) cut.before) (not (may_drive_it c (declaration_of m name))) (fault-free (is_double m) all (Drives c name) once cut) in
      false≢true (sym parts.0 ∙ driver-seen c' name cut.before h)

  pub no-earlier-declaration : (d e : Declared) (cut : Cut all (Declares d)) → Contains cut.before (Declares e) → e.name ≡ d.name → ⊥
  no-earlier-declaration d e cut h same =
      let free = fault-free (is_double m) all (Declares d) once cut in
      false≢true (sym free ∙ subst (λ n. list_any (is_declaration_of n) cut.before ≡ true) same (declaration-seen e cut.before h))

  pub may-drive : (c : Bool) (name : List ℕ) → Contains all (Drives c name) → may_drive_it c (declaration_of m name) ≡ true
  may-drive c name h =
      let cut = cut-at all (Drives c name) h in
      let parts = or_parts (list_any (is_driver_of name) cut.before) (not (may_drive_it c (declaration_of m name))) (fault-free (is_double m) all (Drives c name) once cut) in
      not-false (may_drive_it c (declaration_of m name)) parts.1

  pub is-declared : (d : Declared) → Contains all (Declares d) → declaration_of m d.name ≡ Some d
  is-declared d h =
      let cut = cut-at all (Declares d) h in
      let free = fault-free (is_double m) all (Declares d) once cut in
      let listed = ap (flat_map declared_by) cut.whole ∙ flat_map-append declared_by cut.before (Declares d ∷ cut.after) in
      ap (find (λ (e : Declared). bytes_eq e.name d.name)) listed
      ∙ not-found d.name cut.before free (d ∷ flat_map declared_by cut.after)
      ∙ cond-true (bytes_eq d.name d.name) (Some d) _ (same_bytes d.name)

  pub has-driver : (d : Declared) → Contains all (Declares d) → needs_driver d.kind ≡ true → (c : Bool) × Contains all (Drives c d.name)
  has-driver d h needs =
      let cut = cut-at all (Declares d) h in
      let free = fault-free (is_undriven all) all (Declares d) driven cut in
      find-driver d.name all (seen (needs_driver d.kind) (list_any (is_driver_of d.name) all) needs free)
    where
      seen : (a b : Bool) → a ≡ true → (a && not b) ≡ false → b ≡ true
      seen a b e f = not-false b (subst (λ x. (x && not b) ≡ false) e f)

  earlier-declared : (name : List ℕ) (before after : List Mention) (x : Mention) → all ≡ before ++ x ∷ after → not (list_any (is_declaration_of name) before) ≡ false
      → (d : Declared) × Contains all (Declares d) × (d.name ≡ name)
  earlier-declared name before after x whole free =
      let found = find-declaration name before (not-false (list_any (is_declaration_of name) before) free) in
      (found.0, subst (λ xs. Contains xs (Declares found.0)) (sym whole) (Contains-append_left before (x ∷ after) (Declares found.0) found.1), found.2)

  pub read-declared : (name : List ℕ) → Contains all (Reads name) → (d : Declared) × Contains all (Declares d) × (d.name ≡ name)
  read-declared name h =
      let cut = cut-at all (Reads name) h in
      earlier-declared name cut.before cut.after (Reads name) cut.whole (fault-free (is_undriven all) all (Reads name) driven cut)

  pub driven-declared : (c : Bool) (name : List ℕ) → Contains all (Drives c name) → (d : Declared) × Contains all (Declares d) × (d.name ≡ name)
  driven-declared c name h =
      let cut = cut-at all (Drives c name) h in
      earlier-declared name cut.before cut.after (Drives c name) cut.whole (fault-free (is_undriven all) all (Drives c name) driven cut)

  -- the places of an item
  abbrev ports' : List Mention
  ports' = map (λ port. Declares (port_declared port)) m.ports

  pub in-item : (item : ModItem) (x : Mention) → Contains m.items item → Contains (item_mentions item) x → Contains all x
  in-item item x h i = Contains-append_right ports' (flat_map item_mentions m.items) x (flat-in item_mentions m.items item x h i)

  pub in-port : (port : Port) → Contains m.ports port → Contains all (Declares (port_declared port))
  in-port port h = Contains-append_left ports' (flat_map item_mentions m.items) (Declares (port_declared port)) (map-in (λ port. Declares (port_declared port)) m.ports port h)

  -- items that drive one name are one
  pub later-item : (c c' : Bool) (name : List ℕ) (i j : ModItem) (cut : Cut m.items i) → Contains cut.before j
      → Contains (item_mentions i) (Drives c name) → Contains (item_mentions j) (Drives c' name) → ⊥
  later-item c c' name i j cut h di dj =
      let inner = cut-at (item_mentions i) (Drives c name) di in
      let before = ports' ++ (flat_map item_mentions cut.before ++ inner.before) in
      let after = inner.after ++ flat_map item_mentions cut.after in
      let whole : all ≡ before ++ Drives c name ∷ after =
      ap (λ xs. ports' ++ xs) (ap (flat_map item_mentions) cut.whole ∙ flat_map-append item_mentions cut.before (i ∷ cut.after)
      ∙ ap (λ xs. flat_map item_mentions cut.before ++ (xs ++ flat_map item_mentions cut.after)) inner.whole)
      ∙ simp append_assoc refl in
      let there = Contains-append_right ports' (flat_map item_mentions cut.before ++ inner.before) (Drives c' name)
      (Contains-append_left (flat_map item_mentions cut.before) inner.before (Drives c' name) (flat-in item_mentions cut.before j (Drives c' name) h dj)) in
      no-earlier-driver c c' name (record { before = before; after = after; whole = whole }) there

  pub one-driver : (c c' : Bool) (name : List ℕ) (i j : ModItem) → Contains m.items i → Contains m.items j
      → Contains (item_mentions i) (Drives c name) → Contains (item_mentions j) (Drives c' name) → i ≡ j
  one-driver c c' name i j hi hj di dj = by (order-of m.items i j hi hj) where
    by : Order m.items i j → i ≡ j
    by (AreOne e) = e
    by (Before cut h) = absurd (later-item c' c name j i cut h dj di)
    by (After cut h) = absurd (later-item c c' name i j cut h di dj)

  -- the item that drives a name
  pub data Driver (name : List ℕ) : Bool → Type 0 where
    ByAssign : (value : Expr) → Contains m.items (Assign name value) → Driver name false
    ByAlways : (first : Sized) (condition : Option Expr) (value : Expr) → Contains m.items (Always name first condition value) → Driver name true

  no-driver-in : (c : Bool) (name : List ℕ) (names : List (List ℕ)) → Contains (map Reads names) (Drives c name) → ⊥
  no-driver-in c name names h = let r = from-map Reads names (Drives c name) h in absurd (cc (r.2))

  item-drives : (item : ModItem) (c : Bool) (name : List ℕ) → Contains m.items item → Contains (item_mentions item) (Drives c name) → Driver name c
  item-drives (Wire signed width n) c name h i = ⊎_elim (λ e. absurd (cc e)) (λ t. absurd (none-in _ t)) (cons-cases _ (Drives c name) [] i)
  item-drives (Reg signed width n) c name h i = ⊎_elim (λ e. absurd (cc e)) (λ t. absurd (none-in _ t)) (cons-cases _ (Drives c name) [] i)
  item-drives (Assign n v) c name h i = ⊎_elim
      (λ e. let same : n ≡ name = cc e in let kind : false ≡ c = cc e in
      subst (λ c. Driver name c) kind (ByAssign v (subst (λ x. Contains m.items (Assign x v)) same h)))
      (λ t. absurd (no-driver-in c name (names_read v) t))
      (cons-cases (Drives false n) (Drives c name) (map Reads (names_read v)) i)
  item-drives (Always n first condition v) c name h i = ⊎_elim
      (λ e. absurd (cc e))
      (λ t. ⊎_elim
      (λ e. let same : n ≡ name = cc e in let kind : true ≡ c = cc e in
      subst (λ c. Driver name c) kind (ByAlways first condition v (subst (λ x. Contains m.items (Always x first condition v)) same h)))
      (λ u. absurd (no-driver-in c name (condition_names condition ++ names_read v) u))
      (cons-cases (Drives true n) (Drives c name) (map Reads (condition_names condition ++ names_read v)) t))
      (cons-cases Clocks (Drives c name) (Drives true n ∷ map Reads (condition_names condition ++ names_read v)) i)

  pub driver-of : (c : Bool) (name : List ℕ) → Contains all (Drives c name) → Driver name c
  driver-of c name h = ⊎_elim
      (λ p. let r = from-map (λ port. Declares (port_declared port)) m.ports (Drives c name) p in absurd (cc (r.2)))
      (λ q. let r = from-flat item_mentions m.items (Drives c name) q in item-drives r.0 c name r.1 r.2)
      (Contains-append_cases ports' (flat_map item_mentions m.items) (Drives c name) h)

  pub assign-drives : (name : List ℕ) (value : Expr) → Contains m.items (Assign name value) → Contains all (Drives false name)
  assign-drives name value h = in-item (Assign name value) (Drives false name) h (head-in (Drives false name) (map Reads (names_read value)))

  pub always-drives : (name : List ℕ) (first : Sized) (condition : Option Expr) (value : Expr) → Contains m.items (Always name first condition value) → Contains all (Drives true name)
  always-drives name first condition value h =
      let rest = map Reads (condition_names condition ++ names_read value) in
      in-item (Always name first condition value) (Drives true name) h (tail-in Clocks (Drives true name) (Drives true name ∷ rest) (head-in (Drives true name) rest))

  pub reads-of-assign : (name read : List ℕ) (value : Expr) → Contains m.items (Assign name value) → Contains (names_read value) read → Contains all (Reads read)
  reads-of-assign name read value h r =
      in-item (Assign name value) (Reads read) h (tail-in (Drives false name) (Reads read) (map Reads (names_read value)) (map-in Reads (names_read value) read r))

  pub reads-of-always : (name read : List ℕ) (first : Sized) (condition : Option Expr) (value : Expr) → Contains m.items (Always name first condition value)
      → Contains (condition_names condition ++ names_read value) read → Contains all (Reads read)
  reads-of-always name read first condition value h r =
      let names = condition_names condition ++ names_read value in
      in-item (Always name first condition value) (Reads read) h (tail-in Clocks (Reads read) (Drives true name ∷ map Reads names)
      (tail-in (Drives true name) (Reads read) (map Reads names) (map-in Reads names read r)))

  pub one-assign : (name : List ℕ) (one other : Expr) → Contains m.items (Assign name one) → Contains m.items (Assign name other) → one ≡ other
  one-assign name one other h i =
      let e = one-driver false false name (Assign name one) (Assign name other) h i
      (head-in (Drives false name) (map Reads (names_read one)))
      (head-in (Drives false name) (map Reads (names_read other))) in
      cc e

  pub not-both : (name : List ℕ) (value : Expr) (first : Sized) (condition : Option Expr) (next : Expr) → Contains m.items (Assign name value) → Contains m.items (Always name first condition next) → ⊥
  not-both name value first condition next h i =
      let rest = map Reads (condition_names condition ++ names_read next) in
      let e = one-driver false true name (Assign name value) (Always name first condition next) h i
      (head-in (Drives false name) (map Reads (names_read value)))
      (tail-in Clocks (Drives true name) (Drives true name ∷ rest) (head-in (Drives true name) rest)) in
      absurd (cc e)

  pub one-always : (name : List ℕ) (first first' : Sized) (condition condition' : Option Expr) (value value' : Expr) → Contains m.items (Always name first condition value)
      → Contains m.items (Always name first' condition' value') → taken first condition value ≡ taken first' condition' value'
  one-always name first first' condition condition' value value' h i =
      let rest = map Reads (condition_names condition ++ names_read value) in
      let rest' = map Reads (condition_names condition' ++ names_read value') in
      let e = one-driver true true name (Always name first condition value) (Always name first' condition' value') h i
      (tail-in Clocks (Drives true name) (Drives true name ∷ rest) (head-in (Drives true name) rest))
      (tail-in Clocks (Drives true name) (Drives true name ∷ rest') (head-in (Drives true name) rest')) in
      always-same e

  -- what is declared, by a port or by an item
  pub data Declaration (d : Declared) : Type 0 where
    OfPort : (port : Port) → Contains m.ports port → port_declared port ≡ d → Declaration d
    OfWire : (signed : Bool) (width : ℕ) → Contains m.items (Wire signed width d.name) → d.kind ≡ PlainWire → Declaration d
    OfReg : (signed : Bool) (width : ℕ) → Contains m.items (Reg signed width d.name) → d.kind ≡ Register → Declaration d

  no-declaration-in : (d : Declared) (names : List (List ℕ)) → Contains (map Reads names) (Declares d) → ⊥
  no-declaration-in d names h = let r = from-map Reads names (Declares d) h in absurd (cc (r.2))

  item-declares : (item : ModItem) (d : Declared) → Contains m.items item → Contains (item_mentions item) (Declares d) → Declaration d
  item-declares (Wire signed width n) d h i = ⊎_elim
      (λ e. let same : n ≡ d.name = declared-name e in let kind : d.kind ≡ PlainWire = sym (declared-kind e) in OfWire signed width (subst (λ x. Contains m.items (Wire signed width x)) same h) kind)
      (λ t. absurd (none-in _ t)) (cons-cases _ (Declares d) [] i)
  item-declares (Reg signed width n) d h i = ⊎_elim
      (λ e. let same : n ≡ d.name = declared-name e in let kind : d.kind ≡ Register = sym (declared-kind e) in OfReg signed width (subst (λ x. Contains m.items (Reg signed width x)) same h) kind)
      (λ t. absurd (none-in _ t)) (cons-cases _ (Declares d) [] i)
  item-declares (Assign n v) d h i = ⊎_elim (λ e. absurd (cc e)) (λ t. absurd (no-declaration-in d (names_read v) t)) (cons-cases (Drives false n) (Declares d) (map Reads (names_read v)) i)
  item-declares (Always n first condition v) d h i = ⊎_elim
      (λ e. absurd (cc e))
      (λ t. ⊎_elim (λ e. absurd (cc e)) (λ u. absurd
      (no-declaration-in d (condition_names condition ++ names_read v) u))
      (cons-cases (Drives true n) (Declares d) (map Reads (condition_names condition ++ names_read v)) t))
      (cons-cases Clocks (Declares d) (Drives true n ∷ map Reads (condition_names condition ++ names_read v)) i)

  pub declaration-by : (d : Declared) → Contains all (Declares d) → Declaration d
  declaration-by d h = ⊎_elim
      (λ p. let r = from-map (λ port. Declares (port_declared port)) m.ports (Declares d) p in OfPort r.0 r.1 (declared-same r.2))
      (λ q. let r = from-flat item_mentions m.items (Declares d) q in item-declares r.0 d r.1 r.2)
      (Contains-append_cases ports' (flat_map item_mentions m.items) (Declares d) h)

  pub listed-mention : (d : Declared) → Contains (declarations m) d → Contains all (Declares d)
  listed-mention d h = let r = from-flat declared_by all d h in subst (λ x. Contains all x) (declares-it r.0 d r.2) r.1

  pub mention-listed : (d : Declared) → Contains all (Declares d) → Contains (declarations m) d
  mention-listed d h = flat-in declared_by all (Declares d) d h (head-in d [])

  pub wire-declared : (signed : Bool) (width : ℕ) (name : List ℕ) → Contains m.items (Wire signed width name)
      → Contains all (Declares (record { name = name; kind = PlainWire; net = record { width = width; signed = signed } }))
  wire-declared signed width name h = in-item (Wire signed width name) _ h (head-in _ [])

  pub reg-declared : (signed : Bool) (width : ℕ) (name : List ℕ) → Contains m.items (Reg signed width name)
      → Contains all (Declares (record { name = name; kind = Register; net = record { width = width; signed = signed } }))
  reg-declared signed width name h = in-item (Reg signed width name) _ h (head-in _ [])
