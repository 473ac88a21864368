-- Elements of lists that are made by a function from each place, and the net that a module declares of
-- a name.
use Rattle.std.proofs.Common.{◌≡◌, ◌≢◌, ◌⊎◌, inl, inr, ℕ, zero, suc, ◌+◌, ◌<◌, ◌^◌, Bool, true, false, if◌then◌else◌, List, [], ◌∷◌, ◌++◌, map, flat_map, find, Contains, get_or, bytes_eq, Some, refl}
use Rattle.std.proofs.Common.{ap, sym, ◌∙◌, subst, arith}
use Rattle.std.proofs.lemmas.List.Elements.{Contains-append_left, Contains-append_right, Contains-append_cases, Contains-push, Contains-push_cases}
use Rattle.std.proofs.lemmas.List.Concat.{flat_map-cons}
use Rattle.std.proofs.lemmas.List.{flat_map_more}
use Rattle.std.proofs.lemmas.Bool.{cases_lt}
use Rattle.std.proofs.lemmas.Slice.Eq.{bytes_eq-Decides}
use Rattle.std.proofs.lemmas.Fmt.{decimal_injective}
use Rattle.vl_ast.specs.declared.modules.Port.{Port}
use Rattle.vl_ast.specs.declared.modules.ModItem.{ModItem}
use Rattle.vl_ast.specs.declared.modules.ModItem.TheVariants.{Wire, Reg, Assign, Always}
use Rattle.vl_ast.specs.declared.modules.Module.{Module}
use Rattle.vl_ast.specs.Context.{Net}
use Rattle.vl_ast.specs.Nets.{Declared, Mention, Declares, Drives, Reads, Clocks, PlainWire, Register, port_declared, item_mentions, mentions, declared_by, declarations, nets_of, net_or_none}
use Rattle.vl_ast.specs.Nets.{names_read, condition_names}
use Rattle.vl_emit.specs.Names.{net_name, hold_name}
use Rattle.hw_net.specs.Products.{places}

module _ {X : Type 0} where
  pub no-element : (x : X) → Contains [] x → ⊥
  no-element x c = omega (arith, c.1)

  pub first-or-later : (x y : X) (xs : List X) → Contains (x ∷ xs) y → (x ≡ y) ⊎ Contains xs y
  first-or-later x y xs (zero, below, e) = inl e
  first-or-later x y xs (suc k, below, e) = inr (k, omega arith, e)

  -- what holds of each of one element, or of two
  pub one-of : (P : X → Type 0) (x y : X) → P x → Contains (x ∷ []) y → P y
  one-of P x y p c = elim (first-or-later x y [] c) [
    | inl e ↦ subst P e p
    | inr after ↦ absurd (no-element y after)
  ]

  pub two-of : (P : X → Type 0) (x z y : X) → P x → P z → Contains (x ∷ z ∷ []) y → P y
  two-of P x z y p q c = elim (first-or-later x y (z ∷ []) c) [
    | inl e ↦ subst P e p
    | inr after ↦ one-of P z y q after
  ]

  pub here : (x : X) (xs : List X) → Contains (x ∷ xs) x
  here x xs = (0, omega arith, refl)

  pub later : (x y : X) (xs : List X) → Contains xs y → Contains (x ∷ xs) y
  later x y xs c = (suc c.0, omega (arith, c.1), c.2)

  found-first : (p : X → Bool) (xs : List X) (x y : X) (t : Bool) → (find p xs ≡ Some x → Contains xs x × (p x ≡ true))
      → p y ≡ t → (if t then Some y else find p xs) ≡ Some x → Contains (y ∷ xs) x × (p x ≡ true)
  found-first p xs x y true later_on is f = let same : y ≡ x = cc f in (subst (Contains (y ∷ xs)) same (here y xs), subst (λ (z : X). p z ≡ true) same is)
  found-first p xs x y false later_on is f = let rest = later_on f in (later y x xs rest.0, rest.1)

  pub found-is : (p : X → Bool) (xs : List X) (x : X) → find p xs ≡ Some x → Contains xs x × (p x ≡ true)
  found-is p [] x e = absurd (cc e)
  found-is p (y ∷ xs) x e = found-first p xs x y (p y) (found-is p xs x) refl e

  find-by : (p : X → Bool) (xs : List X) (x y : X) (t : Bool) → (Contains xs y → (z : X) × (find p xs ≡ Some z)) → (x ≡ y) ⊎ Contains xs y → p y ≡ true
      → p x ≡ t → (z : X) × ((if t then Some x else find p xs) ≡ Some z)
  find-by p xs x y true further c e is = (x, refl)
  find-by p xs x y false further (inl same) e is = let f : p x ≡ true = ap p same ∙ e in absurd (cc (is, f))
  find-by p xs x y false further (inr after) e is = further after

  pub found : (p : X → Bool) (xs : List X) (y : X) → Contains xs y → p y ≡ true → (x : X) × (find p xs ≡ Some x)
  found p [] y c e = absurd (no-element y c)
  found p (x ∷ xs) y c e = find-by p xs x y (p x) (λ after. found p xs y after e) (first-or-later x y xs c) e refl

-- a place below the count is one
pub place-below : (n k : ℕ) → k < n → Contains (places n) k
place-below zero k h = absurd (omega arith)
place-below (suc n) k h = elim (cases_lt k n) [
  | inl l ↦ Contains-append_left (places n) (n ∷ []) k (place-below n k l)
  | inr g ↦ subst (Contains (places (suc n))) (let e : n ≡ k = omega arith in e) (Contains-push (places n) n)
]

pub below-place : (n k : ℕ) → Contains (places n) k → k < n
below-place zero k c = absurd (no-element k c)
below-place (suc n) k c = elim (Contains-push_cases (places n) n k c) [
  | inl c ↦ omega (arith, below-place n k c)
  | inr e ↦ omega (arith, e)
]

module _ {X Y : Type 0} (f : X → List Y) where
  -- what one of the lists has
  pub in-one : (xs : List X) (x : X) (y : Y) → Contains xs x → Contains (f x) y → Contains (flat_map f xs) y
  in-one [] x y c d = absurd (no-element x c)
  in-one (z ∷ xs) x y c d =
      rw (flat_map-cons f z xs) (elim (first-or-later z x xs c) [
        | inl same ↦ Contains-append_left (f z) (flat_map f xs) y (subst (λ (w : X). Contains (f w) y) (sym same) d)
        | inr after ↦ Contains-append_right (f z) (flat_map f xs) y (in-one xs x y after d)
      ])

  -- each element is of one of the lists
  pub of-one : (xs : List X) (y : Y) → Contains (flat_map f xs) y → (x : X) × Contains xs x × Contains (f x) y
  of-one [] y c = absurd (no-element y c)
  of-one (z ∷ xs) y c =
      elim (Contains-append_cases (f z) (flat_map f xs) y (subst (λ (l : List Y). Contains l y) (flat_map-cons f z xs) c)) [
        | inl d ↦ (z, here z xs, d)
        | inr d ↦ (let r = of-one xs y d in (r.0, later z r.0 xs r.1, r.2))
      ]

module _ {X Y : Type 0} (f : X → Y) where
  pub mapped : (xs : List X) (x : X) → Contains xs x → Contains (map f xs) (f x)
  mapped [] x c = absurd (no-element x c)
  mapped (z ∷ xs) x c = elim (first-or-later z x xs c) [
    | inl same ↦ subst (λ (w : X). Contains (map f (z ∷ xs)) (f w)) same (here (f z) (map f xs))
    | inr after ↦ later (f z) (f x) (map f xs) (mapped xs x after)
  ]

  pub of-mapped : (xs : List X) (y : Y) → Contains (map f xs) y → (x : X) × Contains xs x × (f x ≡ y)
  of-mapped [] y c = absurd (no-element y c)
  of-mapped (z ∷ xs) y c = elim (first-or-later (f z) y (map f xs) c) [
    | inl same ↦ (z, here z xs, same)
    | inr after ↦ (let r = of-mapped xs y after in (r.0, later z r.0 xs r.1, r.2))
  ]

-- the net that a module gives a name is that of each declaration of it
pub net-of-name : (m : Module) (name : List ℕ) (net : Net) (declared : Declared) → Contains (declarations m) declared → declared.name ≡ name
    → ((other : Declared) → Contains (declarations m) other → other.name ≡ name → other.net ≡ net) → nets_of m name ≡ net
net-of-name m name net declared c is only =
    let test : Declared → Bool = λ d. bytes_eq d.name name in
    let f = found test (declarations m) declared c ((bytes_eq-Decides declared.name name).1 is) in
    let g = found-is test (declarations m) f.0 f.1 in
    ap net_or_none f.1 ∙ only f.0 g.0 ((bytes_eq-Decides f.0.name name).0 g.1)

-- what an item declares
abbrev pub DeclaredBy : ModItem → Declared → Type 0
DeclaredBy (Wire signed width name) d = record { name = name; kind = PlainWire; net = record { width = width; signed = signed } } ≡ d
DeclaredBy (Reg signed width name) d = record { name = name; kind = Register; net = record { width = width; signed = signed } } ≡ d
DeclaredBy (Assign name value) d = ⊥
DeclaredBy (Always name first condition value) d = ⊥

reads-nothing : (names : List (List ℕ)) (mention : Mention) (d : Declared) → Contains (map Reads names) mention → Contains (declared_by mention) d → ⊥
reads-nothing names mention d c e =
    let r = of-mapped Reads names mention c in
    no-element d (subst (λ (m : Mention). Contains (declared_by m) d) (sym r.2) e)

only-one : {X : Type 0} (x y : X) → Contains (x ∷ []) y → x ≡ y
only-one x y c = elim (first-or-later x y [] c) [
  | inl same ↦ same
  | inr after ↦ absurd (no-element y after)
]

declared-alone : (one : Declared) (mention : Mention) (d : Declared) → Contains (Declares one ∷ []) mention → Contains (declared_by mention) d → one ≡ d
declared-alone one mention d c e =
    let same = only-one (Declares one) mention c in
    only-one one d (subst (λ (m : Mention). Contains (declared_by m) d) (sym same) e)

drives-nothing : (clocked : Bool) (name : List ℕ) (mention : Mention) (d : Declared) → Drives clocked name ≡ mention → Contains (declared_by mention) d → ⊥
drives-nothing clocked name mention d same e = no-element d (subst (λ (m : Mention). Contains (declared_by m) d) (sym same) e)

pub item-declares : (item : ModItem) (mention : Mention) (d : Declared) → Contains (item_mentions item) mention → Contains (declared_by mention) d → DeclaredBy item d
item-declares (Wire signed width name) mention d c e = declared-alone (record { name = name; kind = PlainWire; net = record { width = width; signed = signed } }) mention d c e
item-declares (Reg signed width name) mention d c e = declared-alone (record { name = name; kind = Register; net = record { width = width; signed = signed } }) mention d c e
item-declares (Assign name value) mention d c e = elim (first-or-later (Drives false name) mention (map Reads (names_read value)) c) [
  | inl same ↦ absurd (drives-nothing false name mention d same e)
  | inr after ↦ absurd (reads-nothing (names_read value) mention d after e)
]
item-declares (Always name first condition value) mention d c e =
    let names : List (List ℕ) = condition_names condition ++ names_read value in
    elim (first-or-later Clocks mention (Drives true name ∷ map Reads names) c) [
      | inl same ↦ absurd (no-element d (subst (λ (m : Mention). Contains (declared_by m) d) (sym same) e))
      | inr after ↦ elim (first-or-later (Drives true name) mention (map Reads names) after) [
        | inl same ↦ absurd (drives-nothing true name mention d same e)
        | inr reads ↦ absurd (reads-nothing names mention d reads e)
      ]
    ]

-- each declaration of a module is that of a port or of an item
pub declared-where : (m : Module) (d : Declared) → Contains (declarations m) d
    → ((port : Port) × Contains m.ports port × (port_declared port ≡ d)) ⊎ ((item : ModItem) × Contains m.items item × DeclaredBy item d)
declared-where m d c =
    let r = of-one declared_by (mentions m) d c in
    elim (Contains-append_cases (map (λ (port : Port). Declares (port_declared port)) m.ports) (flat_map item_mentions m.items) r.0 r.1) [
      | inl p ↦ (let q = of-mapped (λ (port : Port). Declares (port_declared port)) m.ports r.0 p in
          inl (q.0, q.1, only-one (port_declared q.0) d (subst (λ (m : Mention). Contains (declared_by m) d) (sym q.2) r.2)))
      | inr p ↦ (let q = of-one item_mentions m.items r.0 p in inr (q.0, q.1, item-declares q.0 r.0 d q.2 r.2))
    ]

pub declares : (item : ModItem) (d : Declared) → DeclaredBy item d → Contains (item_mentions item) (Declares d)
declares (Wire signed width name) d e = subst (λ (x : Declared). Contains (item_mentions (Wire signed width name)) (Declares x)) e (here _ [])
declares (Reg signed width name) d e = subst (λ (x : Declared). Contains (item_mentions (Reg signed width name)) (Declares x)) e (here _ [])
declares (Assign name value) d e = absurd e
declares (Always name first condition value) d e = absurd e

-- the mention is that an item drives a name
abbrev pub DrivenBy : ModItem → Mention → Type 0
DrivenBy (Wire signed width name) mention = ⊥
DrivenBy (Reg signed width name) mention = ⊥
DrivenBy (Assign name value) mention = Drives false name ≡ mention
DrivenBy (Always name first condition value) mention = Drives true name ≡ mention

pub driven-item : (m : Module) (item : ModItem) (mention : Mention) → Contains m.items item → DrivenBy item mention → Contains (mentions m) mention
driven-item m item mention c e =
    Contains-append_right (map (λ (port : Port). Declares (port_declared port)) m.ports) (flat_map item_mentions m.items) mention
    (in-one item_mentions m.items item mention c (own item e)) where
      own : (item : ModItem) → DrivenBy item mention → Contains (item_mentions item) mention
      own (Wire signed width name) e = absurd e
      own (Reg signed width name) e = absurd e
      own (Assign name value) e = subst (Contains (item_mentions (Assign name value))) e (here (Drives false name) (map Reads (names_read value)))
      own (Always name first condition value) e =
          let reads : List Mention = map Reads (condition_names condition ++ names_read value) in
          subst (Contains (item_mentions (Always name first condition value))) e (later Clocks (Drives true name) (Drives true name ∷ reads) (here (Drives true name) reads))

pub declared-item : (m : Module) (item : ModItem) (d : Declared) → Contains m.items item → DeclaredBy item d → Contains (declarations m) d
declared-item m item d c e =
    in-one declared_by (mentions m) (Declares d) d
    (Contains-append_right (map (λ (port : Port). Declares (port_declared port)) m.ports) (flat_map item_mentions m.items) (Declares d)
    (in-one item_mentions m.items item (Declares d) c (declares item d e))) (here d [])

pub declared-port : (m : Module) (port : Port) → Contains m.ports port → Contains (declarations m) (port_declared port)
declared-port m port c =
    in-one declared_by (mentions m) (Declares (port_declared port)) (port_declared port)
    (Contains-append_left (map (λ (p : Port). Declares (port_declared p)) m.ports) (flat_map item_mentions m.items) (Declares (port_declared port))
    (mapped (λ (p : Port). Declares (port_declared p)) m.ports port c)) (here (port_declared port) [])

-- names
pub names-differ : (j k : ℕ) → j < 2 ^ 64 → k < 2 ^ 64 → net_name j ≡ net_name k → j ≡ k
names-differ j k p q e = decimal_injective j k p q (cc e)

pub holds-differ : (j k : ℕ) → j < 2 ^ 64 → k < 2 ^ 64 → hold_name j ≡ hold_name k → j ≡ k
holds-differ j k p q e = decimal_injective j k p q (cc e)

pub net-is-no-hold : (j k : ℕ) → net_name j ≢ hold_name k
net-is-no-hold j k e = let other : 110 ≡ 104 = ap (λ (name : List ℕ). get_or name 3 0) e in omega (arith, other)

-- one place more
pub one-more : {Y : Type 0} (f : ℕ → List Y) (k next : ℕ) → next ≡ k + 1 → flat_map f (places next) ≡ flat_map f (places k) ++ f k
one-more f k next e =
    let s : next ≡ suc k = omega (arith, e) in
    ap (λ (n : ℕ). flat_map f (places n)) s ∙ sym (flat_map_more f [] (places k) k)
