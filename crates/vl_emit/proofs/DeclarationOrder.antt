-- A module whose declarations come first breaks no condition on drivers, if each name that its other items read
-- or drive is declared, and each that needs a driver has one.
use Rattle.std.proofs.Common.{find, ◌≡◌, ◌⊎◌, inl, inr, ℕ, Bool, true, false, not, ◌&&◌, if◌then◌else◌, List, [], ◌∷◌, ◌++◌, map, flat_map, Contains, Some, None, refl, ap, sym, ◌∙◌, subst}
use Rattle.std.proofs.Common.{append_assoc}
use Rattle.std.specs.Prelude.{⊤}
use Rattle.std.specs.List.{list_any}
use Rattle.std.proofs.lemmas.List.Elements.{Contains-append_left, Contains-append_right, Contains-append_cases}
use Rattle.std.proofs.lemmas.List.Concat.{flat_map-append}
use Rattle.std.proofs.lemmas.Slice.Eq.{bytes_eq-Decides}
use Rattle.vl_ast.specs.declared.modules.Port.{Port}
use Rattle.vl_ast.specs.declared.modules.ModItem.{ModItem}
use Rattle.vl_ast.specs.declared.modules.ModItem.TheVariants as item
use Rattle.vl_ast.specs.declared.modules.Module.{Module}
use Rattle.vl_ast.specs.Nets.{Declared, Mention, Declares, Drives, Reads, Clocks, Kind, InputPort, OutputPort, PlainWire, Register, port_declared, item_mentions, mentions, names_read, condition_names}
use Rattle.vl_ast.specs.Conditions.{first_fault, is_undriven, undriven, needs_driver, is_driver_of, is_declaration_of}
use Rattle.vl_emit.specs.Reads.{item_reads}
use Rattle.vl_emit.proofs.ModuleNets.{DeclaredBy, no-element, first-or-later, here, later, in-one, of-one, of-mapped}
use Rattle.vl_emit.proofs.PlaceOrder.{in-parts, none-at-fault}
use Rattle.vl_emit.specs.inner.NetItems.{drivers, declarers}
use Rattle.math_list.proofs.Places.{seen}

and-false : (t : Bool) → (t && not true) ≡ false
and-false true = refl
and-false false = refl

pub find-none : {X : Type 0} (p : X → Bool) (xs : List X) → ((x : X) → Contains xs x → p x ≡ false) → find p xs ≡ None
find-none p [] h = refl
find-none p (x ∷ xs) h = (λ i. if h x (here x xs) i then Some x else find p xs) ∙ find-none p xs (λ y c. h y (later x y xs c))

-- the name that an item drives
abbrev pub item_drives : ModItem → List (List ℕ)
item_drives (item.Wire signed width name) = []
item_drives (item.Reg signed width name) = []
item_drives (item.Assign name value) = name ∷ []
item_drives (item.Always name first condition value) = name ∷ []

-- declarations, and then items that declare nothing
module _ (m : Module) (declaring driving : List ModItem) (are : m.items ≡ declaring ++ driving) where
  abbrev pub port_mentions : List Mention
  port_mentions = map (λ (port : Port). Declares (port_declared port)) m.ports

  abbrev before : List Mention
  before = port_mentions ++ flat_map item_mentions declaring

  -- a declaration of the name stands before all items that drive
  abbrev pub IsDeclaredBefore : List ℕ → Type 0
  IsDeclaredBefore name = (d : Declared) × Contains before (Declares d) × (d.name ≡ name)

  abbrev pub IsDriven : List ℕ → Type 0
  IsDriven name = (i : ModItem) × Contains driving i × Contains (item_drives i) name

  mentions-are : mentions m ≡ before ++ flat_map item_mentions driving
  mentions-are =
      ap (λ (items : List ModItem). port_mentions ++ flat_map item_mentions items) are
      ∙ ap (λ (l : List Mention). port_mentions ++ l) (flat_map-append item_mentions declaring driving)
      ∙ sym (append_assoc port_mentions (flat_map item_mentions declaring) (flat_map item_mentions driving))

  drives-mention : (i : ModItem) (name : List ℕ) → Contains (item_drives i) name → (clocked : Bool) × Contains (item_mentions i) (Drives clocked name)
  drives-mention (item.Wire signed width x) name c = absurd (no-element name c)
  drives-mention (item.Reg signed width x) name c = absurd (no-element name c)
  drives-mention (item.Assign x value) name c = elim (first-or-later x name [] c) [
    | inl same ↦ (false, subst (λ (n : List ℕ). Contains (item_mentions (item.Assign x value)) (Drives false n)) same (here (Drives false x) (map Reads (names_read value))))
    | inr after ↦ absurd (no-element name after)
  ]
  drives-mention (item.Always x first condition value) name c = elim (first-or-later x name [] c) [
    | inl same ↦ (
      true,
      subst (λ (n : List ℕ). Contains (item_mentions (item.Always x first condition value)) (Drives true n)) same
          (later Clocks (Drives true x) (Drives true x ∷ map Reads (condition_names condition ++ names_read value)) (here (Drives true x) (map Reads (condition_names condition ++ names_read value)))),
    )
    | inr after ↦ absurd (no-element name after)
  ]

  driver-found : (name : List ℕ) → IsDriven name → list_any (is_driver_of name) (mentions m) ≡ true
  driver-found name d =
      let r = drives-mention d.0 name d.2 in
      subst (λ (l : List Mention). list_any (is_driver_of name) l ≡ true) (sym mentions-are)
      (seen (is_driver_of name) (before ++ flat_map item_mentions driving) (Drives r.0 name)
      (Contains-append_right before (flat_map item_mentions driving) (Drives r.0 name) (in-one item_mentions driving d.0 (Drives r.0 name) d.1 r.1))
      ((bytes_eq-Decides name name).1 refl))

  abbrev at : List Mention → Mention → Bool
  at = is_undriven (mentions m)

  declared-found : (b : List Mention) (name : List ℕ) → ((x : Mention) → Contains before x → Contains b x) → IsDeclaredBefore name → not (list_any (is_declaration_of name) b) ≡ false
  declared-found b name h d = ap not (seen (is_declaration_of name) b (Declares d.0) (h (Declares d.0) d.1) ((bytes_eq-Decides d.0.name name).1 d.2))

  -- what a mention of an item that drives is
  abbrev IsFine : Mention → Type 0
  IsFine x = (b : List Mention) → ((y : Mention) → Contains before y → Contains b y) → at b x ≡ false

  reads-fine : (names : List (List ℕ)) → ((name : List ℕ) → Contains names name → IsDeclaredBefore name) → (x : Mention) → Contains (map Reads names) x → IsFine x
  reads-fine names allowed x c =
      let r = of-mapped Reads names x c in
      subst IsFine r.2 (λ b h. declared-found b r.0 h (allowed r.0 r.1))

  item-fine : (i : ModItem) → ((d : Declared) → DeclaredBy i d → ⊥) → ((name : List ℕ) → Contains (item_drives i) name → IsDeclaredBefore name)
      → ((name : List ℕ) → Contains (item_reads i) name → IsDeclaredBefore name) → (x : Mention) → Contains (item_mentions i) x → IsFine x
  item-fine (item.Wire signed width name) quiet drives reads x c = absurd (quiet _ refl)
  item-fine (item.Reg signed width name) quiet drives reads x c = absurd (quiet _ refl)
  item-fine (item.Assign name value) quiet drives reads x c = elim (first-or-later (Drives false name) x (map Reads (names_read value)) c) [
    | inl same ↦ subst IsFine same (λ b h. declared-found b name h (drives name (here name [])))
    | inr after ↦ reads-fine (names_read value) reads x after
  ]
  item-fine (item.Always name first condition value) quiet drives reads x c =
      let names : List (List ℕ) = condition_names condition ++ names_read value in
      elim (first-or-later Clocks x (Drives true name ∷ map Reads names) c) [
        | inl same ↦ subst IsFine same (λ b h. refl)
        | inr after ↦ elim (first-or-later (Drives true name) x (map Reads names) after) [
          | inl same ↦ subst IsFine same (λ b h. declared-found b name h (drives name (here name [])))
          | inr more ↦ reads-fine names reads x more
        ]
      ]

  declaration-fine : (d : Declared) → IsDriven d.name ⊎ (d.kind ≡ InputPort) → (b : List Mention) → at b (Declares d) ≡ false
  declaration-fine d (inl driven) b =
      ap (λ (t : Bool). needs_driver d.kind && not t) (driver-found d.name driven) ∙ and-false (needs_driver d.kind)
  declaration-fine d (inr input) b = ap (λ (k : Kind). needs_driver k && not (list_any (is_driver_of d.name) (mentions m))) input

  declarer-fine : (i : ModItem) → ((d : Declared) → DeclaredBy i d → IsDriven d.name) → (item_drives i ≡ []) → (x : Mention) → Contains (item_mentions i) x → (b : List Mention) → at b x ≡ false
  declarer-fine (item.Wire signed width name) driven none x c b = elim (first-or-later _ x [] c) [
    | inl same ↦ subst (λ (y : Mention). at b y ≡ false) same (declaration-fine (record { name = name; kind = PlainWire; net = record { width = width; signed = signed } }) (inl (driven _ refl)) b)
    | inr after ↦ absurd (no-element x after)
  ]
  declarer-fine (item.Reg signed width name) driven none x c b = elim (first-or-later _ x [] c) [
    | inl same ↦ subst (λ (y : Mention). at b y ≡ false) same (declaration-fine (record { name = name; kind = Register; net = record { width = width; signed = signed } }) (inl (driven _ refl)) b)
    | inr after ↦ absurd (no-element x after)
  ]
  declarer-fine (item.Assign name value) driven none x c b = absurd (cc none)
  declarer-fine (item.Always name first condition value) driven none x c b = absurd (cc none)

  pub none-undriven : ((port : Port) → Contains m.ports port → IsDriven port.name ⊎ (port.input ≡ true))
      → ((i : ModItem) → Contains declaring i → (item_drives i ≡ []) × ((d : Declared) → DeclaredBy i d → IsDriven d.name))
      → ((i : ModItem) → Contains driving i → ((d : Declared) → DeclaredBy i d → ⊥) × ((name : List ℕ) → Contains (item_drives i) name → IsDeclaredBefore name)
      × ((name : List ℕ) → Contains (item_reads i) name → IsDeclaredBefore name))
      → undriven m ≡ None
  none-undriven ports declarers drivers =
      subst (λ (l : List Mention). first_fault at [] l ≡ None) (sym mentions-are)
      (in-parts at [] before (flat_map item_mentions driving)
      (none-at-fault at (λ b. ⊤) (λ b x h. h) [] before tt
      (λ b x h c. elim (Contains-append_cases port_mentions (flat_map item_mentions declaring) x c) [
        | inl p ↦ (let r = of-mapped (λ (port : Port). Declares (port_declared port)) m.ports x p in
            subst (λ (y : Mention). at b y ≡ false) r.2 (declaration-fine (port_declared r.0) (port-kind r.0 (ports r.0 r.1)) b))
        | inr p ↦ (let r = of-one item_mentions declaring x p in
            let f = declarers r.0 r.1 in declarer-fine r.0 f.1 f.0 x r.2 b)
      ]))
      (none-at-fault at (λ b. (y : Mention) → Contains before y → Contains b y) (λ b x h y c. Contains-append_left b (x ∷ []) y (h y c)) before (flat_map item_mentions driving) (λ y c. c)
      (λ b x h c. let r = of-one item_mentions driving x c in
      let f = drivers r.0 r.1 in item-fine r.0 f.0 f.1 f.2 x r.2 b h)))
    where
      port-kind : (port : Port) → IsDriven port.name ⊎ (port.input ≡ true) → IsDriven port.name ⊎ ((port_declared port).kind ≡ InputPort)
      port-kind port (inl d) = inl d
      port-kind port (inr e) = inr (ap (λ (t : Bool). if t then InputPort else OutputPort) e)
