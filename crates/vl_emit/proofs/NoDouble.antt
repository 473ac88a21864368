-- A module whose declarations have names that differ, as the names that it drives do, has no doubly driven name
-- if each is driven by what may drive it.
use Rattle.std.proofs.Common.{◌≡◌, ◌≢◌, ℕ, Bool, true, false, not, ◌||◌, List, [], ◌∷◌, ◌++◌, map, flat_map, Contains, bytes_eq, Some, None, refl, ap, sym, ◌∙◌, subst, append_assoc}
use Rattle.std.specs.Prelude.{⊤}
use Rattle.std.specs.List.{list_any, AllPairs}
use Rattle.std.proofs.lemmas.Grind.{flat_map-append}
use Rattle.std.proofs.lemmas.Slice.Eq.{bytes_eq-Decides}
use Rattle.vl_ast.specs.declared.modules.Port.{Port}
use Rattle.vl_ast.specs.declared.modules.ModItem.{ModItem}
use Rattle.vl_ast.specs.declared.modules.ModItem.TheVariants as item
use Rattle.vl_ast.specs.declared.modules.Module.{Module}
use Rattle.vl_ast.specs.Conditions.{first_fault, is_declaration_of, is_driver_of, may_drive_it, is_double}
use Rattle.vl_ast.specs.Nets.{Declared, Mention, Declares, Drives, Reads, Clocks, port_declared, item_mentions, names_read, condition_names, declared_by, declarations, declaration_of}
use Rattle.vl_emit.proofs.ModuleNets.{here, later, in-one, of-one, found, found-is, DeclaredBy, item-declares}
use Rattle.vl_emit.proofs.Lists.{apart-pairs, same-element, none-of, empty-list}
use Rattle.vl_emit.proofs.PlaceOrder.{fault-free}
use Rattle.vl_emit.proofs.DeclarationOrder.{item_drives}
use Rattle.math_list.proofs.Tests.{unequal}

abbrev pub driven_by : Mention → List (List ℕ)
driven_by (Declares declared) = []
driven_by (Drives clocked name) = name ∷ []
driven_by (Reads name) = []
driven_by Clocks = []

abbrev pub DifferD : Declared → Declared → Type 0
DifferD one other = one.name ≢ other.name

abbrev pub DifferN : List ℕ → List ℕ → Type 0
DifferN one other = one ≢ other

module _ (m : Module) where
  abbrev pub MayBe : Mention → Type 0
  MayBe (Declares declared) = ⊤
  MayBe (Drives clocked name) = may_drive_it clocked (declaration_of m name) ≡ true
  MayBe (Reads name) = ⊤
  MayBe Clocks = ⊤

  declares-other : (d : Declared) (before : List Mention)
      → ((e : Declared) → Contains (flat_map declared_by before) e → DifferD e d) → (y : Mention)
      → Contains before y → is_declaration_of d.name y ≡ false
  declares-other d before new (Declares e) c = unequal e.name d.name (new e (in-one declared_by before (Declares e) e c (here e [])))
  declares-other d before new (Drives clocked name) c = refl
  declares-other d before new (Reads name) c = refl
  declares-other d before new Clocks c = refl

  drives-other : (name : List ℕ) (before : List Mention)
      → ((other : List ℕ) → Contains (flat_map driven_by before) other → other ≢ name) → (y : Mention)
      → Contains before y → is_driver_of name y ≡ false
  drives-other name before new (Declares e) c = refl
  drives-other name before new (Drives clocked other) c = unequal other name (new other (in-one driven_by before (Drives clocked other) other c (here other [])))
  drives-other name before new (Reads other) c = refl
  drives-other name before new Clocks c = refl

  single : (before : List Mention) (x : Mention) → ((e : Declared) → Contains (declared_by x) e → (d : Declared) → Contains (flat_map declared_by before) d → DifferD d e)
      → ((name : List ℕ) → Contains (driven_by x) name → (other : List ℕ) → Contains (flat_map driven_by before) other → other ≢ name) → MayBe x → is_double m before x ≡ false
  single before (Declares d) p q may = none-of (is_declaration_of d.name) before (declares-other d before (p d (here d [])))
  single before (Drives clocked name) p q may =
      let a : list_any (is_driver_of name) before ≡ false = none-of (is_driver_of name) before (drives-other name before (q name (here name []))) in
      (λ i. a i || not (may i))
  single before (Reads name) p q may = refl
  single before Clocks p q may = refl

  pub no-double : (before xs : List Mention) → AllPairs DifferD (flat_map declared_by (before ++ xs)) → AllPairs DifferN (flat_map driven_by (before ++ xs))
      → ((x : Mention) → Contains xs x → MayBe x) → first_fault (is_double m) before xs ≡ None
  no-double before [] p q may = refl
  no-double before (x ∷ xs) p q may =
      let pp : AllPairs DifferD (flat_map declared_by before ++ flat_map declared_by (x ∷ xs)) = subst (AllPairs DifferD) (flat_map-append declared_by before (x ∷ xs)) p in
      let qq : AllPairs DifferN (flat_map driven_by before ++ flat_map driven_by (x ∷ xs)) = subst (AllPairs DifferN) (flat_map-append driven_by before (x ∷ xs)) q in
      let same : before ++ x ∷ xs ≡ (before ++ x ∷ []) ++ xs = sym (append_assoc before (x ∷ []) xs) in
      fault-free (is_double m) before x xs
      (single before x
      (λ e c d inside. apart-pairs DifferD (flat_map declared_by before) (flat_map declared_by (x ∷ xs)) pp d e inside (in-one declared_by (x ∷ xs) x e (here x xs) c))
      (λ name c other inside. apart-pairs DifferN (flat_map driven_by before) (flat_map driven_by (x ∷ xs)) qq other name inside (in-one driven_by (x ∷ xs) x name (here x xs) c))
      (may x (here x xs)))
      ∙ no-double (before ++ x ∷ []) xs (subst (λ (l : List Mention). AllPairs DifferD (flat_map declared_by l)) same p) (subst (λ (l : List Mention). AllPairs DifferN (flat_map driven_by l)) same q)
      (λ y c. may y (later x y xs c))

  -- what a name is declared as, where no name is declared twice
  pub declared-as : AllPairs DifferD (declarations m) → (d : Declared) → Contains (declarations m) d → declaration_of m d.name ≡ Some d
  declared-as differ d c =
      let test : Declared → Bool = λ e. bytes_eq e.name d.name in
      let f = found (λ (e : Declared). bytes_eq e.name d.name) (declarations m) d c ((bytes_eq-Decides d.name d.name).1 refl) in
      let g = found-is (λ (e : Declared). bytes_eq e.name d.name) (declarations m) f.0 f.1 in
      let same : f.0 ≡ d = same-element (λ (e : Declared). e.name) (declarations m) differ f.0 d g.0 c ((bytes_eq-Decides f.0.name d.name).0 g.1) in
      f.1 ∙ ap Some same

-- the names that the mentions of an item drive
reads-drive : (names : List (List ℕ)) → flat_map driven_by (map Reads names) ≡ []
reads-drive [] = refl
reads-drive (name ∷ names) = reads-drive names

pub driven-of : (i : ModItem) → flat_map driven_by (item_mentions i) ≡ item_drives i
driven-of (item.Wire signed width name) = refl
driven-of (item.Reg signed width name) = refl
driven-of (item.Assign name value) = ap (λ (l : List (List ℕ)). name ∷ l) (reads-drive (names_read value))
driven-of (item.Always name first condition value) = ap (λ (l : List (List ℕ)). name ∷ l) (reads-drive (condition_names condition ++ names_read value))

pub ports-drive : (ports : List Port) → flat_map driven_by (map (λ (port : Port). Declares (port_declared port)) ports) ≡ []
ports-drive [] = refl
ports-drive (port ∷ ports) = ports-drive ports

abbrev pub item_declared : ModItem → List Declared
item_declared i = flat_map declared_by (item_mentions i)

pub silent-none : (i : ModItem) → ((d : Declared) → DeclaredBy i d → ⊥) → item_declared i ≡ []
silent-none i quiet = empty-list (item_declared i) (λ d c. (let r = of-one declared_by (item_mentions i) d c in quiet d (item-declares i r.0 d r.1 r.2)))
