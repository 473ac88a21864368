-- A module to which `clk_enable` and `ce_out` are added keeps the first three conditions.
use Rattle.std.proofs.Common.{◌≡◌, ◌≢◌, ◌<◌, ◌+◌, ◌%◌, ◌⊎◌, inl, inr, ⊎_elim, ℕ, suc, Bool, true, false, not, ◌&&◌, ◌||◌, if◌then◌else◌, List, [], ◌∷◌, ◌++◌, map, flat_map, find, length}
use Rattle.std.proofs.Common.{slice_index_or, Contains, bytes_eq, codes, Some, None, refl, sym, ap, subst, ◌∙◌, arith}
use Rattle.std.specs.List.{list_any}
use Rattle.std.proofs.lemmas.List.{append_assoc, append-nil, map-append}
use Rattle.std.proofs.lemmas.List.Concat.{flat_map-append}
use Rattle.std.proofs.lemmas.List.Elements.{Contains-append_left, Contains-append_right, Contains-append_cases}
use Rattle.std.proofs.lemmas.List.Folds.{list_any-append}
use Rattle.std.proofs.lemmas.Bool.{cond-false}
use Rattle.std.proofs.lemmas.Nat.{mod_below}
use Rattle.vl_ast.specs.declared.expressions.Expr.TheVariants.{Name}
use Rattle.vl_ast.specs.declared.modules.Port.{Port}
use Rattle.vl_ast.specs.declared.modules.ModItem.{ModItem}
use Rattle.vl_ast.specs.declared.modules.ModItem.TheVariants.{Assign}
use Rattle.vl_ast.specs.declared.modules.Module.{Module}
use Rattle.vl_ast.specs.Conditions.{first_fault, mentioned, is_undriven, is_double, is_declaration_of, is_driver_of, needs_driver, may_drive_it, AssignmentReads, IsLoop, IsAcyclic}
use Rattle.vl_ast.specs.Gated.{IsFresh, IsOpened, HasAllOf, shows_enable}
use Rattle.vl_ast.specs.Header.{bit_output, bit_input}
use Rattle.vl_ast.specs.Nets.{Declared, Mention, Declares, Drives, Reads, Clocks, port_declared, mentions, item_mentions, declared_by, declaration_of, names_read}
use Rattle.vl_ast.proofs.Chains.{owed-of-none}
use Rattle.vl_ast.proofs.Facts.{mention-listed, read-declared, driven-declared, assign-drives}
use Rattle.vl_ast.proofs.Gates.{enable}
use Rattle.vl_ast.proofs.GatesSound.{enable-reads}
use Rattle.math_list.proofs.Elements.{cons-cases, none-in, head-in}
use Rattle.math_list.proofs.Tests.{unequal, differ}

abbrev pub out : List ℕ
out = codes "ce_out"

abbrev enable_d : Declared
enable_d = port_declared (bit_input enable)

abbrev out_d : Declared
out_d = port_declared (bit_output out)

or-false : (b : Bool) → (b || false) ≡ b
or-false true = refl
or-false false = refl

pub or-true : (b : Bool) → (b || true) ≡ true
or-true true = refl
or-true false = refl

abbrev Kept : Mention → Type 0
Kept x = (mentioned x ≢ enable) × (mentioned x ≢ out)

not-declared : (name : List ℕ) (x : Mention) → mentioned x ≢ name → is_declaration_of name x ≡ false
not-declared name (Declares d) other = unequal d.name name other
not-declared name (Drives c n) other = refl
not-declared name (Reads n) other = refl
not-declared name Clocks other = refl

not-driven : (name : List ℕ) (x : Mention) → mentioned x ≢ name → is_driver_of name x ≡ false
not-driven name (Declares d) other = refl
not-driven name (Drives c n) other = unequal n name other
not-driven name (Reads n) other = refl
not-driven name Clocks other = refl

-- what stands before a place in both
record Before (enabled shown : Bool) (old new : List Mention) : Type 0 where
  declares : (n : List ℕ) → n ≢ enable → n ≢ out → list_any (is_declaration_of n) new ≡ list_any (is_declaration_of n) old
  drives : (n : List ℕ) → list_any (is_driver_of n) new ≡ list_any (is_driver_of n) old
  enable_is : list_any (is_declaration_of enable) new ≡ enabled
  out_is : list_any (is_declaration_of out) new ≡ shown
  undriven_out : list_any (is_driver_of out) new ≡ false

begin : Before false false [] []
begin = record { declares = λ n a b. refl; drives = λ n. refl; enable_is = refl; out_is = refl; undriven_out = refl }

pushed : (test : Mention → Bool) (xs : List Mention) (x : Mention) (b : Bool) → test x ≡ false → list_any test xs ≡ b → list_any test (xs ++ x ∷ []) ≡ b
pushed test xs x b off e = list_any-append test xs (x ∷ []) ∙ (λ i. e i || (off i || false)) ∙ or-false b

both-pushed : (test : Mention → Bool) (xs ys : List Mention) (x : Mention) → list_any test xs ≡ list_any test ys → list_any test (xs ++ x ∷ []) ≡ list_any test (ys ++ x ∷ [])
both-pushed test xs ys x e = list_any-append test xs (x ∷ []) ∙ ap (λ t. t || list_any test (x ∷ [])) e ∙ sym (list_any-append test ys (x ∷ []))

push : (e s : Bool) (old new : List Mention) (x : Mention) → Kept x → Before e s old new → Before e s (old ++ x ∷ []) (new ++ x ∷ [])
push e s old new x k b = record {
  declares = λ n p q. both-pushed (is_declaration_of n) new old x (b.declares n p q);
  drives = λ n. both-pushed (is_driver_of n) new old x (b.drives n);
  enable_is = pushed (is_declaration_of enable) new x e (not-declared enable x k.0) b.enable_is;
  out_is = pushed (is_declaration_of out) new x s (not-declared out x k.1) b.out_is;
  undriven_out = pushed (is_driver_of out) new x false (not-driven out x k.1) b.undriven_out;
}

put-enable : (s : Bool) (old new : List Mention) → Before false s old new → Before true s old (new ++ Declares enable_d ∷ [])
put-enable s old new b = record {
  declares = λ n p q. pushed (is_declaration_of n) new (Declares enable_d) (list_any (is_declaration_of n) old) (unequal enable n (λ e. p (sym e))) (b.declares n p q);
  drives = λ n. pushed (is_driver_of n) new (Declares enable_d) (list_any (is_driver_of n) old) refl (b.drives n);
  enable_is = list_any-append (is_declaration_of enable) new (Declares enable_d ∷ []) ∙ ap (λ t. t || true) b.enable_is;
  out_is = pushed (is_declaration_of out) new (Declares enable_d) s refl b.out_is;
  undriven_out = pushed (is_driver_of out) new (Declares enable_d) false refl b.undriven_out;
}

put-out : (e : Bool) (old new : List Mention) → Before e false old new → Before e true old (new ++ Declares out_d ∷ [])
put-out e old new b = record {
  declares = λ n p q. pushed (is_declaration_of n) new (Declares out_d) (list_any (is_declaration_of n) old) (unequal out n (λ e. q (sym e))) (b.declares n p q);
  drives = λ n. pushed (is_driver_of n) new (Declares out_d) (list_any (is_driver_of n) old) refl (b.drives n);
  enable_is = pushed (is_declaration_of enable) new (Declares out_d) e refl b.enable_is;
  out_is = list_any-append (is_declaration_of out) new (Declares out_d ∷ []) ∙ ap (λ t. t || true) b.out_is;
  undriven_out = pushed (is_driver_of out) new (Declares out_d) false refl b.undriven_out;
}

abbrev AllKept : List Mention → Type 0
AllKept xs = (x : Mention) → Contains xs x → Kept x

abbrev pub tail : List Mention
tail = Drives false out ∷ Reads enable ∷ []

abbrev wider : List Mention → List Mention → List Mention → List Mention
wider front middle back = front ++ Declares enable_d ∷ (middle ++ Declares out_d ∷ (back ++ tail))

module _ (old_test new_test : List Mention → Mention → Bool)
    (same : (e s : Bool) (old new : List Mention) (x : Mention) → Kept x → Before e s old new → new_test new x ≡ old_test old x)
    (at_enable : (s : Bool) (old new : List Mention) → Before false s old new → new_test new (Declares enable_d) ≡ false)
    (at_out : (e : Bool) (old new : List Mention) → Before e false old new → new_test new (Declares out_d) ≡ false)
    (at_drive : (old new : List Mention) → Before true true old new → new_test new (Drives false out) ≡ false)
    (at_read : (new : List Mention) → list_any (is_declaration_of enable) new ≡ true → new_test new (Reads enable) ≡ false) where
  segment : (part xs ys : List Mention) → AllKept part → (e s : Bool) (old new : List Mention) → Before e s old new
      → ((old' new' : List Mention) → Before e s old' new' → first_fault new_test new' ys ≡ first_fault old_test old' xs)
      → first_fault new_test new (part ++ ys) ≡ first_fault old_test old (part ++ xs)
  segment [] xs ys kept e s old new b rest = rest old new b
  segment (x ∷ part) xs ys kept e s old new b rest =
      let k = kept x (head-in x part) in
      let others = segment part xs ys (λ y c. kept y (there x y part c)) e s (old ++ x ∷ []) (new ++ x ∷ []) (push e s old new x k b) rest in
      (λ i. if same e s old new x k b i then Some (mentioned x) else others i)
    where
      there : (x y : Mention) (part : List Mention) → Contains part y → Contains (x ∷ part) y
      there x y part (j, below, e) = (suc j, omega arith, e)

  ended : (old new : List Mention) → Before true true old new → first_fault new_test new tail ≡ None
  ended old new b =
      let still = pushed (is_declaration_of enable) new (Drives false out) true refl b.enable_is in
      cond-false (new_test new (Drives false out)) (Some out) (first_fault new_test (new ++ Drives false out ∷ []) (Reads enable ∷ [])) (at_drive old new b)
      ∙ cond-false (new_test (new ++ Drives false out ∷ []) (Reads enable)) (Some enable) None (at_read (new ++ Drives false out ∷ []) still)

  wider-same : (front middle back : List Mention) → AllKept front → AllKept middle → AllKept back
      → first_fault new_test [] (wider front middle back) ≡ first_fault old_test [] (front ++ (middle ++ (back ++ [])))
  wider-same front middle back kf km kb =
      segment front (middle ++ (back ++ [])) _ kf false false [] [] begin (λ o1 n1 b1.
      cond-false (new_test n1 (Declares enable_d)) (Some enable) _ (at_enable false o1 n1 b1)
      ∙ segment middle (back ++ []) _ km true false o1 (n1 ++ Declares enable_d ∷ []) (put-enable false o1 n1 b1) (λ o2 n2 b2.
      cond-false (new_test n2 (Declares out_d)) (Some out) _ (at_out true o2 n2 b2)
      ∙ segment back [] tail kb true true o2 (n2 ++ Declares out_d ∷ []) (put-out true o2 n2 b2) (λ o3 n3 b3. ended o3 n3 b3)))

-- ---- declarations and drivers

abbrev named : List ℕ → Declared → Bool
named n d = bytes_eq d.name n

in-tail : (x y : Mention) (part : List Mention) → Contains part y → Contains (x ∷ part) y
in-tail x y part (j, below, e) = (suc j, omega arith, e)

find-kept : (n : List ℕ) (part rest : List Mention) → ((x : Mention) → Contains part x → mentioned x ≢ n)
    → find (named n) (flat_map declared_by (part ++ rest)) ≡ find (named n) (flat_map declared_by rest)
find-kept n [] rest other = refl
find-kept n (Declares d ∷ part) rest other =
    cond-false (bytes_eq d.name n) (Some d) _ (unequal d.name n (other (Declares d) (head-in _ part)))
    ∙ find-kept n part rest (λ y c. other y (in-tail (Declares d) y part c))
find-kept n (Drives c m ∷ part) rest other = find-kept n part rest (λ y h. other y (in-tail (Drives c m) y part h))
find-kept n (Reads m ∷ part) rest other = find-kept n part rest (λ y h. other y (in-tail (Reads m) y part h))
find-kept n (Clocks ∷ part) rest other = find-kept n part rest (λ y h. other y (in-tail Clocks y part h))

find-same : (n : List ℕ) (part xs ys : List Mention) → find (named n) (flat_map declared_by xs) ≡ find (named n) (flat_map declared_by ys)
    → find (named n) (flat_map declared_by (part ++ xs)) ≡ find (named n) (flat_map declared_by (part ++ ys))
find-same n [] xs ys e = e
find-same n (Declares d ∷ part) xs ys e = ap (λ r. if bytes_eq d.name n then Some d else r) (find-same n part xs ys e)
find-same n (Drives c m ∷ part) xs ys e = find-same n part xs ys e
find-same n (Reads m ∷ part) xs ys e = find-same n part xs ys e
find-same n (Clocks ∷ part) xs ys e = find-same n part xs ys e

pub any-front : (test : Mention → Bool) (part xs ys : List Mention) → list_any test xs ≡ list_any test ys → list_any test (part ++ xs) ≡ list_any test (part ++ ys)
any-front test [] xs ys e = e
any-front test (x ∷ part) xs ys e = ap (λ t. test x || t) (any-front test part xs ys e)

any-end : (test : Mention → Bool) (part xs : List Mention) → list_any test xs ≡ true → list_any test (part ++ xs) ≡ true
any-end test [] xs e = e
any-end test (x ∷ part) xs e = ap (λ t. test x || t) (any-end test part xs e) ∙ or-true (test x)

module _ (front middle back : List Mention) where
  declared-same : (n : List ℕ) → n ≢ enable → n ≢ out → find (named n) (flat_map declared_by (wider front middle back)) ≡ find (named n) (flat_map declared_by (front ++ (middle ++ (back ++ []))))
  declared-same n p q =
      find-same n front _ _ (cond-false (bytes_eq enable n) (Some enable_d) _ (unequal enable n (λ e. p (sym e)))
      ∙ find-same n middle _ _ (cond-false (bytes_eq out n) (Some out_d) _ (unequal out n (λ e. q (sym e)))
      ∙ find-same n back tail [] refl))

  out-found : AllKept front → AllKept middle → find (named out) (flat_map declared_by (wider front middle back)) ≡ Some out_d
  out-found kf km = find-kept out front _ (λ x c. (kf x c).1) ∙ find-kept out middle _ (λ x c. (km x c).1)

  drivers-same : (n : List ℕ) → n ≢ out → list_any (is_driver_of n) (wider front middle back) ≡ list_any (is_driver_of n) (front ++ (middle ++ (back ++ [])))
  drivers-same n q =
      any-front (is_driver_of n) front _ _ (any-front (is_driver_of n) middle _ _ (any-front (is_driver_of n) back tail [] (ap (λ t. t || false) (unequal out n (λ e. q (sym e))))))

  out-driven : list_any (is_driver_of out) (wider front middle back) ≡ true
  out-driven = any-end (is_driver_of out) front _ (any-end (is_driver_of out) middle _ (any-end (is_driver_of out) back tail refl))

-- ---- the module

module _ (m o : Module) (small : IsAcyclic m) (fresh : IsFresh m) (opened : IsOpened m o) where
  abbrev declares : Port → Mention
  declares port = Declares (port_declared port)

  abbrev pub front : List Mention
  front = map declares opened.front

  abbrev pub middle : List Mention
  middle = map declares opened.middle

  abbrev pub back : List Mention
  back = map declares opened.back ++ flat_map item_mentions m.items

  pub whole-m : mentions m ≡ front ++ (middle ++ (back ++ []))
  whole-m =
      let items = flat_map item_mentions m.items in
      let last = map declares opened.back in
      ap (λ ports. map declares ports ++ items) opened.were
      ∙ ap (λ xs. xs ++ items) (map-append declares opened.front (opened.middle ++ opened.back) ∙ ap (λ xs. front ++ xs) (map-append declares opened.middle opened.back))
      ∙ append_assoc front (middle ++ last) items
      ∙ ap (λ xs. front ++ xs) (append_assoc middle last items)
      ∙ ap (λ xs. front ++ (middle ++ xs)) (sym (append-nil back))

  items-o : flat_map item_mentions o.items ≡ flat_map item_mentions m.items ++ tail
  items-o =
      ap (flat_map item_mentions) opened.items
      ∙ flat_map-append item_mentions m.items (shows_enable ∷ [])
      ∙ ap (λ ns. flat_map item_mentions m.items ++ Drives false out ∷ (map Reads ns ++ [])) enable-reads

  pub whole-o : mentions o ≡ wider front middle back
  whole-o =
      let items = flat_map item_mentions m.items in
      let last = map declares opened.back in
      (λ i. map declares (opened.ports i) ++ items-o i)
      ∙ ap (λ xs. xs ++ (items ++ tail)) (map-append declares opened.front (bit_input enable ∷ (opened.middle ++ bit_output out ∷ opened.back))
      ∙ ap (λ xs. front ++ Declares enable_d ∷ xs) (map-append declares opened.middle (bit_output out ∷ opened.back)))
      ∙ append_assoc front (Declares enable_d ∷ (middle ++ Declares out_d ∷ last)) (items ++ tail)
      ∙ ap (λ xs. front ++ Declares enable_d ∷ xs) (append_assoc middle (Declares out_d ∷ last) (items ++ tail))
      ∙ ap (λ xs. front ++ Declares enable_d ∷ (middle ++ Declares out_d ∷ xs)) (sym (append_assoc last items tail))

  of-declared : (n : List ℕ) → (d : Declared) × Contains (mentions m) (Declares d) × (d.name ≡ n) → (n ≢ enable) × (n ≢ out)
  of-declared n (d, h, same) =
      let listed = mention-listed m small.driven small.once d h in
      (λ e. fresh.enable d listed (same ∙ e), λ e. fresh.out d listed (same ∙ e))

  kept : (x : Mention) → Contains (mentions m) x → Kept x
  kept (Declares d) h = of-declared d.name (d, h, refl)
  kept (Drives c n) h = of-declared n (driven-declared m small.driven small.once c n h)
  kept (Reads n) h = of-declared n (read-declared m small.driven small.once n h)
  kept Clocks h = (differ (codes "clk") enable refl, differ (codes "clk") out refl)

  kept-in : (x : Mention) → Contains (front ++ (middle ++ (back ++ []))) x → Kept x
  kept-in x h = kept x (subst (λ xs. Contains xs x) (sym whole-m) h)

  kept-front : AllKept front
  kept-front x h = kept-in x (Contains-append_left front (middle ++ (back ++ [])) x h)

  kept-middle : AllKept middle
  kept-middle x h = kept-in x (Contains-append_right front (middle ++ (back ++ [])) x (Contains-append_left middle (back ++ []) x h))

  kept-back : AllKept back
  kept-back x h = kept-in x (Contains-append_right front (middle ++ (back ++ [])) x (Contains-append_right middle (back ++ []) x (Contains-append_left back [] x h)))

  undriven-step : (e s : Bool) (old new : List Mention) (x : Mention) → Kept x → Before e s old new → is_undriven (mentions o) new x ≡ is_undriven (mentions m) old x
  undriven-step e s old new (Declares d) k b =
      ap (λ t. needs_driver d.kind && not t)
      (ap (list_any (is_driver_of d.name)) whole-o ∙ drivers-same front middle back d.name k.1 ∙ ap (list_any (is_driver_of d.name)) (sym whole-m))
  undriven-step e s old new (Drives c n) k b = ap not (b.declares n k.0 k.1)
  undriven-step e s old new (Reads n) k b = ap not (b.declares n k.0 k.1)
  undriven-step e s old new Clocks k b = refl

  declaration-same : (n : List ℕ) → n ≢ enable → n ≢ out → declaration_of o n ≡ declaration_of m n
  declaration-same n p q =
      ap (λ xs. find (named n) (flat_map declared_by xs)) whole-o ∙ declared-same front middle back n p q ∙ ap (λ xs. find (named n) (flat_map declared_by xs)) (sym whole-m)

  declaration-out : declaration_of o out ≡ Some out_d
  declaration-out = ap (λ xs. find (named out) (flat_map declared_by xs)) whole-o ∙ out-found front middle back kept-front kept-middle

  double-step : (e s : Bool) (old new : List Mention) (x : Mention) → Kept x → Before e s old new → is_double o new x ≡ is_double m old x
  double-step e s old new (Declares d) k b = b.declares d.name k.0 k.1
  double-step e s old new (Drives c n) k b = let found = declaration-same n k.0 k.1 in (λ i. b.drives n i || not (may_drive_it c (found i)))
  double-step e s old new (Reads n) k b = refl
  double-step e s old new Clocks k b = refl

  -- ---- loops

  cases-item : (i : ModItem) → Contains o.items i → Contains m.items i ⊎ (i ≡ shows_enable)
  cases-item i h = ⊎_elim (λ a. inl a) (λ b. ⊎_elim (λ e. inr (sym e)) (λ t. absurd (none-in i t)) (cons-cases shows_enable i [] b))
      (Contains-append_cases m.items (shows_enable ∷ []) i (subst (λ xs. Contains xs i) opened.items h))

  -- no assignment is to `clk_enable`
  enable-free : (read : List ℕ) → AssignmentReads o enable read → ⊥
  enable-free read a = ⊎_elim
      (λ h. (kept (Drives false enable) (assign-drives m small.driven small.once enable a.value h)).0 refl)
      (λ e. let same : enable ≡ out = cc e in differ enable out refl same)
      (cases-item (Assign enable a.value) a.assigned)

  -- where the name that is read is assigned, the assignment is of the module
  of-module : (name read next : List ℕ) → AssignmentReads o name read → AssignmentReads o read next → AssignmentReads m name read
  of-module name read next a b = ⊎_elim
      (λ h. record { value = a.value; assigned = h; reads = a.reads })
      (λ e.
      let value : a.value ≡ Name enable = cc e in
      let reads : Contains (enable ∷ []) read = subst (λ ns. Contains ns read) (ap names_read value ∙ enable-reads) a.reads in
      let same : enable ≡ read = ⊎_elim (λ s. s) (λ t. absurd (none-in read t)) (cons-cases enable read [] reads) in
      absurd (enable-free next (subst (λ n. AssignmentReads o n next) (sym same) b)))
      (cases-item (Assign name a.value) a.assigned)

  module _ (first : List ℕ) (others : List (List ℕ)) (loop : IsLoop o first others) where
    abbrev names : List (List ℕ)
    names = first ∷ others

    abbrev next : ℕ → ℕ
    next k = (k + 1) % length names

    next-below : (k : ℕ) → next k < length names
    next-below k = mod_below (k + 1) (length names) (omega arith)

    abbrev InLoop : ℕ → List ℕ → Type 0
    InLoop j name = (k : ℕ) × (k < length names) × (slice_index_or names k [] ≡ name)

    in-loop : (j : ℕ) (name : List ℕ) → InLoop (suc j) name → (read : List ℕ) × AssignmentReads m name read × InLoop j read
    in-loop j name (k, below, e) =
        let read : List ℕ = slice_index_or names (next k) [] in
        let a = of-module (slice_index_or names k []) read (slice_index_or names (next (next k)) []) (loop.reads k below) (loop.reads (next k) (next-below k)) in
        (read, subst (λ n. AssignmentReads m n read) e a, (next k, next-below k, refl))

    no-loop : ⊥
    no-loop = owed-of-none m small.acyclic InLoop in-loop first (0, omega arith, refl)

  pub opened-acyclic : IsAcyclic o
  opened-acyclic = record {
    driven =
        ap (first_fault (is_undriven (mentions o)) []) whole-o
        ∙ wider-same (is_undriven (mentions m)) (is_undriven (mentions o)) undriven-step
        (λ s old new b. refl) (λ e old new b. ap not (ap (list_any (is_driver_of out)) whole-o ∙ out-driven front middle back))
        (λ old new b. ap not b.out_is) (λ new e. ap not e) front middle back kept-front kept-middle kept-back
        ∙ ap (first_fault (is_undriven (mentions m)) []) (sym whole-m) ∙ small.driven;
    once =
        ap (first_fault (is_double o) []) whole-o
        ∙ wider-same (is_double m) (is_double o) double-step
        (λ s old new b. b.enable_is) (λ e old new b. b.out_is)
        (λ old new b. (λ i. b.undriven_out i || not (may_drive_it false (declaration-out i)))) (λ new e. refl) front middle back kept-front kept-middle kept-back
        ∙ ap (first_fault (is_double m) []) (sym whole-m) ∙ small.once;
    acyclic = λ first others loop. no-loop first others loop;
  }

  pub opened-has : HasAllOf m o
  opened-has = record {
    ports = λ port h.
        let h' = subst (λ ps. Contains ps port) opened.were h in
        subst (λ ps. Contains ps port) (sym opened.ports)
        (⊎_elim (λ a. Contains-append_left opened.front _ port a)
        (λ b. Contains-append_right opened.front _ port (in-later (bit_input enable) port _
        (⊎_elim (λ c. Contains-append_left opened.middle _ port c)
        (λ d. Contains-append_right opened.middle _ port (in-later (bit_output out) port _ d))
        (Contains-append_cases opened.middle opened.back port b))))
        (Contains-append_cases opened.front (opened.middle ++ opened.back) port h'));
    items = λ i h. subst (λ xs. Contains xs i) (sym opened.items) (Contains-append_left m.items (shows_enable ∷ []) i h);
  } where
    in-later : (x y : Port) (ports : List Port) → Contains ports y → Contains (x ∷ ports) y
    in-later x y ports (j, below, e) = (suc j, omega arith, e)
