-- A gated module breaks no condition that the module itself doesn't break.
use Rattle.std.proofs.Common.{◌≡◌, ◌<◌, ◌+◌, ◌%◌, ◌⊎◌, inl, inr, ℕ, suc, nat_le, Bool, true, false, not, ◌&&◌, ◌||◌, if◌then◌else◌, List, [], ◌∷◌, ◌++◌, map, flat_map, find, length, slice_index_or}
use Rattle.std.proofs.Common.{Contains, bytes_eq, codes, Option, Some, None, option_map, refl, sym, ap, subst, ◌∙◌, arith}
use Rattle.std.specs.List.{list_any}
use Rattle.std.proofs.lemmas.List.{append_assoc, append-nil}
use Rattle.std.proofs.lemmas.List.Folds.{list_any-from_Any, list_any-append}
use Rattle.std.proofs.lemmas.Bool.{cond-false}
use Rattle.std.proofs.lemmas.Nat.{mod_below}
use Rattle.std.proofs.lemmas.Slice.Eq.{bytes_eq-Decides}
use Rattle.vl_ast.specs.declared.expressions.BinOp.TheVariants.{Both}
use Rattle.vl_ast.specs.declared.expressions.Expr.{Expr}
use Rattle.vl_ast.specs.declared.expressions.Expr.TheOpen.{Expr-F}
use Rattle.vl_ast.specs.declared.expressions.Expr.TheVariants.{Name, Binary, rolls-Name, rolls-Binary}
use Rattle.vl_ast.specs.declared.expressions.Expr.TheFolds.{para-roll-Expr, fold-roll-Expr}
use Rattle.vl_ast.specs.declared.modules.ModItem.{ModItem}
use Rattle.vl_ast.specs.declared.modules.ModItem.TheVariants.{Wire, Reg, Assign, Always}
use Rattle.vl_ast.specs.declared.modules.Module.{Module}
use Rattle.vl_ast.specs.Conditions.{first_fault, mentioned, is_undriven, is_double, is_declaration_of, is_driver_of, is_read_of, needs_driver, may_drive_it, AssignmentReads, IsLoop, IsAcyclic}
use Rattle.vl_ast.specs.Conditions.{is_number, is_sound_step, is_sound, is_sound_condition, is_sound_item, item_name, is_width, too_wide, is_clk_at_fault, is_reset_at_fault, no_reset, BreaksNone}
use Rattle.vl_ast.specs.Control.{is_bit_input, is_stallable}
use Rattle.vl_ast.specs.Gated.{gated, gated_item, gated_condition}
use Rattle.vl_ast.specs.Context.{Net}
use Rattle.vl_ast.specs.Nets.{Declared, Mention, Declares, Drives, Reads, Clocks, port_declared, mentions, item_mentions, declaration_of, nets_of, condition_names, names_read, names_step, place_of}
use Rattle.vl_ast.proofs.Agree.{ByLayer}
use Rattle.vl_ast.proofs.Chains.{owed-of-none}
use Rattle.vl_ast.proofs.Facts.{in-port}
use Rattle.vl_ast.proofs.Gates.{enable, gated-declares, gated-nets}
use Rattle.math_list.proofs.Elements.{map-in, from-map}
use Rattle.vl_ast.proofs.OneRun.{net-is}
use Rattle.vl_ast.proofs.StallFree.{bit-port}
use Rattle.vl_ast.proofs.Values.{own_length-roll}

-- ---- the same places of names, with `clk_enable` read at some more

abbrev Spread : List Mention → List Mention → Type 0
Spread xs [] = xs ≡ []
Spread xs (y ∷ ys) = ((y ≡ Reads enable) × Spread xs ys) ⊎ ((rest : List Mention) × (xs ≡ y ∷ rest) × Spread rest ys)

spread-same : (xs : List Mention) → Spread xs xs
spread-same [] = refl
spread-same (x ∷ xs) = inr (xs, refl, spread-same xs)

spread-append : (ys xs : List Mention) → Spread xs ys → (xs' ys' : List Mention) → Spread xs' ys' → Spread (xs ++ xs') (ys ++ ys')
spread-append [] xs e xs' ys' t = subst (λ zs. Spread (zs ++ xs') ys') (sym e) t
spread-append (y ∷ ys) xs (inl s) xs' ys' t = inl (s.0, spread-append ys xs s.1 xs' ys' t)
spread-append (y ∷ ys) xs (inr s) xs' ys' t = inr (s.0 ++ xs', ap (λ zs. zs ++ xs') s.1, spread-append ys s.0 s.2 xs' ys' t)

pub enable-reads : names_read (Name enable) ≡ enable ∷ []
enable-reads = ap names_read (sym (rolls-Name enable)) ∙ fold-roll-Expr (List (List ℕ)) names_step (Expr-F.Name enable)

condition-reads : (condition : Option Expr) → names_read (gated_condition condition) ≡ enable ∷ condition_names condition
condition-reads None = enable-reads
condition-reads (Some condition) =
    ap names_read (sym (rolls-Binary Both (Name enable) condition)) ∙ fold-roll-Expr (List (List ℕ)) names_step (Expr-F.Binary Both (Name enable) condition)
    ∙ ap (λ ns. ns ++ names_read condition) enable-reads

item-spread : (item : ModItem) → Spread (item_mentions item) (item_mentions (gated_item item))
item-spread (Wire signed width name) = spread-same (item_mentions (Wire signed width name))
item-spread (Reg signed width name) = spread-same (item_mentions (Reg signed width name))
item-spread (Assign name value) = spread-same (item_mentions (Assign name value))
item-spread (Always name first condition value) =
    subst (λ (ns : List (List ℕ)). Spread (item_mentions (Always name first condition value)) (Clocks ∷ Drives true name ∷ map Reads (ns ++ names_read value))) (sym (condition-reads condition))
    (inr (_, refl, inr (_, refl, inl (refl, spread-same (map Reads (condition_names condition ++ names_read value))))))

items-spread : (items : List ModItem) → Spread (flat_map item_mentions items) (flat_map item_mentions (map gated_item items))
items-spread [] = refl
items-spread (item ∷ items) = spread-append (item_mentions (gated_item item)) (item_mentions item) (item-spread item) _ _ (items-spread items)

abbrev port_mentions : Module → List Mention
port_mentions m = map (λ port. Declares (port_declared port)) m.ports

mentions-spread : (m : Module) → Spread (mentions m) (mentions (gated m))
mentions-spread m = spread-append (port_mentions m) (port_mentions m) (spread-same (port_mentions m)) _ _ (items-spread m.items)

any-spread : (test : Mention → Bool) → test (Reads enable) ≡ false → (ys xs : List Mention) → Spread xs ys → list_any test ys ≡ list_any test xs
any-spread test off [] xs e = ap (list_any test) (sym e)
any-spread test off (y ∷ ys) xs (inl s) = ap (λ x. test x || list_any test ys) s.0 ∙ ap (λ t. t || list_any test ys) off ∙ any-spread test off ys xs s.1
any-spread test off (y ∷ ys) xs (inr s) = ap (λ r. test y || r) (any-spread test off ys s.0 s.2) ∙ ap (list_any test) (sym s.1)

-- ---- the first two conditions

record Before (old new : List Mention) : Type 0 where
  spread : Spread old new
  there : list_any (is_declaration_of enable) new ≡ true

more : (xs ys : List Mention) → list_any (is_declaration_of enable) xs ≡ true → list_any (is_declaration_of enable) (xs ++ ys) ≡ true
more xs ys e = list_any-append (is_declaration_of enable) xs ys ∙ ap (λ t. t || list_any (is_declaration_of enable) ys) e

before-keep : (old new : List Mention) (x : Mention) → Before old new → Before (old ++ x ∷ []) (new ++ x ∷ [])
before-keep old new x b = record { spread = spread-append new old b.spread (x ∷ []) (x ∷ []) (spread-same (x ∷ [])); there = more new (x ∷ []) b.there }

before-put : (old new : List Mention) → Before old new → Before old (new ++ Reads enable ∷ [])
before-put old new b = record {
  spread = subst (λ xs. Spread xs (new ++ Reads enable ∷ [])) (append-nil old) (spread-append new old b.spread [] (Reads enable ∷ []) (inl (refl, refl)));
  there = more new (Reads enable ∷ []) b.there;
}

module _ (old_test new_test : List Mention → Mention → Bool) (same : (old new : List Mention) (x : Mention) → Spread old new → new_test new x ≡ old_test old x)
    (put : (new : List Mention) → list_any (is_declaration_of enable) new ≡ true → new_test new (Reads enable) ≡ false) where
  fault-spread : (ys xs old new : List Mention) → Before old new → Spread xs ys → first_fault new_test new ys ≡ first_fault old_test old xs
  fault-spread [] xs old new b e = ap (first_fault old_test old) (sym e)
  fault-spread (y ∷ ys) xs old new b (inl s) =
      ap (λ x. first_fault new_test new (x ∷ ys)) s.0
      ∙ cond-false (new_test new (Reads enable)) (Some (mentioned (Reads enable))) (first_fault new_test (new ++ Reads enable ∷ []) ys) (put new b.there)
      ∙ fault-spread ys xs old (new ++ Reads enable ∷ []) (before-put old new b) s.1
  fault-spread (y ∷ ys) xs old new b (inr s) =
      (λ i. if same old new y b.spread i then Some (mentioned y) else fault-spread ys s.0 (old ++ y ∷ []) (new ++ y ∷ []) (before-keep old new y b) s.2 i)
      ∙ ap (first_fault old_test old) (sym s.1)

  fault-front : (front xs ys before : List Mention) → first_fault new_test (before ++ front) ys ≡ first_fault old_test (before ++ front) xs
      → first_fault new_test before (front ++ ys) ≡ first_fault old_test before (front ++ xs)
  fault-front [] xs ys before e = subst (λ b. first_fault new_test b ys ≡ first_fault old_test b xs) (append-nil before) e
  fault-front (x ∷ front) xs ys before e =
      let rest = fault-front front xs ys (before ++ x ∷ []) (subst (λ b. first_fault new_test b ys ≡ first_fault old_test b xs) (sym (append_assoc before (x ∷ []) front)) e) in
      (λ i. if same before before x (spread-same before) i then Some (mentioned x) else rest i)

  fault-same : (m : Module) → list_any (is_declaration_of enable) (port_mentions m) ≡ true → first_fault new_test [] (mentions (gated m)) ≡ first_fault old_test [] (mentions m)
  fault-same m there = fault-front (port_mentions m) _ _ []
      (fault-spread (flat_map item_mentions (map gated_item m.items)) (flat_map item_mentions m.items) (port_mentions m) (port_mentions m)
      (record { spread = spread-same (port_mentions m); there = there }) (items-spread m.items))

undriven-step : (m : Module) (old new : List Mention) (x : Mention) → Spread old new → is_undriven (mentions (gated m)) new x ≡ is_undriven (mentions m) old x
undriven-step m old new (Declares d) s = ap (λ t. needs_driver d.kind && not t) (any-spread (is_driver_of d.name) refl (mentions (gated m)) (mentions m) (mentions-spread m))
undriven-step m old new (Drives c name) s = ap not (any-spread (is_declaration_of name) refl new old s)
undriven-step m old new (Reads name) s = ap not (any-spread (is_declaration_of name) refl new old s)
undriven-step m old new Clocks s = refl

double-step : (m : Module) (old new : List Mention) (x : Mention) → Spread old new → is_double (gated m) new x ≡ is_double m old x
double-step m old new (Declares d) s = any-spread (is_declaration_of d.name) refl new old s
double-step m old new (Drives c name) s =
    let found : declaration_of (gated m) name ≡ declaration_of m name = ap (λ (ds : List Declared). find (λ declared. bytes_eq declared.name name) ds) (gated-declares m) in
    (λ i. any-spread (is_driver_of name) refl new old s i || not (may_drive_it c (found i)))
double-step m old new (Reads name) s = refl
double-step m old new Clocks s = refl

-- ---- loops

of-assign : (item : ModItem) (name : List ℕ) (value : Expr) → gated_item item ≡ Assign name value → item ≡ Assign name value
of-assign (Wire signed width n) name value e = e
of-assign (Reg signed width n) name value e = e
of-assign (Assign n v) name value e = e
of-assign (Always n f c v) name value e = absurd (cc e)

assignment-back : (m : Module) (name read : List ℕ) → AssignmentReads (gated m) name read → AssignmentReads m name read
assignment-back m name read a =
    let i = from-map gated_item m.items (Assign name a.value) a.assigned in
    record { value = a.value; assigned = subst (λ x. Contains m.items x) (of-assign i.0 name a.value i.2) i.1; reads = a.reads }

module _ (m : Module) (none : (first : List ℕ) (others : List (List ℕ)) → ¬ IsLoop m first others) (first : List ℕ) (others : List (List ℕ)) (loop : IsLoop (gated m) first others) where
  abbrev names : List (List ℕ)
  names = first ∷ others

  abbrev InLoop : ℕ → List ℕ → Type 0
  InLoop j name = (k : ℕ) × (k < length names) × (slice_index_or names k [] ≡ name)

  in-loop : (j : ℕ) (name : List ℕ) → InLoop (suc j) name → (next : List ℕ) × AssignmentReads m name next × InLoop j next
  in-loop j name (k, below, e) =
      let next : List ℕ = slice_index_or names ((k + 1) % length names) [] in (
        next,
        subst (λ n. AssignmentReads m n next) e (assignment-back m (slice_index_or names k []) next (loop.reads k below)),
        ((k + 1) % length names, mod_below (k + 1) (length names) (omega arith), refl),
      )

  no-loop : ⊥
  no-loop = owed-of-none m none InLoop in-loop first (0, omega arith, refl)

-- ---- widths

and-true : (b : Bool) → (b && true) ≡ b
and-true true = refl
and-true false = refl

module _ (nets : List ℕ → Net) (one : (nets enable).width ≡ 1) where
  pub sound-enable : is_sound nets (Name enable) ≡ true
  sound-enable =
      ap (is_sound nets) (sym (rolls-Name enable))
      ∙ (λ i. para-roll-Expr Bool (is_sound_step nets) (Expr-F.Name enable) i && nat_le (own_length-roll nets (Expr-F.Name enable) i) 128)
      ∙ ap (λ w. nat_le w 128) one

  sound-both : (condition : Expr) → is_sound nets (Binary Both (Name enable) condition) ≡ is_sound nets condition
  sound-both condition =
      ap (is_sound nets) (sym (rolls-Binary Both (Name enable) condition))
      ∙ (λ i. para-roll-Expr Bool (is_sound_step nets) (Expr-F.Binary Both (Name enable) condition) i && nat_le (own_length-roll nets (Expr-F.Binary Both (Name enable) condition) i) 128)
      ∙ and-true (is_sound nets (Name enable) && is_sound nets condition)
      ∙ ap (λ t. t && is_sound nets condition) sound-enable

  sound-condition : (condition : Option Expr) → is_sound_condition nets (Some (gated_condition condition)) ≡ is_sound_condition nets condition
  sound-condition None = sound-enable
  sound-condition (Some condition) = sound-both condition

  sound-item : (item : ModItem) → is_sound_item nets (gated_item item) ≡ is_sound_item nets item
  sound-item (Wire signed width name) = refl
  sound-item (Reg signed width name) = refl
  sound-item (Assign name value) = refl
  sound-item (Always name first condition value) = ap (λ c. is_number first && c && is_sound nets value) (sound-condition condition)

  name-item : (item : ModItem) → item_name (gated_item item) ≡ item_name item
  name-item (Wire signed width name) = refl
  name-item (Reg signed width name) = refl
  name-item (Assign name value) = refl
  name-item (Always name first condition value) = refl

  abbrev soundness_of : ModItem → List ℕ × Bool
  soundness_of item = (item_name item, is_sound_item nets item)

  sound-items : (items : List ModItem) → map soundness_of (map gated_item items) ≡ map soundness_of items
  sound-items [] = refl
  sound-items (item ∷ items) = (λ i. (name-item item i, sound-item item i) ∷ sound-items items i)

abbrev pub soundness_by : (List ℕ → Net) → ModItem → List ℕ × Bool
soundness_by nets item = (item_name item, is_sound_item nets item)

abbrev wide-by : List (List ℕ × Bool) → List (List ℕ × Bool) → Option (List ℕ)
wide-by ports items = option_map (λ part. part.0) (find (λ part. not part.1) (ports ++ items))

too_wide-same : (m : Module) → (nets_of m enable).width ≡ 1 → too_wide (gated m) ≡ too_wide m
too_wide-same m one =
    let ports : List (List ℕ × Bool) = map (λ port. (port.name, is_width port.width)) m.ports in
    ap (λ (nets : List ℕ → Net). wide-by ports (map (soundness_by nets) (map gated_item m.items))) (gated-nets m)
    ∙ ap (wide-by ports) (sound-items (nets_of m) one m.items)

-- ---- `clk` and `reset`

pub neither : (name : List ℕ) (clk reset : Bool) → (if clk && reset then Some name else (if clk then Some (codes "clk") else (if reset then Some (codes "reset") else None))) ≡ None
    → (clk ≡ false) × (reset ≡ false)
neither name true true e = absurd (cc e)
neither name true false e = absurd (cc e)
neither name false true e = absurd (cc e)
neither name false false e = (refl, refl)

pub no_reset-same : (m : Module) → no_reset m ≡ None → no_reset (gated m) ≡ None
no_reset-same m e =
    let n = neither (if nat_le (place_of m (codes "clk")) (place_of m (codes "reset")) then codes "clk" else codes "reset") (is_clk_at_fault m) (is_reset_at_fault m) e in
    let clk : is_clk_at_fault (gated m) ≡ false =
    ap (λ t. not (list_any (is_bit_input (codes "clk")) m.ports) || t) (any-spread (is_read_of (codes "clk")) refl (mentions (gated m)) (mentions m) (mentions-spread m)) ∙ n.0 in
    (λ i. if clk i && n.1 i then Some (if nat_le (place_of (gated m) (codes "clk")) (place_of (gated m) (codes "reset")) then codes "clk" else codes "reset")
    else (if clk i then Some (codes "clk") else (if n.1 i then Some (codes "reset") else None)))

-- ---- all of them

module _ (by_layer : ByLayer) (m : Module) (acyclic : IsAcyclic m) (stallable : is_stallable m ≡ true) where
  pub enable-net : nets_of m enable ≡ record { width = 1; signed = false }
  enable-net =
      let p = bit-port enable m.ports stallable in
      let net = net-is by_layer m acyclic.driven acyclic.once acyclic.acyclic (port_declared p.0) (in-port m acyclic.driven acyclic.once p.0 p.1) in
      ap (nets_of m) (sym p.2) ∙ net ∙ (λ i. record { width = p.4 i; signed = p.5 i })

  enable-declared : list_any (is_declaration_of enable) (port_mentions m) ≡ true
  enable-declared =
      let p = bit-port enable m.ports stallable in
      let c = map-in (λ port. Declares (port_declared port)) m.ports p.0 p.1 in
      list_any-from_Any (is_declaration_of enable) (port_mentions m) (c.0, Declares (port_declared p.0), c.1, c.2, (bytes_eq-Decides p.0.name enable).1 p.2)

  pub gated-acyclic : IsAcyclic (gated m)
  gated-acyclic = record {
    driven = fault-same (is_undriven (mentions m)) (is_undriven (mentions (gated m))) (undriven-step m) (λ new there. ap not there) m enable-declared ∙ acyclic.driven;
    once = fault-same (is_double m) (is_double (gated m)) (double-step m) (λ new there. refl) m enable-declared ∙ acyclic.once;
    acyclic = λ first others loop. no-loop m acyclic.acyclic first others loop;
  }

pub gated-breaks-none : (by_layer : ByLayer) (m : Module) → is_stallable m ≡ true → BreaksNone m → BreaksNone (gated m)
gated-breaks-none by_layer m stallable b = record {
  acyclic = gated-acyclic by_layer m b.acyclic stallable;
  narrow = too_wide-same m (ap (λ (net : Net). net.width) (enable-net by_layer m b.acyclic stallable)) ∙ b.narrow;
  clocked = no_reset-same m b.clocked;
  attributed = b.attributed;
}
