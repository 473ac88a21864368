-- The first condition by parts of a text: what is read or driven is declared before.
use Rattle.std.proofs.Common.{◌≡◌, ℕ, Bool, true, false, not, ◌||◌, ◌&&◌, if◌then◌else◌, List, [], ◌∷◌, ◌++◌, map, Contains, Some, None, refl, sym, ap, subst, ◌∙◌}
use Rattle.std.specs.List.{list_any}
use Rattle.std.proofs.lemmas.Bool.{cond-false, not-false}
use Rattle.std.proofs.lemmas.List.{append_assoc, append-nil}
use Rattle.std.proofs.lemmas.List.Folds.{list_any-append}
use Rattle.vl_ast.specs.declared.modules.Module.{Module}
use Rattle.vl_ast.specs.Nets.{Declared, Mention, Declares, Drives, Reads, Clocks, mentions}
use Rattle.vl_ast.specs.Conditions.{first_fault, is_declaration_of, is_driver_of, is_undriven, mentioned, needs_driver, undriven}
use Rattle.math_list.proofs.Elements.{head-in, tail-in}
use Rattle.st_wrap.specs.inner.Names.{inner_name}
use Rattle.st_wrap.proofs.NameReads.{renamed_mention}
use Rattle.vl_ast.proofs.ClockEnable.{or-true}

-- a place whose name is declared before
abbrev pub IsKnown : List Mention → Mention → Type 0
IsKnown before (Declares d) = Unit {0}
IsKnown before (Drives c n) = list_any (is_declaration_of n) before ≡ true
IsKnown before (Reads n) = list_any (is_declaration_of n) before ≡ true
IsKnown before Clocks = Unit {0}

-- the same of places in order
abbrev pub AreKnown : List Mention → List Mention → Type 0
AreKnown before [] = Unit {0}
AreKnown before (x ∷ xs) = IsKnown before x × AreKnown (before ++ x ∷ []) xs

pub still-declared : (test : Mention → Bool) (before after : List Mention) → list_any test before ≡ true → list_any test (before ++ after) ≡ true
still-declared test before after e = list_any-append test before after ∙ ap (λ b. b || list_any test after) e

pub known-append : (before xs ys : List Mention) → AreKnown before xs → AreKnown (before ++ xs) ys → AreKnown before (xs ++ ys)
known-append before [] ys a b = subst (λ bs. AreKnown bs ys) (append-nil before) b
known-append before (x ∷ xs) ys a b = (a.0, known-append (before ++ x ∷ []) xs ys a.1 (subst (λ bs. AreKnown bs ys) (sym (append_assoc before (x ∷ []) xs)) b))

pub known-right : (before xs ys : List Mention) → AreKnown before (xs ++ ys) → AreKnown (before ++ xs) ys
known-right before [] ys a = subst (λ bs. AreKnown bs ys) (sym (append-nil before)) a
known-right before (x ∷ xs) ys a = subst (λ bs. AreKnown bs ys) (append_assoc before (x ∷ []) xs) (known-right (before ++ x ∷ []) xs ys a.1)

grown : (before : List Mention) (x y : Mention) → IsKnown before y → IsKnown (before ++ x ∷ []) y
grown before x (Declares d) k = tt
grown before x (Drives c n) k = still-declared (is_declaration_of n) before (x ∷ []) k
grown before x (Reads n) k = still-declared (is_declaration_of n) before (x ∷ []) k
grown before x Clocks k = tt

-- places each of whose names is declared before all of them
pub known-each : (before xs : List Mention) → ((x : Mention) → Contains xs x → IsKnown before x) → AreKnown before xs
known-each before [] each = tt
known-each before (x ∷ xs) each = (each x (head-in x xs), known-each (before ++ x ∷ []) xs (λ y c. grown before x y (each y (tail-in x y xs c))))

-- declared names by the names that they have in the wrapper
pub record Renames (old new : List Mention) : Type 0 where
  pub at : (n : List ℕ) → list_any (is_declaration_of n) old ≡ true → list_any (is_declaration_of (inner_name n)) new ≡ true

renames-more : (old new : List Mention) (x : Mention) → Renames old new
    → ((n : List ℕ) → is_declaration_of n x ≡ true → is_declaration_of (inner_name n) (renamed_mention x) ≡ true)
    → Renames (old ++ x ∷ []) (new ++ renamed_mention x ∷ [])
renames-more old new x r one = record {
  at = λ n e. by n (list_any (is_declaration_of n) old) refl (sym (list_any-append (is_declaration_of n) old (x ∷ [])) ∙ e);
} where
  right : (n : List ℕ) → is_declaration_of (inner_name n) (renamed_mention x) ≡ true → list_any (is_declaration_of (inner_name n)) (new ++ renamed_mention x ∷ []) ≡ true
  right n e =
      list_any-append (is_declaration_of (inner_name n)) new (renamed_mention x ∷ [])
      ∙ ap (λ b. list_any (is_declaration_of (inner_name n)) new || (b || false)) e
      ∙ or-true (list_any (is_declaration_of (inner_name n)) new)

  or-other : (a : Bool) → (a || false) ≡ true → a ≡ true
  or-other true e = refl
  or-other false e = e

  by : (n : List ℕ) (b : Bool) → list_any (is_declaration_of n) old ≡ b → (list_any (is_declaration_of n) old || (is_declaration_of n x || false)) ≡ true
      → list_any (is_declaration_of (inner_name n)) (new ++ renamed_mention x ∷ []) ≡ true
  by n true s e = still-declared (is_declaration_of (inner_name n)) new (renamed_mention x ∷ []) (r.at n s)
  by n false s e = right n (one n (or-other (is_declaration_of n x) (sym (ap (λ b. b || (is_declaration_of n x || false)) s) ∙ e)))

module _ (one : (d : Declared) (n : List ℕ) → is_declaration_of n (Declares d) ≡ true → is_declaration_of (inner_name n) (renamed_mention (Declares d)) ≡ true) where
  one-more : (x : Mention) (n : List ℕ) → is_declaration_of n x ≡ true → is_declaration_of (inner_name n) (renamed_mention x) ≡ true
  one-more (Declares d) n e = one d n e
  one-more (Drives c m) n e = absurd (cc e)
  one-more (Reads m) n e = absurd (cc e)
  one-more Clocks n e = absurd (cc e)

  known-one : (old new : List Mention) (x : Mention) → Renames old new → IsKnown old x → IsKnown new (renamed_mention x)
  known-one old new (Declares d) r k = tt
  known-one old new (Drives c n) r k = r.at n k
  known-one old new (Reads n) r k = r.at n k
  known-one old new Clocks r k = tt

  pub known-renamed : (old new xs : List Mention) → Renames old new → AreKnown old xs → AreKnown new (map renamed_mention xs)
  known-renamed old new [] r k = tt
  known-renamed old new (x ∷ xs) r k =
      (known-one old new x r k.0, known-renamed (old ++ x ∷ []) (new ++ renamed_mention x ∷ []) xs (renames-more old new x r (one-more x)) k.1)

-- ---- the condition

driven-of : (all before : List Mention) (x : Mention) → is_undriven all before x ≡ false → IsKnown before x
driven-of all before (Declares d) e = tt
driven-of all before (Drives c n) e = not-false (list_any (is_declaration_of n) before) e
driven-of all before (Reads n) e = not-false (list_any (is_declaration_of n) before) e
driven-of all before Clocks e = tt

-- where no place is at fault, each is known
pub known-of : (all before xs : List Mention) → first_fault (is_undriven all) before xs ≡ None → AreKnown before xs
known-of all before [] e = tt
known-of all before (x ∷ xs) e = by (known-of all (before ++ x ∷ []) xs) (is_undriven all before x) refl e where
  by : (first_fault (is_undriven all) (before ++ x ∷ []) xs ≡ None → AreKnown (before ++ x ∷ []) xs) → (b : Bool)
      → is_undriven all before x ≡ b
      → (if b then Some (mentioned x) else first_fault (is_undriven all) (before ++ x ∷ []) xs) ≡ None
      → IsKnown before x × AreKnown (before ++ x ∷ []) xs
  by rest true s f = absurd (cc f)
  by rest false s f = (driven-of all before x s, rest f)

module _ (o : Module) (has : (d : Declared) → Contains (mentions o) (Declares d) → needs_driver d.kind ≡ true → list_any (is_driver_of d.name) (mentions o) ≡ true) where
  sound-place : (before : List Mention) (x : Mention) → Contains (mentions o) x → IsKnown before x → is_undriven (mentions o) before x ≡ false
  sound-place before (Declares d) h k = by (needs_driver d.kind) refl where
    by : (b : Bool) → needs_driver d.kind ≡ b → (b && not (list_any (is_driver_of d.name) (mentions o))) ≡ false
    by true e = ap not (has d h e)
    by false e = refl
  sound-place before (Drives c n) h k = ap not k
  sound-place before (Reads n) h k = ap not k
  sound-place before Clocks h k = refl

  none-from : (before xs : List Mention) → ((x : Mention) → Contains xs x → Contains (mentions o) x) → AreKnown before xs → first_fault (is_undriven (mentions o)) before xs ≡ None
  none-from before [] within k = refl
  none-from before (x ∷ xs) within k =
      cond-false (is_undriven (mentions o) before x) (Some (mentioned x)) _ (sound-place before x (within x (head-in x xs)) k.0)
      ∙ none-from (before ++ x ∷ []) xs (λ y c. within y (tail-in x y xs c)) k.1

  pub undriven-none : AreKnown [] (mentions o) → undriven o ≡ None
  undriven-none k = none-from [] (mentions o) (λ x c. c) k
