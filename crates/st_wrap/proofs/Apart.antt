-- Lists in which nothing stands twice, and what that gives of a module's second condition.
use Rattle.std.proofs.Common.{◌≡◌, ℕ, ⊎_elim, Bool, true, false, not, ◌||◌, List, [], ◌∷◌, ◌++◌, map, flat_map, find, Contains, bytes_eq, Some, None, refl, sym, ap, subst, ◌∙◌}
use Rattle.std.specs.List.{list_any}
use Rattle.std.proofs.lemmas.Bool.{cases_Bool, cond-false, cond-true, false≢true, or_parts}
use Rattle.std.proofs.lemmas.List.{append_assoc}
use Rattle.std.proofs.lemmas.List.Concat.{flat_map-append}
use Rattle.std.proofs.lemmas.List.Elements.{Contains-append_left, Contains-append_right, Contains-append_cases}
use Rattle.std.proofs.lemmas.Slice.Eq.{bytes_eq-Decides}
use Rattle.vl_ast.specs.declared.modules.Module.{Module}
use Rattle.vl_ast.specs.Nets.{Declared, Mention, Declares, Drives, Reads, Clocks, declared_by, declaration_of, mentions}
use Rattle.vl_ast.specs.Conditions.{doubly, first_fault, is_declaration_of, is_double, is_driver_of, may_drive_it, mentioned, undriven}
use Rattle.vl_ast.proofs.Facts.{fault-free, no-earlier-declaration}
use Rattle.math_list.proofs.Elements.{Cut, cons-cases, cut-at, flat-in, from-flat, from-map, head-in, map-in, none-in, tail-in}
use Rattle.math_list.proofs.Places.{seen}
use Rattle.math_list.proofs.Tests.{same_bytes, unequal}

-- nothing stands twice
abbrev pub Apart : {A : Type 0} → List A → Type 0
Apart [] = Unit {0}
Apart (x ∷ xs) = (Contains xs x → ⊥) × Apart xs

pub apart-append : {A : Type 0} (xs ys : List A) → Apart xs → Apart ys → ((x : A) → Contains xs x → Contains ys x → ⊥) → Apart (xs ++ ys)
apart-append [] ys a b other = b
apart-append (x ∷ xs) ys a b other = (
  (λ h. ⊎_elim (λ l. a.0 l) (λ r. other x (head-in x xs) r) (Contains-append_cases xs ys x h)),
  apart-append xs ys a.1 b (λ z c d. other z (tail-in x z xs c) d),
)

pub apart-map : {A B : Type 0} (f : A → B) (xs : List A) → ((x y : A) → Contains xs x → Contains xs y → f x ≡ f y → x ≡ y) → Apart xs → Apart (map f xs)
apart-map f [] one a = tt
apart-map f (x ∷ xs) one a = (
  (λ h. let r = from-map f xs (f x) h in a.0 (subst (λ z. Contains xs z) (one r.0 x (tail-in x r.0 xs r.1) (head-in x xs) r.2) r.1)),
  apart-map f xs (λ y z c d. one y z (tail-in x y xs c) (tail-in x z xs d)) a.1,
)

-- lists made of elements that a key tells apart
pub apart-flat : {A B K : Type 0} (f : A → List B) (key : A → K) (xs : List A) → ((x : A) → Contains xs x → Apart (f x))
    → ((x y : A) (b : B) → Contains xs x → Contains xs y → Contains (f x) b → Contains (f y) b → key x ≡ key y) → Apart (map key xs) → Apart (flat_map f xs)
apart-flat f key [] each one a = tt
apart-flat f key (x ∷ xs) each one a =
    apart-append (f x) (flat_map f xs) (each x (head-in x xs))
    (apart-flat f key xs (λ y c. each y (tail-in x y xs c)) (λ y z b c d. one y z b (tail-in x y xs c) (tail-in x z xs d)) a.1)
    (λ b c d. let r = from-flat f xs b d in
    a.0 (subst (λ k. Contains (map key xs) k) (sym (one x r.0 b (head-in x xs) (tail-in x r.0 xs r.1) c r.2)) (map-in key xs r.0 r.1)))

pub apart-cut : {A : Type 0} (xs ys : List A) (x : A) → Apart (xs ++ x ∷ ys) → Contains xs x → ⊥
apart-cut [] ys x a h = none-in x h
apart-cut (z ∷ xs) ys x a h = ⊎_elim
    (λ e. a.0 (subst (λ w. Contains (xs ++ x ∷ ys) w) (sym e) (Contains-append_right xs (x ∷ ys) x (head-in x ys))))
    (λ t. apart-cut xs ys x a.1 t)
    (cons-cases z x xs h)

-- parts of a list in which nothing stands twice
pub apart-left : {A : Type 0} (xs ys : List A) → Apart (xs ++ ys) → Apart xs
apart-left [] ys a = tt
apart-left (x ∷ xs) ys a = ((λ h. a.0 (Contains-append_left xs ys x h)), apart-left xs ys a.1)

pub apart-right : {A : Type 0} (xs ys : List A) → Apart (xs ++ ys) → Apart ys
apart-right [] ys a = a
apart-right (x ∷ xs) ys a = apart-right xs ys a.1

pub apart-between : {A : Type 0} (xs ys : List A) (x : A) → Apart (xs ++ ys) → Contains xs x → Contains ys x → ⊥
apart-between [] ys x a h k = none-in x h
apart-between (z ∷ xs) ys x a h k = ⊎_elim
    (λ e. a.0 (subst (λ w. Contains (xs ++ ys) w) (sym e) (Contains-append_right xs ys x k)))
    (λ t. apart-between xs ys x a.1 t k)
    (cons-cases z x xs h)

-- ---- names in the places of a text

abbrev pub declared_names : Mention → List (List ℕ)
declared_names (Declares d) = d.name ∷ []
declared_names (Drives clocked name) = []
declared_names (Reads name) = []
declared_names Clocks = []

abbrev pub driven_names : Mention → List (List ℕ)
driven_names (Declares d) = []
driven_names (Drives clocked name) = name ∷ []
driven_names (Reads name) = []
driven_names Clocks = []

-- a name that a test sees stands in the list
any-declared : (n : List ℕ) (xs : List Mention) → list_any (is_declaration_of n) xs ≡ true → Contains (flat_map declared_names xs) n
any-declared n [] e = absurd (false≢true e)
any-declared n (Declares d ∷ xs) e = by (any-declared n xs) (bytes_eq d.name n) refl e where
  by : (list_any (is_declaration_of n) xs ≡ true → Contains (flat_map declared_names xs) n) → (b : Bool)
      → bytes_eq d.name n ≡ b → (b || list_any (is_declaration_of n) xs) ≡ true
      → Contains (d.name ∷ flat_map declared_names xs) n
  by rest true s f = subst (λ z. Contains (d.name ∷ flat_map declared_names xs) z) ((bytes_eq-Decides d.name n).0 s) (head-in d.name (flat_map declared_names xs))
  by rest false s f = tail-in d.name n (flat_map declared_names xs) (rest f)
any-declared n (Drives c m ∷ xs) e = any-declared n xs e
any-declared n (Reads m ∷ xs) e = any-declared n xs e
any-declared n (Clocks ∷ xs) e = any-declared n xs e

any-driven : (n : List ℕ) (xs : List Mention) → list_any (is_driver_of n) xs ≡ true → Contains (flat_map driven_names xs) n
any-driven n [] e = absurd (false≢true e)
any-driven n (Declares d ∷ xs) e = any-driven n xs e
any-driven n (Drives c m ∷ xs) e = by (any-driven n xs) (bytes_eq m n) refl e where
  by : (list_any (is_driver_of n) xs ≡ true → Contains (flat_map driven_names xs) n) → (b : Bool) → bytes_eq m n ≡ b
      → (b || list_any (is_driver_of n) xs) ≡ true → Contains (m ∷ flat_map driven_names xs) n
  by rest true s f = subst (λ z. Contains (m ∷ flat_map driven_names xs) z) ((bytes_eq-Decides m n).0 s) (head-in m (flat_map driven_names xs))
  by rest false s f = tail-in m n (flat_map driven_names xs) (rest f)
any-driven n (Reads m ∷ xs) e = any-driven n xs e
any-driven n (Clocks ∷ xs) e = any-driven n xs e

-- ---- the second condition

declared-same : (d e : Declared) → Declares d ≡ Declares e → d ≡ e
declared-same d e p = ap (λ x. or_this d x) p where
  or_this : Declared → Mention → Declared
  or_this d (Declares e) = e
  or_this d (Drives c m) = d
  or_this d (Reads m) = d
  or_this d Clocks = d

-- the declaration of a name, where each name is declared once
find-one : (n : List ℕ) (xs : List Mention) (d : Declared) → Apart (flat_map declared_names xs) → Contains xs (Declares d) → d.name ≡ n
    → find (λ (e : Declared). bytes_eq e.name n) (flat_map declared_by xs) ≡ Some d
find-one n [] d a h s = absurd (none-in (Declares d) h)
find-one n (Declares e ∷ xs) d a h s = ⊎_elim
    (λ q. let one : e ≡ d = declared-same e d q in cond-true (bytes_eq e.name n) (Some e) _ ((bytes_eq-Decides e.name n).1 (ap (λ (x : Declared). x.name) one ∙ s)) ∙ ap Some one)
    (λ t.
    let other : bytes_eq e.name n ≡ false =
    unequal e.name n (λ q. a.0 (subst (λ z. Contains (flat_map declared_names xs) z) (s ∙ sym q)
    (flat-in declared_names xs (Declares d) d.name t (head-in d.name [])))) in
    cond-false (bytes_eq e.name n) (Some e) _ other ∙ find-one n xs d a.1 t s)
    (cons-cases (Declares e) (Declares d) xs h)
find-one n (Drives c m ∷ xs) d a h s = find-one n xs d a (⊎_elim (λ q. absurd (cc q)) (λ t. t) (cons-cases (Drives c m) (Declares d) xs h)) s
find-one n (Reads m ∷ xs) d a h s = find-one n xs d a (⊎_elim (λ q. absurd (cc q)) (λ t. t) (cons-cases (Reads m) (Declares d) xs h)) s
find-one n (Clocks ∷ xs) d a h s = find-one n xs d a (⊎_elim (λ q. absurd (cc q)) (λ t. t) (cons-cases Clocks (Declares d) xs h)) s

-- no fault where none is at a place, by what stands before it
pub no-faults : (test : List Mention → Mention → Bool) (all before rest : List Mention) → all ≡ before ++ rest
    → ((front after : List Mention) (here : Mention) → all ≡ front ++ here ∷ after → test front here ≡ false) → first_fault test before rest ≡ None
no-faults test all before [] whole free = refl
no-faults test all before (here ∷ after) whole free =
    cond-false (test before here) (Some (mentioned here)) _ (free before after here whole)
    ∙ no-faults test all (before ++ here ∷ []) after (whole ∙ sym (append_assoc before (here ∷ []) after)) free

module _ (o : Module) (declared-once : Apart (flat_map declared_names (mentions o))) (driven-once : Apart (flat_map driven_names (mentions o))) where
  pub one-declaration : (d : Declared) → Contains (mentions o) (Declares d) → declaration_of o d.name ≡ Some d
  one-declaration d h = find-one d.name (mentions o) d declared-once h refl

  module _ (may : (c : Bool) (n : List ℕ) → Contains (mentions o) (Drives c n) → may_drive_it c (declaration_of o n) ≡ true) where
    at-place : (front after : List Mention) (here : Mention) → mentions o ≡ front ++ here ∷ after → is_double o front here ≡ false
    at-place front after (Declares d) whole = ⊎_elim
        (λ t. absurd (apart-cut (flat_map declared_names front) (flat_map declared_names after) d.name
        (subst (λ xs. Apart xs) (ap (flat_map declared_names) whole ∙ flat_map-append declared_names front (Declares d ∷ after)) declared-once) (any-declared d.name front t)))
        (λ f. f)
        (cases_Bool (list_any (is_declaration_of d.name) front))
    at-place front after (Drives c n) whole =
        let here : Contains (mentions o) (Drives c n) =
        subst (λ xs. Contains xs (Drives c n)) (sym whole)
        (Contains-append_right front (Drives c n ∷ after) (Drives c n) (head-in (Drives c n) after)) in
        let first : list_any (is_driver_of n) front ≡ false = ⊎_elim
        (λ t. absurd (apart-cut (flat_map driven_names front) (flat_map driven_names after) n
        (subst (λ xs. Apart xs) (ap (flat_map driven_names) whole ∙ flat_map-append driven_names front (Drives c n ∷ after)) driven-once) (any-driven n front t)))
        (λ f. f)
        (cases_Bool (list_any (is_driver_of n) front)) in
        (λ i. first i || not (may c n here i))
    at-place front after (Reads n) whole = refl
    at-place front after Clocks whole = refl

    pub doubly-none : doubly o ≡ None
    doubly-none = no-faults (is_double o) (mentions o) [] (mentions o) refl at-place

-- ---- what a module that keeps the first two conditions has

module _ (m : Module) (driven : undriven m ≡ None) (once : doubly m ≡ None) where
  declares-it : (x : Mention) (n : List ℕ) → Contains (declared_names x) n → (d : Declared) × (x ≡ Declares d) × (d.name ≡ n)
  declares-it (Declares d) n h = (d, refl, ⊎_elim (λ e. e) (λ t. absurd (none-in n t)) (cons-cases d.name n [] h))
  declares-it (Drives c k) n h = absurd (none-in n h)
  declares-it (Reads k) n h = absurd (none-in n h)
  declares-it Clocks n h = absurd (none-in n h)

  pub drives-it : (x : Mention) (n : List ℕ) → Contains (driven_names x) n → (c : Bool) × (x ≡ Drives c n)
  drives-it (Declares d) n h = absurd (none-in n h)
  drives-it (Drives c k) n h = (c, ap (λ z. Drives c z) (⊎_elim (λ e. e) (λ t. absurd (none-in n t)) (cons-cases k n [] h)))
  drives-it (Reads k) n h = absurd (none-in n h)
  drives-it Clocks n h = absurd (none-in n h)

  -- what stands behind a place
  after-cut : (before xs : List Mention) (x y : Mention) → mentions m ≡ before ++ x ∷ xs → Contains xs y → (cut : Cut (mentions m) y) × Contains cut.before x
  after-cut before xs x y whole h =
      let inner = cut-at xs y h in
      let front : List Mention = before ++ x ∷ inner.before in
      let all : mentions m ≡ front ++ y ∷ inner.after =
      whole ∙ ap (λ zs. before ++ x ∷ zs) inner.whole ∙ sym (append_assoc before (x ∷ inner.before) (y ∷ inner.after)) in
      (record { before = front; after = inner.after; whole = all }, Contains-append_right before (x ∷ inner.before) x (head-in x inner.before))

  declared-rest : (before rest : List Mention) → mentions m ≡ before ++ rest → Apart (flat_map declared_names rest)
  declared-rest before [] whole = tt
  declared-rest before (Declares d ∷ xs) whole = (
    (λ h. let r = from-flat declared_names xs d.name h in
        let is = declares-it r.0 d.name r.2 in
        let k = after-cut before xs (Declares d) (Declares is.0) whole (subst (λ z. Contains xs z) is.1 r.1) in
        no-earlier-declaration m driven once is.0 d k.0 k.1 (sym is.2)),
    declared-rest (before ++ Declares d ∷ []) xs (whole ∙ sym (append_assoc before (Declares d ∷ []) xs)),
  )
  declared-rest before (Drives c n ∷ xs) whole = declared-rest (before ++ Drives c n ∷ []) xs (whole ∙ sym (append_assoc before (Drives c n ∷ []) xs))
  declared-rest before (Reads n ∷ xs) whole = declared-rest (before ++ Reads n ∷ []) xs (whole ∙ sym (append_assoc before (Reads n ∷ []) xs))
  declared-rest before (Clocks ∷ xs) whole = declared-rest (before ++ Clocks ∷ []) xs (whole ∙ sym (append_assoc before (Clocks ∷ []) xs))

  driven-rest : (before rest : List Mention) → mentions m ≡ before ++ rest → Apart (flat_map driven_names rest)
  driven-rest before [] whole = tt
  driven-rest before (Drives c n ∷ xs) whole = (
    (λ h. let r = from-flat driven_names xs n h in
        let is = drives-it r.0 n r.2 in
        let k = after-cut before xs (Drives c n) (Drives is.0 n) whole (subst (λ z. Contains xs z) is.1 r.1) in
        let free = or_parts (list_any (is_driver_of n) k.0.before) (not (may_drive_it is.0 (declaration_of m n))) (fault-free (is_double m) (mentions m) (Drives is.0 n) once k.0) in
        false≢true (sym free.0 ∙ seen (is_driver_of n) k.0.before (Drives c n) k.1 (same_bytes n))),
    driven-rest (before ++ Drives c n ∷ []) xs (whole ∙ sym (append_assoc before (Drives c n ∷ []) xs)),
  )
  driven-rest before (Declares d ∷ xs) whole = driven-rest (before ++ Declares d ∷ []) xs (whole ∙ sym (append_assoc before (Declares d ∷ []) xs))
  driven-rest before (Reads n ∷ xs) whole = driven-rest (before ++ Reads n ∷ []) xs (whole ∙ sym (append_assoc before (Reads n ∷ []) xs))
  driven-rest before (Clocks ∷ xs) whole = driven-rest (before ++ Clocks ∷ []) xs (whole ∙ sym (append_assoc before (Clocks ∷ []) xs))

  pub declared-once : Apart (flat_map declared_names (mentions m))
  declared-once = declared-rest [] (mentions m) refl

  pub driven-once : Apart (flat_map driven_names (mentions m))
  driven-once = driven-rest [] (mentions m) refl
