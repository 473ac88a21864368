-- Lists by their places, counts up to a place, names that are given, and numbers that attributes have.
use Rattle.std.proofs.Common.{◌≡◌, ℕ, zero, suc, ◌<◌, ◌≤◌, ⊎_elim, Bool, true, false, not, ◌||◌, if◌then◌else◌, List, [], ◌∷◌, map, filter, find, length, Contains, Option, Some, None, refl, sym, ap}
use Rattle.std.proofs.Common.{subst, ◌∙◌, arith}
use Rattle.std.specs.Prelude.{slice_get, is_none, option_map}
use Rattle.std.specs.List.{zip}
use Rattle.std.proofs.lemmas.Bool.{cases_Bool, cases_eq, cond-false, cond-true}
use Rattle.dg_model.specs.RootElements.{RootElement}
use Rattle.hw_module.specs.Interface.{NamedElement, named}
use Rattle.hw_names.specs.Names.{Given}
use Rattle.vl_ast.specs.declared.modules.Port.{Port}
use Rattle.vl_ast.specs.Windows.{counted}
use Rattle.math_list.proofs.Elements.{cons-cases, head-in, none-in, tail-in}

-- ---- lists by their places

abbrev pub element : List ℕ → RootElement → NamedElement
element name root = record { name = name; root = root }

pub zip-at : {X Y : Type 0} (xs : List X) (ys : List Y) (k : ℕ) (x : X) (y : Y) → slice_get xs k ≡ Some x → slice_get ys k ≡ Some y → slice_get (zip xs ys) k ≡ Some (x, y)
zip-at [] ys k x y a b = absurd (cc a)
zip-at (z ∷ xs) [] k x y a b = absurd (cc b)
zip-at (z ∷ xs) (w ∷ ys) zero x y a b = let p : z ≡ x = cc a in let q : w ≡ y = cc b in (λ i. Some (p i, q i))
zip-at (z ∷ xs) (w ∷ ys) (suc k) x y a b = zip-at xs ys k x y a b

pub named-at : (names : List (List ℕ)) (roots : List RootElement) (k : ℕ) (e : NamedElement)
    → slice_get (named names roots) k ≡ Some e
    → (slice_get names k ≡ Some e.name) × (slice_get roots k ≡ Some e.root)
named-at [] roots k e is = absurd (cc is)
named-at (n ∷ names) [] k e is = absurd (cc is)
named-at (n ∷ names) (r ∷ roots) zero e is = let same : element n r ≡ e = cc is in (ap (λ (x : NamedElement). Some x.name) same, ap (λ (x : NamedElement). Some x.root) same)
named-at (n ∷ names) (r ∷ roots) (suc k) e is = named-at names roots k e is

pub to-named : (names : List (List ℕ)) (roots : List RootElement) (k : ℕ) (n : List ℕ) (r : RootElement)
    → slice_get names k ≡ Some n → slice_get roots k ≡ Some r → slice_get (named names roots) k ≡ Some (element n r)
to-named [] roots k n r a b = absurd (cc a)
to-named (x ∷ names) [] k n r a b = absurd (cc b)
to-named (x ∷ names) (y ∷ roots) zero n r a b = let p : x ≡ n = cc a in let q : y ≡ r = cc b in (λ i. Some (element (p i) (q i)))
to-named (x ∷ names) (y ∷ roots) (suc k) n r a b = to-named names roots k n r a b

pub named-in : (names : List (List ℕ)) (roots : List RootElement) (e : NamedElement) → Contains (named names roots) e → Contains names e.name × Contains roots e.root
named-in [] roots e c = absurd (none-in e c)
named-in (n ∷ names) [] e c = absurd (none-in e c)
named-in (n ∷ names) (r ∷ roots) e c = ⊎_elim
    (λ s. subst (λ (x : NamedElement). Contains (n ∷ names) x.name × Contains (r ∷ roots) x.root) s (head-in n names, head-in r roots))
    (λ t. let rest = named-in names roots e t in (tail-in n e.name names rest.0, tail-in r e.root roots rest.1))
    (cons-cases (element n r) e (named names roots) c)

pub named-size : (names : List (List ℕ)) (roots : List RootElement) → length roots ≤ length names → length (named names roots) ≡ length roots
named-size names [] h = by names where
  by : (names : List (List ℕ)) → length (named names []) ≡ 0
  by [] = refl
  by (n ∷ names) = refl
named-size [] (r ∷ roots) h = absurd (omega (arith, h))
named-size (n ∷ names) (r ∷ roots) h = ap suc (named-size names roots (omega (arith, h)))

pub keep-all : {X Y : Type 0} (p : Y → Bool) (f : X → Y) (xs : List X) → ((x : X) → Contains xs x → p (f x) ≡ true) → filter p (map f xs) ≡ map f xs
keep-all p f [] h = refl
keep-all p f (x ∷ xs) h =
    cond-true (p (f x)) (f x ∷ filter p (map f xs)) (filter p (map f xs)) (h x (head-in x xs))
    ∙ ap (λ ys. f x ∷ ys) (keep-all p f xs (λ y c. h y (tail-in x y xs c)))

pub keep-none : {X Y : Type 0} (p : Y → Bool) (f : X → Y) (xs : List X) → ((x : X) → Contains xs x → p (f x) ≡ false) → filter p (map f xs) ≡ []
keep-none p f [] h = refl
keep-none p f (x ∷ xs) h =
    cond-false (p (f x)) (f x ∷ filter p (map f xs)) (filter p (map f xs)) (h x (head-in x xs))
    ∙ keep-none p f xs (λ y c. h y (tail-in x y xs c))

pub none-found : {X : Type 0} (p : X → Bool) (xs : List X) → find p xs ≡ None → (x : X) → Contains xs x → p x ≡ false
none-found p [] e x c = absurd (none-in x c)
none-found p (y ∷ xs) e x c = by (λ rest t. none-found p xs rest x t) (p y) refl where
  by : (find p xs ≡ None → Contains xs x → p x ≡ false) → (b : Bool) → p y ≡ b → p x ≡ false
  by rest true t = absurd (let s : Some y ≡ None = sym (cond-true (p y) (Some y) (find p xs) t) ∙ e in cc s)
  by rest false f = ⊎_elim
      (λ s. ap p (sym s) ∙ f)
      (λ t. rest (sym (cond-false (p y) (Some y) (find p xs) f) ∙ e) t)
      (cons-cases y x xs c)

-- ---- counts

-- the place of a number
pub found-at : (test : ℕ → Bool) (bound number : ℕ) → number < counted test bound → (place : ℕ) × (place < bound) × (test place ≡ true) × (counted test place ≡ number)
found-at test zero number h = absurd (omega (arith, h))
found-at test (suc bound) number h = ⊎_elim
    (λ t. ⊎_elim
    (λ same. (bound, omega arith, t, same))
    (λ other.
    let e = cond-true (test bound) (suc (counted test bound)) (counted test bound) t in
    let less : number < suc (counted test bound) = subst (λ n. number < n) e h in
    let r = found-at test bound number (omega (arith, less, other)) in
    let low = r.1 in
    (r.0, omega (arith, low), r.2, r.3))
    (cases_eq (counted test bound) number))
    (λ f.
    let e = cond-false (test bound) (suc (counted test bound)) (counted test bound) f in
    let r = found-at test bound number (subst (λ n. number < n) e h) in
    let low = r.1 in
    (r.0, omega (arith, low), r.2, r.3))
    (cases_Bool (test bound))

-- ---- names that are given

pub given-free : (taken wanted names : List (List ℕ)) → Given taken wanted names → (n : List ℕ) → Contains names n → Contains taken n → ⊥
given-free taken [] [] g n c h = none-in n c
given-free taken [] (name ∷ names) g n c h = absurd g
given-free taken (want ∷ wanted) [] g n c h = none-in n c
given-free taken (want ∷ wanted) (name ∷ names) g n c h = ⊎_elim
    (λ e. g.0.free (subst (λ x. Contains taken x) (sym e) h))
    (λ t. given-free (name ∷ taken) wanted names g.1 n t (tail-in name n taken h))
    (cons-cases name n names c)

-- ---- numbers of attributes

pub kept : (v : ℕ) (b : Bool) → is_none (if b then Some v else None) ≡ false → (if b then Some v else None) ≡ Some v
kept v true h = refl
kept v false h = absurd (cc h)

pub first-part : (b : Bool) (n : List ℕ) (rest : Option (List ℕ)) → (if b then Some n else rest) ≡ None → (b ≡ false) × (rest ≡ None)
first-part true n rest e = absurd (cc e)
first-part false n rest e = (refl, e)

pub not-mapped : (o : Option Port) → option_map (λ (port : Port). port.name) o ≡ None → o ≡ None
not-mapped None e = refl
not-mapped (Some port) e = absurd (cc e)

pub or-true : (b : Bool) → not (b || true) ≡ false
or-true true = refl
or-true false = refl
