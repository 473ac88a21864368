-- The marked number that a text meets first is that of the name that stands first in it.
use Rattle.std.proofs.Common.{◌≡◌, ◌<◌, ◌≤◌, ◌+◌, inl, inr, ◌⊎◌, ⊎_elim, ℕ, suc, Bool, true, false, not, ◌||◌, if◌then◌else◌, cond, List, [], ◌∷◌, ◌++◌, length, take, drop, set, slice_index}
use Rattle.std.proofs.Common.{slice_index_or, Contains, Option, None, Some, bytes_eq, codes, refl, sym, ap, subst, ◌∙◌, arith}
use Rattle.std.specs.Prelude.{take_while}
use Rattle.std.specs.Option.{option_or, option_and_then}
use Rattle.std.specs.List.{prefix_len, IsDistinct}
use Rattle.std.proofs.lemmas.Bool.{false≢true}
use Rattle.std.proofs.lemmas.Slice.Eq.{bytes_eq-Decides}
use Rattle.std.proofs.lemmas.Option.{slice_get-get_or, get_or_from_slice_get}
use Rattle.std.proofs.Math.Seq.{drop-cons}
use Rattle.std.proofs.lemmas.Bool.{cases_lt, cases_eq}
use Rattle.std.proofs.lemmas.List.{take_more, take-append-drop, map-append, length-take-le, length-set, get_or-take, get_or-set_same, get_or-set_other}
use Rattle.std.proofs.lemmas.List.Elements.{Contains-push, Contains-append_left}
use Rattle.vl_ast.specs.declared.modules.Module.{Module}
use Rattle.vl_ast.specs.Conditions.{mentioned}
use Rattle.vl_ast.specs.Nets.{Mention, Declares, Drives, Reads, Clocks, is_mention_of, mentions, place_of}
use Rattle.math_list.proofs.Elements.{cons-cases, none-in}
use Rattle.vl_check.specs.declared.scope.Scope.{Scope}
use Rattle.vl_check.specs.Scope.{IsScopeOf, names_in, number_in}
use Rattle.vl_check.specs.declared.mentions.Mention.{Mention as MentionHere}
use Rattle.vl_check.specs.inner.Mentions.{mention_of, shown}
use Rattle.vl_check.specs.inner.CycleMarks.{name_of, AreMarked, if_marked, marked_number, marked_at, first_some, AreNamed, IsBeginning}
use Rattle.vl_check.proofs.ScopeNames.{at-number, number-at}
use Rattle.vl_ast.proofs.ClockEnable.{or-true}
use Rattle.math_list.proofs.Tests.{bytes_same}

-- a mention of a name
pub mentions-it : (name : List ℕ) (x : Mention) → mentioned x ≡ name → is_mention_of name x ≡ true
mentions-it name (Declares d) e = bytes_same d.name name e
mentions-it name (Drives c driven) e = bytes_same driven name e
mentions-it name (Reads read) e = bytes_same read name e
mentions-it name Clocks e = ap (λ t. t || bytes_eq (codes "reset") name) (bytes_same (codes "clk") name e)

-- how many places stand before the first of a name
abbrev before-first : List ℕ → List Mention → ℕ
before-first name xs = length (take_while (λ x. not (is_mention_of name x)) xs)

before-none : (name : List ℕ) (x : Mention) (xs : List Mention) → is_mention_of name x ≡ true → before-first name (x ∷ xs) ≡ 0
before-none name x xs e = ap (λ t. length (take (cond (not t) (1 + prefix_len (λ y. not (is_mention_of name y)) xs) 0) (x ∷ xs))) e

before-more : (name : List ℕ) (x : Mention) (xs : List Mention) → is_mention_of name x ≡ false → before-first name (x ∷ xs) ≡ suc (before-first name xs)
before-more name x xs e =
    let next : 1 + prefix_len (λ y. not (is_mention_of name y)) xs ≡ suc (prefix_len (λ y. not (is_mention_of name y)) xs) = omega arith in
    ap (λ t. length (take (cond (not t) (1 + prefix_len (λ y. not (is_mention_of name y)) xs) 0) (x ∷ xs))) e ∙ ap (λ n. length (take n (x ∷ xs))) next

module _ (scope : Scope) (apart : IsDistinct bytes_eq (names_in scope)) (marks : List Bool) where
  abbrev Marked : ℕ → Type 0
  Marked k = (slice_index_or marks k false ≡ true) × (k < length (names_in scope))

  number-some : (name : List ℕ) (k : ℕ) → marked_number scope marks name ≡ Some k → (slice_index_or marks k false ≡ true) × (name_of scope k ≡ name)
  number-some name k e = by (number_in scope name) refl e where
    by : (o : Option ℕ) → number_in scope name ≡ o → option_and_then (if_marked marks) o ≡ Some k → (slice_index_or marks k false ≡ true) × (name_of scope k ≡ name)
    by None n e = absurd (cc e)
    by (Some j) n e = on (slice_index_or marks j false) refl e where
      on : (t : Bool) → slice_index_or marks j false ≡ t → (if t then Some j else None) ≡ Some k → (slice_index_or marks k false ≡ true) × (name_of scope k ≡ name)
      on true s e = let same : j ≡ k = cc e in (
        ap (λ x. slice_index_or marks x false) (sym same) ∙ s,
        get_or_from_slice_get (names_in scope) k name []
            (at-number scope.names.items k name (n ∙ ap Some same)),
      )
      on false s e = absurd (cc e)

  number-none : (name : List ℕ) (b : ℕ) → Marked b → marked_number scope marks name ≡ None → bytes_eq name (name_of scope b) ≡ false
  number-none name b marked e = by (bytes_eq name (name_of scope b)) refl where
    by : (t : Bool) → bytes_eq name (name_of scope b) ≡ t → bytes_eq name (name_of scope b) ≡ false
    by false q = q
    by true q =
        let same : name ≡ name_of scope b = (bytes_eq-Decides name (name_of scope b)).0 q in
        let at : number_in scope name ≡ Some b = number-at scope.names.items apart b name (slice_get-get_or (names_in scope) b [] marked.1 ∙ ap Some (sym same)) in
        let some : marked_number scope marks name ≡ Some b = ap (option_and_then (if_marked marks)) at ∙ ap (λ t. if t then Some b else None) marked.0 in
        absurd (cc (some, e))

  or-cases : (a b : Option ℕ) (k : ℕ) → option_or a b ≡ Some k → (a ≡ Some k) ⊎ (b ≡ Some k)
  or-cases None b k e = inr e
  or-cases (Some x) b k e = inl e

  or-none : (a b : Option ℕ) → option_or a b ≡ None → (a ≡ None) × (b ≡ None)
  or-none None b e = (refl, e)
  or-none (Some x) b e = absurd (cc e)

  at-some : (x : Mention) (k : ℕ) → marked_at scope marks x ≡ Some k → (slice_index_or marks k false ≡ true) × (is_mention_of (name_of scope k) x ≡ true)
  at-some (Declares d) k e = let r = number-some d.name k e in (r.0, bytes_same d.name (name_of scope k) (sym r.1))
  at-some (Drives c name) k e = let r = number-some name k e in (r.0, bytes_same name (name_of scope k) (sym r.1))
  at-some (Reads name) k e = let r = number-some name k e in (r.0, bytes_same name (name_of scope k) (sym r.1))
  at-some Clocks k e = ⊎_elim
      (λ clk. let r = number-some (codes "clk") k clk in (r.0, ap (λ t. t || bytes_eq (codes "reset") (name_of scope k)) (bytes_same (codes "clk") (name_of scope k) (sym r.1))))
      (λ reset. let r = number-some (codes "reset") k reset in (
        r.0,
        ap (λ t. bytes_eq (codes "clk") (name_of scope k) || t)
            (bytes_same (codes "reset") (name_of scope k) (sym r.1))
            ∙ or-true (bytes_eq (codes "clk") (name_of scope k)),
      ))
      (or-cases (marked_number scope marks (codes "clk")) (marked_number scope marks (codes "reset")) k e)

  at-none : (x : Mention) (b : ℕ) → Marked b → marked_at scope marks x ≡ None → is_mention_of (name_of scope b) x ≡ false
  at-none (Declares d) b marked e = number-none d.name b marked e
  at-none (Drives c name) b marked e = number-none name b marked e
  at-none (Reads name) b marked e = number-none name b marked e
  at-none Clocks b marked e =
      let r = or-none (marked_number scope marks (codes "clk")) (marked_number scope marks (codes "reset")) e in
      (λ i. number-none (codes "clk") b marked r.0 i || number-none (codes "reset") b marked r.1 i)

  -- the first marked number of a text
  pub found-marked : (all : List Mention) (k : ℕ) → first_some (marked_at scope marks) all ≡ Some k → slice_index_or marks k false ≡ true
  found-marked [] k e = absurd (cc e)
  found-marked (x ∷ xs) k e = ⊎_elim (λ here. (at-some x k here).0) (λ later. found-marked xs k later) (or-cases (marked_at scope marks x) (first_some (marked_at scope marks) xs) k e)

  pub found-first : (all : List Mention) (k b : ℕ) → first_some (marked_at scope marks) all ≡ Some k
      → k < length (names_in scope) → Marked b
      → before-first (name_of scope k) all ≤ before-first (name_of scope b) all
  found-first [] k b e low marked = absurd (cc e)
  found-first (x ∷ xs) k b e low marked = by (found-first xs k b) (marked_at scope marks x) refl e where
    by : (first_some (marked_at scope marks) xs ≡ Some k → k < length (names_in scope) → Marked b → before-first (name_of scope k) xs ≤ before-first (name_of scope b) xs)
        → (o : Option ℕ) → marked_at scope marks x ≡ o
        → option_or o (first_some (marked_at scope marks) xs) ≡ Some k
        → before-first (name_of scope k) (x ∷ xs) ≤ before-first (name_of scope b) (x ∷ xs)
    by rest (Some j) h e =
        let same : j ≡ k = cc e in
        let none = before-none (name_of scope k) x xs (at-some x k (h ∙ ap Some same)).1 in
        omega (arith, none)
    by rest None h e =
        let mine = before-more (name_of scope k) x xs (at-none x k (found-marked xs k e, low) h) in
        let other = before-more (name_of scope b) x xs (at-none x b marked h) in
        let less = rest e low marked in
        omega (arith, mine, other, less)

  pub found-none : (all : List Mention) (b : ℕ) → first_some (marked_at scope marks) all ≡ None → Marked b → (x : Mention) → Contains all x → is_mention_of (name_of scope b) x ≡ false
  found-none [] b e marked x c = absurd (none-in x c)
  found-none (y ∷ ys) b e marked x c =
      let r = or-none (marked_at scope marks y) (first_some (marked_at scope marks) ys) e in
      ⊎_elim (λ same. subst (λ z. is_mention_of (name_of scope b) z ≡ false) same (at-none y b marked r.0)) (λ later. found-none ys b r.1 marked x later) (cons-cases y x ys c)

module _ (m : Module) (scope : Scope) (s : IsScopeOf m scope) (cycle : List ℕ) (marks : List Bool) (named : AreNamed m scope cycle) (marked : AreMarked cycle (length (names_in scope)) marks) where
  pub begins : (k at : ℕ) → first_some (marked_at scope marks) (mentions m) ≡ Some k → at < length cycle → slice_index cycle at ≡ k → IsBeginning m scope cycle at
  begins k at e below is = record {
    within = below;
    first = λ i inside.
        let low = subst (λ n. n < length (names_in scope)) is (named.within at below) in
        subst (λ n. place_of m (name_of scope n) ≤ place_of m (name_of scope (slice_index cycle i))) (sym is)
        (found-first scope s.apart marks (mentions m) k (slice_index cycle i) e low (marked.marked i inside, named.within i inside));
  }

  pub never-none : 0 < length cycle → first_some (marked_at scope marks) (mentions m) ≡ None → ⊥
  never-none some e =
      let x = named.stands 0 some in
      false≢true (sym (found-none scope s.apart marks (mentions m) (slice_index cycle 0) e
      (marked.marked 0 some, named.within 0 some) x.0 x.1)
      ∙ mentions-it (name_of scope (slice_index cycle 0)) x.0 x.2)

-- the first answer over a text, a place further
pub first-front : {X : Type 0} (f : X → Option ℕ) (xs ys : List X) → first_some f xs ≡ None → first_some f (xs ++ ys) ≡ first_some f ys
first-front f [] ys e = refl
first-front f (x ∷ xs) ys e = by (f x) refl e (first-front f xs ys) where
  by : (o : Option ℕ) → f x ≡ o → option_or o (first_some f xs) ≡ None
      → (first_some f xs ≡ None → first_some f (xs ++ ys) ≡ first_some f ys)
      → option_or (f x) (first_some f (xs ++ ys)) ≡ first_some f ys
  by None h e rest = ap (λ o. option_or o (first_some f (xs ++ ys))) h ∙ rest e
  by (Some k) h e rest = absurd (cc e)

module _ (f : Mention → Option ℕ) (text : List MentionHere) (i : ℕ) (d : MentionHere) (below : i < length text) (none : first_some f (shown (take i text)) ≡ None) where
  cut : shown text ≡ shown (take i text) ++ mention_of (slice_index_or text i d) ∷ shown (drop (suc i) text)
  cut = ap shown (sym (take-append-drop i text) ∙ ap (λ ys. take i text ++ ys) (drop-cons text i d below)) ∙ map-append mention_of (take i text) (slice_index_or text i d ∷ drop (suc i) text)

  pub first-found : (k : ℕ) → f (mention_of (slice_index_or text i d)) ≡ Some k → Some k ≡ first_some f (shown text)
  first-found k e = sym (ap (first_some f) cut
      ∙ first-front f (shown (take i text)) (mention_of (slice_index_or text i d) ∷ shown (drop (suc i) text)) none
      ∙ ap (λ o. option_or o (first_some f (shown (drop (suc i) text)))) e)

  pub first-passed : f (mention_of (slice_index_or text i d)) ≡ None → first_some f (shown (take (i + 1) text)) ≡ None
  first-passed e =
      ap (λ xs. first_some f (shown xs)) (take_more text i d below) ∙ ap (first_some f) (map-append mention_of (take i text) (slice_index_or text i d ∷ []))
      ∙ first-front f (shown (take i text)) (mention_of (slice_index_or text i d) ∷ []) none ∙ ap (λ o. option_or o None) e

-- marks, a number further
pub marked-more : (numbers : List ℕ) (i count : ℕ) (marks : List Bool) → i < length numbers
    → slice_index numbers i < count → AreMarked (take i numbers) count marks
    → AreMarked (take (i + 1) numbers) count (set marks (slice_index numbers i) true)
marked-more numbers i count marks below low m = record {
  long = length-set marks (slice_index numbers i) true ∙ m.long;
  marked = λ j inside.
      let number = slice_index numbers i in
      let l = m.long in
      let n = length-take-le (i + 1) numbers (omega (arith, below)) in
      let bj : j < i + 1 = omega (arith, inside, n) in
      let here : slice_index (take (i + 1) numbers) j ≡ slice_index numbers j = get_or-take (i + 1) numbers j 0 bj in
      ap (λ k. slice_index_or (set marks number true) k false) here ∙
      ⊎_elim
      (λ (same : slice_index numbers j ≡ number). ap (λ k. slice_index_or (set marks number true) k false) same ∙ get_or-set_same marks number true false (omega (arith, low, l)))
      (λ other. let old : j < i = not-last j bj other in
      let short = length-take-le i numbers (omega (arith, below)) in
      get_or-set_other marks number (slice_index numbers j) true false other
      ∙ ap (λ k. slice_index_or marks k false) (sym (get_or-take i numbers j 0 old)) ∙ m.marked j (omega (arith, short, old)))
      (cases_eq (slice_index numbers j) number);
  only = λ k e. ⊎_elim
      (λ (same : k ≡ slice_index numbers i). subst (λ x. Contains (take (i + 1) numbers) x) (sym same) last-in)
      (λ other. front-in k (m.only k (sym (get_or-set_other marks (slice_index numbers i) k true false other) ∙ e)))
      (cases_eq k (slice_index numbers i));
}
  where
    not-last : (j : ℕ) → j < i + 1 → (slice_index numbers j ≡ slice_index numbers i → ⊥) → j < i
    not-last j bj other = ⊎_elim (λ less. less) (λ more. let e : j ≡ i = omega arith in absurd (other (ap (slice_index numbers) e))) (cases_lt j i)

    more : take (i + 1) numbers ≡ take i numbers ++ slice_index numbers i ∷ []
    more = take_more numbers i 0 below

    last-in : Contains (take (i + 1) numbers) (slice_index numbers i)
    last-in = subst (λ xs. Contains xs (slice_index numbers i)) (sym more) (Contains-push (take i numbers) (slice_index numbers i))

    front-in : (k : ℕ) → Contains (take i numbers) k → Contains (take (i + 1) numbers) k
    front-in k c = subst (λ xs. Contains xs k) (sym more) (Contains-append_left (take i numbers) (slice_index numbers i ∷ []) k c)

pub none-marked : (count : ℕ) (marks : List Bool) → length marks ≡ count → ((k : ℕ) → slice_index_or marks k false ≡ false) → AreMarked [] count marks
none-marked count marks long f = record { long = long; marked = λ i below. absurd (omega arith); only = λ k e. absurd (false≢true (sym (f k) ∙ e)) }
