-- The least name that isn't below a text begins with it, if any does.
use Rattle.std.proofs.Common.{◌≡◌, ◌<◌, ℕ, Bool, true, false, ◌&&◌, ◌||◌, cond, List, [], ◌∷◌, ◌++◌, Contains, bytes_eq, Option, Some, None, ◌⊎◌, inl, inr, ⊎_elim, refl, sym, subst, ◌∙◌, arith, eqb-true}
use Rattle.std.specs.Prelude.{nat_eq, nat_lt, ◌==◌, option_map}
use Rattle.std.specs.Borrow.{Bor}
use Rattle.std.specs.BTreeSet.{BTreeSet, IsKeyRangeOf}
use Rattle.std.specs.List.{list_any, starts_with}
use Rattle.std.specs.Option.{MatchOption, option_copied}
use Rattle.std.specs.declared.ops.Bound.TheVariants.{Included, Unbounded}
use Rattle.std.specs.declared.cmp.Ordering.{Ordering}
use Rattle.std.specs.declared.cmp.Ordering.TheVariants.{Less, Equal, Greater}
use Rattle.std.specs.Ordering.{is_gt, nat_cmp, ordering_then}
use Rattle.std.specs.Cmp.Lexicographic.{slice_cmp}
use Rattle.std.proofs.lemmas.Bool.{and_parts, ltb-true, le-ltb, eq-eqb, true≢false, false≢true}
use Rattle.std.proofs.lemmas.List.Folds.{list_any-append}
use Rattle.std.proofs.lemmas.Slice.Eq.{bytes_eq-Decides}
use Rattle.math_list.proofs.Elements.{head-in, tail-in}
use Rattle.math_list.proofs.Places.{seen}
use Rattle.vl_hier.specs.declared.names.Names.{Names}
use Rattle.vl_hier.specs.inner.Names.{AreNames, IsLeastFrom, is_kept, lent}

-- what isn't greater is less at its first element, or goes on behind an equal one
not-greater : (x y : ℕ) (rest : Ordering) → is_gt (ordering_then (nat_cmp x y) rest) ≡ false → (x < y) ⊎ ((x ≡ y) × (is_gt rest ≡ false))
not-greater x y rest e = by (nat_lt x y) (x == y) refl refl e
  where
    by : (b c : Bool) → nat_lt x y ≡ b → (x == y) ≡ c → is_gt (ordering_then (cond b Less (cond c Equal Greater)) rest) ≡ false → (x < y) ⊎ ((x ≡ y) × (is_gt rest ≡ false))
    by true c less same h = inl (ltb-true x y less)
    by false true less same h = inr (eqb-true x y same, h)
    by false false less same h = absurd (true≢false h)

greater-not : (x : ℕ) (rest : Ordering) → is_gt rest ≡ false → is_gt (ordering_then (nat_cmp x x) rest) ≡ false
greater-not x rest e =
    let less : nat_lt x x ≡ false = le-ltb x x (omega arith) in
    let same : (x == x) ≡ true = eq-eqb x x refl in
    (λ k. is_gt (ordering_then (cond (less k) Less (cond (same k) Equal Greater)) rest)) ∙ e

-- a text that begins another isn't greater
begins-below : (head name : List ℕ) → starts_with nat_eq name head ≡ true → is_gt (slice_cmp nat_cmp head name) ≡ false
begins-below [] [] e = refl
begins-below [] (y ∷ name) e = refl
begins-below (x ∷ head) [] e = absurd (false≢true e)
begins-below (x ∷ head) (y ∷ name) e =
    let parts = and_parts (nat_eq x y) (starts_with nat_eq name head) e in
    let same : x ≡ y = eqb-true x y parts.0 in
    subst (λ (z : ℕ). is_gt (ordering_then (nat_cmp x z) (slice_cmp nat_cmp head name)) ≡ false) same
    (greater-not x (slice_cmp nat_cmp head name) (begins-below head name parts.1))

-- what lies between a text and one that begins with it begins with it
between-begins : (head least name : List ℕ) → is_gt (slice_cmp nat_cmp head least) ≡ false → is_gt (slice_cmp nat_cmp least name) ≡ false
    → starts_with nat_eq name head ≡ true → starts_with nat_eq least head ≡ true
between-begins [] least name low high e = refl
between-begins (x ∷ head) [] name low high e = absurd (true≢false low)
between-begins (x ∷ head) (y ∷ least) [] low high e = absurd (false≢true e)
between-begins (x ∷ head) (y ∷ least) (z ∷ name) low high e =
    let parts = and_parts (nat_eq x z) (starts_with nat_eq name head) e in
    let same : x ≡ z = eqb-true x z parts.0 in
    ⊎_elim (λ (less : x < y). ⊎_elim (λ (more : y < z). absurd (omega (arith, less, more, same))) (λ w. absurd (omega (arith, less, w.0, same))) (not-greater y z (slice_cmp nat_cmp least name) high))
    (λ v. ⊎_elim (λ (more : y < z). absurd (omega (arith, v.0, more, same)))
    (λ w. (λ k. eq-eqb x y v.0 k && starts_with nat_eq least head) ∙ between-begins head least name v.1 w.1 parts.1)
    (not-greater y z (slice_cmp nat_cmp least name) high))
    (not-greater x y (slice_cmp nat_cmp head least) low)

-- ---- names that are kept

pub named : (names : List (List ℕ)) (name : List ℕ) → list_any (λ other. bytes_eq other name) names ≡ true → Contains names name
named [] name e = absurd (false≢true e)
named (n ∷ names) name e = by (bytes_eq n name) refl (named names name) e
  where
    by : (b : Bool) → bytes_eq n name ≡ b → (list_any (λ other. bytes_eq other name) names ≡ true → Contains names name)
        → (b || list_any (λ other. bytes_eq other name) names) ≡ true → Contains (n ∷ names) name
    by true same rest h = (0, omega arith, (bytes_eq-Decides n name).0 same)
    by false same rest h = tail-in n name names (rest h)

pub either-more : (b x : Bool) → cond b true x ≡ (x || (b || false))
either-more true true = refl
either-more true false = refl
either-more false true = refl
either-more false false = refl

-- one name more
pub kept-more : (names : List (List ℕ)) (n name : List ℕ)
    → cond (bytes_eq n name) true (list_any (λ other. bytes_eq other name) names) ≡ list_any (λ other. bytes_eq other name) (names ++ n ∷ [])
kept-more names n name =
    either-more (bytes_eq n name) (list_any (λ other. bytes_eq other name) names)
    ∙ sym (list_any-append (λ other. bytes_eq other name) names (n ∷ []))

beginning : (names : List (List ℕ)) (head : List ℕ) → list_any (λ name. starts_with nat_eq name head) names ≡ true
    → (name : List ℕ) × Contains names name × (starts_with nat_eq name head ≡ true)
beginning [] head e = absurd (false≢true e)
beginning (n ∷ names) head e = by (starts_with nat_eq n head) refl (beginning names head) e
  where
    by : (b : Bool) → starts_with nat_eq n head ≡ b
        → (list_any (λ name. starts_with nat_eq name head) names ≡ true → (name : List ℕ) × Contains names name × (starts_with nat_eq name head ≡ true))
        → (b || list_any (λ name. starts_with nat_eq name head) names) ≡ true
        → (name : List ℕ) × Contains (n ∷ names) name × (starts_with nat_eq name head ≡ true)
    by true so rest h = (n, head-in n names, so)
    by false so rest h = let some = rest h in (some.0, tail-in n some.0 names some.1, some.2)

pub same-truth : (a b : Bool) → (a ≡ true → b ≡ true) → (b ≡ true → a ≡ true) → a ≡ b
same-truth true b f g = sym (f refl)
same-truth false true f g = g refl
same-truth false false f g = refl

module _ (names : List (List ℕ)) (kept : Names) (are : AreNames names kept) (head : List ℕ) where
  abbrev begun : Bool
  begun = list_any (λ name. starts_with nat_eq name head) names

  there : (name : List ℕ) → Contains names name → is_kept kept name ≡ true
  there name c = are name ∙ seen (λ other. bytes_eq other name) names name c ((bytes_eq-Decides name name).1 refl)

  -- none that isn't below is kept
  pub none-begins : ((name : List ℕ) → is_gt (slice_cmp nat_cmp head name) ≡ false → is_kept kept name ≡ false) → false ≡ begun
  none-begins none =
      same-truth false begun (λ e. absurd (false≢true e))
      (λ e. let some = beginning names head e in sym (none some.0 (begins-below head some.0 some.2)) ∙ there some.0 some.1)

  -- the least that isn't below
  pub least-begins : (least : List ℕ) → is_gt (slice_cmp nat_cmp head least) ≡ false → is_kept kept least ≡ true
      → ((name : List ℕ) → is_gt (slice_cmp nat_cmp head name) ≡ false → is_kept kept name ≡ true → is_gt (slice_cmp nat_cmp least name) ≡ false)
      → starts_with nat_eq least head ≡ begun
  least-begins least low in-names first =
      same-truth (starts_with nat_eq least head) begun
      (λ e. seen (λ name. starts_with nat_eq name head) names least (named names least (sym (are least) ∙ in-names)) e)
      (λ e. let some = beginning names head e in
      let below = begins-below head some.0 some.2 in
      between-begins head least some.0 low (first some.0 below (there some.0 some.1)) some.2)

-- the first of what isn't below a text
pub least-from : (names : BTreeSet (Bor (List ℕ))) (text : Bor (List ℕ)) (within : List (Bor (List ℕ))) (first : Option (Bor (Bor (List ℕ)))) (rest : List (Bor (List ℕ)))
    → IsKeyRangeOf (λ x y. slice_cmp nat_cmp x.now y.now) (Included text) Unbounded names within
    → MatchOption first ((within ≡ []) × (rest ≡ [])) (λ x. within ≡ x.now ∷ rest)
    → IsLeastFrom names text.now (option_map (λ (name : Bor (List ℕ)). name.now) (option_copied first))
least-from names text within None rest is none = λ name low. is.5 none.0 (lent name) (low, tt)
least-from names text within (Some x) rest is taken =
    let at = subst (λ (r : List (Bor (List ℕ))). IsKeyRangeOf (λ a b. slice_cmp nat_cmp a.now b.now) (Included text) Unbounded names r) taken is in
    (at.1.0.0, at.1.1, λ name low among. at.2 (lent name) (low, tt) among)
