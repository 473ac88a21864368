-- The functions of full types give what the relations allow.
use Rattle.std.proofs.Common.{◌≡◌, ◌≢◌, ℕ, suc, ◌+◌, ◌-◌, ◌≤◌, Bool, true, false, cond, ◌&&◌, ◌||◌, [], ◌∷◌, Option, Some, None, ℤ, pos, negsuc, ◌+ℤ◌, ◌≤ℤ◌, ◌<ℤ◌, All, Any, inl, inr, ap, sym, ◌∙◌}
use Rattle.std.proofs.Common.{refl, subst, arith, pow_pos, true≢false}
use Rattle.std.specs.Prelude.{◌↔◌, int_lt, int_le}
use Rattle.std.specs.Bool.{Decides}
use Rattle.std.specs.Int.{int_max, int_min}
use Rattle.std.specs.List.{find, range_with_len}
use Rattle.std.specs.Option.{option_map}
use Rattle.std.proofs.lemmas.Bool.{cases_lt}
use Rattle.std.proofs.lemmas.Bool.Decides.{Decides-and, Decides-eqb, Decides-int_eq}
use Rattle.std.proofs.lemmas.List.Elements.{All-cons, All-nil, All-weaker}
use Rattle.std.proofs.lemmas.Int.{ints, clamps}
use Rattle.math_num.specs.Word.{IsWord, word_lowest, word_highest}
use Rattle.fx_type.specs.declared.full.Span.{Span}
use Rattle.fx_type.specs.declared.kind.FxType.{FxType}
use Rattle.fx_type.specs.declared.kind.FxType.TheVariants.{Num, Logical}
use Rattle.fx_type.specs.FxType.{IsType, IsNumber, is_signed, width_of, frac_of, InRange}
use Rattle.fx_type.specs.FullType.{Terms, IsPossibleSum, IsGreatestFrac, IsFullSum, IsFullProduct, HoldsBoth, IsUnion}
use Rattle.fx_type.specs.FullTypeOf.{holds_ends, narrowest_of, greatest_frac_of, full_sum_of, is_word, full_product_of, same_sign, same_type, union_of}
use Rattle.fx_type.specs.Laws.{FullSumIsOne, FullProductIsOne, UnionIsOne}
use Rattle.fx_type.specs.Span.{least_term, greatest_term, sum_of, IsNarrowest}
use Rattle.fx_type.proofs.Ends.{least_sign, greatest_sign, sum_of-at_most, sum_of-at_least, least_possible, greatest_possible}
use Rattle.fx_type.proofs.Ranges.{InRange-lowest, InRange-highest, frac_bounds}
use Rattle.math_num.proofs.Integers.{int_max_cases}
use Rattle.std.proofs.lemmas.Option.{same_Some}
use Rattle.math_list.proofs.Searches.{Some≢None, one_answer, Decides-int_le, Decides-int_lt, Decides-nat_le, IsFirst, NonePasses, found, not_found}
use Rattle.fx_type.proofs.FullTypes.{greatest_only, full_sum_is, union_is}

Decides-holds_ends : (least greatest : ℤ) (s : Bool) (w : ℕ) → Decides (holds_ends least greatest s w) ((word_lowest w s ≤ℤ least) × (greatest ≤ℤ word_highest w s))
Decides-holds_ends least greatest s w = Decides-and _ _ (Decides-int_le (word_lowest w s) least) (Decides-int_le greatest (word_highest w s))

-- no width that is passed over holds both ends
passed_over : (least greatest : ℤ) (s : Bool) (w : ℕ) → holds_ends least greatest s w ≡ false → word_lowest w s ≤ℤ least → greatest ≤ℤ word_highest w s → ⊥
passed_over least greatest s w e p q = true≢false (sym ((Decides-holds_ends least greatest s w).1 (p, q)) ∙ e)

-- ---- the narrowest type of two ends
module _ (least greatest frac : ℤ) (low : least ≤ℤ pos 0) (high : pos 0 ≤ℤ greatest) (f_low : negsuc 63 ≤ℤ frac) (f_high : frac ≤ℤ pos 128) where
  narrowest_is : (signed : Bool) (w : ℕ) → IsWord w signed → InRange (Num signed w frac) least → InRange (Num signed w frac) greatest
      → ((other : FxType) → IsType other → IsNumber other → InRange other least → InRange other greatest → w ≤ width_of other)
      → (signed ≡ false) ↔ (pos 0 ≤ℤ least) → IsNarrowest least greatest frac (Num signed w frac)
  narrowest_is signed w word at_least at_greatest narrow sign = record {
    valid = (word, f_low, f_high);
    number = tt;
    frac = refl;
    low = at_least;
    high = at_greatest;
    narrowest = narrow;
    sign = sign;
  }

  signed_found : (w : ℕ) → least <ℤ pos 0 → IsFirst (holds_ends least greatest true) 2 127 w → IsNarrowest least greatest frac (Num true w frac)
  signed_found w below f =
      let ends = (Decides-holds_ends least greatest true w).0 f.passes in
      narrowest_is true w (f.low, omega (arith, f.high))
      (record { low = ends.0; high = omega (arith, ints, low, pow_pos (w - 1)) })
      (record { low = omega (arith, ints, high); high = ends.1 })
      narrow ((λ s. absurd (true≢false s)), (λ s. absurd (omega (arith, ints, s, below))))
    where
      narrow : (other : FxType) → IsType other → IsNumber other → InRange other least → InRange other greatest → w ≤ width_of other
      narrow Logical t n p q = absurd n
      narrow (Num false v g) t n p q = absurd (omega (arith, ints, p.low, below))
      narrow (Num true v g) t n p q = elim (cases_lt v w) [ inl h ↦ absurd (passed_over least greatest true v (f.first v t.0.0 h) p.low q.high) | inr h ↦ h ]

  unsigned_found : (w : ℕ) → pos 0 ≤ℤ least → IsFirst (holds_ends least greatest false) 1 127 w → IsNarrowest least greatest frac (Num false w frac)
  unsigned_found w above f =
      let ends = (Decides-holds_ends least greatest false w).0 f.passes in
      narrowest_is false w (f.low, omega (arith, f.high))
      (record { low = above; high = omega (arith, ints, low) }) (record { low = high; high = ends.1 })
      narrow ((λ s. above), (λ s. refl))
    where
      narrow : (other : FxType) → IsType other → IsNumber other → InRange other least → InRange other greatest → w ≤ width_of other
      narrow Logical t n p q = absurd n
      narrow (Num false v g) t n p q = elim (cases_lt v w) [ inl h ↦ absurd (passed_over least greatest false v (f.first v t.0.0 h) above q.high) | inr h ↦ h ]
      narrow (Num true v g) t n p q = elim (cases_lt v w) [
        | inl h ↦ absurd (let two : 2 ≤ v = t.0.0 in passed_over least greatest false (v - 1) (f.first (v - 1) (omega (arith, two)) (omega (arith, two, h))) above q.high)
        | inr h ↦ h
      ]

  signed_none : least <ℤ pos 0 → NonePasses (holds_ends least greatest true) 2 127 → (t : FxType) → IsType t → IsNumber t → InRange t least → InRange t greatest → ⊥
  signed_none below none Logical t n p q = n
  signed_none below none (Num false v g) t n p q = omega (arith, ints, p.low, below)
  signed_none below none (Num true v g) t n p q = let most : v ≤ 128 = t.0.1 in passed_over least greatest true v (none v t.0.0 (omega (arith, most))) p.low q.high

  unsigned_none : pos 0 ≤ℤ least → NonePasses (holds_ends least greatest false) 1 127 → (t : FxType) → IsType t → IsNumber t → InRange t least → InRange t greatest → ⊥
  unsigned_none above none Logical t n p q = n
  unsigned_none above none (Num false v g) t n p q = let most : v ≤ 127 = t.0.1 in passed_over least greatest false v (none v t.0.0 (omega (arith, most))) above q.high
  unsigned_none above none (Num true v g) t n p q =
      let two : 2 ≤ v = t.0.0 in
      let most : v ≤ 128 = t.0.1 in passed_over least greatest false (v - 1) (none (v - 1) (omega (arith, two)) (omega (arith, two, most))) above q.high

  -- what the search over the widths of one sign gives
  Searched : Bool → FxType → Type 0
  Searched s type = option_map (λ width. Num s width frac) (find (holds_ends least greatest s) (range_with_len (cond s 2 1) 127)) ≡ Some type

  by_width : (s : Bool) (type : FxType) → ((w : ℕ) → find (holds_ends least greatest s) (range_with_len (cond s 2 1) 127) ≡ Some w → IsNarrowest least greatest frac (Num s w frac))
      → (o : Option ℕ) → find (holds_ends least greatest s) (range_with_len (cond s 2 1) 127) ≡ o → option_map (λ width. Num s width frac) o ≡ Some type → IsNarrowest least greatest frac type
  by_width s type is None e m = absurd (Some≢None _ (sym m))
  by_width s type is (Some w) e m = subst (IsNarrowest least greatest frac) (same_Some (Num s w frac) type m) (is w e)

  by_sign : (type : FxType) (s : Bool) → int_lt least (pos 0) ≡ s
      → option_map (λ width. Num s width frac)
      (find (holds_ends least greatest s) (range_with_len (cond s 2 1) 127)) ≡ Some type
      → IsNarrowest least greatest frac type
  by_sign type true e m = by_width true type (λ w k. signed_found w ((Decides-int_lt least (pos 0)).0 e) (found (holds_ends least greatest true) 2 127 w k)) _ refl m
  by_sign type false e m = by_width false type (λ w k. unsigned_found w (omega (arith, ints)) (found (holds_ends least greatest false) 1 127 w k)) _ refl m

  pub narrowest_some : (type : FxType) → narrowest_of least greatest frac ≡ Some type → IsNarrowest least greatest frac type
  narrowest_some type m = by_sign type (int_lt least (pos 0)) refl m

  none_by_width : (s : Bool) (o : Option ℕ) → option_map (λ width. Num s width frac) o ≡ None → o ≡ None
  none_by_width s None m = refl
  none_by_width s (Some w) m = absurd (Some≢None _ m)

  none_by_sign : (s : Bool) → int_lt least (pos 0) ≡ s → option_map (λ width. Num s width frac) (find (holds_ends least greatest s) (range_with_len (cond s 2 1) 127)) ≡ None
      → (t : FxType) → IsType t → IsNumber t → InRange t least → InRange t greatest → ⊥
  none_by_sign true e m = signed_none ((Decides-int_lt least (pos 0)).0 e) (not_found (holds_ends least greatest true) 2 127 (none_by_width true _ m))
  none_by_sign false e m = unsigned_none (omega (arith, ints)) (not_found (holds_ends least greatest false) 1 127 (none_by_width false _ m))

  pub narrowest_none : narrowest_of least greatest frac ≡ None → (t : FxType) → IsType t → IsNumber t → InRange t least → InRange t greatest → ⊥
  narrowest_none m = none_by_sign (int_lt least (pos 0)) refl m

-- ---- equal types
same_number : (a b : FxType) → IsNumber a → IsNumber b → is_signed a ≡ is_signed b → width_of a ≡ width_of b → frac_of a ≡ frac_of b → a ≡ b
same_number (Num s w f) (Num t v g) n m p q r = rw (p, q, r) refl
same_number (Num s w f) Logical n m p q r = absurd m
same_number Logical b n m p q r = absurd n

same_bool : (a b : Bool) → (a ≡ false → b ≡ false) → (b ≡ false → a ≡ false) → a ≡ b
same_bool true true p q = refl
same_bool true false p q = q refl
same_bool false b p q = sym (p refl)

-- ---- sums
reached_later : (f : ℤ) (term : Bool × FxType) (terms : Terms) → Any (λ term. frac_of term.1 ≡ f) terms → Any (λ term. frac_of term.1 ≡ f) (term ∷ terms)
reached_later f term terms (k, x, inside, at, reached) = (suc k, x, omega (arith, inside), at, reached)

is_greatest : (s : Bool) (type : FxType) (terms : Terms) → IsGreatestFrac ((s, type) ∷ terms) (greatest_frac_of type terms)
is_greatest s type [] = record {
  bound = All-cons (λ (term : Bool × FxType). frac_of term.1 ≤ℤ frac_of type) (s, type) [] (omega (arith, ints)) (All-nil (λ (term : Bool × FxType). frac_of term.1 ≤ℤ frac_of type));
  reached = (0, (s, type), omega arith, refl, refl);
}
is_greatest s type ((r, other) ∷ terms) =
    let rest = is_greatest r other terms in
    let g = greatest_frac_of other terms in
    let top = int_max (frac_of type) g in
    let own : frac_of type ≤ℤ top = omega (arith, ints, clamps) in
    let more : g ≤ℤ top = omega (arith, ints, clamps) in
    record {
      bound = All-cons (λ (term : Bool × FxType). frac_of term.1 ≤ℤ top) (s, type) ((r, other) ∷ terms) own
          (All-weaker (λ (term : Bool × FxType). frac_of term.1 ≤ℤ g) (λ (term : Bool × FxType). frac_of term.1 ≤ℤ top) (λ term h. omega (arith, ints, h, more)) ((r, other) ∷ terms) rest.bound);
      reached = elim (int_max_cases (frac_of type) g) [
        | inl e ↦ (0, (s, type), omega arith, refl, sym e)
        | inr e ↦ subst (λ (f : ℤ). Any (λ term. frac_of term.1 ≡ f) ((s, type) ∷ (r, other) ∷ terms)) (sym e) (reached_later g (s, type) ((r, other) ∷ terms) rest.reached)
      ];
    }

greatest_bounds : (terms : Terms) (f : ℤ) → All (λ term. IsType term.1) terms → IsGreatestFrac terms f → (negsuc 63 ≤ℤ f) × (f ≤ℤ pos 128)
greatest_bounds terms f valid g =
    let (k, x, inside, at, reached) = g.reached in
    let is_type : IsType x.1 = subst (λ (y : Bool × FxType). IsType y.1) at (valid k x inside) in
    let b = frac_bounds x.1 is_type in subst (λ (z : ℤ). (negsuc 63 ≤ℤ z) × (z ≤ℤ pos 128)) reached b

full_sum_some : (terms : Terms) → All (λ term. IsType term.1) terms → (type : FxType) → full_sum_of terms ≡ Some type → IsFullSum terms type
full_sum_some [] valid type e = absurd (Some≢None _ (sym e))
full_sum_some ((s, t) ∷ terms) valid type e =
    let all = (s, t) ∷ terms in
    let f = greatest_frac_of t terms in
    let g = is_greatest s t terms in
    let b = greatest_bounds all f valid g in
    let least = sum_of (least_term f) all in
    let greatest = sum_of (greatest_term f) all in
    let n = narrowest_some least greatest f (sum_of-at_most (least_term f) (least_sign f) all) (sum_of-at_least (greatest_term f) (greatest_sign f) all) b.0 b.1 type e in
    full_sum_is all f (record { low = least; high = greatest }) type g (record { low = refl; high = refl }) n

full_sum_none : (terms : Terms) → All (λ term. IsType term.1) terms → full_sum_of terms ≡ None → (type : FxType) → ¬ IsFullSum terms type
full_sum_none [] valid e type full = let (k, x, inside, at, reached) = full.frac.reached in absurd (omega (arith, inside))
full_sum_none ((s, t) ∷ terms) valid e type full =
    let all = (s, t) ∷ terms in
    let f = greatest_frac_of t terms in
    let g = is_greatest s t terms in
    let b = greatest_bounds all f valid g in
    let same : frac_of type ≡ f = greatest_only all (frac_of type) f full.frac g in
    let l = subst (λ (z : ℤ). InRange type (sum_of (least_term z) all)) same (full.holds _ (least_possible (frac_of type) all)) in
    let h = subst (λ (z : ℤ). InRange type (sum_of (greatest_term z) all)) same (full.holds _ (greatest_possible (frac_of type) all)) in
    narrowest_none (sum_of (least_term f) all) (sum_of (greatest_term f) all) f
    (sum_of-at_most (least_term f) (least_sign f) all)
    (sum_of-at_least (greatest_term f) (greatest_sign f) all) b.0 b.1 e type full.valid full.number l h

full_sum_only : (terms : Terms) (a b : FxType) → IsFullSum terms a → IsFullSum terms b → a ≡ b
full_sum_only terms a b p q =
    let f : frac_of a ≡ frac_of b = greatest_only terms (frac_of a) (frac_of b) p.frac q.frac in
    let least : width_of a ≤ width_of b = p.narrowest b q.valid q.number (sym f) q.holds in
    let most : width_of b ≤ width_of a = q.narrowest a p.valid p.number f p.holds in
    let sign_a = subst (λ (z : ℤ). (is_signed a ≡ false) ↔ ((total : ℤ) → IsPossibleSum z terms total → pos 0 ≤ℤ total)) f p.sign in
    same_number a b p.number q.number (same_bool (is_signed a) (is_signed b) (λ s. q.sign.1 (sign_a.0 s)) (λ s. sign_a.1 (q.sign.0 s))) (omega (arith, least, most)) f

pub full_sum_one : FullSumIsOne
full_sum_one terms type valid = one_answer (IsFullSum terms) (full_sum_of terms) (full_sum_some terms valid) (full_sum_none terms valid) (full_sum_only terms) type

-- ---- products
Decides-is_word : (w : ℕ) (s : Bool) → Decides (is_word w s) (IsWord w s)
Decides-is_word w true = Decides-and _ _ (Decides-nat_le 2 w) (Decides-nat_le w 128)
Decides-is_word w false = Decides-and _ _ (Decides-nat_le 1 w) (Decides-nat_le w 127)

-- a number's type is valid
abbrev is_valid : Bool → ℕ → ℤ → Bool
is_valid s w f = is_word w s && (int_le (negsuc 63) f && int_le f (pos 128))

Decides-is_valid : (s : Bool) (w : ℕ) (f : ℤ) → Decides (is_valid s w f) (IsType (Num s w f))
Decides-is_valid s w f =
    let d = Decides-and _ _ (Decides-is_word w s) (Decides-and _ _ (Decides-int_le (negsuc 63) f) (Decides-int_le f (pos 128))) in
    ((λ e. let h = d.0 e in (h.0, h.1.0, h.1.1)), (λ t. d.1 (t.0, (t.1, t.2))))

product_some : (a b : FxType) (s : Bool) (w : ℕ) (f : ℤ) → s ≡ (is_signed a || is_signed b) → w ≡ width_of a + width_of b → f ≡ frac_of a +ℤ frac_of b → (valid : Bool) → is_valid s w f ≡ valid
    → (type : FxType) → cond valid (Some (Num s w f)) None ≡ Some type → IsFullProduct a b type
product_some a b s w f p q r false e type m = absurd (Some≢None _ (sym m))
product_some a b s w f p q r true e type m =
    subst (IsFullProduct a b) (same_Some (Num s w f) type m) (record { valid = (Decides-is_valid s w f).0 e; number = tt; width = q; frac = r; sign = p })

product_none : (a b : FxType) (s : Bool) (w : ℕ) (f : ℤ) → s ≡ (is_signed a || is_signed b) → w ≡ width_of a + width_of b → f ≡ frac_of a +ℤ frac_of b → (valid : Bool) → is_valid s w f ≡ valid
    → cond valid (Some (Num s w f)) None ≡ None → (type : FxType) → ¬ IsFullProduct a b type
product_none a b s w f p q r true e m type full = Some≢None _ m
product_none a b s w f p q r false e m Logical full = full.number
product_none a b s w f p q r false e m (Num t v g) full =
    let is : IsType (Num s w f) = rw (p ∙ sym full.sign, q ∙ sym full.width, r ∙ sym full.frac) full.valid in true≢false (sym ((Decides-is_valid s w f).1 is) ∙ e)

product_only : (a b s t : FxType) → IsFullProduct a b s → IsFullProduct a b t → s ≡ t
product_only a b s t p q = same_number s t p.number q.number (p.sign ∙ sym q.sign) (p.width ∙ sym q.width) (p.frac ∙ sym q.frac)

pub full_product_one : FullProductIsOne
full_product_one a b type =
    one_answer (IsFullProduct a b) (full_product_of a b)
    (product_some a b _ _ _ refl refl refl (is_valid (is_signed a || is_signed b) (width_of a + width_of b) (frac_of a +ℤ frac_of b)) refl)
    (product_none a b _ _ _ refl refl refl (is_valid (is_signed a || is_signed b) (width_of a + width_of b) (frac_of a +ℤ frac_of b)) refl)
    (product_only a b) type

-- ---- unions
Decides-same_sign : (s t : Bool) → Decides (same_sign s t) (s ≡ t)
Decides-same_sign true true = ((λ e. refl), (λ e. refl))
Decides-same_sign true false = ((λ e. sym e), (λ e. sym e))
Decides-same_sign false true = ((λ e. e), (λ e. e))
Decides-same_sign false false = ((λ e. refl), (λ e. refl))

Decides-same_type : (a b : FxType) → Decides (same_type a b) (a ≡ b)
Decides-same_type (Num s w f) (Num t v g) =
    let d = Decides-and _ _ (Decides-same_sign s t) (Decides-and _ _ (Decides-eqb w v) (Decides-int_eq f g)) in
    ((λ e. let h = d.0 e in rw (h.0, h.1.0, h.1.1) refl), (λ e. d.1 (ap is_signed e, (ap width_of e, ap frac_of e))))
Decides-same_type (Num s w f) Logical = ((λ e. absurd (true≢false (sym e))), (λ e. absurd (subst IsNumber e tt)))
Decides-same_type Logical (Num s w f) = ((λ e. absurd (true≢false (sym e))), (λ e. absurd (subst IsNumber (sym e) tt)))
Decides-same_type Logical Logical = ((λ e. refl), (λ e. refl))

module _ (a b : FxType) (ta : IsType a) (tb : IsType b) where
  frac : ℤ
  frac = int_max (frac_of a) (frac_of b)

  least : ℤ
  least = int_min (least_term frac (false, a)) (least_term frac (false, b))

  greatest : ℤ
  greatest = int_max (greatest_term frac (false, a)) (greatest_term frac (false, b))

  low : least ≤ℤ pos 0
  unfolding least
  low = omega (arith, ints, clamps, least_sign frac (false, a), least_sign frac (false, b))

  high : pos 0 ≤ℤ greatest
  unfolding greatest
  high = omega (arith, ints, clamps, greatest_sign frac (false, a), greatest_sign frac (false, b))

  frac_low : negsuc 63 ≤ℤ frac
  unfolding frac
  frac_low = omega (arith, ints, clamps, frac_bounds a ta, frac_bounds b tb)

  frac_high : frac ≤ℤ pos 128
  unfolding frac
  frac_high = omega (arith, ints, clamps, frac_bounds a ta, frac_bounds b tb)

  different_some : a ≢ b → (type : FxType) → narrowest_of least greatest frac ≡ Some type → IsUnion a b type
  unfolding frac least greatest
  different_some d type m =
      let left : Span = record { low = least_term frac (false, a); high = greatest_term frac (false, a) } in
      let right : Span = record { low = least_term frac (false, b); high = greatest_term frac (false, b) } in
      union_is a b left right type least greatest frac d refl (record { low = refl; high = refl }) (record { low = refl; high = refl }) refl refl
      (narrowest_some least greatest frac low high frac_low frac_high type m)

  different_none : a ≢ b → narrowest_of least greatest frac ≡ None → (type : FxType) → ¬ IsUnion a b type
  unfolding frac least greatest
  different_none d m type u =
      let both = u.different d in
      let la : InRange type (least_term frac (false, a)) = subst (λ (f : ℤ). InRange type (least_term f (false, a))) both.frac (both.left _ (InRange-lowest a)) in
      let ga : InRange type (greatest_term frac (false, a)) = subst (λ (f : ℤ). InRange type (greatest_term f (false, a))) both.frac (both.left _ (InRange-highest a)) in
      let lb : InRange type (least_term frac (false, b)) = subst (λ (f : ℤ). InRange type (least_term f (false, b))) both.frac (both.right _ (InRange-lowest b)) in
      let gb : InRange type (greatest_term frac (false, b)) = subst (λ (f : ℤ). InRange type (greatest_term f (false, b))) both.frac (both.right _ (InRange-highest b)) in
      narrowest_none least greatest frac low high frac_low frac_high m type both.valid both.number
      (record { low = omega (arith, ints, clamps, la.low, lb.low); high = omega (arith, ints, clamps, la.high) })
      (record { low = omega (arith, ints, clamps, ga.low); high = omega (arith, ints, clamps, ga.high, gb.high) })

  union_some : (same : Bool) → same_type a b ≡ same → (type : FxType) → cond same (Some a) (narrowest_of least greatest frac) ≡ Some type → IsUnion a b type
  union_some true e type m =
      let is : a ≡ b = (Decides-same_type a b).0 e in record { same = λ _. sym (same_Some a type m); different = λ d. absurd (d is) }
  union_some false e type m = different_some (λ is. true≢false (sym ((Decides-same_type a b).1 is) ∙ e)) type m

  union_none : (same : Bool) → same_type a b ≡ same → cond same (Some a) (narrowest_of least greatest frac) ≡ None → (type : FxType) → ¬ IsUnion a b type
  union_none true e m type u = Some≢None _ m
  union_none false e m type u = different_none (λ is. true≢false (sym ((Decides-same_type a b).1 is) ∙ e)) m type u

  both_only : (s t : FxType) → HoldsBoth a b s → HoldsBoth a b t → s ≡ t
  both_only s t p q =
      let f : frac_of s ≡ frac_of t = p.frac ∙ sym q.frac in
      let up : width_of s ≤ width_of t = p.narrowest t q.valid q.number (sym f) q.left q.right in
      let down : width_of t ≤ width_of s = q.narrowest s p.valid p.number f p.left p.right in
      same_number s t p.number q.number (p.sign ∙ sym q.sign) (omega (arith, up, down)) f

  union_only : (s t : FxType) → IsUnion a b s → IsUnion a b t → s ≡ t
  union_only s t p q = by_same (same_type a b) refl
    where
      by_same : (same : Bool) → same_type a b ≡ same → s ≡ t
      by_same true e = let is = (Decides-same_type a b).0 e in p.same is ∙ sym (q.same is)
      by_same false e = let d : a ≢ b = λ is. true≢false (sym ((Decides-same_type a b).1 is) ∙ e) in both_only s t (p.different d) (q.different d)

pub union_one : UnionIsOne
unfolding frac least greatest
union_one a b type ta tb = one_answer (IsUnion a b) (union_of a b) (union_some a b ta tb (same_type a b) refl) (union_none a b ta tb (same_type a b) refl) (union_only a b ta tb) type
