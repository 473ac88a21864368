-- The full types of sums and unions.
use Rattle.std.proofs.Common.{◌≡◌, ◌≢◌, ℕ, ◌+◌, ◌-◌, ◌^◌, ◌<◌, ◌≤◌, min, Bool, true, false, ◌||◌, ℤ, pos, ◌+ℤ◌, ◌*ℤ◌, ◌≤ℤ◌, ◌<ℤ◌, ap, sym, ◌∙◌, refl, subst, arith, pow_pos, mul-pos, true≢false}
use Rattle.std.proofs.Common.{Result, Ok, Err, OnErr}
use Rattle.std.specs.Int.{int_max, int_min, int_gap}
use Rattle.std.proofs.lemmas.Int.{ints, clamps}
use Rattle.math_num.specs.Word.{IsWord}
use Rattle.fx_type.specs.declared.full.Span.{Span}
use Rattle.fx_type.specs.declared.kind.FxType.{FxType}
use Rattle.fx_type.specs.declared.kind.FxType.TheVariants.{Num, Logical}
use Rattle.fx_type.specs.FxType.{IsType, IsNumber, is_signed, width_of, frac_of, lowest_of, highest_of, InRange, aligned}
use Rattle.fx_type.specs.FullType.{Terms, IsPossibleSum, HoldsSums, IsGreatestFrac, IsFullSum, IsFullProduct, HoldsType, HoldsBoth, IsUnion}
use Rattle.fx_type.specs.Span.{least_term, greatest_term, sum_of, IsSpan, FitSpan, IsNarrowest}
use Rattle.math_num.proofs.Arithmetic.{scaled-mono, scaled-neg}
use Rattle.fx_type.proofs.Ranges.{InRange-lowest, InRange-highest, InRange-fits, InRange-between}
use Rattle.fx_type.proofs.Ends.{least_sign, greatest_sign, least_possible, greatest_possible, sum_bounds}

-- ---- sums
greatest_below : (terms : Terms) (a b : ℤ) → IsGreatestFrac terms a → IsGreatestFrac terms b → a ≤ℤ b
greatest_below terms a b p q =
    let (k, x, inside, at, reached) = p.reached in
    let h : frac_of x.1 ≤ℤ b = subst (λ (y : Bool × FxType). frac_of y.1 ≤ℤ b) at (q.bound k x inside) in
    omega (arith, ints, h, reached)

pub greatest_only : (terms : Terms) (a b : ℤ) → IsGreatestFrac terms a → IsGreatestFrac terms b → a ≡ b
greatest_only terms a b p q = omega (arith, ints, greatest_below terms a b p q, greatest_below terms b a q p)

pub no_full_sum : (terms : Terms) (frac : ℤ) → IsGreatestFrac terms frac → ¬ FitSpan (sum_of (least_term frac) terms) (sum_of (greatest_term frac) terms) → (t : FxType) → ¬ IsFullSum terms t
no_full_sum terms frac g n t full =
    let e : frac_of t ≡ frac = greatest_only terms (frac_of t) frac full.frac g in
    let m : ¬ FitSpan (sum_of (least_term (frac_of t)) terms) (sum_of (greatest_term (frac_of t)) terms) =
    subst (λ (f : ℤ). ¬ FitSpan (sum_of (least_term f) terms) (sum_of (greatest_term f) terms)) (sym e) n in
    m (InRange-fits t _ full.valid (full.holds _ (least_possible (frac_of t) terms)), InRange-fits t _ full.valid (full.holds _ (greatest_possible (frac_of t) terms)))

module _ (terms : Terms) (span : Span) (type : FxType) (g : IsGreatestFrac terms (frac_of type))
    (ends : IsSpan (sum_of (least_term (frac_of type)) terms) (sum_of (greatest_term (frac_of type)) terms) span)
    (n : IsNarrowest span.low span.high (frac_of type) type) where
  narrow_sum : (other : FxType) → IsType other → IsNumber other → frac_of other ≡ frac_of type → HoldsSums terms other → width_of type ≤ width_of other
  narrow_sum other valid number e holds =
      let l = subst (λ (f : ℤ). IsPossibleSum f terms (sum_of (least_term (frac_of type)) terms)) (sym e) (least_possible (frac_of type) terms) in
      let h = subst (λ (f : ℤ). IsPossibleSum f terms (sum_of (greatest_term (frac_of type)) terms)) (sym e) (greatest_possible (frac_of type) terms) in
      n.narrowest other valid number
      (subst (λ (z : ℤ). InRange other z) (sym ends.low) (holds _ l))
      (subst (λ (z : ℤ). InRange other z) (sym ends.high) (holds _ h))

  full_sum_here : IsFullSum terms type
  full_sum_here = record {
    valid = n.valid;
    number = n.number;
    frac = g;
    holds = λ total possible.
        let b = sum_bounds (frac_of type) terms total possible in
        InRange-between type span.low span.high total n.low n.high (omega (arith, ints, ends.low, b.0)) (omega (arith, ints, ends.high, b.1));
    narrowest = narrow_sum;
    sign = (
      (λ s total possible. omega (arith, ints, n.sign.0 s, ends.low, (sum_bounds (frac_of type) terms total possible).0)),
      (λ all. n.sign.1 (omega (arith, ints, all _ (least_possible (frac_of type) terms), ends.low))),
    );
  }

pub full_sum_is : (terms : Terms) (frac : ℤ) (span : Span) (type : FxType) → IsGreatestFrac terms frac
    → IsSpan (sum_of (least_term frac) terms) (sum_of (greatest_term frac) terms) span
    → IsNarrowest span.low span.high frac type → IsFullSum terms type
full_sum_is terms frac span type g ends n =
    let e = sym n.frac in
    full_sum_here terms span type
    (subst (λ (f : ℤ). IsGreatestFrac terms f) e g)
    (subst (λ (f : ℤ). IsSpan (sum_of (least_term f) terms) (sum_of (greatest_term f) terms) span) e ends)
    (subst (λ (f : ℤ). IsNarrowest span.low span.high f type) e n)

-- ---- products
-- no word is wider
pub word_most : (signed : Bool) (width : ℕ) → IsWord width signed → width ≤ 128
word_most true width valid = valid.1
word_most false width valid = omega (arith, valid.1)

-- where a full product is valid, a type made of its width, cut at 255, and its frac is
pub product_valid : (a b type : FxType) (signed : Bool) (width : ℕ) (frac : ℤ)
    → signed ≡ (is_signed a || is_signed b) → width ≡ min (width_of a + width_of b) 255
    → frac ≡ frac_of a +ℤ frac_of b → IsFullProduct a b type
    → IsType (Num signed width frac)
product_valid a b (Num s w f) signed width frac sign size point full =
    let most = word_most s w full.valid.0 in
    let same : width ≡ w = omega (arith, size, full.width, most) in
    rw (sign ∙ sym full.sign, same, point ∙ sym full.frac) full.valid
product_valid a b Logical signed width frac sign size point full = absurd full.number

-- ---- unions
holds_ends : (t a : FxType) → IsType t → HoldsType t a → FitSpan (least_term (frac_of t) (false, a)) (greatest_term (frac_of t) (false, a))
holds_ends t a valid h = (InRange-fits t _ valid (h (lowest_of a) (InRange-lowest a)), InRange-fits t _ valid (h (highest_of a) (InRange-highest a)))

pub no_left : (a b : FxType) → a ≢ b → ¬ FitSpan (least_term (int_max (frac_of a) (frac_of b)) (false, a)) (greatest_term (int_max (frac_of a) (frac_of b)) (false, a)) → (t : FxType) → ¬ IsUnion a b t
no_left a b d n t u =
    let both = u.different d in
    n (subst (λ (f : ℤ). FitSpan (least_term f (false, a)) (greatest_term f (false, a))) both.frac (holds_ends t a both.valid both.left))

pub no_right : (a b : FxType) → a ≢ b → ¬ FitSpan (least_term (int_max (frac_of a) (frac_of b)) (false, b))
    (greatest_term (int_max (frac_of a) (frac_of b)) (false, b)) → (t : FxType) → ¬ IsUnion a b t
no_right a b d n t u =
    let both = u.different d in
    n (subst (λ (f : ℤ). FitSpan (least_term f (false, b)) (greatest_term f (false, b))) both.frac (holds_ends t b both.valid both.right))

-- a type that holds both ends of another holds it
holds_other : (t a : FxType) → InRange t (aligned (frac_of t) a (lowest_of a)) → InRange t (aligned (frac_of t) a (highest_of a)) → HoldsType t a
holds_other t a l h v r =
    let d = 2 ^ int_gap (frac_of a) (frac_of t) in
    InRange-between t _ _ _ l h (scaled-mono (lowest_of a) v d r.low) (scaled-mono v (highest_of a) d r.high)

-- the sign of a type is that of its least number
signed_below : (t : FxType) (d : ℕ) → 0 < d → is_signed t ≡ true → (lowest_of t *ℤ pos d) <ℤ pos 0
signed_below (Num true w f) d h e = omega (arith, ints, scaled-neg (pos (2 ^ (w - 1))) d, mul-pos (pow_pos (w - 1)) h)
signed_below (Num false w f) d h e = absurd (true≢false (sym e))
signed_below Logical d h e = absurd (true≢false (sym e))

unsigned_zero : (t : FxType) (d : ℕ) → is_signed t ≡ false → lowest_of t *ℤ pos d ≡ pos 0
unsigned_zero (Num true w f) d e = absurd (true≢false e)
unsigned_zero (Num false w f) d e = omega (arith, ints)
unsigned_zero Logical d e = omega (arith, ints)

sign_of : (low la lb : ℤ) (s sa sb : Bool) → low ≡ int_min la lb → (s ≡ false → pos 0 ≤ℤ low)
    → (pos 0 ≤ℤ low → s ≡ false) → (sa ≡ true → la <ℤ pos 0) → (sa ≡ false → la ≡ pos 0) → (sb ≡ true → lb <ℤ pos 0)
    → (sb ≡ false → lb ≡ pos 0) → s ≡ (sa || sb)
sign_of low la lb true true sb m p q ta fa tb fb = refl
sign_of low la lb true false true m p q ta fa tb fb = refl
sign_of low la lb true false false m p q ta fa tb fb = q (omega (arith, ints, clamps, fa refl, fb refl))
sign_of low la lb false true sb m p q ta fa tb fb = absurd (omega (arith, ints, clamps, p refl, ta refl))
sign_of low la lb false false true m p q ta fa tb fb = absurd (omega (arith, ints, clamps, p refl, tb refl))
sign_of low la lb false false false m p q ta fa tb fb = refl

module _ (a b : FxType) (left right : Span) (type : FxType) (low high : ℤ)
    (frac : frac_of type ≡ int_max (frac_of a) (frac_of b))
    (at_left : IsSpan (least_term (frac_of type) (false, a)) (greatest_term (frac_of type) (false, a)) left)
    (at_right : IsSpan (least_term (frac_of type) (false, b)) (greatest_term (frac_of type) (false, b)) right)
    (at_low : low ≡ int_min left.low right.low) (at_high : high ≡ int_max left.high right.high)
    (n : IsNarrowest low high (frac_of type) type) where
  holds_one : (one : FxType) (span : Span) → IsSpan (least_term (frac_of type) (false, one)) (greatest_term (frac_of type) (false, one)) span → low ≤ℤ span.low → span.high ≤ℤ high → HoldsType type one
  holds_one one span at below above =
      let l = least_sign (frac_of type) (false, one) in
      let h = greatest_sign (frac_of type) (false, one) in
      holds_other type one
      (InRange-between type low high _ n.low n.high (omega (arith, ints, below, at.low)) (omega (arith, ints, above, at.low, at.high, l, h)))
      (InRange-between type low high _ n.low n.high (omega (arith, ints, below, at.low, at.high, l, h)) (omega (arith, ints, above, at.high)))

  narrow_union : (other : FxType) → IsType other → IsNumber other → frac_of other ≡ frac_of type → HoldsType other a → HoldsType other b → width_of type ≤ width_of other
  narrow_union other valid number e ha hb =
      let la : InRange other left.low = subst (λ (z : ℤ). InRange other z) (ap (λ (f : ℤ). least_term f (false, a)) e ∙ sym at_left.low) (ha (lowest_of a) (InRange-lowest a)) in
      let ga : InRange other left.high = subst (λ (z : ℤ). InRange other z) (ap (λ (f : ℤ). greatest_term f (false, a)) e ∙ sym at_left.high) (ha (highest_of a) (InRange-highest a)) in
      let lb : InRange other right.low = subst (λ (z : ℤ). InRange other z) (ap (λ (f : ℤ). least_term f (false, b)) e ∙ sym at_right.low) (hb (lowest_of b) (InRange-lowest b)) in
      let gb : InRange other right.high = subst (λ (z : ℤ). InRange other z) (ap (λ (f : ℤ). greatest_term f (false, b)) e ∙ sym at_right.high) (hb (highest_of b) (InRange-highest b)) in
      n.narrowest other valid number
      (record { low = omega (arith, ints, clamps, la.low, lb.low); high = omega (arith, ints, clamps, la.high) })
      (record { low = omega (arith, ints, clamps, ga.low); high = omega (arith, ints, clamps, ga.high, gb.high) })

  union_here : HoldsBoth a b type
  union_here = record {
    valid = n.valid;
    number = n.number;
    frac = frac;
    left = holds_one a left at_left (omega (arith, ints, clamps, at_low)) (omega (arith, ints, clamps, at_high));
    right = holds_one b right at_right (omega (arith, ints, clamps, at_low)) (omega (arith, ints, clamps, at_high));
    narrowest = narrow_union;
    sign = sign_of low left.low right.low (is_signed type) (is_signed a) (is_signed b) at_low n.sign.0 n.sign.1
        (λ e. let k = signed_below a (2 ^ int_gap (frac_of a) (frac_of type)) (pow_pos (int_gap (frac_of a) (frac_of type))) e in omega (arith, ints, at_left.low, k))
        (λ e. at_left.low ∙ unsigned_zero a (2 ^ int_gap (frac_of a) (frac_of type)) e)
        (λ e. let k = signed_below b (2 ^ int_gap (frac_of b) (frac_of type)) (pow_pos (int_gap (frac_of b) (frac_of type))) e in omega (arith, ints, at_right.low, k))
        (λ e. at_right.low ∙ unsigned_zero b (2 ^ int_gap (frac_of b) (frac_of type)) e);
  }

pub union_is : (a b : FxType) (left right : Span) (type : FxType) (low high frac : ℤ) → a ≢ b → frac ≡ int_max (frac_of a) (frac_of b)
    → IsSpan (least_term frac (false, a)) (greatest_term frac (false, a)) left
    → IsSpan (least_term frac (false, b)) (greatest_term frac (false, b)) right
    → low ≡ int_min left.low right.low → high ≡ int_max left.high right.high → IsNarrowest low high frac type → IsUnion a b type
union_is a b left right type low high frac d f p q l h n = record {
  same = λ e. absurd (d e);
  different = λ _. union_here a b left right type low high (n.frac ∙ f)
      (subst (λ (z : ℤ). IsSpan (least_term z (false, a)) (greatest_term z (false, a)) left) (sym n.frac) p)
      (subst (λ (z : ℤ). IsSpan (least_term z (false, b)) (greatest_term z (false, b)) right) (sym n.frac) q)
      l h
      (subst (λ (z : ℤ). IsNarrowest low high z type) (sym n.frac) n);
}

-- a fact that holds anyway holds on an error
pub OnErr-from : {T E : Type 0} (r : Result T E) (P : Type 0) → P → OnErr r P
OnErr-from (Ok x) P p = tt
OnErr-from (Err e) P p = p
