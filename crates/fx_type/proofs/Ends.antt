-- The ends of ranges, of terms and of sums.
use Rattle.std.proofs.Common.{◌≡◌, ℕ, ◌+◌, ◌^◌, ◌<◌, Bool, true, false, not, [], ◌∷◌, ◌++◌, take, drop, length, get_or, ℤ, pos, ◌+ℤ◌, ◌≤ℤ◌, ap, sym, ◌∙◌, arith, refl, take-append-drop, MatchResult}
use Rattle.std.proofs.Common.{Result, IsErr, Ok, Err, true≢false, subst₂}
use Rattle.std.specs.Int.{int_gap}
use Rattle.std.proofs.lemmas.Int.{ints}
use Rattle.std.proofs.lemmas.List.{take_more}
use Rattle.math_num.proofs.Arithmetic.{scaled-mono, scaled-neg, scaled-at_most, scaled-at_least}
use Rattle.fx_type.specs.declared.kind.FxType.{FxType}
use Rattle.fx_type.specs.FxType.{frac_of, lowest_of, highest_of, InRange, aligned}
use Rattle.fx_type.specs.FullType.{Terms, negated_if, IsPossibleSum}
use Rattle.fx_type.specs.Span.{least_end, greatest_end, least_term, greatest_term, sum_of, IsSpan, FitSpan}
use Rattle.fx_type.proofs.Ranges.{lowest_sign, highest_sign, InRange-lowest, InRange-highest}
use Rattle.fx_type.specs.declared.full.Span.{Span}
use Rattle.fx_type.specs.declared.full.TooWide.{TooWide}

-- ---- terms
least_end_sign : (s : Bool) (t : FxType) → least_end s t ≤ℤ pos 0
least_end_sign true t = omega (arith, ints, highest_sign t)
least_end_sign false t = lowest_sign t

greatest_end_sign : (s : Bool) (t : FxType) → pos 0 ≤ℤ greatest_end s t
greatest_end_sign true t = omega (arith, ints, lowest_sign t)
greatest_end_sign false t = highest_sign t

pub least_sign : (frac : ℤ) (term : Bool × FxType) → least_term frac term ≤ℤ pos 0
least_sign frac (s, t) = scaled-at_most (least_end s t) (2 ^ int_gap (frac_of t) frac) (least_end_sign s t)

pub greatest_sign : (frac : ℤ) (term : Bool × FxType) → pos 0 ≤ℤ greatest_term frac term
greatest_sign frac (s, t) = scaled-at_least (greatest_end s t) (2 ^ int_gap (frac_of t) frac) (greatest_end_sign s t)

pub term_bounds : (frac : ℤ) (s : Bool) (t : FxType) (v : ℤ) → InRange t v
    → (least_term frac (s, t) ≤ℤ negated_if s (aligned frac t v))
    × (negated_if s (aligned frac t v) ≤ℤ greatest_term frac (s, t))
term_bounds frac true t v h =
    let d = 2 ^ int_gap (frac_of t) frac in
    (omega (arith, ints, scaled-mono v (highest_of t) d h.high, scaled-neg (highest_of t) d), omega (arith, ints, scaled-mono (lowest_of t) v d h.low, scaled-neg (lowest_of t) d))
term_bounds frac false t v h =
    let d = 2 ^ int_gap (frac_of t) frac in
    (scaled-mono (lowest_of t) v d h.low, scaled-mono v (highest_of t) d h.high)

-- the greatest stored integer, or the least: that at the least end of a term, or at the greatest where the sign is turned
abbrev end_value : Bool → FxType → ℤ
end_value true t = highest_of t
end_value false t = lowest_of t

InRange-end_value : (s : Bool) (t : FxType) → InRange t (end_value s t)
InRange-end_value true t = InRange-highest t
InRange-end_value false t = InRange-lowest t

least_term-is : (frac : ℤ) (s : Bool) (t : FxType) → least_term frac (s, t) ≡ negated_if s (aligned frac t (end_value s t))
least_term-is frac true t = scaled-neg (highest_of t) (2 ^ int_gap (frac_of t) frac)
least_term-is frac false t = refl

greatest_term-is : (frac : ℤ) (s : Bool) (t : FxType) → greatest_term frac (s, t) ≡ negated_if s (aligned frac t (end_value (not s) t))
greatest_term-is frac true t = scaled-neg (lowest_of t) (2 ^ int_gap (frac_of t) frac)
greatest_term-is frac false t = refl

-- ---- sums
module _ (frac : ℤ) (end : Bool → Bool) (term : Bool × FxType → ℤ) (is : (s : Bool) (t : FxType) → term (s, t) ≡ negated_if s (aligned frac t (end_value (end s) t))) where
  possible : (terms : Terms) → IsPossibleSum frac terms (sum_of term terms)
  possible [] = refl
  possible ((s, t) ∷ terms) = record {
    value = end_value (end s) t;
    others = sum_of term terms;
    in_range = InRange-end_value (end s) t;
    is_rest = possible terms;
    is_total = ap (λ (z : ℤ). z +ℤ sum_of term terms) (is s t);
  }

pub least_possible : (frac : ℤ) (terms : Terms) → IsPossibleSum frac terms (sum_of (least_term frac) terms)
least_possible frac = possible frac (λ s. s) (least_term frac) (least_term-is frac)

pub greatest_possible : (frac : ℤ) (terms : Terms) → IsPossibleSum frac terms (sum_of (greatest_term frac) terms)
greatest_possible frac = possible frac not (greatest_term frac) (greatest_term-is frac)

pub sum_bounds : (frac : ℤ) (terms : Terms) (total : ℤ) → IsPossibleSum frac terms total → (sum_of (least_term frac) terms ≤ℤ total) × (total ≤ℤ sum_of (greatest_term frac) terms)
sum_bounds frac [] total h = (omega (arith, ints, h), omega (arith, ints, h))
sum_bounds frac ((s, t) ∷ terms) total h =
    let one = term_bounds frac s t h.value h.in_range in
    let rest = sum_bounds frac terms h.others h.is_rest in
    (omega (arith, ints, one.0, rest.0, h.is_total), omega (arith, ints, one.1, rest.1, h.is_total))

module _ (f : Bool × FxType → ℤ) where
  pub sum_of-append : (xs ys : Terms) → sum_of f (xs ++ ys) ≡ sum_of f xs +ℤ sum_of f ys
  sum_of-append [] ys = omega (arith, ints)
  sum_of-append (x ∷ xs) ys = omega (arith, ints, sum_of-append xs ys)

  pub sum_of-more : (xs : Terms) (i : ℕ) (d : Bool × FxType) → i < length xs → sum_of f (take (i + 1) xs) ≡ sum_of f (take i xs) +ℤ f (get_or xs i d)
  sum_of-more xs i d h = ap (sum_of f) (take_more xs i d h) ∙ sum_of-append (take i xs) (get_or xs i d ∷ []) ∙ omega (arith, ints)

  pub sum_of-at_most : ((t : Bool × FxType) → f t ≤ℤ pos 0) → (xs : Terms) → sum_of f xs ≤ℤ pos 0
  sum_of-at_most h [] = omega (arith, ints)
  sum_of-at_most h (x ∷ xs) = omega (arith, ints, h x, sum_of-at_most h xs)

  pub sum_of-at_least : ((t : Bool × FxType) → pos 0 ≤ℤ f t) → (xs : Terms) → pos 0 ≤ℤ sum_of f xs
  sum_of-at_least h [] = omega (arith, ints)
  sum_of-at_least h (x ∷ xs) = omega (arith, ints, h x, sum_of-at_least h xs)

  sum_of-split : (xs : Terms) (n : ℕ) → sum_of f xs ≡ sum_of f (take n xs) +ℤ sum_of f (drop n xs)
  sum_of-split xs n = ap (sum_of f) (sym (take-append-drop n xs)) ∙ sum_of-append (take n xs) (drop n xs)

  pub sum_of-take_at_least : ((t : Bool × FxType) → f t ≤ℤ pos 0) → (xs : Terms) (n : ℕ) → sum_of f xs ≤ℤ sum_of f (take n xs)
  sum_of-take_at_least h xs n = omega (arith, ints, sum_of-split xs n, sum_of-at_most h (drop n xs))

  pub sum_of-take_at_most : ((t : Bool × FxType) → pos 0 ≤ℤ f t) → (xs : Terms) (n : ℕ) → sum_of f (take n xs) ≤ℤ sum_of f xs
  sum_of-take_at_most h xs n = omega (arith, ints, sum_of-split xs n, sum_of-at_least h (drop n xs))

-- ---- what passes 128 bits
module _ (frac : ℤ) (xs : Terms) (i : ℕ) (d : Bool × FxType) (inside : i < length xs) (fit : FitSpan (sum_of (least_term frac) xs) (sum_of (greatest_term frac) xs)) where
  pub parts_fit : FitSpan (sum_of (least_term frac) (take i xs) +ℤ least_term frac (get_or xs i d)) (sum_of (greatest_term frac) (take i xs) +ℤ greatest_term frac (get_or xs i d))
  parts_fit =
      let l = sum_of-take_at_least (least_term frac) (least_sign frac) xs (i + 1) in
      let g = sum_of-take_at_most (greatest_term frac) (greatest_sign frac) xs (i + 1) in
      let ls = sum_of-at_most (least_term frac) (least_sign frac) (take (i + 1) xs) in
      let gs = sum_of-at_least (greatest_term frac) (greatest_sign frac) (take (i + 1) xs) in
      let le = sum_of-more (least_term frac) xs i d inside in
      let ge = sum_of-more (greatest_term frac) xs i d inside in
      (omega (arith, ints, fit.0, l, ls, le), omega (arith, ints, fit.1, g, gs, ge))

  pub term_fits : FitSpan (least_term frac (get_or xs i d)) (greatest_term frac (get_or xs i d))
  term_fits =
      let p = parts_fit in
      let ls = sum_of-at_most (least_term frac) (least_sign frac) (take i xs) in
      let gs = sum_of-at_least (greatest_term frac) (greatest_sign frac) (take i xs) in
      let lt = least_sign frac (get_or xs i d) in
      let gt = greatest_sign frac (get_or xs i d) in
      (omega (arith, ints, p.0, ls, lt), omega (arith, ints, p.1, gs, gt))

-- ---- what a call says of two ends
pub same_span : (r : Result Span TooWide) (l l' h h' : ℤ) → l ≡ l' → h ≡ h' → MatchResult r (IsSpan l h) (λ _. ¬ FitSpan l h) → MatchResult r (IsSpan l' h') (λ _. ¬ FitSpan l' h')
same_span r l l' h h' e f m = subst₂ (λ (x y : ℤ). MatchResult r (IsSpan x y) (λ _. ¬ FitSpan x y)) e f m

pub refuses : (r : Result Span TooWide) (l h : ℤ) → IsErr r → ¬ FitSpan l h → MatchResult r (IsSpan l h) (λ _. ¬ FitSpan l h)
refuses (Ok x) l h e n = absurd (true≢false (sym e))
refuses (Err x) l h e n = n
