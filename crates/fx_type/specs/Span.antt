-- The least and the greatest value of a term, of a sum, and the narrowest type that holds both
-- (own).
use Rattle.std.specs.Prelude.{◌≡◌, ◌≤◌, ◌↔◌, Bool, true, false, [], ◌∷◌, ℤ, pos, neg_ℤ, ◌+ℤ◌, ◌≤ℤ◌, FitsSigned}
use Rattle.std.specs.Int.{w128}
use Rattle.fx_type.specs.declared.full.Span.{Span}
use Rattle.fx_type.specs.declared.kind.FxType.{FxType}
use Rattle.fx_type.specs.FxType.{IsType, IsNumber, is_signed, width_of, frac_of, lowest_of, highest_of, InRange, aligned}
use Rattle.fx_type.specs.FullType.{Terms}

-- the ends of a term's range, with its sign
abbrev pub least_end : Bool → FxType → ℤ
least_end true type = neg_ℤ (highest_of type)
least_end false type = lowest_of type

-- the upper end of a term's range, with its sign
abbrev pub greatest_end : Bool → FxType → ℤ
greatest_end true type = neg_ℤ (lowest_of type)
greatest_end false type = highest_of type

-- the same, aligned to `frac`
abbrev pub least_term : ℤ → Bool × FxType → ℤ
least_term frac term = aligned frac term.1 (least_end term.0 term.1)

-- the upper end, aligned to `frac`
abbrev pub greatest_term : ℤ → Bool × FxType → ℤ
greatest_term frac term = aligned frac term.1 (greatest_end term.0 term.1)

-- the sum of a number for each term
abbrev pub sum_of : (Bool × FxType → ℤ) → Terms → ℤ
sum_of f [] = pos 0
sum_of f (term ∷ terms) = f term +ℤ sum_of f terms

-- the span has these ends
pub record IsSpan (least greatest : ℤ) (span : Span) : Type 0 where
  pub low : span.low ≡ least
  pub high : span.high ≡ greatest

-- both ends are numbers of 128 bits
abbrev pub FitSpan : ℤ → ℤ → Type 0
FitSpan least greatest = FitsSigned w128 least × FitsSigned w128 greatest

-- the narrowest number type with that many bits behind the point that has both ends
pub record IsNarrowest (least greatest behind : ℤ) (type : FxType) : Type 0 where
  pub valid : IsType type
  pub number : IsNumber type
  pub frac : frac_of type ≡ behind
  pub low : InRange type least
  pub high : InRange type greatest
  pub narrowest : (other : FxType) → IsType other → IsNumber other → InRange other least
      → InRange other greatest → width_of type ≤ width_of other
  pub sign : (is_signed type ≡ false) ↔ (pos 0 ≤ℤ least)
