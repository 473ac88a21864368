-- The types that hold every sum, product or value of others (Fixed-Point Designer guide; exact
-- widths own).
use Rattle.std.specs.Prelude.{◌≡◌, ◌≢◌, ◌+◌, ◌≤◌, ◌↔◌, Bool, true, false, ◌||◌, List, [], ◌∷◌, ℤ, pos, neg_ℤ, ◌+ℤ◌, ◌≤ℤ◌, All, Any}
use Rattle.std.specs.Int.{int_max}
use Rattle.fx_type.specs.declared.kind.FxType.{FxType}
use Rattle.fx_type.specs.FxType.{IsType, IsNumber, is_signed, width_of, frac_of, InRange, aligned}

-- ---- sums

-- a term of a sum, which the flag marks as subtracted
abbrev pub Terms : Type 0
Terms = List (Bool × FxType)

-- the number, or its negative where the flag is set
abbrev pub negated_if : Bool → ℤ → ℤ
negated_if true v = neg_ℤ v
negated_if false v = v

-- the total of a value of the term's type and a sum of the rest
pub record IsSumOf (frac : ℤ) (term : Bool × FxType) (rest : ℤ → Type 0) (total : ℤ) : Type 0 where
  pub value : ℤ
  pub others : ℤ
  pub in_range : InRange term.1 value
  pub is_rest : rest others
  pub is_total : total ≡ negated_if term.0 (aligned frac term.1 value) +ℤ others

-- some choice of a value for each term has this sum, with each value aligned to `frac`
abbrev pub IsPossibleSum : ℤ → Terms → ℤ → Type 0
IsPossibleSum frac [] total = total ≡ pos 0
IsPossibleSum frac (term ∷ terms) total = IsSumOf frac term (IsPossibleSum frac terms) total

-- the range of the type has every possible sum
abbrev pub HoldsSums : Terms → FxType → Type 0
HoldsSums terms type = (total : ℤ) → IsPossibleSum (frac_of type) terms total → InRange type total

-- frac is the greatest of the terms
pub record IsGreatestFrac (terms : Terms) (frac : ℤ) : Type 0 where
  pub bound : All (λ term. frac_of term.1 ≤ℤ frac) terms
  pub reached : Any (λ term. frac_of term.1 ≡ frac) terms

-- the narrowest type that holds every possible sum, unsigned exactly where none is negative
pub record IsFullSum (terms : Terms) (type : FxType) : Type 0 where
  pub valid : IsType type
  pub number : IsNumber type
  pub frac : IsGreatestFrac terms (frac_of type)
  pub holds : HoldsSums terms type
  pub narrowest : (other : FxType) → IsType other → IsNumber other → frac_of other ≡ frac_of type
      → HoldsSums terms other → width_of type ≤ width_of other
  pub sign : (is_signed type ≡ false) ↔
      ((total : ℤ) → IsPossibleSum (frac_of type) terms total → pos 0 ≤ℤ total)

-- ---- products

-- as wide as both together, signed where either is
pub record IsFullProduct (a b type : FxType) : Type 0 where
  pub valid : IsType type
  pub number : IsNumber type
  pub width : width_of type ≡ width_of a + width_of b
  pub frac : frac_of type ≡ frac_of a +ℤ frac_of b
  pub sign : is_signed type ≡ (is_signed a || is_signed b)

-- ---- unions

-- the range of the type has every value of the other, aligned to the type
abbrev pub HoldsType : FxType → FxType → Type 0
HoldsType type other = (v : ℤ) → InRange other v → InRange type (aligned (frac_of type) other v)

-- the narrowest type that holds both, with the greater frac
pub record HoldsBoth (a b type : FxType) : Type 0 where
  pub valid : IsType type
  pub number : IsNumber type
  pub frac : frac_of type ≡ int_max (frac_of a) (frac_of b)
  pub left : HoldsType type a
  pub right : HoldsType type b
  pub narrowest : (other : FxType) → IsType other → IsNumber other → frac_of other ≡ frac_of type
      → HoldsType other a → HoldsType other b → width_of type ≤ width_of other
  pub sign : is_signed type ≡ (is_signed a || is_signed b)

-- a type is its own union
pub record IsUnion (a b type : FxType) : Type 0 where
  pub same : a ≡ b → type ≡ a
  pub different : a ≢ b → HoldsBoth a b type
