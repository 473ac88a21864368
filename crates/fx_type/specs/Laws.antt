-- The functions of full types and of stored decimals give the one answer that the relations allow,
-- or none (own).
use Rattle.std.specs.Prelude.{◌≡◌, ◌↔◌, ℕ, ◌<◌, Some, ℤ, All}
use Rattle.fx_type.specs.declared.kind.FxType.{FxType}
use Rattle.fx_type.specs.declared.rounding.Rounding.TheVariants.{Nearest}
use Rattle.fx_type.specs.declared.decimal.Decimal.{Decimal}
use Rattle.fx_type.specs.FxType.{IsType}
use Rattle.fx_type.specs.FullType.{Terms, IsFullSum, IsFullProduct, IsUnion}
use Rattle.fx_type.specs.Conversion.{Rounds, Stores}
use Rattle.fx_type.specs.FullTypeOf.{full_sum_of, full_product_of, union_of}
use Rattle.fx_type.specs.StoredOf.{nearest_of, stored_of}

-- a type is the full type of terms exactly where the function gives it
abbrev pub FullSumIsOne : Type 0
FullSumIsOne =
    (terms : Terms) (type : FxType) → All (λ term. IsType term.1) terms
    → (IsFullSum terms type ↔ (full_sum_of terms ≡ Some type))

-- the same of a product
abbrev pub FullProductIsOne : Type 0
FullProductIsOne =
    (a b type : FxType) → (IsFullProduct a b type ↔ (full_product_of a b ≡ Some type))

-- the same of a union
abbrev pub UnionIsOne : Type 0
UnionIsOne =
    (a b type : FxType) → IsType a → IsType b → (IsUnion a b type ↔ (union_of a b ≡ Some type))

-- a quotient is rounded to the nearest exactly as the function says
abbrev pub NearestIsOne : Type 0
NearestIsOne = (n : ℤ) (d : ℕ) (r : ℤ) → 0 < d → (Rounds Nearest n d r ↔ (nearest_of n d ≡ r))

-- a decimal is stored in a valid type exactly as the function says
abbrev pub StoredIsOne : Type 0
StoredIsOne =
    (d : Decimal) (type : FxType) (r : ℤ) → IsType type → (Stores d type r ↔ (stored_of d type ≡ r))
