-- What the inputs of a block carry, and what a block must have for its type to be worked out (own).
use Rattle.std.specs.Prelude.{◌≡◌, ℕ, ◌<◌, ◌==◌, ◌&&◌, nat_le, Bool, true, List, [], ◌∷◌, ◌++◌, length, map, All, Option, Some, None, ⊤, pos, negsuc, int_le, slice_get, slice_index_or}
use Rattle.fx_type.specs.declared.kind.FxType.{FxType}
use Rattle.fx_type.specs.declared.kind.FxType.TheVariants.{Num, Logical}
use Rattle.fx_type.specs.declared.spec.TypeSpec.{TypeSpec}
use Rattle.fx_type.specs.declared.spec.TypeSpec.TheVariants.{Fixed, Internal, SameFirst, Auto}
use Rattle.fx_type.specs.FullType.{Terms}
use Rattle.fx_type.specs.FullTypeOf.{is_word, full_sum_of, full_product_of, union_of}
use Rattle.fx_type.specs.FxType.{IsType}
use Rattle.dg_model.specs.declared.diagram.Block.{Block}
use Rattle.dg_model.specs.KindRow.{FullRule}
use Rattle.dg_model.specs.Library.{row_of}
use Rattle.dg_model.specs.Periods.{known_or, known_at}
use Rattle.dg_model.specs.TypeRounds.{Types, with_known, type_of_next}
use Rattle.dg_types.specs.declared.linked.Source.{Source}
use Rattle.dg_types.specs.declared.typed_step.Pairing.{Pairing}
use Rattle.dg_types.specs.declared.typed_step.Pairing.TheVariants.{Product, Union}

-- the types at the sources of a block's inputs, in order of its ports
abbrev pub source_types : Types → List Source → Types
source_types values sources = map (λ source. known_at values source.block) sources

-- a type that is known is valid
abbrev pub IsKnownValid : Option FxType → Type 0
IsKnownValid None = ⊤
IsKnownValid (Some type) = IsType type

-- the sources are blocks that have a place, and the types that are known are valid
pub record CanRead (values : Types) (sources : List Source) : Type 0 where
  pub there : All (λ source. source.block < length values) sources
  pub valid : All IsKnownValid values

-- what is made of two types
abbrev pub paired_of : Pairing → FxType → FxType → Option FxType
paired_of Product left right = full_product_of left right
paired_of Union left right = union_of left right

-- ---- the terms of a sum

-- what follows a list, where there is one
abbrev pub joined : {A : Type 0} → List A → Option (List A) → Option (List A)
joined front None = None
joined front (Some rest) = Some (front ++ rest)

-- each known type with its sign, as far as both lists go; none where one isn't known
abbrev pub terms_of : List Bool → Types → Option Terms
terms_of [] types = Some []
terms_of (negative ∷ signs) [] = Some []
terms_of (negative ∷ signs) (type ∷ types) =
    with_known type (λ known. joined ((negative, known) ∷ []) (terms_of signs types))

-- ---- what makes a block's type one that can be worked out, as tests

-- the type is valid
abbrev pub is_valid_type : FxType → Bool
is_valid_type (Num signed width frac) =
    is_word width signed && (int_le (negsuc 63) frac && int_le frac (pos 128))
is_valid_type Logical = true

-- a type that is written out is valid
abbrev pub is_valid_spec : TypeSpec → Bool
is_valid_spec (Fixed type) = is_valid_type type
is_valid_spec Internal = true
is_valid_spec SameFirst = true
is_valid_spec Auto = true

-- a Sum has 1 to 32 terms, one for each input, and a Gain's coefficients a valid type
abbrev pub is_full_ready : FullRule → ℕ → Bool
is_full_ready FullRule.NoFull inputs = true
is_full_ready (FullRule.FullSum negative accum) inputs =
    (length negative == inputs) && (nat_le 1 (length negative) && (nat_le (length negative) 32
    && is_valid_spec accum))
is_full_ready (FullRule.FullScaled value param) inputs = is_valid_spec param
is_full_ready FullRule.FullProduct inputs = true
is_full_ready FullRule.UnionOfTwo inputs = true
is_full_ready FullRule.UnionOfEnds inputs = true

-- the block's type can be worked out of so many inputs
abbrev pub is_ready : Block → ℕ → Bool
is_ready block inputs =
    is_valid_spec block.result && is_full_ready (row_of block.kind).types.full inputs

-- each block can be typed from the sources of its inputs
pub record AreReady (blocks : List Block) (sources : List (List Source)) : Type 0 where
  pub size : length sources ≡ length blocks
  pub ready : (k : ℕ) (block : Block) → slice_get blocks k ≡ Some block
      → is_ready block (length (slice_index_or sources k [])) ≡ true

-- the type of the block at a place after one more round, from its sources
abbrev pub next_typed : List Block → List (List Source) → Types → ℕ → Option FxType
next_typed blocks sources values block =
    known_or (known_at values block)
    (type_of_next (slice_get blocks block) (source_types values (slice_index_or sources block [])))

-- full sums and unions of valid types are valid
pub record FullTypesAreValid : Type 0 where
  pub sums : (terms : Terms) (type : FxType) → All (λ term. IsType term.1) terms
      → full_sum_of terms ≡ Some type → is_valid_type type ≡ true
  pub unions : (left right type : FxType) → IsType left → IsType right
      → union_of left right ≡ Some type → is_valid_type type ≡ true
