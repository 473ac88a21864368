-- Which types the signals of a diagram have, by rounds (Simulink reference, `OutDataTypeStr`; the
-- rounds, and what the internal rule gives, are own).
use Rattle.std.specs.Prelude.{ℕ, Bool, false, List, [], ◌∷◌, length, map, zip, Option, Some, None, slice_get}
use Rattle.dg_waves.specs.Rounds.{after_rounds}
use Rattle.fx_type.specs.declared.kind.FxType.{FxType}
use Rattle.fx_type.specs.declared.spec.TypeSpec.{TypeSpec}
use Rattle.fx_type.specs.declared.spec.TypeSpec.TheVariants.{Fixed, Internal, SameFirst, Auto}
use Rattle.fx_type.specs.FullType.{Terms}
use Rattle.fx_type.specs.FullTypeOf.{full_sum_of, full_product_of, union_of}
use Rattle.dg_model.specs.declared.diagram.Diagram.{Diagram}
use Rattle.dg_model.specs.declared.diagram.Block.{Block}
use Rattle.dg_model.specs.declared.kind.Kind.{Kind}
use Rattle.dg_model.specs.declared.row.OwnType.{OwnType}
use Rattle.dg_model.specs.KindRow.{FullRule}
use Rattle.dg_model.specs.Library.{row_of}
use Rattle.dg_model.specs.GainParam.{param_type_of}
use Rattle.dg_model.specs.Wires.{edges_into}
use Rattle.dg_model.specs.Periods.{known_or, known_at}

-- what follows from a known type
abbrev pub with_known : {A B : Type 0} → Option A → (A → Option B) → Option B
with_known None next = None
with_known (Some x) next = next x

-- a list of which all is known
abbrev pub all_known : {A : Type 0} → List (Option A) → Option (List A)
all_known [] = Some []
all_known (x ∷ xs) = with_known x (λ y. with_known (all_known xs) (λ ys. Some (y ∷ ys)))

-- the type of each block's outputs, where it is known
abbrev pub Types : Type 0
Types = List (Option FxType)

-- the types of a block's inputs in order of its ports
abbrev pub input_types : Diagram → Types → ℕ → Types
input_types diagram types place = map (λ edge. known_at types edge.from) (edges_into diagram place)

-- the type that a specification writes out
abbrev pub explicit_type : TypeSpec → Option FxType
explicit_type (Fixed type) = Some type
explicit_type Internal = None
explicit_type SameFirst = None
explicit_type Auto = None

-- by a specification: its own type, the internal rule's, the first input's, or what the kind has of
-- itself
abbrev pub specified_type : TypeSpec → Option FxType → Option FxType → Option FxType → Option FxType
specified_type (Fixed type) internal first own = Some type
specified_type Internal internal first own = internal
specified_type SameFirst internal first own = first
specified_type Auto internal first own = own

-- the type of an accumulator, where each step has a full sum that is valid: that of the accumulator
-- and of one term more
abbrev pub stepped : FxType → Terms → Option FxType
stepped accum [] = Some accum
stepped accum (term ∷ terms) =
    with_known (full_sum_of ((false, accum) ∷ term ∷ [])) (λ full. stepped accum terms)

-- the same, where the accumulator has the type of the first term
abbrev pub stepped_first : Terms → Option FxType
stepped_first [] = None
stepped_first (term ∷ terms) = stepped term.1 (term ∷ terms)

-- what a sum of these terms names: its full sum, or the type in which it is added up
abbrev pub sum_named : TypeSpec → Terms → Option FxType
sum_named (Fixed type) terms = stepped type terms
sum_named Internal terms = full_sum_of terms
sum_named SameFirst terms = stepped_first terms
sum_named Auto terms = None

-- the full type or union that a kind's equation names of these inputs, where the types that it
-- needs are known and it is valid; of a sum that is added up in a type that type, where the full
-- sums of its steps are valid
abbrev pub full_type : FullRule → Types → Option FxType
full_type FullRule.NoFull types = None
full_type (FullRule.FullSum negative accum) types =
    with_known (all_known types) (λ known. sum_named accum (zip negative known))
full_type (FullRule.FullScaled value param) types =
    with_known (known_at types 0)
    (λ input. with_known (param_type_of value param input) (full_product_of input))
full_type FullRule.FullProduct types =
    with_known (known_at types 0) (λ left. with_known (known_at types 1) (full_product_of left))
full_type FullRule.UnionOfTwo types =
    with_known (known_at types 0) (λ left. with_known (known_at types 1) (union_of left))
full_type FullRule.UnionOfEnds types =
    with_known (known_at types 0) (λ left. with_known (known_at types 2) (union_of left))

-- the type that a kind has of itself
abbrev pub own_type : OwnType → Types → Option FxType
own_type OwnType.Untyped types = None
own_type (OwnType.Always type) types = Some type
own_type OwnType.OfInput types = known_at types 0

-- the type that the internal rule gives: that of the accumulator, where a sum has one, and else
-- what the equation names
abbrev pub internal_type : FullRule → Types → Option FxType
internal_type FullRule.NoFull types = full_type FullRule.NoFull types
internal_type (FullRule.FullSum negative accum) types =
    specified_type accum (full_type (FullRule.FullSum negative accum) types) (known_at types 0) None
internal_type (FullRule.FullScaled value param) types =
    full_type (FullRule.FullScaled value param) types
internal_type FullRule.FullProduct types = full_type FullRule.FullProduct types
internal_type FullRule.UnionOfTwo types = full_type FullRule.UnionOfTwo types
internal_type FullRule.UnionOfEnds types = full_type FullRule.UnionOfEnds types

-- the type that a block takes where the input types that it needs are known
abbrev pub taken_type : Kind → TypeSpec → Types → Option FxType
taken_type kind spec types =
    specified_type spec (internal_type (row_of kind).types.full types) (known_at types 0)
    (own_type (row_of kind).types.own types)

-- the type that a block takes in a round
abbrev pub type_of_next : Option Block → Types → Option FxType
type_of_next None types = None
type_of_next (Some block) types = taken_type block.kind block.result types

-- the type of the block at a place after one more round
abbrev pub next_types : Diagram → Types → ℕ → Option FxType
next_types diagram types place =
    known_or (known_at types place)
    (type_of_next (slice_get diagram.blocks place) (input_types diagram types place))

-- the types after so many rounds
abbrev pub types_after : Diagram → ℕ → Types
types_after diagram rounds =
    after_rounds (next_types diagram) rounds
    (map (λ block. explicit_type block.result) diagram.blocks)

-- the types of a diagram's blocks: those after as many rounds as it has blocks
abbrev pub types_of : Diagram → Types
types_of diagram = types_after diagram (length diagram.blocks)
