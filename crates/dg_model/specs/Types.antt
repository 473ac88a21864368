-- Which types the blocks of a diagram have, and which full types and unions their equations name
-- (Simulink reference, `OutDataTypeStr`; what the internal rule gives, and the type of Ground, are
-- own).
use Rattle.std.specs.Prelude.{◌≡◌, ℕ, Bool, true, false, MatchBool, List, [], ◌∷◌, length, zip, All}
use Rattle.fx_type.specs.declared.kind.FxType.{FxType}
use Rattle.fx_type.specs.declared.spec.TypeSpec.{TypeSpec}
use Rattle.fx_type.specs.declared.spec.TypeSpec.TheVariants.{Fixed, Internal, SameFirst, Auto}
use Rattle.fx_type.specs.FullType.{Terms, IsFullSum, IsFullProduct, IsUnion}
use Rattle.dg_model.specs.declared.kind.Kind.{Kind}
use Rattle.dg_model.specs.declared.row.OwnType.{OwnType}
use Rattle.dg_model.specs.KindRow.{FullRule}
use Rattle.dg_model.specs.Library.{row_of}
use Rattle.dg_model.specs.Operation.{type_of}
use Rattle.math_list.specs.Numbers.{numbers_from}

-- the type that a specification gives: its own, the internal rule's, or the first input's
abbrev pub IsSpecified : TypeSpec → FxType → (FxType → Type 0) → FxType → Type 0
IsSpecified (Fixed type) first IsInternal result = result ≡ type
IsSpecified Internal first IsInternal result = IsInternal result
IsSpecified SameFirst first IsInternal result = result ≡ first
IsSpecified Auto first IsInternal result = ⊥

-- ---- full types and unions

-- each step of an accumulator of this type has a full sum
abbrev pub HaveSteps : FxType → Terms → Type 0
HaveSteps accum terms = All (λ term. (full : FxType) × IsFullSum ((false, accum) ∷ term ∷ []) full) terms

-- what a sum of these terms names: its full sum, or the type in which it is added up, where each
-- step has a full sum
abbrev pub IsSumNamed : TypeSpec → Terms → FxType → FxType → Type 0
IsSumNamed (Fixed type) terms accum named = HaveSteps accum terms × (named ≡ accum)
IsSumNamed Internal terms accum named = IsFullSum terms named
IsSumNamed SameFirst terms accum named = HaveSteps accum terms × (named ≡ accum)
IsSumNamed Auto terms accum named = ⊥

-- the full type or union by a rule, from the types of the inputs and, for a Gain, the type of its
-- coefficients
abbrev pub IsFullOf : FullRule → List FxType → FxType → FxType → Type 0
IsFullOf FullRule.NoFull types param full = ⊥
IsFullOf (FullRule.FullSum negative accum) types param full =
    IsSumNamed accum (zip negative types) param full
IsFullOf (FullRule.FullScaled value spec) types param full =
    IsFullProduct (type_of types 0) param full
IsFullOf FullRule.FullProduct types param full =
    IsFullProduct (type_of types 0) (type_of types 1) full
IsFullOf FullRule.UnionOfTwo types param full = IsUnion (type_of types 0) (type_of types 1) full
IsFullOf FullRule.UnionOfEnds types param full = IsUnion (type_of types 0) (type_of types 2) full

-- the inputs, from 1, whose types it needs
abbrev pub inputs_of_full : FullRule → List ℕ
inputs_of_full FullRule.NoFull = []
inputs_of_full (FullRule.FullSum negative accum) = numbers_from 1 (length negative)
inputs_of_full (FullRule.FullScaled value spec) = 1 ∷ []
inputs_of_full FullRule.FullProduct = 1 ∷ 2 ∷ []
inputs_of_full FullRule.UnionOfTwo = 1 ∷ 2 ∷ []
inputs_of_full FullRule.UnionOfEnds = 1 ∷ 3 ∷ []

-- the specification leaves the type to the internal rule
abbrev pub is_internal : TypeSpec → Bool
is_internal (Fixed type) = false
is_internal Internal = true
is_internal SameFirst = false
is_internal Auto = false

-- the equation names the full type or union of this rule
abbrev pub is_named : FullRule → TypeSpec → Bool
is_named FullRule.NoFull spec = false
is_named (FullRule.FullSum negative accum) spec = true
is_named (FullRule.FullScaled value param) spec = true
is_named FullRule.FullProduct spec = true
is_named FullRule.UnionOfTwo spec = true
is_named FullRule.UnionOfEnds spec = is_internal spec

-- the equation of a block of this kind names a full type or union
abbrev pub names_full_type : Kind → TypeSpec → Bool
names_full_type kind spec = is_named (row_of kind).types.full spec

-- it names this one
abbrev pub NamesType : Kind → TypeSpec → List FxType → FxType → FxType → Type 0
NamesType kind spec types param named =
    MatchBool (names_full_type kind spec) (IsFullOf (row_of kind).types.full types param named) ⊥

-- the type that the internal rule gives: that of the accumulator, where a sum has one, and else
-- what the equation names
abbrev pub IsInternalSum : TypeSpec → List Bool → List FxType → FxType → FxType → Type 0
IsInternalSum (Fixed type) negative types accum result = result ≡ type
IsInternalSum Internal negative types accum result = IsFullSum (zip negative types) result
IsInternalSum SameFirst negative types accum result = result ≡ type_of types 0
IsInternalSum Auto negative types accum result = ⊥

-- the same of any rule
abbrev pub IsInternal : FullRule → List FxType → FxType → FxType → Type 0
IsInternal FullRule.NoFull types param result = IsFullOf FullRule.NoFull types param result
IsInternal (FullRule.FullSum negative accum) types param result =
    IsInternalSum accum negative types param result
IsInternal (FullRule.FullScaled value spec) types param result =
    IsFullOf (FullRule.FullScaled value spec) types param result
IsInternal FullRule.FullProduct types param result =
    IsFullOf FullRule.FullProduct types param result
IsInternal FullRule.UnionOfTwo types param result = IsFullOf FullRule.UnionOfTwo types param result
IsInternal FullRule.UnionOfEnds types param result =
    IsFullOf FullRule.UnionOfEnds types param result

-- the inputs, from 1, whose types the accumulator's needs, or the full sum
abbrev pub inputs_of_sum : TypeSpec → List Bool → List ℕ
inputs_of_sum (Fixed type) negative = []
inputs_of_sum Internal negative = numbers_from 1 (length negative)
inputs_of_sum SameFirst negative = 1 ∷ []
inputs_of_sum Auto negative = []

-- the inputs, from 1, whose types the internal rule needs
abbrev pub inputs_of_internal : FullRule → List ℕ
inputs_of_internal FullRule.NoFull = []
inputs_of_internal (FullRule.FullSum negative accum) = inputs_of_sum accum negative
inputs_of_internal (FullRule.FullScaled value spec) = 1 ∷ []
inputs_of_internal FullRule.FullProduct = 1 ∷ 2 ∷ []
inputs_of_internal FullRule.UnionOfTwo = 1 ∷ 2 ∷ []
inputs_of_internal FullRule.UnionOfEnds = 1 ∷ 3 ∷ []

-- ---- the type of a block's outputs

-- the type of a kind whose specification chooses none
abbrev pub IsOwnType : OwnType → List FxType → FxType → Type 0
IsOwnType OwnType.Untyped types result = ⊥
IsOwnType (OwnType.Always type) types result = result ≡ type
IsOwnType OwnType.OfInput types result = result ≡ type_of types 0

-- the inputs, from 1, whose types it needs
abbrev pub inputs_of_own : OwnType → List ℕ
inputs_of_own OwnType.Untyped = []
inputs_of_own (OwnType.Always type) = []
inputs_of_own OwnType.OfInput = 1 ∷ []

-- the type of a block's outputs, from its specification, the types of its inputs and, for a Gain,
-- the type of its coefficients: a type that is written out, that of inner ports and root Outports
-- too, stands before any other is known
abbrev pub IsResultType : Kind → TypeSpec → List FxType → FxType → FxType → Type 0
IsResultType kind (Fixed type) types param result = result ≡ type
IsResultType kind Internal types param result =
    IsInternal (row_of kind).types.full types param result
IsResultType kind SameFirst types param result = result ≡ type_of types 0
IsResultType kind Auto types param result = IsOwnType (row_of kind).types.own types result

-- the inputs, from 1, whose types must be known before it is
abbrev pub needed_inputs : Kind → TypeSpec → List ℕ
needed_inputs kind (Fixed type) = []
needed_inputs kind Internal = inputs_of_internal (row_of kind).types.full
needed_inputs kind SameFirst = 1 ∷ []
needed_inputs kind Auto = inputs_of_own (row_of kind).types.own
