-- What an elementwise operation gives (Simulink reference, Sum, Product, Gain, Switch, Relational
-- Operator, Logical Operator, Data Type Conversion). The exact result is computed without loss and
-- then converted once. That Relational compares exact real values is own.
use Rattle.std.specs.Prelude.{◌≡◌, ℕ, ◌%◌, ◌<◌, ◌≤◌, ◌==◌, ℤ, pos, ◌+ℤ◌, ◌*ℤ◌, int_lt, int_le, Bool, true, false, not, cond, MatchBool, List, [], ◌∷◌, length, slice_index_or, zip, count_by, All, ⊤, Option, Some, None}
use Rattle.std.specs.List.{list_any, list_all}
use Rattle.std.specs.Int.{int_max}
use Rattle.std.specs.Ordering.{int_eq}
use Rattle.fx_type.specs.declared.kind.FxType.{FxType}
use Rattle.fx_type.specs.declared.kind.FxType.TheVariants.{Num, Logical as LogicalType}
use Rattle.fx_type.specs.declared.rounding.Rounding.{Rounding}
use Rattle.fx_type.specs.FxType.{IsType, InRange, frac_of, aligned}
use Rattle.fx_type.specs.FullType.{Terms, negated_if, IsFullSum, IsFullProduct, IsUnion}
use Rattle.fx_type.specs.Conversion.{Converts}
use Rattle.dg_model.specs.declared.kind.Criterion.{Criterion}
use Rattle.dg_model.specs.declared.kind.Criterion.TheVariants.{AtLeast, Above, NotZero}
use Rattle.dg_model.specs.declared.kind.Relation.{Relation}
use Rattle.dg_model.specs.declared.kind.Relation.TheVariants.{Eq, Ne, Lt, Le, Ge, Gt}
use Rattle.dg_model.specs.declared.kind.Gate.{Gate}
use Rattle.dg_model.specs.declared.kind.Gate.TheVariants.{And, Or, Nand, Nor, Xor, Nxor, Not}
use Rattle.dg_model.specs.declared.op.Op.{Op}
use Rattle.dg_model.specs.declared.op.OpCall.{OpCall}
use Rattle.dg_model.specs.declared.op.Op.TheVariants.{Sum, Gain, Product, Switch, Relational, Logic, Convert, Pass}

-- an operation with all that its result rests on but the inputs
pub record Operation : Type 0 where
  pub op : Op
  -- for a Sum, `true` where the input is subtracted
  pub signs : List Bool
  pub types : List FxType
  pub result : FxType
  pub rounding : Rounding
  pub saturate : Bool

-- what a call of the program asks for
abbrev pub operation_of : OpCall → Operation
operation_of call =
    record {
      op = call.op;
      signs = call.signs.now;
      types = call.types.now;
      result = call.result;
      rounding = call.rounding;
      saturate = call.saturate;
    }

-- r is the number v of a type, converted to the operation's result type
abbrev pub IsConverted : Operation → ℤ → FxType → ℤ → Type 0
IsConverted operation v from r =
    Converts v from operation.result operation.rounding operation.saturate r

-- the sum of the inputs with their signs, in units of 2 to the -frac
abbrev pub signed_sum : ℤ → Terms → List ℤ → ℤ
signed_sum frac [] inputs = pos 0
signed_sum frac (term ∷ terms) [] = pos 0
signed_sum frac (term ∷ terms) (v ∷ inputs) =
    negated_if term.0 (aligned frac term.1 v) +ℤ signed_sum frac terms inputs

-- the criterion of a Switch holds of its input 2
abbrev pub meets : Criterion → ℤ → ℤ → Bool
meets AtLeast threshold control = int_le threshold control
meets Above threshold control = int_lt threshold control
meets NotZero threshold control = not (int_eq control (pos 0))

-- two numbers in one unit are so related
abbrev pub compares : Relation → ℤ → ℤ → Bool
compares Eq x y = int_eq x y
compares Ne x y = not (int_eq x y)
compares Lt x y = int_lt x y
compares Le x y = int_le x y
compares Ge x y = int_le y x
compares Gt x y = int_lt y x

-- the real values of two stored integers are so related
abbrev pub compares_values : Relation → FxType → FxType → ℤ → ℤ → Bool
compares_values operator a b x y =
    let frac =
    int_max (frac_of a) (frac_of b) in compares operator (aligned frac a x) (aligned frac b y)

-- a stored integer as a truth, and a truth as a stored integer
abbrev pub is_true : ℤ → Bool
is_true v = not (int_eq v (pos 0))

-- a truth as a stored integer
abbrev pub stored_truth : Bool → ℤ
stored_truth truth = cond truth (pos 1) (pos 0)

-- a gate over the truth of its inputs
abbrev pub gate_of : Gate → List ℤ → Bool
gate_of And inputs = list_all is_true inputs
gate_of Or inputs = list_any is_true inputs
gate_of Nand inputs = not (list_all is_true inputs)
gate_of Nor inputs = not (list_any is_true inputs)
gate_of Xor inputs = (count_by is_true inputs % 2) == 1
gate_of Nxor inputs = (count_by is_true inputs % 2) == 0
gate_of Not inputs = not (list_any is_true inputs)

-- the type with the same stored integers and frac 0
abbrev pub without_frac : FxType → FxType
without_frac (Num signed width frac) = Num signed width (pos 0)
without_frac LogicalType = LogicalType

-- the type and the stored integer of an input, from 0; past the end stand a type of no bits and 0
abbrev pub type_of : List FxType → ℕ → FxType
type_of types input = slice_index_or types input (Num false 0 (pos 0))

-- the stored integer of an input, counted from 0; past the end 0 (own)
abbrev pub value_of : List ℤ → ℕ → ℤ
value_of inputs input = slice_index_or inputs input (pos 0)

-- r is the exact sum of inputs of these types, converted
abbrev pub IsExactSum : Operation → List FxType → List ℤ → ℤ → Type 0
IsExactSum operation types inputs r =
    let terms = zip operation.signs types
    in (full : FxType) × IsFullSum terms full
    × IsConverted operation (signed_sum (frac_of full) terms inputs) full r

-- the sum of an accumulator of a type and of one term more, converted to that type
abbrev pub step_of : Operation → FxType → Bool × FxType → Operation
step_of operation accum term =
    record operation {
      signs = false ∷ term.0 ∷ [];
      types = accum ∷ term.1 ∷ [];
      result = accum;
    }

-- what an accumulator of a type has after one term more
abbrev pub IsStep : Operation → FxType → Bool × FxType → ℤ → ℤ → ℤ → Type 0
IsStep operation accum term v before after =
    IsExactSum (step_of operation accum term) (accum ∷ term.1 ∷ []) (before ∷ v ∷ []) after

-- what an accumulator of a type has after all terms, in order
abbrev pub IsAddedUp : Operation → FxType → Terms → List ℤ → ℤ → ℤ → Type 0
IsAddedUp operation accum [] inputs before last = last ≡ before
IsAddedUp operation accum (term ∷ terms) [] before last = last ≡ before
IsAddedUp operation accum (term ∷ terms) (v ∷ inputs) before last =
    (after : ℤ) × IsStep operation accum term v before after
    × IsAddedUp operation accum terms inputs after last

-- r is the sum of inputs of these types, exact, or added up from 0 in the type of an accumulator,
-- and converted
abbrev pub IsSum : Option FxType → Operation → List FxType → List ℤ → ℤ → Type 0
IsSum None operation types inputs r = IsExactSum operation types inputs r
IsSum (Some accum) operation types inputs r =
    (last : ℤ) × IsAddedUp operation accum (zip operation.signs types) inputs (pos 0) last
    × IsConverted operation last accum r

-- r is what an operation gives of these types and inputs
abbrev pub Gives : Op → Operation → List FxType → List ℤ → ℤ → Type 0
Gives (Sum accum) operation types inputs r = IsSum accum operation types inputs r
Gives (Gain coefficient param) operation types inputs r =
    (full : FxType) × IsFullProduct (type_of types 0) param full
    × IsConverted operation (value_of inputs 0 *ℤ coefficient) full r
Gives Product operation types inputs r =
    (full : FxType) × IsFullProduct (type_of types 0) (type_of types 1) full
    × IsConverted operation (value_of inputs 0 *ℤ value_of inputs 1) full r
Gives (Switch criterion threshold) operation types inputs r =
    MatchBool (meets criterion threshold (value_of inputs 1))
    (IsConverted operation (value_of inputs 0) (type_of types 0) r)
    (IsConverted operation (value_of inputs 2) (type_of types 2) r)
Gives (Relational operator) operation types inputs r =
    r ≡ stored_truth
    (compares_values operator (type_of types 0) (type_of types 1) (value_of inputs 0)
    (value_of inputs 1))
Gives (Logic gate) operation types inputs r = r ≡ stored_truth (gate_of gate inputs)
Gives (Convert false) operation types inputs r =
    IsConverted operation (value_of inputs 0) (type_of types 0) r
Gives (Convert true) operation types inputs r =
    Converts (value_of inputs 0) (without_frac (type_of types 0))
    (without_frac operation.result) operation.rounding operation.saturate r
Gives Pass operation types inputs r = r ≡ value_of inputs 0

-- r is what the operation gives of these inputs
abbrev pub OpGives : Operation → List ℤ → ℤ → Type 0
OpGives operation inputs r = Gives operation.op operation operation.types inputs r

-- ---- when an operation may be carried out

-- how many inputs an operation has
abbrev pub HasArity : Op → ℕ → Type 0
HasArity (Sum accum) n = (1 ≤ n) × (n ≤ 32)
HasArity (Gain coefficient param) n = n ≡ 1
HasArity Product n = n ≡ 2
HasArity (Switch criterion threshold) n = n ≡ 3
HasArity (Relational operator) n = n ≡ 2
HasArity (Logic Not) n = n ≡ 1
HasArity (Logic gate) n = (2 ≤ n) × (n ≤ 32)
HasArity (Convert stored) n = n ≡ 1
HasArity Pass n = n ≡ 1

-- a Sum has one sign an input
abbrev pub HasSigns : Op → List Bool → ℕ → Type 0
HasSigns (Sum accum) signs n = length signs ≡ n
HasSigns (Gain coefficient param) signs n = ⊤
HasSigns Product signs n = ⊤
HasSigns (Switch criterion threshold) signs n = ⊤
HasSigns (Relational operator) signs n = ⊤
HasSigns (Logic gate) signs n = ⊤
HasSigns (Convert stored) signs n = ⊤
HasSigns Pass signs n = ⊤

-- the type of an accumulator, where there is one, is valid
abbrev pub IsAccumulator : Option FxType → Type 0
IsAccumulator None = ⊤
IsAccumulator (Some accum) = IsType accum

-- a Gain's coefficient and its type, a Switch's threshold, and the type in which a Sum is added up
abbrev pub HasParameters : Op → List FxType → Type 0
HasParameters (Sum accum) types = IsAccumulator accum
HasParameters (Gain coefficient param) types = IsType param × InRange param coefficient
HasParameters Product types = ⊤
HasParameters (Switch criterion threshold) types = InRange (type_of types 1) threshold
HasParameters (Relational operator) types = ⊤
HasParameters (Logic gate) types = ⊤
HasParameters (Convert stored) types = ⊤
HasParameters Pass types = ⊤

-- the result types that an operation allows
abbrev pub HasResultType : Op → List FxType → FxType → Type 0
HasResultType (Sum accum) types result = ⊤
HasResultType (Gain coefficient param) types result = ⊤
HasResultType Product types result = ⊤
HasResultType (Switch criterion threshold) types result = ⊤
HasResultType (Relational operator) types result = result ≡ LogicalType
HasResultType (Logic gate) types result = result ≡ LogicalType
HasResultType (Convert stored) types result = ⊤
HasResultType Pass types result = result ≡ type_of types 0

-- the full type or union that an operation names is a type
abbrev pub HasFullType : Op → List Bool → List FxType → Type 0
HasFullType (Sum None) signs types = (full : FxType) × IsFullSum (zip signs types) full
HasFullType (Sum (Some accum)) signs types =
    All (λ term. (full : FxType) × IsFullSum ((false, accum) ∷ term ∷ []) full) (zip signs types)
HasFullType (Gain coefficient param) signs types =
    (full : FxType) × IsFullProduct (type_of types 0) param full
HasFullType Product signs types =
    (full : FxType) × IsFullProduct (type_of types 0) (type_of types 1) full
HasFullType (Switch criterion threshold) signs types = ⊤
HasFullType (Relational operator) signs types =
    (union : FxType) × IsUnion (type_of types 0) (type_of types 1) union
HasFullType (Logic gate) signs types = ⊤
HasFullType (Convert stored) signs types = ⊤
HasFullType Pass signs types = ⊤

-- what holds of an operation before its inputs are known: counts, types and parameters
pub record CanPrepare (operation : Operation) : Type 0 where
  pub arity : HasArity operation.op (length operation.types)
  pub signs : HasSigns operation.op operation.signs (length operation.types)
  pub types : All IsType operation.types
  pub parameters : HasParameters operation.op operation.types
  pub result : IsType operation.result
  pub result_type : HasResultType operation.op operation.types operation.result
  pub full_type : HasFullType operation.op operation.signs operation.types

-- there is one value of each type, in its range
pub record AreInRange (types : List FxType) (values : List ℤ) : Type 0 where
  pub count : length values ≡ length types
  pub in_range : (input : ℕ) → input < length types
      → InRange (type_of types input) (value_of values input)

-- the operation may be carried out on these inputs
pub record CanCarryOut (operation : Operation) (inputs : List ℤ) : Type 0 where
  pub prepared : CanPrepare operation
  pub values : AreInRange operation.types inputs
