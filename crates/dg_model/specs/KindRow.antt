-- What is told of each kind of block: the columns of its row (Simulink reference, each block's
-- page; the limits are own).
use Rattle.std.specs.Prelude.{◌≡◌, ℕ, ◌≤◌, ◌<◌, Bool, IsFalse, List, [], ◌∷◌, length, ⊤}
use Rattle.fx_type.specs.declared.spec.TypeSpec.{TypeSpec}
use Rattle.fx_type.specs.declared.spec.TypeSpec.TheVariants.{Fixed, Internal, SameFirst, Auto}
use Rattle.fx_type.specs.declared.decimal.Decimal.{Decimal}
use Rattle.fx_type.specs.FxType.{IsType}
use Rattle.dg_model.specs.declared.diagram.PeriodSpec.{PeriodSpec}
use Rattle.dg_model.specs.declared.diagram.PeriodSpec.TheVariants.{Inherit, Constant as ConstantPeriod, Every}
use Rattle.dg_model.specs.declared.kind.Gate.{Gate}
use Rattle.dg_model.specs.declared.kind.Gate.TheVariants.{And, Or, Nand, Nor, Xor, Nxor, Not}
use Rattle.dg_model.specs.declared.row.Role.{Role}
use Rattle.dg_model.specs.declared.row.Standing.{Standing}
use Rattle.dg_model.specs.declared.row.OwnType.{OwnType}
use Rattle.dg_model.specs.declared.row.Inherited.{Inherited}
use Rattle.dg_model.specs.declared.row.Reading.{Reading}
use Rattle.dg_model.specs.declared.row.Asking.{Asking}
use Rattle.dg_model.specs.Limits.{longest_list}

-- ---- what a parameter, a specification of a type and one of a period may be

-- this one and no other
abbrev pub Only : {A : Type 0} → A → A → Type 0
Only wanted given = given ≡ wanted

-- a number of these ends
abbrev pub IsBetween : ℕ → ℕ → ℕ → Type 0
IsBetween low high n = (low ≤ n) × (n ≤ high)

-- a list parameter: 1 to 1024 decimals
abbrev pub IsList : List Decimal → Type 0
IsList list = IsBetween 1 longest_list (length list)

-- a period: a decimal above 0
pub record IsPeriod (decimal : Decimal) : Type 0 where
  pub sign : IsFalse decimal.negative
  pub above : 0 < decimal.digits

-- a specification whose type is valid
abbrev pub IsSpec : TypeSpec → Type 0
IsSpec (Fixed type) = IsType type
IsSpec Internal = ⊤
IsSpec SameFirst = ⊤
IsSpec Auto = ⊤

-- a type, or none
abbrev pub MayBeFixed : TypeSpec → Type 0
MayBeFixed (Fixed type) = ⊤
MayBeFixed Internal = ⊥
MayBeFixed SameFirst = ⊥
MayBeFixed Auto = ⊤

-- a type, the internal rule, or the first input's type
abbrev pub IsChoice : TypeSpec → Type 0
IsChoice (Fixed type) = ⊤
IsChoice Internal = ⊤
IsChoice SameFirst = ⊤
IsChoice Auto = ⊥

-- a type alone
abbrev pub IsFixed : TypeSpec → Type 0
IsFixed (Fixed type) = ⊤
IsFixed Internal = ⊥
IsFixed SameFirst = ⊥
IsFixed Auto = ⊥

-- an inherited or a declared period
abbrev pub MayDeclare : PeriodSpec → Type 0
MayDeclare Inherit = ⊤
MayDeclare ConstantPeriod = ⊥
MayDeclare (Every period) = IsPeriod period

-- a Constant's period
abbrev pub IsConstantPeriod : PeriodSpec → Type 0
IsConstantPeriod Inherit = ⊥
IsConstantPeriod ConstantPeriod = ⊤
IsConstantPeriod (Every period) = IsPeriod period

-- ---- the choices of a row

-- how its signals come from those of its inputs
pub data Shape : Type 0 where
  -- element by element, where one of a single element is repeated
  Elementwise : Shape
  -- its inputs end to end, of these sizes where the list isn't empty
  Joined : (sizes : List ℕ) → Shape
  -- the parts of its input, of these sizes; of zeros alone, as even as can be
  Parted : (sizes : List ℕ) → Shape
  -- one element from all of its input
  Single : Shape

-- the full type or union of its inputs that its equation names, and that the internal rule gives
pub data FullRule : Type 0 where
  -- none
  NoFull : FullRule
  -- the full sum of the inputs, where `true` marks one that is subtracted; or those of its steps,
  -- where it is added up in a type that is so specified
  FullSum : (negative : List Bool) → (accum : TypeSpec) → FullRule
  -- the full product of input 1 and coefficients of this list, whose type is so specified
  FullScaled : (value : List Decimal) → (param : TypeSpec) → FullRule
  -- the full product of inputs 1 and 2
  FullProduct : FullRule
  -- the union of inputs 1 and 2
  UnionOfTwo : FullRule
  -- the union of inputs 1 and 3, which is named only where the internal rule takes it
  UnionOfEnds : FullRule

-- ---- the columns

-- what it is in its System, and where it may stand
pub record PlaceRow : Type 0 where
  pub role : Role
  pub stands : Standing

-- how many input and output ports it has
pub record PortRow : Type 1 where
  pub inputs : ℕ → Type 0
  pub outputs : ℕ → Type 0

-- how its signals come from those of its inputs
pub record SignalRow : Type 0 where
  pub shape : Shape
  -- the parameters that have one entry, or one for each element
  pub lists : List (List Decimal)
  -- the width that it declares, 0 where it declares none
  pub width : ℕ

-- the type of its outputs
pub record TypeRow : Type 1 where
  -- how it may be specified
  pub may_be : TypeSpec → Type 0
  -- what it is where nothing is specified
  pub own : OwnType
  -- the full type or union that the equation names, which is what the internal rule gives
  pub full : FullRule
  -- whether its value is rounded to it
  pub rounds : Bool

-- when it takes a value
pub record TimingRow : Type 1 where
  -- how its period may be specified
  pub may_be : PeriodSpec → Type 0
  -- what it is where it is inherited
  pub inherits : Inherited
  -- when it reads its inputs
  pub reads : Reading
  pub asks : Asking
  -- how many samples of each element it keeps for its value later
  pub delay : ℕ

-- what becomes of it in hardware
pub record HardwareRow : Type 0 where
  -- whether a plan may set registers behind it
  pub pipelines : Bool
  -- whether each of its elements is a multiplication
  pub multiplies : Bool

-- the row of a kind of block
pub record Row : Type 1 where
  pub place : PlaceRow
  pub ports : PortRow
  -- its lists, numbers, sizes and decimals are in range
  pub parameters : Type 0
  pub signal : SignalRow
  pub types : TypeRow
  pub timing : TimingRow
  pub hardware : HardwareRow

-- a gate has 2 to 32 inputs, and NOT one
abbrev pub HasOperands : Gate → ℕ → Type 0
HasOperands And inputs = IsBetween 2 32 inputs
HasOperands Or inputs = IsBetween 2 32 inputs
HasOperands Nand inputs = IsBetween 2 32 inputs
HasOperands Nor inputs = IsBetween 2 32 inputs
HasOperands Xor inputs = IsBetween 2 32 inputs
HasOperands Nxor inputs = IsBetween 2 32 inputs
HasOperands Not inputs = inputs ≡ 1

-- a Mux has one input a size, or 1 to 1024 where no size is fixed
abbrev pub HasParts : List ℕ → ℕ → Type 0
HasParts [] inputs = IsBetween 1 longest_list inputs
HasParts (size ∷ sizes) inputs = inputs ≡ length (size ∷ sizes)
