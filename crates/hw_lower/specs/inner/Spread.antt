-- Plans of whole operations: their arguments, their one Multiply, and what they give.
use Rattle.std.specs.Prelude.{◌≡◌, false, ℕ, ◌+◌, ◌<◌, ◌≤◌, ℤ, List, length, slice_get, Option}
use Rattle.std.specs.Prelude.{◌⊎◌, ◌≤ℤ◌, All, Some, count_by, ◌%◌, ◌==◌, ◌*ℤ◌, ◌-ℤ◌, pos, Bool}
use Rattle.std.specs.List.{list_all, list_any}
use Rattle.math_num.specs.Word.{IsWord, InWord}
use Rattle.fx_type.specs.declared.kind.FxType.{FxType}
use Rattle.fx_type.specs.FxType.{IsType, frac_of}
use Rattle.fx_type.specs.FullType.{HoldsType, IsFullProduct, IsUnion}
use Rattle.dg_model.specs.Operation.{Operation, AreInRange, CanPrepare, IsConverted, is_true, type_of, value_of}
use Rattle.hw_net.specs.declared.netlist.NetOp.{NetOp}
use Rattle.hw_net.specs.declared.netlist.NetOp.TheVariants.{Input, Multiply}
use Rattle.hw_lower.specs.declared.aligning.Side.{Side}
use Rattle.hw_lower.specs.declared.comparing.Branches.{Branches}
use Rattle.hw_lower.specs.declared.gates.Joining.{Joining}
use Rattle.hw_lower.specs.declared.gates.Joining.TheVariants.{Every, Any, Odd}
use Rattle.hw_lower.specs.declared.plan.Word.{Word}
use Rattle.hw_lower.specs.declared.plan.Step.{Step}
use Rattle.hw_lower.specs.declared.plan.Operand.{Operand}
use Rattle.hw_lower.specs.declared.plan.Plan.{Plan}
use Rattle.hw_lower.specs.inner.PlanSteps.{Numbers, Adds, IsAt, IsPlain, Gives, IsChosen, word_of, step_of}

-- argument k of an operation, as a step of its plan
abbrev pub argument_of : List FxType → ℕ → Operand
argument_of types input = record { place = input; word = word_of (type_of types input) }

-- the same with its type
abbrev pub side_of : List FxType → ℕ → Side
side_of types input = record { kind = type_of types input; from = argument_of types input }

-- the plan begins with the arguments
pub record HasArguments (plan : Plan) (types : List FxType) : Type 0 where
  pub each : (input : ℕ) → input < length types → IsAt plan (argument_of types input)

-- an operation that can be prepared, and the plan begins with its arguments
pub record CanPlan (plan : Plan) (operation : Operation) : Type 0 where
  pub arguments : HasArguments plan operation.types
  pub prepared : CanPrepare operation

-- there are from 1 to 32 arguments
pub record HasSome (plan : Plan) (types : List FxType) : Type 0 where
  pub arguments : HasArguments plan types
  pub some : 1 ≤ length types
  pub few : length types ≤ 32

-- the same with a sign each
pub record AreTerms (plan : Plan) (signs : List Bool) (types : List FxType) : Type 0 where
  pub arguments : HasArguments plan types
  pub signed : length signs ≡ length types
  pub some : 1 ≤ length types
  pub few : length types ≤ 32
  pub valid : All IsType types

-- there are two arguments, and a type that has the numbers of both
pub record CanCompare (plan : Plan) (kinds : List FxType) : Type 0 where
  pub arguments : HasArguments plan kinds
  pub two : length kinds ≡ 2
  pub types : All IsType kinds
  pub union : (both : FxType) × IsUnion (type_of kinds 0) (type_of kinds 1) both

-- the number is of a type whose numbers the other has
pub record CanWiden (plan : Plan) (side : Side) (to : FxType) : Type 0 where
  pub at : IsAt plan side.from
  pub kind : IsType side.kind
  pub valid : IsType to
  pub above : frac_of side.kind ≤ℤ frac_of to
  pub holds : HoldsType to side.kind

-- the number can be had with so many bits behind the point, cut to the word
pub record CanAlign (plan : Plan) (side : Side) (frac : ℤ) (to : Word) : Type 0 where
  pub at : IsAt plan side.from
  pub kind : IsType side.kind
  pub above : frac_of side.kind ≤ℤ frac
  pub high : frac ≤ℤ pos 128
  pub word : IsWord to.width to.signed

-- the steps of a choice are there, and the threshold is of the word of the control
pub record CanSwitch (plan : Plan) (of : Branches) (threshold : ℤ) : Type 0 where
  pub control : IsAt plan of.control
  pub first : IsAt plan of.first
  pub other : IsAt plan of.other
  pub word : of.first.word ≡ of.other.word
  pub bound : InWord of.control.word.width of.control.word.signed threshold

-- the steps are the first arguments, as inputs
pub record AreInputs (steps : List Step) (types : List FxType) (count : ℕ) : Type 0 where
  pub size : length steps ≡ count
  pub each : (input : ℕ) → input < count
      → slice_get steps input ≡ Some (step_of (Input input) 0 0 0 (word_of (type_of types input)))

-- the plan is the first arguments, unless memory was wanting
pub record BeginsWith (plan : Plan) (types : List FxType) (count : ℕ) : Type 0 where
  pub are : plan.wanting ≡ false → AreInputs plan.steps types count

-- the arguments have these numbers, in the ranges of their types
pub record AreArguments (types : List FxType) (numbers : Numbers) (values : List ℤ) : Type 0 where
  pub in_range : AreInRange types values
  pub each : (input : ℕ) → input < length types → numbers input ≡ value_of values input

-- Q holds of whatever the arguments are
abbrev pub OfArguments : List FxType → Numbers → (List ℤ → Type 0) → Type 0
OfArguments types numbers Q = (values : List ℤ) → AreArguments types numbers values → Q values

-- an operation of steps, the Multiply too
abbrev pub IsInner : NetOp → Type 0
IsInner op = IsPlain op ⊎ (op ≡ Multiply)

-- step k is a Multiply
pub record IsMultiplyAt (plan : List Step) (k : ℕ) : Type 0 where
  pub step : Step
  pub is : slice_get plan k ≡ Some step
  pub multiplies : step.op ≡ Multiply

-- sound steps were put behind the others, no input, and at most the one Multiply, where it is told
pub record Spreads (old new : List Step) (multiply : Option ℕ) : Type 0 where
  pub adds : Adds old new IsInner
  pub multiplies : (place : ℕ) → multiply ≡ Some place → IsMultiplyAt new (length old + place)
  pub only : (place : ℕ) → IsMultiplyAt new (length old + place) → multiply ≡ Some place

-- as `IsMade`, of a plan that may have the one Multiply
pub record IsPlanned (old new : Plan) (multiply : Option ℕ) (word : Word)
    (P : Numbers → Type 0) (made : Operand) : Type 0 where
  pub spreads : new.wanting ≡ false
      → (old.wanting ≡ false) × Spreads old.steps new.steps multiply
  pub at : IsAt new made
  pub has_word : made.word ≡ word
  pub gives : Gives new P

-- the product of two numbers, converted from its full type
pub record IsScaled (operation : Operation) (one other : FxType) (x y r : ℤ) : Type 0 where
  pub full : FxType
  pub is_full : IsFullProduct one other full
  pub converted : IsConverted operation (x *ℤ y) full r

-- whether an odd count of numbers is true
abbrev pub is_odd : List ℤ → Bool
is_odd values = (count_by is_true values % 2) == 1

-- the truths of numbers, joined
abbrev pub truth_of : Joining → List ℤ → Bool
truth_of Every values = list_all is_true values
truth_of Any values = list_any is_true values
truth_of Odd values = is_odd values

-- r is the bit after one number more
abbrev pub IsJoined : Joining → ℤ → ℤ → ℤ → Type 0
IsJoined Every test bit r = IsChosen test bit (pos 0) r
IsJoined Any test bit r = IsChosen test (pos 1) bit r
IsJoined Odd test bit r = IsChosen test (pos 1 -ℤ bit) bit r
