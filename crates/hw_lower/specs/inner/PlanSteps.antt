-- Steps of a plan: what their numbers are, and how a plan grows.
use Rattle.std.specs.Prelude.{◌≡◌, ℕ, ◌<◌, ◌≤◌, ◌^◌, ℤ, List, [], ◌∷◌, ◌++◌, take, length, All}
use Rattle.std.specs.Prelude.{slice_get, Some, ⊤, false}
use Rattle.std.specs.Prelude.{◌≢◌, ◌≤ℤ◌, ◌<ℤ◌, Bool, true, pos, ◌*ℤ◌}
use Rattle.math_num.specs.Word.{InWord, IsWord, IsWrapped, word_lowest, word_highest}
use Rattle.fx_type.specs.declared.kind.FxType.{FxType}
use Rattle.fx_type.specs.declared.rounding.Rounding.{Rounding}
use Rattle.fx_type.specs.FxType.{is_signed, width_of}
use Rattle.fx_type.specs.Conversion.{Rounds}
use Rattle.hw_net.specs.declared.netlist.NetOp.{NetOp}
use Rattle.hw_net.specs.declared.netlist.NetOp.TheVariants.{Input, Const, Resize, ShiftUp}
use Rattle.hw_net.specs.declared.netlist.NetOp.TheVariants.{ShiftDown, Add, Subtract, Negate}
use Rattle.hw_net.specs.declared.netlist.NetOp.TheVariants.{Multiply, And, Or, Xor, Not, Less}
use Rattle.hw_net.specs.declared.netlist.NetOp.TheVariants.{Equal, Choose, Slice}
use Rattle.hw_net.specs.Operation.{Operands, arity, given_by}
use Rattle.math_num.specs.Bits.{low_bits, shifted_down}
use Rattle.hw_lower.specs.declared.plan.Word.{Word}
use Rattle.hw_lower.specs.declared.plan.Step.{Step}
use Rattle.hw_lower.specs.declared.plan.Operand.{Operand}
use Rattle.hw_lower.specs.declared.plan.Plan.{Plan}

-- the word of a type
abbrev pub word_of : FxType → Word
word_of type = record { signed = is_signed type; width = width_of type }

-- one bit, unsigned
abbrev pub bit_word : Word
bit_word = record { signed = false; width = 1 }

-- the bit of a place in two's complement
abbrev pub bit_of : ℤ → ℕ → ℕ
bit_of v place = low_bits 1 (shifted_down v place)

abbrev pub step_of : NetOp → ℕ → ℕ → ℕ → Word → Step
step_of op first second third word =
    record { op = op; first = first; second = second; third = third; word = word }

-- the numbers of the inputs, and of the steps
abbrev pub Numbers : Type 0
Numbers = ℕ → ℤ

-- the places that a step reads
abbrev pub reads_of : Step → List ℕ
reads_of step = take (arity step.op) (step.first ∷ step.second ∷ step.third ∷ [])

abbrev pub operands_of : Numbers → Step → Operands
operands_of numbers step =
    record { first = numbers step.first; second = numbers step.second; third = numbers step.third }

-- the numbers of three operands
abbrev pub three : Numbers → Operand → Operand → Operand → Operands
three numbers one other last =
    record { first = numbers one.place; second = numbers other.place; third = numbers last.place }

-- for operations that read none
abbrev pub no_inputs : Numbers
no_inputs number = pos 0

-- what an operation that reads no input gives of two operands
abbrev pub of_two : NetOp → Numbers → Operand → Operand → ℤ
of_two op numbers one other = given_by op no_inputs (three numbers one other other)

-- each step has the number that its operation gives, cut to its word
pub record Obeys (plan : List Step) (inputs numbers : Numbers) : Type 0 where
  pub each : (k : ℕ) (step : Step) → slice_get plan k ≡ Some step
      → IsWrapped (given_by step.op inputs (operands_of numbers step)) step.word.width
      step.word.signed (numbers k)

-- the operand is one of the steps, in its word
pub record IsStep (steps : List Step) (one : Operand) : Type 0 where
  pub step : Step
  pub is : slice_get steps one.place ≡ Some step
  pub word : step.word ≡ one.word

-- the operand is a step of the plan, unless memory was wanting
pub record IsAt (plan : Plan) (one : Operand) : Type 0 where
  pub valid : IsWord one.word.width one.word.signed
  pub there : plan.wanting ≡ false → IsStep plan.steps one

-- the bits of a Slice are there in the word of the step that it reads
abbrev pub HasParts : List Step → ℕ → NetOp → Type 0
HasParts plan read (Input number) = ⊤
HasParts plan read (Const value) = ⊤
HasParts plan read Resize = ⊤
HasParts plan read (ShiftUp places) = ⊤
HasParts plan read (ShiftDown places) = ⊤
HasParts plan read Add = ⊤
HasParts plan read Subtract = ⊤
HasParts plan read Negate = ⊤
HasParts plan read Multiply = ⊤
HasParts plan read And = ⊤
HasParts plan read Or = ⊤
HasParts plan read Xor = ⊤
HasParts plan read Not = ⊤
HasParts plan read Less = ⊤
HasParts plan read Equal = ⊤
HasParts plan read Choose = ⊤
HasParts plan read (Slice high low) =
    (low ≤ high) × ((step : Step) → slice_get plan read ≡ Some step → high < step.word.width)

-- the same of a word of so many bits
abbrev pub CanRead : NetOp → ℕ → Type 0
CanRead (Input number) width = ⊤
CanRead (Const value) width = ⊤
CanRead Resize width = ⊤
CanRead (ShiftUp places) width = ⊤
CanRead (ShiftDown places) width = ⊤
CanRead Add width = ⊤
CanRead Subtract width = ⊤
CanRead Negate width = ⊤
CanRead Multiply width = ⊤
CanRead And width = ⊤
CanRead Or width = ⊤
CanRead Xor width = ⊤
CanRead Not width = ⊤
CanRead Less width = ⊤
CanRead Equal width = ⊤
CanRead Choose width = ⊤
CanRead (Slice high low) width = (low ≤ high) × (high < width)

-- an operation of steps alone: no input and no Multiply
abbrev pub IsPlain : NetOp → Type 0
IsPlain (Input number) = ⊥
IsPlain (Const value) = ⊤
IsPlain Resize = ⊤
IsPlain (ShiftUp places) = ⊤
IsPlain (ShiftDown places) = ⊤
IsPlain Add = ⊤
IsPlain Subtract = ⊤
IsPlain Negate = ⊤
IsPlain Multiply = ⊥
IsPlain And = ⊤
IsPlain Or = ⊤
IsPlain Xor = ⊤
IsPlain Not = ⊤
IsPlain Less = ⊤
IsPlain Equal = ⊤
IsPlain Choose = ⊤
IsPlain (Slice high low) = ⊤

-- step k of the plan has a word, reads steps before it, and bits that are there
pub record IsSound (plan : List Step) (k : ℕ) (step : Step) : Type 0 where
  pub word : IsWord step.word.width step.word.signed
  pub before : All (λ read. read < k) (reads_of step)
  pub parts : HasParts plan step.first step.op

-- sound steps of such operations were put behind the others
pub record Adds (old new : List Step) (part : NetOp → Type 0) : Type 0 where
  pub added : List Step
  pub is : new ≡ old ++ added
  pub sound : (k : ℕ) (step : Step) → length old ≤ k → slice_get new k ≡ Some step
      → IsSound new k step
  pub parts : (k : ℕ) (step : Step) → length old ≤ k → slice_get new k ≡ Some step → part step.op

-- none of them is an input or a Multiply, unless memory was wanting
pub record Grows (old new : Plan) : Type 0 where
  pub adds : new.wanting ≡ false
      → (old.wanting ≡ false) × Adds old.steps new.steps IsPlain

-- in whatever numbers the steps have, P holds
pub record Give (steps : List Step) (P : Numbers → Type 0) : Type 0 where
  pub holds : (inputs numbers : Numbers) → Obeys steps inputs numbers → P numbers

-- in whatever numbers the plan's steps have, P holds, unless memory was wanting
pub record Gives (plan : Plan) (P : Numbers → Type 0) : Type 0 where
  pub give : plan.wanting ≡ false → Give plan.steps P

-- the operand is one of the plan that has grown, in the word, and P holds
pub record IsMade (old new : Plan) (word : Word) (P : Numbers → Type 0)
    (made : Operand) : Type 0 where
  pub grows : Grows old new
  pub at : IsAt new made
  pub has_word : made.word ≡ word
  pub gives : Gives new P

-- the operand is one of the plan that has grown: what the operation gives of the three, cut to the
-- word
abbrev pub IsGiven : Plan → Plan → NetOp → Operand → Operand → Operand → Word → Operand
    → Type 0
IsGiven old new op first second third word made =
    IsMade old new word (λ numbers.
    IsWrapped (given_by op no_inputs (three numbers first second third)) word.width word.signed
    (numbers made.place)) made

-- the operand is the step that was put behind the others
pub record IsLast (old new : List Step) (step : Step) (made : Operand) : Type 0 where
  pub is : new ≡ old ++ step ∷ []
  pub place : made.place ≡ length old

-- the same of a plan, unless memory was wanting
pub record IsPut (old new : Plan) (step : Step) (made : Operand) : Type 0 where
  pub word : made.word ≡ step.word
  pub put : new.wanting ≡ false
      → (old.wanting ≡ false) × IsLast old.steps new.steps step made

-- the second number where the first isn't 0, else the third
pub record IsChosen (test chosen other result : ℤ) : Type 0 where
  pub zero : test ≡ pos 0 → result ≡ other
  pub any : test ≢ pos 0 → result ≡ chosen

-- the highest lost bit where a lower one is set, and else what a tie gives
pub record IsPastTie (lower : ℕ) (half tie carry : ℤ) : Type 0 where
  pub none : lower ≡ 0 → carry ≡ tie
  pub some : 0 < lower → carry ≡ half

-- the greatest number of the word where the exact number is above it, else the given value
pub record IsHeldBelow (word : Word) (exact value result : ℤ) : Type 0 where
  pub within : exact ≤ℤ word_highest word.width word.signed → result ≡ value
  pub above : word_highest word.width word.signed <ℤ exact
      → result ≡ word_highest word.width word.signed

-- the least number of the word where the exact number is below it, else the given value
pub record IsHeldAbove (word : Word) (exact value result : ℤ) : Type 0 where
  pub within : word_lowest word.width word.signed ≤ℤ exact → result ≡ value
  pub below : exact <ℤ word_lowest word.width word.signed
      → result ≡ word_lowest word.width word.signed

-- the first number where the test holds, else the other
pub record IsSwitched (test : Bool) (first other result : ℤ) : Type 0 where
  pub holds : test ≡ true → result ≡ first
  pub fails : test ≡ false → result ≡ other

-- the operand is one of the plan that has grown: the given one by a power of two, rounded
abbrev pub IsRounded : Rounding → Plan → Plan → Operand → ℕ → Operand → Type 0
IsRounded mode old new from by made =
    IsMade old new from.word (λ numbers.
    Rounds mode (numbers from.place) (2 ^ by) (numbers made.place)) made

-- the operand is one of the plan that has grown: the given value, or the greatest number of its
-- word where the given one by a power of two is above that
abbrev pub HoldsBelow : Plan → Plan → Operand → ℕ → Operand → Operand → Type 0
HoldsBelow old new from up value made =
    IsMade old new value.word (λ numbers.
    IsHeldBelow value.word (numbers from.place *ℤ pos (2 ^ up)) (numbers value.place)
    (numbers made.place)) made

-- the same of the least number
abbrev pub HoldsAbove : Plan → Plan → Operand → ℕ → Operand → Operand → Type 0
HoldsAbove old new from up value made =
    IsMade old new value.word (λ numbers.
    IsHeldAbove value.word (numbers from.place *ℤ pos (2 ^ up)) (numbers value.place)
    (numbers made.place)) made

-- the number can stand in place of the value, where the test isn't 0
pub record CanHold (plan : Plan) (test value : Operand) (end : ℤ) : Type 0 where
  pub at : IsAt plan test
  pub value_at : IsAt plan value
  pub fits : InWord value.word.width value.word.signed end

-- the step can be rounded without some of its bits
pub record CanRound (plan : Plan) (from : Operand) (by : ℕ) : Type 0 where
  pub at : IsAt plan from
  pub some : 1 ≤ by

-- a carry of one bit can be added to the step without some of its bits
pub record CanRaise (plan : Plan) (from : Operand) (by : ℕ) (carry : Operand) : Type 0 where
  pub at : IsAt plan from
  pub one : IsAt plan carry
  pub bit : carry.word ≡ bit_word
  pub some : 1 ≤ by

-- the bits are there by which a step without some of its bits is rounded
pub record CanPassTie (plan : Plan) (from : Operand) (by : ℕ)
    (half tie : Operand) : Type 0 where
  pub at : IsAt plan from
  pub first : IsAt plan half
  pub half_bit : half.word ≡ bit_word
  pub last : IsAt plan tie
  pub tie_bit : tie.word ≡ bit_word
  pub some : 1 ≤ by
